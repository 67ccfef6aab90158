-- Laws of rows: their order, what a store makes of them, the layout and what a store leaves in it, and the rows of one id.
pub mod Order
pub mod First
pub mod Stores
pub mod Meaning
pub mod Libraries
pub mod Stored
pub mod All
pub mod Count
pub mod Ids
pub mod Cleared
pub mod Runs
