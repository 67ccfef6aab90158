-- The proof of demand 3. `Theorems` has a proof of each claim of specs/Claims.antt; `Independent` is its heart; `Holdings` and `Held` alone look at whether
-- there is a directory; `Examples` evaluates some runs.
pub mod Ids
pub mod Holdings
pub mod Held
pub mod Plain
pub mod Changes
pub mod Replies
pub mod Added
pub mod Runs
pub mod Independent
pub mod Queries
pub mod Alike
pub mod Histories
pub mod Damage
pub mod Distances
pub mod Answers
pub mod Room
pub mod Through
pub mod Theorems
pub mod Examples
