-- The examples that document 01 marks to be proved.
pub mod Examples
