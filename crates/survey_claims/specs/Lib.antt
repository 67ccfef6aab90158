-- Claims on point lists.
pub mod Claims
