-- Laws that every layer shares: of tests as equations, numbers, lists, walks along them, runs of stores, refusals, results, and lent lists.
pub mod Bools
pub mod Numbers
pub mod Lists
pub mod Walks
pub mod Stores
pub mod Answers
pub mod Refusals
pub mod Filled
