-- What every layer's definitions share: lists, the refusals in their order, what a result of the code answers, and lent lists whose front is written.
pub mod Lists
pub mod Refusals
pub mod Filled
pub mod Answers
