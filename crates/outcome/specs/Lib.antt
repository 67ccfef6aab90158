-- What the program prints, by what its two files hold.
pub mod Outcome
