-- Laws of marks in lent lists.
pub mod Laws
