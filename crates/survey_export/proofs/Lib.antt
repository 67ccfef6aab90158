-- Laws of the text of marks, of the walk that puts it, and of what an export answers, and evaluated examples.
pub mod Laws
pub mod Walk
pub mod Answers
pub mod Examples
