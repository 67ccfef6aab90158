-- What the exported functions give where the function below them asks something of its arguments.
pub mod Containers
