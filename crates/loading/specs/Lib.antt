-- The words of the contracts of loading: a sheet and marks from the bytes of their files.
pub mod Loading
