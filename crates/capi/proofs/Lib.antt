-- Laws of the answers that are told to C.
mod Builds
mod Counts
mod Indexes
mod Libraries
mod SheetLaws
