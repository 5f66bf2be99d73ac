-- Contracts of the code alone: what is read is defined in the crate reader.
pub mod Promises
