-- Contracts of the code alone: what is written is defined in the crate writer.
pub mod Promises
