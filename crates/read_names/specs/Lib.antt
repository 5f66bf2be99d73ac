-- The reading definition of strings and names: read Strings, then Names. The others are contracts of the code: how its answers stand for the definition, and what each function that reads a part of it answers.
pub mod Strings
pub mod Names
pub mod Promises
pub mod StringContracts
pub mod NameContracts
