-- The writer's definition of a document's head: read Given, then Head. The others are contracts of the code.
pub mod Given
pub mod Head
pub mod Promises
pub mod RowContracts
