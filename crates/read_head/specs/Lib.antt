-- The reading definition of a document's head: read Head. The other is contracts of the code.
pub mod Head
pub mod Promises
