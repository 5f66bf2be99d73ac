-- The choices that the requirements fix for the writer: read Chosen, then Choices, which has the octets too. Contracts says how the code's answers stand for it.
pub mod Choices
pub mod Chosen
pub mod Promises
