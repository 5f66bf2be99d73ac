-- Integers of 2, 4 or 8 octets and their decimal text. Read Reading, which integers octets are, and Words, which integers a text is. Machine and Texts are contracts of the code.
pub mod Reading
pub mod Words
pub mod Machine
pub mod Texts
