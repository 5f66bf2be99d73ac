-- Event records. Read Records, then WellMade, Words and FromWords.
pub mod FromWords
pub mod Kept
pub mod Records
pub mod WellMade
pub mod Words
