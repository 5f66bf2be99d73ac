mod Lists
mod Splits
mod Words
mod Numbers
mod Fields
mod Methods
mod Formats
mod Strings
mod Names
mod Items
mod Run
mod Alls
mod Alike
mod TenTables
mod HeadOctets
mod HeadEntries
mod HeadReading
mod HeadWritten
mod Opening
mod HeadKeeps
mod Heads
mod Document
mod Fits
mod EventPlaces
mod OneWriting
mod Triples
mod Effects
mod Growing
mod Earlier
mod Acts
mod Wider
mod Headed
mod Structure
mod Documents
mod Begun
mod Plain
mod ReadEffects
mod ReadRecords
pub mod Forms
mod Chosen
mod Produced
mod WriterChoices
mod Sayable
mod GivenTests
mod GivenHeads
mod GivenWords
mod GivenOnly
mod Step
mod PlainStep
mod Append
mod Joined
mod Entries
mod Permitted
mod Every
mod RuleTables
mod Turns
mod Asked
mod WriterRun
mod WriterDocument
mod WriterTables
mod OneVerdict
mod WriterAccepts
mod Given
mod Unplaced
pub mod Demands
pub mod Calls
pub mod WriterCalls
mod InWords
pub mod DemandOne
pub mod DemandThree
pub mod DemandTwo
pub mod DemandWords
pub mod Measures
pub mod Theorems
pub mod Bench
