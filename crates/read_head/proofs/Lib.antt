pub mod Places
pub mod EntryLaws
pub mod HeadLaws
