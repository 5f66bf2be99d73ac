pub mod RowLaws
pub mod OctetLaws
pub mod AddLaws
pub mod ListLaws
pub mod GivenLaws
pub mod HeadLaws
pub mod NewLaws
pub mod BeginLaws
