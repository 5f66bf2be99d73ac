-- The reading definition of a document: read Reading, then Words. RunContracts and LaneContracts are contracts of the code: how its answers stand for the definition.
pub mod Reading
pub mod Words
pub mod RunContracts
pub mod LaneContracts
