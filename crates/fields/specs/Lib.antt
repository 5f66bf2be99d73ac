-- One field. Fields is the reading definition of a number or a length, Utf8 the test of text; PutContracts and WeightContracts are contracts of the code.
pub mod Fields
pub mod PutContracts
pub mod Utf8
pub mod WeightContracts
