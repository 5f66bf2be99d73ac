-- The reading definition of one step: read Items, then Steps. The others are contracts of the code: how its answers stand for the definition.
pub mod Items
pub mod Steps
pub mod Promises
pub mod ItemContracts
pub mod HeadContracts
