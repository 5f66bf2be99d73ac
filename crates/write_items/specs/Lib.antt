-- The writer's definition of one event: read Events, the crate write_names, Items, then Steps. The others are contracts of the code: they say how the code's
-- output, state and steps stand for it.
pub mod Events
pub mod Items
pub mod Steps
pub mod OutputContracts
pub mod Promises
pub mod StepContracts
pub mod ItemContracts
