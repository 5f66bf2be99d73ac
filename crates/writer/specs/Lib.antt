-- The writer's definition: read the crates write_items and write_head, then Writing, then Words. The others are contracts of the code: they say how the code's runs stand for it.
pub mod Writing
pub mod Words
pub mod RanContracts
pub mod RunContracts
pub mod LaneContracts
pub mod RideContracts
