-- The index over the tables. All of it is contracts of the code: nothing here is to be believed.
pub mod Hash
pub mod Chain
pub mod Indexed
pub mod Ordered
