-- What the numbers of a state say. All of it is contracts of the code: nothing here is to be believed.
pub mod States
