pub mod Grown
pub mod NameLaws
pub mod Places
pub mod StringLaws
pub mod MethodLaws
