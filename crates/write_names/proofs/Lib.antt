pub mod Order
pub mod Stretches
pub mod FormLaws
pub mod FieldLaws
pub mod StringLaws
pub mod NameLaws
