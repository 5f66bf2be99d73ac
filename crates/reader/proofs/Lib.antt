pub mod RunLaws
pub mod LaneLaws
pub mod WordLaws
