pub mod StepLaws
pub mod Fields
pub mod EndLaws
pub mod ItemLaws
pub mod HeadLaws
pub mod Places
