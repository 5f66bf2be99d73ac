-- The statements of the theorems. Read Demands, with Heads, Verdicts, Places and Permitted for the terms that it uses; Bounded says of which versions they hold, Bench has cases. Measures is of
-- measuring, beside writing.
pub mod Bounded
pub mod Bench
pub mod Acts
pub mod Heads
pub mod Forms
pub mod Given
pub mod Verdicts
pub mod Permitted
pub mod Places
pub mod Demands
pub mod Measures
