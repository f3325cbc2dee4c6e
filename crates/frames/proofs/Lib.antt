pub mod BelowLaws
pub mod DigitLaws
pub mod FrameLaws
pub mod ByteLaws
pub mod TextLaws
pub mod AlikeLaws
