pub mod Examples
pub mod FramingLaws
pub mod Pieces
pub mod StandingLaws
pub mod VerdictLaws
pub mod Places
