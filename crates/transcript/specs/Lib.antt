pub mod Lines
pub mod Stamps
pub mod Shown
