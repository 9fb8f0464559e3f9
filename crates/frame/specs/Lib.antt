pub mod Bounds
pub mod Refusals
pub mod Frames
pub mod Clause
pub mod Faults
pub mod Grammar
pub mod Shown
