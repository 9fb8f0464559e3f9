pub mod Tables
pub mod State
pub mod Rules
pub mod Tracks
pub mod Calls
pub mod Sittings
