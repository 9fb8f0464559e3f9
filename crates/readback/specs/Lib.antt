pub mod Args
pub mod Asks
pub mod Commands
pub mod Lines
pub mod Troubles
pub mod Scripts
