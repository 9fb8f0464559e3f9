pub mod Fields
pub mod Decoded
pub mod Scans
pub mod Keys
pub mod Views
pub mod Spells
