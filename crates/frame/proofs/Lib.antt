pub mod Reading
pub mod Derives
pub mod Written
