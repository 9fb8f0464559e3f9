pub mod Spelling
pub mod Cutting
pub mod Running
pub mod Decimal
