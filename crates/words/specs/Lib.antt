pub mod Letters
pub mod Words
pub mod Cuts
pub mod Tokens
pub mod Numbers
pub mod Faults
pub mod Cursor
