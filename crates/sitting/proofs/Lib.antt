pub mod Checks
pub mod Following
pub mod Law
pub mod First
