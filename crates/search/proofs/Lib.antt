pub mod Facing
pub mod Seeking
pub mod Stopping
pub mod Filtering
pub mod Sorting
pub mod Explaining
