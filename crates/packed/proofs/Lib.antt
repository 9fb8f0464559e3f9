pub mod Steps
pub mod Tails
pub mod Spelled
pub mod Walks
pub mod Fills
pub mod Walked
pub mod Listing
pub mod Shows
