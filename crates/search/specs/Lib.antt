pub mod Views
pub mod Tests
pub mod Opening
