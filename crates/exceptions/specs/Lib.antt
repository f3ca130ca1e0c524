pub mod Chaining
pub mod Levels
pub mod Linking
pub mod Links
pub mod Questions
pub mod World
