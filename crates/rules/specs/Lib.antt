pub mod Arrivals
pub mod Climbing
pub mod Effects
pub mod NodeRules
pub mod Reading
pub mod ShapeRules
pub mod Subjects
pub mod Words
