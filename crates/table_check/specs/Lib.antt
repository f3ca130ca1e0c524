pub mod Broken
pub mod Checking
pub mod Nodes
pub mod Passed
pub mod Shapes
