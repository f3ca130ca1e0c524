pub mod Keeping
pub mod Rings
pub mod Standing
pub mod Tabling
mod Walking
