pub mod Asking
pub mod Rack
pub mod Tape
