mod Decodable
mod Decoded
mod Loaded
mod Placing
