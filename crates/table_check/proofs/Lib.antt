mod Law
mod NodesSay
mod Says
mod ShapesSay
mod Tellings
mod Turns
