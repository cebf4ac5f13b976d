pub mod Flat
pub mod Heap
pub mod Moves
pub mod Numbers
pub mod Telling
