pub mod Book
pub mod Channel
pub mod Heap
