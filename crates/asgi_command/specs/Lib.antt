pub mod private
pub mod Words
pub mod Command
pub mod Telling
pub mod Serving
