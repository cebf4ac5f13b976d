pub mod private
pub mod Facts
pub mod Hosting
pub mod Lifespan
pub mod Starting
pub mod Stopping
pub mod Turning
