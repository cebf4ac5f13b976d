pub mod Kinds
pub mod ReadAhead
pub mod Traffic
pub mod Half
pub mod HttpHalf
pub mod private
pub mod WebSocketHalf
