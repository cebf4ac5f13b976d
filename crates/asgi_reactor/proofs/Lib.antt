pub mod CountLemmas
pub mod DrainLemmas
pub mod HeldLemmas
pub mod TicketLemmas
