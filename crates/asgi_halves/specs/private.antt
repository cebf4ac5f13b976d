pub mod HalfSteps
