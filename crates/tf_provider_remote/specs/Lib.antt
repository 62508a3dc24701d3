pub mod Flights
pub mod Lines
pub mod Responses
pub mod Results
pub mod Types
