pub mod Counted
pub mod Floats
pub mod Printed
pub mod Sent
