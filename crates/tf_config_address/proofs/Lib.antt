pub mod CopiedIds
pub mod EqualIds
pub mod Orders
pub mod Totals
