pub mod Carried
pub mod Judged
pub mod Judging
pub mod Reported
pub mod Taking
pub mod Wholeness
