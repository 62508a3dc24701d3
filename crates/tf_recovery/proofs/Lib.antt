mod Outcomes
mod Replaying
mod Turns
