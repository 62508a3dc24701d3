mod Cut
mod Kept
mod Continuing
mod Taken
mod Worked
