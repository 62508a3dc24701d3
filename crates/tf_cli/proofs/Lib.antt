mod Carried
mod Planned
mod Numbered
mod Shown
