mod Flags
mod Woven
mod Workers
