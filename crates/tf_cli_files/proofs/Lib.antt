mod EachRead
mod Unread
