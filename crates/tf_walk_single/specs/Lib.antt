pub mod Ends
pub mod Next
pub mod ResolvedMemo
