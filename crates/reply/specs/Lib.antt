pub mod Ascending
pub mod Beatable
pub mod EdgeLists
pub mod Ends
pub mod ResultSlots
pub mod Rivals
pub mod Replies
