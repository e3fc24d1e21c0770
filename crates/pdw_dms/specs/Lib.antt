pub mod Transfer
pub mod Moved
pub mod Picker
pub mod Finished
pub mod Ends
