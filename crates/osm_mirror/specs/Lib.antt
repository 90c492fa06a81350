pub mod Digits
pub mod run
pub mod fleet
pub mod report
