pub mod Numbers
pub mod Stops
pub mod Answers
pub mod Lists
pub mod Refused
