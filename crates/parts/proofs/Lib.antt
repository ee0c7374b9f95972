pub mod PutBack
pub mod Requests
pub mod Finished
