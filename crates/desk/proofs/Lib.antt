pub mod Files
pub mod Suited
