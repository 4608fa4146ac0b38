pub mod Letters
pub mod Year
pub mod Work
