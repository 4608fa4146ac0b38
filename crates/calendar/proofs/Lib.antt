pub mod Searches
pub mod Walks
pub mod Counts
pub mod Laws
pub mod Marks
