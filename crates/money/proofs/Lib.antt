pub mod Shifts
pub mod Ledgers
pub mod Lawful
pub mod Tables
