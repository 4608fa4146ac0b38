pub mod Funds
pub mod Ledger
pub mod Agents
pub mod Soundness
pub mod Laws
