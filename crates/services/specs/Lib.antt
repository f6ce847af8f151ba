pub mod Meaning
pub mod Enough
pub mod Journal
pub mod ValveBank
pub mod Switchboard
