pub mod Accounts
pub mod Triples
