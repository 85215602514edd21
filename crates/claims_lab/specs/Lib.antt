pub mod Product
pub mod KeysJudged
pub mod Sealing
pub mod Numbers
pub mod Told
pub mod Witnesses
pub mod Refusals
