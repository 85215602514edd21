pub mod BkText
pub mod VerifyText
pub mod Claims
pub mod Sent
pub mod Responses
pub mod Typed
pub mod VerifyTyped
