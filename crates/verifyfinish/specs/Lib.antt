pub mod VerifyFinish
