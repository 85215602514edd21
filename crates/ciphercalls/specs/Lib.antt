pub mod CipherCalls
