pub mod BlockCalls
