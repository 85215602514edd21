pub mod BkFinish
