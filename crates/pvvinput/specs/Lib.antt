pub mod PvvInput
