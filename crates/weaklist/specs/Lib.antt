pub mod WeakList
