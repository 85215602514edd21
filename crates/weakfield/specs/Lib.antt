pub mod WeakField
