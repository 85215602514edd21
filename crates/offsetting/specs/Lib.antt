pub mod Offsetting
