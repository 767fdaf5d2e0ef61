pub mod Data
pub mod Free
pub mod Heads
pub mod Table
pub mod Top
