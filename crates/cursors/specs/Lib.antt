pub mod Walk
pub mod Walkers
pub mod Promises
