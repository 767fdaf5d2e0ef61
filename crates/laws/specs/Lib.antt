pub mod RuleOrder
pub mod Promises
pub mod OpenedReads
pub mod Labels
pub mod Inner
