pub mod Outgoing
pub mod FormMeaning
mod FormCalls
pub mod Seen
pub mod Slots
pub mod Moves
pub mod Comparing
pub mod Terms
pub mod SmallRows
pub mod Reaching
pub mod Dividing
pub mod ForwardValues
pub mod Translated
pub mod ForwardStatements
pub mod Coming
pub mod BackwardValues
pub mod BackwardStatements
pub mod Numbered
pub mod Begins
mod Ready
mod ForwardRuns
mod BackwardRuns
mod SameRuns
mod Plain
mod Fresh
mod Placed
mod Weights
mod Sizes
mod Occurring
mod QuotientRows
mod Fine
mod GlobalSlots
mod FineForms
mod FineStatements
mod Divisors
mod Facts
mod Linking
mod Measures
mod PickRows
mod Adding
mod AddingQuotients
mod Answering
mod AddingStatements
mod Lowerable
mod Making
mod Whole
mod OneLowering
