pub mod Given
pub mod Groups
pub mod Histories
pub mod Machine
pub mod Lawful
pub mod States
pub mod Boards
pub mod Verdicts
pub mod Origins
pub mod Anchors
pub mod Leads
pub mod Keeps
pub mod LawfulStates
pub mod KeptBoards
-- No promise: the parts of what is kept
pub mod KeptEntries
pub mod KeptNodes
pub mod steps
