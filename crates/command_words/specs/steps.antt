pub mod WordsLine
pub mod WordsView
