-- The lemmas, a module for each topic.
pub mod DeskLemmas
pub mod HistoryLemmas
pub mod HexLemmas
pub mod LineLemmas
pub mod ToldLemmas
