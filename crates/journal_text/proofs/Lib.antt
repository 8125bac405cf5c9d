-- The lemmas, a module for each topic.
pub mod HexWordLemmas
pub mod JournalLemmas
pub mod NumberedLemmas
pub mod WordLemmas
pub mod WrittenLemmas
