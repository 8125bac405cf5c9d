-- The lemmas, a module for each topic.
pub mod HeaderLemmas
pub mod CellLemmas
pub mod BookLemmas
pub mod RowLemmas
pub mod WalkLemmas
pub mod MarkLemmas
pub mod KindLemmas
pub mod SpareLemmas
pub mod AgeLemmas
pub mod SaidLemmas
pub mod AmongLemmas
