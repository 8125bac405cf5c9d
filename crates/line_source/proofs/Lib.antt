-- The lemmas: texts without a mark, lines so far, and pieces of a reader.
pub mod CutLemmas
pub mod MoreLemmas
pub mod PieceLemmas
