-- The lemmas.
mod PieceLemmas
