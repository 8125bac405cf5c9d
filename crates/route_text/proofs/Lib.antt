-- The lemmas.
mod HopLemmas
