mod WordLemmas
mod MergeLemmas
