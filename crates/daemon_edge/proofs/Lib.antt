-- Lemmas on lists and on what is kept.
mod KeptLemmas
mod Lists
