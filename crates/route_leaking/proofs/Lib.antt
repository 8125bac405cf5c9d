-- The lemmas, a module for each topic.
mod LeakLemmas
