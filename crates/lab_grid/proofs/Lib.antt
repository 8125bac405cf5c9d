-- The lemmas, a module for each topic.
mod GridLemmas
mod HeadLemmas
mod RunLemmas
mod TallyLemmas
mod ReadLemmas
mod RefusalLemmas
