-- Lemmas, by topic.
mod CountLemmas
mod FlagLemmas
mod PageLemmas
mod MomentLemmas
mod OutcomeLemmas
