-- The lemmas, a module for each topic.
mod BackupLemmas
mod ReadLemmas
