-- The lemmas, a module for each topic.
mod EndLemmas
mod ReportLemmas
