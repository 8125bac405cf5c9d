-- Lemmas, by topic.
pub mod ListLemmas
pub mod NumberLemmas
pub mod ReadLemmas
pub mod ItemLemmas
pub mod AuthLemmas
pub mod SnpLemmas
pub mod HelloLemmas
pub mod LspLemmas
pub mod CheckLemmas
pub mod IssueLemmas
pub mod PurgeLemmas
pub mod GoodLemmas
pub mod KeptLemmas
pub mod SendLemmas
