mod TreeLemmas
mod WorstLemmas
mod OnceLemmas
mod PartLemmas
mod OrderLemmas
mod RisingLemmas
mod JoinLemmas
