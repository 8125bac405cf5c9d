-- The lemmas, a module for each topic.
pub mod BitLemmas6
pub mod PrefixValues6
pub mod PrefixLemmas6
pub mod AddressLemmas6
pub mod CaptureLemmas
pub mod TakenLemmas
pub mod NumberLemmas6
