-- The lemmas, a module for each topic.
pub mod LookupLemmas
pub mod OrderLemmas
pub mod HopLemmas
pub mod OneLemmas
pub mod PatchLemmas
pub mod PutLemmas
pub mod FirstLemmas
pub mod RoomLemmas
