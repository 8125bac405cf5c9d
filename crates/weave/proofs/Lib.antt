-- The lemmas, a module for each topic.
mod LetterLemmas
pub mod ItemLemmas
mod TakeLemmas
pub mod TrackLemmas
mod PortLemmas
mod BeginLemmas
mod ListLemmas
mod PlanLemmas
mod CountLemmas
mod EventLemmas
mod PlayLemmas
mod RowLemmas
mod FrontLemmas
mod PlaceLemmas
mod AlongLemmas
mod EndLemmas
mod WeaveLemmas
mod LawLemmas
