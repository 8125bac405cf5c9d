-- The lemmas, a module for each topic.
mod FallLemmas
mod OriginLemmas
mod FlagSets
mod FlagLemmas
mod FlagLevels
mod FlagRouters
mod FlagWaits
mod ListingLemmas
mod ReadingLemmas
