-- What the check doesn't find alone.
pub mod NumberLemmas
mod BestLemmas
