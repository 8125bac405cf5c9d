-- What the check doesn't find alone, by topic: node IDs as numbers, what comes of hellos and
-- seconds, sizes, neighbours by SNPA, and elections.
pub mod NumberLemmas
pub mod ChangeLemmas
pub mod UpLemmas
pub mod ElectLemmas
