-- What the check doesn't find alone: sets of circuits, LSP IDs of a system, circuits that open,
-- own LSPs, and the rows of the tables.
mod PointLemmas
mod IssueLemmas
mod TakeLemmas
mod EntryLemmas
mod RenewLemmas
mod WantedLemmas
