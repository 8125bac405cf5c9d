-- The definitions: what a step is given, what an event and an answer are to the model's router, how
-- its parts lie, and what always holds.
pub mod Givens
pub mod Calm
pub mod Events
pub mod Replies
pub mod Keeping
pub mod Reached
pub mod Machines
pub mod Sending
pub mod Due
pub mod Pulled
pub mod PrefixLists
pub mod Heard
pub mod Seconds
pub mod Designated
pub mod NamedBoots
pub mod LeakedUp
pub mod Settled
pub mod Reads
pub mod Puts
pub mod Shifts
pub mod Plans
pub mod LevelSeconds
pub mod Passing
pub mod Asides
pub mod Renewals
pub mod Refreshes
