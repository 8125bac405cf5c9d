-- The definitions: what is tested of routers, and what is promised of a walk; the walk after a script, why there is none, and its text.
pub mod Reasons
pub mod Faults
pub mod WalkText
pub mod Walks
pub mod Found
pub mod Firsts
pub mod Views
pub mod Tests
pub mod Refusals
pub mod Paths
pub mod Zeros
pub mod Ways
pub mod Foreign
pub mod OnWay
