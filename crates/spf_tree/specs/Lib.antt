-- The definitions: nodes, walks, distances, next hops, graphs, labels, search, places, pairs, exploring.
pub mod Nodes
pub mod Walks
pub mod Distances
pub mod NextHops
pub mod Graphs
pub mod Labels
pub mod Search
pub mod Places
pub mod Pairs
pub mod Exploring
