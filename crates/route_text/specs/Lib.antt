-- The definitions: next hops, and the line of a route.
pub mod ViaText
pub mod RouteLine
