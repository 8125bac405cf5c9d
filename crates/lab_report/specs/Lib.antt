-- The definitions: the lines of a report of a network of routers.
pub mod Names
pub mod RouterLines
pub mod RouteLines
pub mod LanLines
pub mod LinkLines
pub mod Reports
pub mod ReportLeft
