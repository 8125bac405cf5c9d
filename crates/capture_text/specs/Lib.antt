-- The definitions: lines read, what LSPs lack, the head of a text, IPv4 routes and their text, that of IPv6
-- routes, the alternates for all targets, those found so far, their text, what is left of a text, how its writing ends.
pub mod Reading
pub mod Absences
pub mod HeadText
pub mod CapturedRoutes
pub mod RoutesText
pub mod Routes6Text
pub mod Backups
pub mod SoFar
pub mod AlternatesText
pub mod Left
pub mod TextEnds
