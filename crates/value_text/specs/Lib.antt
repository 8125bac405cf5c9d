-- The definitions: the items of code 132, and the lines of values.
pub mod Addresses
pub mod Takes
pub mod ValueLines
