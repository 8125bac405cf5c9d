-- The definitions: the words of `losses`, what its text says, and the text.
pub mod Words
pub mod Said
pub mod Named
pub mod LossesText
pub mod TextLines
pub mod Joined
pub mod Merging
