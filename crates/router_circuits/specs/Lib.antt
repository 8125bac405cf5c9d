-- The definitions: a circuit as the model of the router has it, hellos heard on it, who is
-- designated, and what always holds of a circuit.
pub mod Views
pub mod Hellos
pub mod Elections
pub mod Facts
