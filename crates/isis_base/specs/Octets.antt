-- A list of octets after a write through a lent slice (own).
use Rattle.std.specs.Prelude.{ℕ, List, ◌++◌, length, take, drop}

-- the list after a write through a lent slice: what was written, at the length that was there
abbrev pub overwritten : List ℕ → List ℕ → List ℕ
overwritten old written = take (length old) (written ++ drop (length written) old)
