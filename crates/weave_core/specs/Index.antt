-- How the numbers of letters lie in memory (own).
use Rattle.std.specs.Prelude.{◌≡◌, ◌==◌, ◌&&◌, ℕ, List, map}
use Rattle.std.specs.Borrow.{Bor}
use Rattle.std.specs.Str.{bytes_eq}
use Rattle.std.specs.HashMap.{get_by}
use Rattle.weave_core.specs.declared.letters.LetterBook.TheInside.{Inside}
use Rattle.weave_core.specs.Codes.{wire_place}

-- own
abbrev pub lent : ℕ × Bor (List ℕ) → ℕ × List ℕ
lent wire = (wire.0, wire.1.now)

abbrev pub wires_of : Inside → List (ℕ × List ℕ)
wires_of a = map lent a.list.items

-- the index finds each wire's place (own)
pub record IsIndexed (a : Inside) : Type 0 where
  pub finds : (link : ℕ) (octets : List ℕ)
      → get_by (λ (other : ℕ × Bor (List ℕ)). link == other.0 && bytes_eq octets other.1.now)
      a.index
      ≡ wire_place (wires_of a) link octets
