-- The numbers of letters (own).
use Rattle.std.specs.Prelude.{◌≡◌, ℕ, ◌<◌, ◌==◌, ◌&&◌, Bool, List, [], ◌∷◌, ◌++◌, length, is_some, Option, Some, None, if◌then◌else◌}
use Rattle.std.specs.List.{position_from}
use Rattle.std.specs.Str.{bytes_eq}

-- whether a wire, which is octets on a link, is this one (own)
abbrev pub is_wire : ℕ → List ℕ → ℕ × List ℕ → Bool
is_wire link octets wire = wire.0 == link && bytes_eq wire.1 octets

-- the place of a wire in a list (own)
abbrev pub wire_place : List (ℕ × List ℕ) → ℕ → List ℕ → Option ℕ
wire_place wires link octets = position_from (is_wire link octets) 0 wires

-- own
abbrev pub or_else : ℕ → Option ℕ → ℕ
or_else n None = n
or_else n (Some place) = place

-- the number of a wire's letter: its place in the list, or the number behind all (own)
abbrev pub code_of : List (ℕ × List ℕ) → ℕ → List ℕ → ℕ
code_of wires link octets = or_else (length wires) (wire_place wires link octets)

-- a wire more, where it isn't in the list (own)
abbrev pub with_wire : List (ℕ × List ℕ) → ℕ → List ℕ → List (ℕ × List ℕ)
with_wire wires link octets =
    if is_some (wire_place wires link octets) then wires else wires ++ ((link, octets) ∷ [])

-- Numbers of letters by link and octets: one below the count tells both. Whatever no move needs may
-- share a number that isn't below it (own).
pub record IsCode (code : ℕ → List ℕ → ℕ) (count : ℕ) : Type 0 where
  pub tells : (link other : ℕ) (x y : List ℕ) → code link x < count → code link x ≡ code other y
      → (link ≡ other) × (x ≡ y)
