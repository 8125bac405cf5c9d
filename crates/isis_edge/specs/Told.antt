-- What octets that were handed over say before and after a call (own).
use Rattle.std.specs.Prelude.{◌≡◌, ℕ, List, ◌++◌}

-- the octets taken stand after those that were given before
abbrev pub Took : (before now taken : List ℕ) → Type 0
Took before now taken = now ≡ before ++ taken

-- the octets written stand after those that were put before
abbrev pub Wrote : (before now written : List ℕ) → Type 0
Wrote before now written = now ≡ before ++ written

-- the octets written behind those that were put before are the first of a text
pub record WrotePrefix (before now text : List ℕ) : Type 0 where
  pub written : List ℕ
  pub rest : List ℕ
  pub wrote : Wrote before now written
  pub joined : written ++ rest ≡ text
