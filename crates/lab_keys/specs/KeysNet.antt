-- A plain network: its routers, links, and numbered copies of LSPs' keys (own).
use Rattle.std.specs.Prelude.{◌≡◌, ℕ, ◌+◌, ◌-◌, ◌<◌, ◌==◌, ◌&&◌, Bool, true, nat_lt, List, [], ◌∷◌, ◌++◌, length, slice_get, Some, Contains, if◌then◌else◌}
use Rattle.std.specs.List.{list_any}
use Rattle.std.specs.Ordering.{nat_cmp, on, then_cmp}
use Rattle.std.specs.BTreeSet.{insert_key}
use Rattle.std.specs.declared.cmp.Ordering.{Ordering}
use Rattle.isis_base.specs.declared.identifiers.LspId.{LspId}
use Rattle.isis_base.specs.declared.key.Key.{Key}
use Rattle.lab_keys.specs.Held.{IsRising, entry_number, HoldsAsNew}

-- A plain network of routers, numbered from 0, that pass numbered copies of keys along links (own). The copies
-- are numbered from 1, as they are made. `linked` has the pairs of routers that some link joins, the lesser
-- router first, and `places` says which copy is at which router; both in order.
pub record Net : Type 0 where
  pub routers : ℕ
  pub links : ℕ
  pub linked : List (ℕ × ℕ)
  pub copies : List (LspId × Key)
  pub places : List (ℕ × ℕ)

abbrev pub pair_cmp : ℕ × ℕ → ℕ × ℕ → Ordering
pair_cmp = then_cmp (on (λ p. p.0) nat_cmp) (on (λ p. p.1) nat_cmp)

-- whether a list of pairs has this one
abbrev pub has_pair : List (ℕ × ℕ) → ℕ → ℕ → Bool
has_pair pairs a b = list_any (λ p. p.0 == a && p.1 == b) pairs

-- two routers, the lesser first
abbrev pub ordered : ℕ → ℕ → ℕ × ℕ
ordered a b = if nat_lt b a then (b, a) else (a, b)

-- whether some link joins the two routers
abbrev pub is_joined : Net → ℕ → ℕ → Bool
is_joined net a b = has_pair net.linked (ordered a b).0 (ordered a b).1

-- whether the copy is at the router
abbrev pub is_at : Net → ℕ → ℕ → Bool
is_at net copy router = has_pair net.places copy router

abbrev pub empty_net : Net
empty_net = record { routers = 0; links = 0; linked = []; copies = []; places = [] }

abbrev pub with_router : Net → Net
with_router net = record net { routers = net.routers + 1 }

abbrev pub with_link : Net → ℕ → ℕ → Net
with_link net a b =
    record net { links = net.links + 1; linked = insert_key pair_cmp net.linked (ordered a b) }

-- the next copy, made at the router
abbrev pub with_copy : Net → ℕ → LspId → Key → Net
with_copy net router id key = record net {
  copies = net.copies ++ (id, key) ∷ [];
  places = insert_key pair_cmp net.places (length net.copies + 1, router);
}

-- the copy is at this router too
abbrev pub with_pass : Net → ℕ → ℕ → Net
with_pass net copy to = record net { places = insert_key pair_cmp net.places (copy, to) }

-- the copy of this number is this one, and is at the router
pub record IsCopyAt (copies : List (LspId × Key)) (places : List (ℕ × ℕ)) (router number : ℕ)
    (copy : LspId × Key) : Type 0 where
  pub some : 0 < number
  pub made : slice_get copies (number - 1) ≡ Some copy
  pub there : has_pair places number router ≡ true

-- The keys that the router holds: by LSP ID, of each LSP ID the join of all its copies that were made at the
-- router or passed to it, in whatever order and however often. For the join of keys is the newest one.
pub record IsHeldAt (copies : List (LspId × Key)) (places : List (ℕ × ℕ)) (router : ℕ)
    (entries : List (LspId × Key)) : Type 0 where
  pub rising : IsRising entry_number entries
  pub among : (entry : LspId × Key) → Contains entries entry
      → (number : ℕ) × IsCopyAt copies places router number entry
  pub newest : (number : ℕ) (copy : LspId × Key) → IsCopyAt copies places router number copy
      → HoldsAsNew entries copy
