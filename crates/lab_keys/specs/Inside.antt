-- How a plain network lies in memory (own).
use Rattle.std.specs.Prelude.{◌≡◌, ℕ, ◌<◌, ◌≤◌, true, List, length, slice_index_or}
use Rattle.std.specs.List.{AllByRecursion}
use Rattle.isis_base.specs.Identifiers.{IsId}
use Rattle.isis_base.specs.declared.identifiers.LspId.{LspId}
use Rattle.isis_base.specs.declared.key.Key.{Key}
use Rattle.lab_keys.specs.declared.net.KeyNet.TheInside.{Inside}
use Rattle.lab_keys.specs.KeysNet.{Net, has_pair, IsHeldAt}

-- the network that the fields stand for
abbrev pub net_of : Inside → Net
net_of a =
    record { routers = length a.held.items; links = a.links; linked = a.linked.keys; copies = a.copies.items; places = a.places.keys }

-- each router's entries are the keys that it holds, each place is of a copy that was made, at a router that is there, and
-- each copy has an LSP ID of the program
pub record AreHeld {V : Type 0} (entries : V
    → List (LspId × Key)) (copies : List (LspId × Key)) (places : List (ℕ
    × ℕ)) (held : List V) : Type 0 where
  pub each : (router : ℕ) (d : V) → router < length held
      → IsHeldAt copies places router (entries (slice_index_or held router d))
  pub numbered : (number router : ℕ) → has_pair places number router ≡ true
      → (0 < number) × (number ≤ length copies) × (router < length held)
  pub ids : AllByRecursion (λ copy. IsId copy.0) copies

abbrev pub IsSoundNet : Inside → Type 0
IsSoundNet a = AreHeld (λ v. v.items) a.copies.items a.places.keys a.held.items
