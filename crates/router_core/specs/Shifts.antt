-- What nodes tell once a level's database is another (own).
use Rattle.std.specs.Prelude.{◌≡◌, Bool, true, List, Option, Some, None}
use Rattle.isis_base.specs.declared.identifiers.LspId.{LspId}
use Rattle.lsp_store.specs.declared.entry.Entry.{Entry}
use Rattle.router_routes.specs.Moved.{AreMovedTo, NodesRise}
use Rattle.router_routes.specs.Outlooks.{Outlook}
use Rattle.router_routes.specs.Told.{told_in}
use Rattle.router_core.specs.declared.movers.Movers.{Movers}

-- these nodes of a level that is run tell this, and all others what they told; of a level that isn't run nothing is said (own)
abbrev pub IsShifted : Option Movers → Bool → List (LspId × Entry) → List (LspId × Entry) → Type 0
IsShifted None runs old new = runs ≡ true → new ≡ old
IsShifted (Some m) runs old new =
    (runs ≡ true) × NodesRise 0 m.nodes.items
    × AreMovedTo m.nodes.items (told_in m.aside.entries) old new

-- the same of what is seen of a level, which is nothing where it isn't run (own)
abbrev pub IsMovedOn : Option Movers → Bool → List (LspId × Entry) → List (LspId × Entry) → Type 0
IsMovedOn None runs old new = new ≡ old
IsMovedOn (Some m) runs old new =
    (runs ≡ true) × AreMovedTo m.nodes.items (told_in m.aside.entries) old new

-- nodes in order, each once (own)
abbrev pub AreRising : Option Movers → Type 0
AreRising None = Unit {0}
AreRising (Some m) = NodesRise 0 m.nodes.items

-- in both levels these nodes tell this, all others what they told, and all else stays (own)
pub record AreMovedOn (old new : Outlook) (ones twos : Option Movers) : Type 0 where
  pub root : new.root ≡ old.root
  pub areas : new.areas ≡ old.areas
  pub runs : new.runs ≡ old.runs
  pub prefixes : new.prefixes ≡ old.prefixes
  pub rise_one : AreRising ones
  pub rise_two : AreRising twos
  pub one : IsMovedOn ones old.runs.one old.told.one new.told.one
  pub two : IsMovedOn twos old.runs.two old.told.two new.told.two
