-- What is due on a circuit of a router as it is, and who sends it (ISO 10589 7.3.15.3 to 7.3.15.5,
-- 8.2.3, 8.4.1; the form: own).
use Rattle.std.specs.Prelude.{ℕ, ◌-◌, ◌==◌, ◌≡◌, nat_lt, true, false, ◌&&◌, List, [], ◌∷◌, ◌++◌, length, if◌then◌else◌}
use Rattle.std.specs.Option.{option_copied}
use Rattle.isis_base.specs.declared.level.Level.{Level}
use Rattle.isis_base.specs.declared.level.Level.TheVariants as level
use Rattle.isis_base.specs.declared.identifiers.LspId.{LspId}
use Rattle.model_router.specs.Both.{at, runs_of}
use Rattle.model_router.specs.Sets.{has}
use Rattle.model_router.specs.Configs.{Config}
use Rattle.model_router.specs.Books.{Book}
use Rattle.model_router.specs.Routers.{CircuitLevel, Circuit, Router, book_of}
use Rattle.model_router.specs.Datagrams.{Sent}
use Rattle.model_router.specs.SnpLists.{csnp_set, pieces, owed, psnps}
use Rattle.model_router.specs.Pulls.{hellos, is_csnp_due, due_lsps, srm_due}
use Rattle.model_router.specs.Numbers.{system_number}
use Rattle.model_datagram.specs.Datagrams.{datagram}
use Rattle.adjacency.specs.Views.{point_down}
use Rattle.lsp_store.specs.declared.entry.Entry.{Entry}
use Rattle.router_sending.specs.Held.{IsPuttable}
use Rattle.flag_sync.specs.declared.flag_row.FlagRow.{FlagRow}
use Rattle.flag_sync.specs.FlagRows.{cell_of}
use Rattle.router_sending.specs.declared.sender.Sender.{Sender}

-- ---- a sender's datagrams

-- what datagrams look at of a sender's configuration (own)
abbrev pub config_of : Sender → Config
config_of sender = record {
  system = system_number sender.system;
  areas = sender.areas.now;
  runs = runs_of sender.levels;
  leak = false;
  overload = false;
  prefixes = [];
  keys = record { one = option_copied sender.area_key; two = option_copied sender.domain_key };
}

-- a level of nobody (own)
abbrev pub no_part : CircuitLevel
no_part = record { heard = []; csnp = 0; psnp = 0; due = false }

-- what datagrams look at of its circuit (own)
abbrev pub circuit_of : Sender → Circuit
circuit_of sender = record {
  lan = false;
  metric = 0;
  priority = sender.priority;
  address = sender.address;
  key = option_copied sender.key;
  point = point_down;
  levels = record { one = no_part; two = no_part };
  hello = 0;
  boots = [];
}

-- a datagram of a sender (ISO 10589 9)
unfoldable pub octets_of : Sender → Sent → List ℕ
octets_of sender says =
    datagram (config_of sender) sender.boot (sender.circuit - 1) (circuit_of sender) says

-- those of a list, in order (ISO 10589 9)
abbrev pub all_octets : Sender → List Sent → List (List ℕ)
all_octets sender [] = []
all_octets sender (says ∷ list) = octets_of sender says ∷ all_octets sender list

-- each entry whose SRM is due on a circuit may be sent (ISO 10589 7.3.15.5)
abbrev pub MaySend : ℕ → List (LspId × Entry) → List (LspId × FlagRow) → Type 0
MaySend place [] rows = Unit {0}
MaySend place (entry ∷ entries) [] = Unit {0}
MaySend place (entry ∷ entries) (row ∷ rows) =
    (srm_due place (cell_of entry.1 row.1) ≡ true → IsPuttable entry.1)
    × MaySend place entries rows

-- ---- what is due

-- the hellos (ISO 10589 8.2.3, 8.4.1)
abbrev pub hellos_due : Router → ℕ → Circuit → List Sent
hellos_due r place c = if c.hello == 0 then hellos r place c else []

-- a level's CSNP set (ISO 10589 7.3.15.3, 7.3.17)
abbrev pub csnps_due : Config → ℕ → Circuit → Level → Book → List Sent
csnps_due config place c l book = if is_csnp_due config place c l then csnp_set l book else []

-- a level's PSNPs (ISO 10589 7.3.15.4)
abbrev pub psnps_due : ℕ → Circuit → Level → Book → List Sent
psnps_due place c l book =
    let entries = owed place book in
    if nat_lt 0 (length entries) && (at c.levels l).psnp == 0
    then psnps l (pieces (length entries) entries)
    else []

-- what is due of a level that is open (ISO 10589 7.3.15.3 to 7.3.15.5)
abbrev pub level_due : Config → ℕ → Circuit → Level → Book → List Sent
level_due config place c l book =
    csnps_due config place c l book ++ (due_lsps l place book.cells ++ psnps_due place c l book)

-- of a level, where it is open (own)
abbrev pub open_due : Config → ℕ → Circuit → Level → Book → List Sent
open_due config place c l book =
    if has book.opened place then level_due config place c l book else []

-- all that is due (own)
abbrev pub all_due : Router → ℕ → Circuit → List Sent
all_due r place c =
    hellos_due r place c
    ++ (open_due r.config place c level.One (book_of r level.One)
    ++ open_due r.config place c level.Two (book_of r level.Two))
