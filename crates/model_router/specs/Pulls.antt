-- A pull: what is due on a circuit, in its order (own): the hello, and for each level that is open,
-- L1 first, the CSNP set, the LSPs and the PSNPs.
use Rattle.std.specs.Prelude.{ℕ, ◌==◌, nat_lt, Bool, false, ◌&&◌, List, [], ◌∷◌, ◌++◌, length, Option, Some, None, if◌then◌else◌}
use Rattle.isis_base.specs.declared.level.Level.{Level}
use Rattle.isis_base.specs.declared.level.Level.TheVariants as level
use Rattle.model_router.specs.Maps.{each}
use Rattle.model_router.specs.Both.{at, with_at}
use Rattle.model_router.specs.Sets.{has}
use Rattle.model_router.specs.Waits.{wait}
use Rattle.model_router.specs.Configs.{Config}
use Rattle.model_router.specs.Cells.{Cell, srm_off, srm_sent, ssn_off}
use Rattle.model_router.specs.Books.{Book}
use Rattle.model_router.specs.Adjacencies.{Neighbour}
use Rattle.model_router.specs.Places.{nth}
use Rattle.model_router.specs.Elections.{Candidate, oneself, designated, is_designated}
use Rattle.model_router.specs.Routers.{LanNeighbour, CircuitLevel, Circuit, Router, book_of, with_book, with_circuit, extended_of}
use Rattle.model_router.specs.Datagrams.{Sent, PointHello, LanHello, Lsp}
use Rattle.model_router.specs.SnpLists.{csnp_set, pieces, owed, psnps}

-- the router, and what it has sent so far, in order (own)
pub record Sending : Type 0 where
  pub router : Router
  pub out : List Sent

-- own
abbrev pub on_circuit : Option Circuit → Sending → (Circuit → Sending) → Sending
on_circuit None s f = s
on_circuit (Some c) s f = f c

-- what a circuit sends, where it is there (own)
abbrev pub at_circuit : Sending → ℕ → (Circuit → Sending) → Sending
at_circuit s place f = on_circuit (nth s.router.circuits place) s f

-- ---- hellos (ISO 10589 8.2.3, 8.4.1, RFC 5303 3.2)

-- RFC 5303 3.1
abbrev pub names_of : Option Neighbour → Option (ℕ × ℕ)
names_of None = None
names_of (Some n) = Some (n.system, n.extended)

-- 9.5
abbrev pub snpas_of : List (ℕ × LanNeighbour) → List ℕ
snpas_of [] = []
snpas_of (pair ∷ heard) = pair.0 ∷ snpas_of heard

-- 8.4.5
abbrev pub lan_or : Option Candidate → Candidate → ℕ
lan_or None own = own.lan
lan_or (Some d) own = d.lan

-- the LAN ID that a hello says: the designated system's, one's own where there is none (8.4.5)
abbrev pub lan_of : Router → ℕ → Circuit → Level → ℕ
lan_of r place c l = lan_or (designated r.config place c l) (oneself r.config place c)

-- the hello of a LAN and level, where the level is run (8.4.1)
abbrev pub lan_hello : Router → ℕ → Circuit → Level → List Sent
lan_hello r place c l =
    if at r.config.runs l then LanHello l (lan_of r place c l) (snpas_of (at c.levels l).heard) ∷ []
    else []

-- the hellos of a circuit: one on a point-to-point circuit, on a LAN one for each level that is run
-- (8.2.3, 8.4.1)
abbrev pub hellos : Router → ℕ → Circuit → List Sent
hellos r place c =
    if c.lan
    then lan_hello r place c level.One ++ lan_hello r place c level.Two
    else PointHello c.point.state (extended_of r.boot place) (names_of c.point.neighbour) ∷ []

-- the hello, where its counter is 0; then 10 seconds (8.2.3, 8.4.1)
unfoldable pub pull_hello : Sending → ℕ → Circuit → Sending
pull_hello s place c =
    if c.hello == 0
    then record {
      router = with_circuit s.router place (record c { hello = 10 });
      out = s.out ++ hellos s.router place c;
    }
    else s

-- ---- the CSNP set (ISO 10589 7.3.15.3; after a point-to-point circuit came up: 7.3.17)

-- whether a CSNP set is to be sent: by the designated system of a LAN where its counter is 0, else
-- where it is due (7.3.15.3, 7.3.17)
abbrev pub is_csnp_due : Config → ℕ → Circuit → Level → Bool
is_csnp_due config place c l =
    if c.lan then is_designated config place c l && (at c.levels l).csnp == 0
    else (at c.levels l).due

-- own
abbrev pub with_part : Circuit → Level → CircuitLevel → Circuit
with_part c l part = record c { levels = with_at c.levels l part }

-- after a CSNP set: on a LAN the next one is 10 seconds later, else none is due (7.3.15.3)
abbrev pub csnp_sent : Bool → CircuitLevel → CircuitLevel
csnp_sent lan part =
    record part { csnp = if lan then 10 else part.csnp; due = if lan then part.due else false }

-- the CSNP set, where it is to be sent (7.3.15.3, 7.3.17)
unfoldable pub pull_csnp : Sending → ℕ → Level → Circuit → Sending
pull_csnp s place l c =
    if is_csnp_due s.router.config place c l
    then record {
      router = with_circuit s.router place (with_part c l (csnp_sent c.lan (at c.levels l)));
      out = s.out ++ csnp_set l (book_of s.router l);
    }
    else s

-- ---- LSPs (ISO 10589 7.3.15.5)

-- whether SRM is due on a circuit (7.3.15.5)
abbrev pub srm_due : ℕ → Cell → Bool
srm_due place cell = has cell.srm place && wait cell.waits place == 0

-- the LSPs that are due, by LSP ID (7.3.15.5)
abbrev pub due_lsps : Level → ℕ → List (ℕ × Cell) → List Sent
due_lsps l place [] = []
due_lsps l place (pair ∷ cells) =
    if srm_due place pair.1 then Lsp l pair.0 pair.1 ∷ due_lsps l place cells
    else due_lsps l place cells

-- a cell after its LSP was sent where it was due: on a point-to-point circuit SRM stays, on a LAN
-- it is cleared (7.3.15.5)
abbrev pub sent_cell : ℕ → ℕ → Cell → Cell
sent_cell p2p place cell =
    if srm_due place cell then (if has p2p place then srm_sent cell place else srm_off cell place)
    else cell

-- 7.3.15.5
unfoldable pub sent : Book → ℕ → Book
sent book place =
    record book { cells = each (λ (_ : ℕ) (c : Cell). sent_cell book.p2p place c) book.cells }

-- 7.3.15.5
unfoldable pub pull_lsps : Sending → ℕ → Level → Sending
pull_lsps s place l = record {
  router = with_book s.router l (sent (book_of s.router l) place);
  out = s.out ++ due_lsps l place (book_of s.router l).cells;
}

-- ---- PSNPs (ISO 10589 7.3.15.4; by the designated system too: own)

-- SSN is cleared on a circuit (7.3.15.4)
unfoldable pub answered : Book → ℕ → Book
answered book place =
    record book { cells = each (λ (_ : ℕ) (c : Cell). ssn_off c place) book.cells }

-- the PSNPs, where entries are owed and the counter is 0; then 2 seconds (7.3.15.4; by the
-- designated system too: own)
unfoldable pub pull_psnp : Sending → ℕ → Level → Circuit → Sending
pull_psnp s place l c =
    let entries = owed place (book_of s.router l) in
    let waits = with_circuit s.router place (with_part c l (record (at c.levels l) { psnp = 2 })) in
    if nat_lt 0 (length entries) && (at c.levels l).psnp == 0
    then record {
      router = with_book waits l (answered (book_of s.router l) place);
      out = s.out ++ psnps l (pieces (length entries) entries);
    }
    else s

-- ---- the pull

-- one level's part, where the circuit is open on it (own)
unfoldable pub pull_level : Sending → ℕ → Level → Sending
pull_level s place l =
    if has (book_of s.router l).opened place
    then (
    let csnp = at_circuit s place (pull_csnp s place l) in
    let lsps = pull_lsps csnp place l in
    at_circuit lsps place (pull_psnp lsps place l))
    else s

-- what is due on a circuit (own)
unfoldable pub pull : Router → ℕ → Sending
pull r place =
    let start : Sending = record { router = r; out = [] } in
    pull_level
    (pull_level (at_circuit start place (pull_hello start place)) place level.One) place level.Two
