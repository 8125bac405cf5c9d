-- What the rows of the table for LSPs do to a level.
use Rattle.std.proofs.Common.{◌≡◌, ◌≢◌, ℕ, ◌+◌, ◌*◌, ◌/◌, ◌<◌, ◌==◌, nat_lt, Bool, true, false, not, Option, Some, None, IsSome, is_some, if◌then◌else◌, refl, ap, arith}
use Rattle.std.proofs.lemmas.Bool.Decides.{nat_tests}
use Rattle.isis_base.specs.declared.entry.LspEntry.{LspEntry}
use Rattle.isis_base.specs.Keys.{entry_rank}
use Rattle.model_router.specs.declared.whose.Whose.{Whose}
use Rattle.model_router.specs.declared.whose.Whose.TheVariants as whose
use Rattle.model_router.specs.declared.lsp_case.LspCase.{LspCase}
use Rattle.model_router.specs.declared.lsp_case.LspCase.TheVariants as case
use Rattle.model_router.specs.Maps.{find}
use Rattle.model_router.specs.Ranks.{number_of}
use Rattle.model_router.specs.Cells.{Cell, Heard, purge_of}
use Rattle.model_router.specs.Books.{cell_at, rank_of}
use Rattle.model_router.specs.LspTable.{is_issued, met, hear_lsp}
use Rattle.model_router.specs.LetGos.{let_go}
use Rattle.model_router.specs.Routers.{LevelState}
use Rattle.model_router.specs.Takes.{Scene, whose_of, answer, last_purge, held_purge, lsp_taken, take_lsp}
use Rattle.model_router.proofs.FloodLemmas.{each-row}
use Rattle.flag_sync.specs.declared.heard.LspHeard.{LspHeard}
use Rattle.flag_sync.specs.declared.heard.LspAnswer.TheVariants as row
use Rattle.flag_sync.specs.Heard.{heard_of, answer_of}

-- ---- which row an answer tells

pub outbid-case : (c : LspCase) (l : LspHeard) (above : ℕ) → answer_of c l ≡ row.Outbid above → c ≡ case.Outbid
outbid-case case.Outbid l above e = refl
outbid-case case.PurgedOwn l above e = cc
outbid-case case.AckPurge l above e = cc
outbid-case case.Confused l above e = cc
outbid-case case.Stored l above e = cc
outbid-case case.Same l above e = cc
outbid-case case.Older l above e = cc

pub outbid-above : (c : LspCase) (l : LspHeard) (above : ℕ) → answer_of c l ≡ row.Outbid above → l.entry.number ≡ above
outbid-above case.Outbid l above e = cc
outbid-above case.PurgedOwn l above e = cc
outbid-above case.AckPurge l above e = cc
outbid-above case.Confused l above e = cc
outbid-above case.Stored l above e = cc
outbid-above case.Same l above e = cc
outbid-above case.Older l above e = cc

pub ack-case : (c : LspCase) (l : LspHeard) → answer_of c l ≡ row.AckPurge → c ≡ case.AckPurge
ack-case case.Outbid l e = cc
ack-case case.PurgedOwn l e = cc
ack-case case.AckPurge l e = refl
ack-case case.Confused l e = cc
ack-case case.Stored l e = cc
ack-case case.Same l e = cc
ack-case case.Older l e = cc

-- ---- what the rows do

pub taken-outbid : (scene : Scene) (state : LevelState) (place : ℕ) (w : Whose) (h : Heard) → met state.book w h ≡ case.Outbid → take_lsp scene state place w h ≡ answer scene state h.id (number_of h.rank) (last_purge (cell_at state.book h.id) h)
unfolding take_lsp
taken-outbid scene state place w h e = ap (lsp_taken scene state place w h) e

pub taken-ack : (scene : Scene) (state : LevelState) (place : ℕ) (w : Whose) (h : Heard) → met state.book w h ≡ case.AckPurge → take_lsp scene state place w h ≡ record state { book = hear_lsp state.book place w h; gone = let_go state.gone h.id }
unfolding take_lsp
taken-ack scene state place w h e = ap (lsp_taken scene state place w h) e

pub taken-else : (scene : Scene) (state : LevelState) (place : ℕ) (w : Whose) (l : LspHeard) → ((above : ℕ) → answer_of (met state.book w (heard_of l)) l ≢ row.Outbid above) → answer_of (met state.book w (heard_of l)) l ≢ row.AckPurge → take_lsp scene state place w (heard_of l) ≡ record state { book = hear_lsp state.book place w (heard_of l) }
unfolding take_lsp
taken-else scene state place w l out ack = cases (met state.book w (heard_of l)) out ack
  where
    cases : (c : LspCase) → ((above : ℕ) → answer_of c l ≢ row.Outbid above) → answer_of c l ≢ row.AckPurge → lsp_taken scene state place w (heard_of l) c ≡ record state { book = hear_lsp state.book place w (heard_of l) }
    cases case.Outbid out ack = absurd (out l.entry.number refl)
    cases case.PurgedOwn out ack = refl
    cases case.AckPurge out ack = absurd (ack refl)
    cases case.Confused out ack = refl
    cases case.Stored out ack = refl
    cases case.Same out ack = refl
    cases case.Older out ack = refl

-- ---- what is outbid is issued

pub issued-find : (system : ℕ) (state : LevelState) (id : ℕ) → is_issued (whose_of system state id) ≡ true → IsSome (find state.own id)
issued-find system state id = cases (not (id / 65536 == system)) (is_some (find state.own id)) refl
  where
    cases : (t u : Bool) → is_some (find state.own id) ≡ u → is_issued (if t then whose.Other else (if u then whose.Issued else whose.Unissued)) ≡ true → is_some (find state.own id) ≡ true
    cases true u q e = cc
    cases false true q e = q
    cases false false q e = cc

pub outbid-issued : (system : ℕ) (state : LevelState) (h : Heard) → met state.book (whose_of system state h.id) h ≡ case.Outbid → IsSome (find state.own h.id)
outbid-issued system state h e =
    issued-find system state h.id (each-row (λ c. c ≡ case.Outbid → is_issued (whose_of system state h.id) ≡ true) (whose_of system state h.id) (cell_at state.book h.id) h (λ yes _ _ _. yes) (λ _ _ q. cc) (λ _ _ q. cc) (λ _ _ q. cc) (λ _ q. cc) (λ _ q. cc) (λ _ q. cc) e)

pub heard-number : (e : LspEntry) → number_of (entry_rank e) ≡ e.number
heard-number e = cases (nat_lt 0 e.number) (nat_lt 0 e.lifetime) refl
  where
    cases : (t u : Bool) → nat_lt 0 e.number ≡ t → (if t then 2 * e.number + (if u then 0 else 1) else 0) / 2 ≡ e.number
    cases true true q = omega arith
    cases true false q = omega arith
    cases false u q = grind (arith, nat_tests, q)

-- ---- the purge at the last number

pub last-heard : (held : Option Cell) (h : Heard) → rank_of held < h.rank → last_purge held h ≡ purge_of (number_of h.rank) h.flags h.octets
last-heard None h newer = refl
last-heard (Some cell) h newer = grind (arith, nat_tests, newer)

pub last-held : (held : Option Cell) (h : Heard) → 0 < h.rank → nat_lt (rank_of held) h.rank ≡ false → last_purge held h ≡ held_purge held
last-held None h some old = absurd (grind (arith, nat_tests, some, old))
last-held (Some cell) h some old = grind (arith, nat_tests, old)
