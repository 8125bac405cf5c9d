-- Where an LSP tells routes what is held of its LSP ID already, storing it changes nothing of what they look at.
use Rattle.std.proofs.Common.{◌≡◌, ◌∙◌, ℕ, ◌<◌, ◌==◌, ◌++◌, nat_lt, Bool, true, false, List, [], ◌∷◌, length, drop, replicate, Option, Some, None, refl, sym, ap, subst, arith, if◌then◌else◌, ◌+◌}
use Rattle.std.specs.List.{AllByRecursion}
use Rattle.std.proofs.lemmas.Bool.{eqb-true}
use Rattle.std.proofs.lemmas.Bool.Decides.{nat_tests}
use Rattle.isis_base.specs.declared.entry.LspEntry.{LspEntry}
use Rattle.isis_base.specs.declared.identifiers.LspId.{LspId}
use Rattle.isis_base.specs.declared.level.Level.{Level}
use Rattle.isis_base.specs.declared.level.Level.TheVariants as level
use Rattle.isis_base.specs.Identifiers.{IsId, lsp_number}
use Rattle.isis_base.specs.Keys.{entry_rank}
use Rattle.isis_base.proofs.ArrayLemmas.{lsp_number-one}
use Rattle.model_router.specs.declared.lsp_case.LspCase.{LspCase}
use Rattle.model_router.specs.declared.lsp_case.LspCase.TheVariants as lsp
use Rattle.model_router.specs.Books.{Book, cell_at}
use Rattle.model_router.specs.Cells.{Cell, flagged, kept}
use Rattle.model_router.specs.Events.{Envelope, LspHeard, Take}
use Rattle.model_router.specs.LspTable.{lsp_row, met, ssn_stored}
use Rattle.model_router.specs.Maps as model
use Rattle.model_router.specs.Places.{nth}
use Rattle.model_router.specs.Ranks.{is_live, is_purge}
use Rattle.model_router.specs.Receiving.{lsp_drop}
use Rattle.model_router.specs.Routers.{Circuit, Router, book_of, level_of}
use Rattle.model_router.specs.Sets.{without}
use Rattle.model_router.specs.Steps.{step}
use Rattle.model_router.specs.Takes.{whose_of}
use Rattle.lsp_store.specs.declared.entry.Entry.{Entry}
use Rattle.lsp_store.specs.Maps.{RisesFrom, find, pair_number, put}
use Rattle.lsp_store.proofs.MapLemmas.{find-above, rises-above}
use Rattle.flag_sync.specs.declared.heard.LspAnswer.{LspAnswer}
use Rattle.flag_sync.specs.declared.heard.LspAnswer.TheVariants as answer
use Rattle.flag_sync.specs.declared.heard.LspHeard as heard
use Rattle.flag_sync.specs.BookStates as sync
use Rattle.flag_sync.specs.BookStates.{BookState, cells_of}
use Rattle.flag_sync.specs.Heard.{answer_of, heard_of}
use Rattle.router_routes.specs.Moved.{beside}
use Rattle.router_routes.specs.Outlooks.{outlook_of}
use Rattle.router_routes.specs.Told.{live_key, shown, told, told_by, told_in}
use Rattle.router_core.specs.Givens.{given}
use Rattle.router_core.specs.Puts.{Tells}
use Rattle.router_core.specs.Refreshes.{IsRefresh, TellsAgain}
use Rattle.router_core.proofs.MovedLemmas.{Entries, live-whole, put-told, step-put}
use Rattle.router_core.proofs.RouteLemmas.{SameConfig, outlook-steady, step-config, told-cells}

-- ---- an entry that is put where it was

apart : {A : Type 0} {x : A} → ◌≡◌ {A = Option A} None (Some x) → ⊥
apart e = cc

same-value : {A : Type 0} {x y : A} → ◌≡◌ {A = Option A} (Some x) (Some y) → x ≡ y
same-value e = cc

module _ (id : LspId) (held : Entry) (is : IsId id) (x : LspId × Entry) (xs : Entries) (own : IsId x.0) (rises : RisesFrom (pair_number x + 1) xs) (rest : find xs (lsp_number id) ≡ Some held → put xs id held ≡ xs) (found : find (x ∷ xs) (lsp_number id) ≡ Some held) where
  found-by : (t : Bool) → (pair_number x == lsp_number id) ≡ t → (if t then Some x.1 else find xs (lsp_number id)) ≡ Some held
  found-by t p = subst (λ (u : Bool). (if u then Some x.1 else find xs (lsp_number id)) ≡ Some held) p found

  again-step : (a b : Bool) → (pair_number x == lsp_number id) ≡ a → nat_lt (lsp_number id) (pair_number x) ≡ b → put (x ∷ xs) id held ≡ x ∷ xs
  again-step true b p q =
      let one : x.0 ≡ id = lsp_number-one x.0 id own is (eqb-true (pair_number x) (lsp_number id) p) in
      let same : x.1 ≡ held = same-value (found-by true p) in
      rw p (λ i. (sym one i, sym same i) ∷ xs)
  again-step false true p q =
      let less : lsp_number id < pair_number x = grind (arith, nat_tests, q) in
      let none : find xs (lsp_number id) ≡ None = find-above (lsp_number id) [] xs (rises-above (lsp_number id) (pair_number x + 1) xs (omega (arith, less)) rises) in
      absurd (apart (sym none ∙ found-by false p))
  again-step false false p q = rw (p, q) (ap (λ (l : Entries). x ∷ l) (rest (found-by false p)))

put-again : (id : LspId) (held : Entry) (least : ℕ) (xs : Entries) → IsId id → AllByRecursion (λ (p : LspId × Entry). IsId p.0) xs → RisesFrom least xs → find xs (lsp_number id) ≡ Some held → put xs id held ≡ xs
put-again id held least [] is ids rises found = absurd (apart found)
put-again id held least (x ∷ xs) is ids rises found =
    again-step id held is x xs ids.0 rises.1 (put-again id held (pair_number x + 1) xs is ids.1 rises.1) found (pair_number x == lsp_number id) (nat_lt (lsp_number id) (pair_number x)) refl refl

-- ---- what is stored tells what was held

live-rank : (entry : LspEntry) → 0 < entry.number → 0 < entry.lifetime → is_live (entry_rank entry) ≡ true
live-rank entry number lifetime = grind (arith, nat_tests, number, lifetime)

shown-alike : (octets os : List ℕ) → drop 27 octets ≡ drop 27 os → shown octets ≡ shown os
unfolding shown
shown-alike octets os d = ap (λ (l : List ℕ). replicate 27 0 ++ l) d

pub told-alike : (flags fs : ℕ) (octets os : List ℕ) → flags ≡ fs → drop 27 octets ≡ drop 27 os → told flags octets ≡ told fs os
told-alike flags fs octets os e d = let same = shown-alike octets os d in λ i. record { key = Some live_key; checksum = 0; flags = e i; left = 0; octets = same i }

again-tells : (l : heard.LspHeard) (held : Entry) (srm ssn : ℕ) → TellsAgain held l → Tells (flagged (kept (heard_of l)) srm ssn) held
again-tells l held srm ssn same = record {
  live = live ∙ sym same.live;
  says = λ is. let whole : is_purge (entry_rank l.entry) ≡ false = live-whole (entry_rank l.entry) live in rw whole (told-alike l.flags held.flags l.octets.now held.octets same.flags same.octets);
}
  where
    live : is_live (entry_rank l.entry) ≡ true
    live = live-rank l.entry same.number same.lifetime

stored-row : (row : LspCase) (l : heard.LspHeard) → answer_of row l ≡ answer.Stored → row ≡ lsp.Stored
stored-row lsp.Outbid l e = cc
stored-row lsp.PurgedOwn l e = cc
stored-row lsp.AckPurge l e = cc
stored-row lsp.Confused l e = cc
stored-row lsp.Stored l e = refl
stored-row lsp.Same l e = cc
stored-row lsp.Older l e = cc

held-of : (o : Option Entry) (l : heard.LspHeard) → IsRefresh o l → (held : Entry) × (o ≡ Some held) × TellsAgain held l
held-of None l is = absurd is
held-of (Some held) l is = (held, refl, is)

outlook-at : (r t : Router) → SameConfig r t → (l : Level) → told_by (book_of t l).cells ≡ told_by (book_of r l).cells → told_by (book_of t (beside l)).cells ≡ told_by (book_of r (beside l)).cells → outlook_of t ≡ outlook_of r
outlook-at r t same level.One here other = outlook-steady r t same here other
outlook-at r t same level.Two here other = outlook-steady r t same other here

-- ---- an LSP that is stored

module _ (r : Router) (place : ℕ) (l : Level) (from : Envelope) (lsp_in : heard.LspHeard) (c : Circuit) (v : BookState) (row : LspAnswer)
    (there : nth r.circuits place ≡ Some c) (kept_in : lsp_drop r place c l from (heard_of lsp_in) ≡ None)
    (met_is : row ≡ answer_of (met (book_of r l) (whose_of r.config.system (level_of r l) (lsp_number lsp_in.entry.id)) (heard_of lsp_in)) lsp_in) (stored : row ≡ answer.Stored)
    (of_book : sync.book_of v ≡ book_of r l) (long : length v.rows ≡ length v.store.entries)
    (is : IsId lsp_in.entry.id) (ids : AllByRecursion (λ (p : LspId × Entry). IsId p.0) v.store.entries) (rises : RisesFrom 0 v.store.entries)
    (refresh : IsRefresh (find v.store.entries (lsp_number lsp_in.entry.id)) lsp_in) where
  pub outlook-same : outlook_of (step given r (Take place (LspHeard l from (heard_of lsp_in)))).router ≡ outlook_of r
  outlook-same =
      let event = Take place (LspHeard l from (heard_of lsp_in)) in
      let t = (step given r event).router in
      let h = heard_of lsp_in in
      let id = lsp_in.entry.id in
      let entries = v.store.entries in
      let b = book_of r l in
      let w = whose_of r.config.system (level_of r l) h.id in
      let held = held-of (find entries (lsp_number id)) lsp_in refresh in
      let case : met b w h ≡ lsp.Stored = stored-row (met b w h) lsp_in (sym met_is ∙ stored) in
      let srm = without b.opened place in
      let ssn = ssn_stored b.p2p place (cell_at b h.id) in
      let cell : Cell = flagged (kept h) srm ssn in
      let s = step-put given r place l from h c cell there kept_in (λ e. bid (sym e ∙ case)) (ap (λ (x : LspCase). lsp_row x b.opened b.p2p place (cell_at b h.id) h) case) in
      let cells : b.cells ≡ cells_of entries v.rows = ap (λ (x : Book). x.cells) (sym of_book) in
      let before : told_by b.cells ≡ told_in entries = ap told_by cells ∙ told-cells entries v.rows long ids in
      let later : told_by (book_of t l).cells ≡ told_in entries =
      ap told_by s.cells ∙ ap (λ (m : List (ℕ × Cell)). told_by (model.put m (lsp_number id) cell)) cells
      ∙ put-told id cell held.0 entries v.rows is (again-tells lsp_in held.0 srm ssn held.2) long ids
      ∙ ap told_in (put-again id held.0 0 entries is ids rises held.1) in
      outlook-at r t (step-config given r event tt) l (later ∙ sym before) (ap (λ (x : Book). told_by x.cells) s.other)
    where
      bid : lsp.Outbid ≡ lsp.Stored → ⊥
      bid e = cc
