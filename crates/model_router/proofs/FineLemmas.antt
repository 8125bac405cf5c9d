-- What is sent passes the tests of receiving.
use Rattle.std.proofs.Common.{◌≡◌, ℕ, zero, suc, ◌+◌, ◌^◌, ◌<◌, ◌==◌, nat_lt, nat_le, Bool, true, false, ◌&&◌, List, [], ◌∷◌, length, take, drop, Option, Some, None, refl, subst, arith}
use Rattle.std.specs.List.{AllByRecursion}
use Rattle.isis_base.specs.declared.level.Level.{Level}
use Rattle.isis_base.specs.declared.level.Level.TheVariants as level
use Rattle.model_router.specs.declared.drop_name.DropName.{DropName}
use Rattle.model_router.specs.Maps.{find}
use Rattle.model_router.specs.Both.{at}
use Rattle.model_router.specs.Places.{nth}
use Rattle.model_router.specs.Sets.{has}
use Rattle.model_router.specs.Waits.{wait}
use Rattle.model_router.specs.Cells.{Cell, Heard}
use Rattle.model_router.specs.Books.{Book, cell_at}
use Rattle.model_router.specs.SnpTable.{SnpEntry}
use Rattle.model_router.specs.Takes.{whose_of}
use Rattle.model_router.specs.Good.{IsGood, IsGoodCell, IsGoodLsp, IsGoodBook, IsGoodRouter, IsGoodMessage, IsGoodEvent, IsTellable, AreTellable}
use Rattle.model_router.specs.Routers.{Circuit, Router, level_of, book_of}
use Rattle.model_router.specs.Givens.{Given}
use Rattle.model_router.specs.Deeds.{Hearing, Courses}
use Rattle.model_router.specs.Datagrams.{Lsp}
use Rattle.model_router.specs.Pulls.{Sending, due_lsps, srm_due, lan_hello, hellos, at_circuit, pull_hello, pull_csnp, pull_lsps, pull_psnp, pull_level, pull, is_csnp_due}
use Rattle.model_router.specs.SnpLists.{snp_entry, entries_where, last_id, pieces, csnps, csnp_set, held_keys, owed, psnps}
use Rattle.model_router.specs.Events.{Done, Send, Message, Refused, PointHelloHeard, LanHelloHeard, LspHeard, SnpHeard, Event, Second, Take, Pull, Metric, Overload, Prefix}
use Rattle.model_router.specs.Receiving.{taken, acks, take_or_drop, drop_of}
use Rattle.model_router.specs.Steps.{step}
use Rattle.model_router.specs.Sorted.{IsSorted}
use Rattle.model_router.specs.ReplyLaws.{IsFine, IsReplyFine}
use Rattle.model_router.specs.Receiving as receiving
use Rattle.model_router.proofs.BookLemmas.{choose}
use Rattle.model_router.proofs.FloodLemmas.{each-row}
use Rattle.model_router.proofs.CsnpLemmas.{Rises, listed-rises, piece-within}
use Rattle.model_router.specs.Ranks.{is_live, is_purge}
use Rattle.model_router.specs.LspTable.{lsp_case}
use Rattle.model_router.specs.declared.whose.Whose.{Whose}
use Rattle.std.proofs.Common.{length-drop, le_refl, ◌≤◌}
use Rattle.std.proofs.lemmas.Bool.Decides.{nat_tests}
use Rattle.std.proofs.lemmas.List.{length-take}
use Rattle.model_router.proofs.RisingLemmas.{all-found, course-rises}
use Rattle.model_router.proofs.GoodLemmas.{course-good}
use Rattle.model_router.proofs.ListLemmas.{all-append, all-take, all-drop}
use Rattle.model_router.proofs.KeyLemmas.{good-ids, at_circuit-tells}
use Rattle.model_router.proofs.PullWays.{pull_hello-course, pull_csnp-course, pull_lsps-course, pull_psnp-course}

-- what is said of a good cell may be listed
pub cell-tellable : (id : ℕ) (c : Cell) → IsGood id (Some c) → IsTellable (snp_entry id c)
cell-tellable id c g = record {
  id = g.0;
  rank = g.1.bounded;
  lifetime = choose (λ (n : ℕ). n < 2 ^ 16) (is_live c.rank) c.left 0 (λ _. g.1.fits) (λ _. omega arith);
  checksum = choose (λ (n : ℕ). n < 2 ^ 16) (is_live c.rank) c.checksum 0 (λ _. g.1.word) (λ _. omega arith);
  number = g.1.number;
  live = λ e. rw e (let k = g.1.left in omega (arith, k));
  purge = λ e. rw e refl;
}

listed-tellable : (t : Cell → Bool) (cells : List (ℕ × Cell)) → AllByRecursion (λ (p : ℕ × Cell). IsGood p.0 (Some p.1)) cells → AllByRecursion IsTellable (entries_where t cells)
listed-tellable t [] a = tt
listed-tellable t (p ∷ cells) a = choose (AllByRecursion IsTellable) (t p.1) (snp_entry p.0 p.1 ∷ entries_where t cells) (entries_where t cells)
    (λ _. (cell-tellable p.0 p.1 a.0, listed-tellable t cells a.1)) (λ _. listed-tellable t cells a.1)

few : (entries : List SnpEntry) → nat_le (length entries) 75 ≡ true → AllByRecursion IsTellable entries → AreTellable entries
few entries e a = record { each = a; count = grind (arith, nat_tests, e) }

first-few : (entries : List SnpEntry) → AllByRecursion IsTellable entries → AreTellable (take 75 entries)
first-few entries a = record { each = all-take IsTellable 75 entries a; count = (let e = length-take 75 entries in omega (arith, e)) }

pieces-tellable : (count : ℕ) (entries : List SnpEntry) → AllByRecursion IsTellable entries → AllByRecursion AreTellable (pieces count entries)
pieces-tellable zero entries a = tt
pieces-tellable (suc count) entries a = choose (AllByRecursion AreTellable) (nat_le (length entries) 75) (entries ∷ []) (take 75 entries ∷ pieces count (drop 75 entries))
    (λ e. (few entries e a, tt)) (λ _. (first-few entries a, pieces-tellable count (drop 75 entries) (all-drop IsTellable 75 entries a)))

-- entries that are there begin at an LSP ID
rises-short : (entries : List SnpEntry) (least : ℕ) → 0 < length entries → Rises least entries → least < 2 ^ 64
unfolding Rises
rises-short [] least some r = absurd (omega (arith, some))
rises-short (e ∷ entries) least some r = let h = r.0 in let k = r.1 in omega (arith, h, k)

-- a CSNP of a piece before those of further ones
csnp-before : (l : Level) (start : ℕ) (piece : List SnpEntry) (ps : List (List SnpEntry)) → start < 2 ^ 64 → last_id piece < 2 ^ 64 → AreTellable piece → AllByRecursion IsFine (csnps l (last_id piece + 1) ps) → AllByRecursion IsFine (csnps l start (piece ∷ ps))
csnp-before l start piece [] s k a rest = ((s, omega arith, a), tt)
csnp-before l start piece (p ∷ ps) s k a rest = ((s, k, a), rest)

csnps-fine : (l : Level) (count : ℕ) (entries : List SnpEntry) (start : ℕ) → start < 2 ^ 64 → AllByRecursion IsTellable entries → Rises start entries → AllByRecursion IsFine (csnps l start (pieces count entries))
csnps-fine l zero entries start s a r = tt
csnps-fine l (suc count) entries start s a r = choose (λ (ps : List (List SnpEntry)). AllByRecursion IsFine (csnps l start ps)) (nat_le (length entries) 75) (entries ∷ []) (take 75 entries ∷ pieces count (drop 75 entries))
    (λ e. ((s, omega arith, few entries e a), tt))
    (λ e. let long : 76 ≤ length entries = grind (arith, nat_tests, e) in
    let cut = piece-within 74 entries start start (omega (arith, long)) (le_refl start) r in
    let next = rises-short (drop 75 entries) (last_id (take 75 entries) + 1) (let d = length-drop 75 entries in omega (arith, d, long)) cut.1 in
    csnp-before l start (take 75 entries) (pieces count (drop 75 entries)) s (omega (arith, next)) (first-few entries a) (csnps-fine l count (drop 75 entries) (last_id (take 75 entries) + 1) next (all-drop IsTellable 75 entries a) cut.1))

psnps-fine : (l : Level) (ps : List (List SnpEntry)) → AllByRecursion AreTellable ps → AllByRecursion IsFine (psnps l ps)
psnps-fine l [] a = tt
psnps-fine l (p ∷ rest) a = (a.0, psnps-fine l rest a.1)

keyed-due : (place : ℕ) (c : Cell) → IsGoodCell c → srm_due place c ≡ true → 0 < c.rank
keyed-due place c g due = by-rank c.rank refl
  where
    first : (a b : Bool) → (a && b) ≡ true → a ≡ true
    first true b e = refl
    first false b e = e

    by-rank : (n : ℕ) → c.rank ≡ n → 0 < n
    by-rank zero e = absurd (let f = first (has c.srm place) (wait c.waits place == 0) due in let s = g.silent e place in cc)
    by-rank (suc n) e = omega arith

due-fine : (b : Book) (l : Level) (place : ℕ) (cells : List (ℕ × Cell)) → IsGoodBook b → AllByRecursion (λ (p : ℕ × Cell). find b.cells p.0 ≡ Some p.1) cells → AllByRecursion IsFine (due_lsps l place cells)
due-fine b l place [] good all = tt
due-fine b l place (p ∷ cells) good all =
    let g = subst (IsGood p.0) all.0 (good.at p.0) in
    choose (AllByRecursion IsFine) (srm_due place p.1) (Lsp l p.0 p.1 ∷ due_lsps l place cells) (due_lsps l place cells)
    (λ due. ((g.0, g.1, keyed-due place p.1 g.1 due), due-fine b l place cells good all.1)) (λ _. due-fine b l place cells good all.1)

lan_hello-fine : (r : Router) (place : ℕ) (c : Circuit) (l : Level) → AllByRecursion IsFine (lan_hello r place c l)
lan_hello-fine r place c l = choose (AllByRecursion IsFine) (at r.config.runs l) _ [] (λ _. (tt, tt)) (λ _. tt)

hellos-fine : (r : Router) (place : ℕ) (c : Circuit) → AllByRecursion IsFine (hellos r place c)
hellos-fine r place c = choose (AllByRecursion IsFine) c.lan _ _
    (λ _. all-append IsFine (lan_hello r place c level.One) (lan_hello r place c level.Two) (lan_hello-fine r place c level.One) (lan_hello-fine r place c level.Two)) (λ _. (tt, tt))

-- ---- a pull

abbrev sane : Level → Hearing
sane l = record { rank = λ place id. 0; source = λ id rank content. Unit {0}; sane = Unit {0}; mine = λ id contents. Unit {0}; names = λ place id. Unit {0}; stirs = λ place. Unit {0} }

record Fine (s : Sending) : Type 0 where
  good : (l : Level) → IsGoodBook (book_of s.router l)
  sorted : IsSorted s.router
  fine : AllByRecursion IsFine s.out

fine-more : (s t : Sending) → Courses sane s.router t.router → AllByRecursion IsFine t.out → Fine s → Fine t
fine-more s t c out h = record {
  good = λ l. course-good (sane l) (level_of s.router l) (level_of t.router l) (c.on l) tt (h.good l);
  sorted = record { on = λ l. course-rises (sane l) (level_of s.router l) (level_of t.router l) (c.on l) (h.sorted.on l) };
  fine = out;
}

good-cells : (b : Book) (cells : List (ℕ × Cell)) → IsGoodBook b → AllByRecursion (λ (p : ℕ × Cell). find b.cells p.0 ≡ Some p.1) cells → AllByRecursion (λ (p : ℕ × Cell). IsGood p.0 (Some p.1)) cells
good-cells b [] good all = tt
good-cells b (p ∷ cells) good all = (subst (IsGood p.0) all.0 (good.at p.0), good-cells b cells good all.1)

cells-good : (s : Sending) (l : Level) → Fine s → AllByRecursion (λ (p : ℕ × Cell). IsGood p.0 (Some p.1)) (book_of s.router l).cells
cells-good s l h = let b = book_of s.router l in good-cells b b.cells (h.good l) (all-found b.cells 0 (h.sorted.on l))

short-cells : (s : Sending) (l : Level) → Fine s → AllByRecursion (λ (p : ℕ × Cell). p.0 < 2 ^ 64) (book_of s.router l).cells
short-cells s l h = let b = book_of s.router l in good-ids b.cells b.cells (h.good l).at (all-found b.cells 0 (h.sorted.on l))

set-fine : (s : Sending) (l : Level) → Fine s → AllByRecursion IsFine (csnp_set l (book_of s.router l))
set-fine s l h = let b = book_of s.router l in
    csnps-fine l (suc (length b.cells)) (held_keys b) 0 (omega arith) (listed-tellable (λ (c : Cell). nat_lt 0 c.rank) b.cells (cells-good s l h))
    (listed-rises (λ (c : Cell). nat_lt 0 c.rank) b.cells 0 (h.sorted.on l) (short-cells s l h))

pull_hello-fine : (s : Sending) (place : ℕ) (c : Circuit) → Fine s → Fine (pull_hello s place c)
unfolding pull_hello
pull_hello-fine s place c h = choose (λ (u : Sending). Courses sane s.router u.router → Fine u) (c.hello == 0) _ s
    (λ _ k. fine-more s _ k (all-append IsFine s.out (hellos s.router place c) h.fine (hellos-fine s.router place c)) h) (λ _ k. h) (pull_hello-course sane s place c)

pull_csnp-fine : (s : Sending) (place : ℕ) (l : Level) (c : Circuit) → Fine s → Fine (pull_csnp s place l c)
unfolding pull_csnp
pull_csnp-fine s place l c h = choose (λ (u : Sending). Courses sane s.router u.router → Fine u) (is_csnp_due s.router.config place c l) _ s
    (λ _ k. fine-more s _ k (all-append IsFine s.out (csnp_set l (book_of s.router l)) h.fine (set-fine s l h)) h) (λ _ k. h) (pull_csnp-course sane s place l c)

pull_lsps-fine : (s : Sending) (place : ℕ) (l : Level) → Fine s → Fine (pull_lsps s place l)
unfolding pull_lsps
pull_lsps-fine s place l h = fine-more s _ (pull_lsps-course sane s place l)
    (all-append IsFine s.out _ h.fine (due-fine (book_of s.router l) l place (book_of s.router l).cells (h.good l) (all-found (book_of s.router l).cells 0 (h.sorted.on l)))) h

pull_psnp-fine : (s : Sending) (place : ℕ) (l : Level) (c : Circuit) → Fine s → Fine (pull_psnp s place l c)
unfolding pull_psnp
pull_psnp-fine s place l c h = let entries = owed place (book_of s.router l) in
    choose (λ (u : Sending). Courses sane s.router u.router → Fine u) (nat_lt 0 (length entries) && (at c.levels l).psnp == 0) _ s
    (λ _ k. fine-more s _ k (all-append IsFine s.out (psnps l (pieces (length entries) entries)) h.fine (psnps-fine l _ (pieces-tellable _ _ (listed-tellable _ (book_of s.router l).cells (cells-good s l h))))) h) (λ _ k. h) (pull_psnp-course sane s place l c tt)

pull_level-fine : (s : Sending) (place : ℕ) (l : Level) → Fine s → Fine (pull_level s place l)
unfolding pull_level
pull_level-fine s place l h =
    let csnp = at_circuit s place (pull_csnp s place l) in
    let lsps = pull_lsps csnp place l in
    choose Fine (has (book_of s.router l).opened place) (at_circuit lsps place (pull_psnp lsps place l)) s
    (λ _. let two = pull_lsps-fine csnp place l (at_circuit-tells Fine s place (pull_csnp s place l) h (λ c. pull_csnp-fine s place l c h)) in
    at_circuit-tells Fine lsps place (pull_psnp lsps place l) two (λ c. pull_psnp-fine lsps place l c two)) (λ _. h)

pull-fine : (r : Router) (place : ℕ) → IsSorted r → IsGoodRouter r → AllByRecursion IsFine (pull r place).out
unfolding pull
pull-fine r place sorted good =
    let start : Sending = record { router = r; out = [] } in
    let zero : Fine start = record { good = good.on; sorted = sorted; fine = tt } in
    let one = at_circuit-tells Fine start place (pull_hello start place) zero (λ c. pull_hello-fine start place c zero) in
    (pull_level-fine _ place level.Two (pull_level-fine _ place level.One one)).fine

-- ---- the reply

purge-dead : (rank : ℕ) → is_purge rank ≡ true → is_live rank ≡ false
purge-dead rank e = grind (arith, nat_tests, e)

acks-fine : (c : Circuit) (l : Level) (w : Whose) (held : Option Cell) (h : Heard) → IsGoodLsp h → IsReplyFine (acks c l h (lsp_case w held h))
acks-fine c l w held h g = each-row (λ row. IsReplyFine (acks c l h row)) w held h
    (λ _ _ _. tt)
    (λ _ _. tt)
    (λ _ e. choose IsReplyFine c.lan Done (Send _) (λ _. tt) (λ _. (record { each = (ack-tellable h e g, tt); count = omega arith }, tt)))
    (λ _ _. tt)
    (λ _. tt)
    (λ _. tt)
    (λ _. tt)
  where
    ack-tellable : (h : Heard) → is_purge h.rank ≡ true → IsGoodLsp h → IsTellable (record { id = h.id; rank = h.rank; lifetime = 0; checksum = 0 })
    ack-tellable h e g = record {
      id = g.id;
      rank = g.bounded;
      lifetime = omega arith;
      checksum = omega arith;
      number = λ k. let p = g.some in omega (arith, k, p);
      live = λ k. absurd (let dead = purge-dead h.rank e in cc);
      purge = λ _. refl;
    }

taken-fine : (given : Given) (r : Router) (place : ℕ) (c : Circuit) (m : Message) → IsGoodMessage m → IsReplyFine (taken given r place c m).reply
taken-fine given r place c (Refused cause) g = tt
taken-fine given r place c (PointHelloHeard h) g = tt
taken-fine given r place c (LanHelloHeard l h) g = tt
taken-fine given r place c (LspHeard l snpa h) g = acks-fine c l (whose_of r.config.system (level_of r l) h.id) (cell_at (book_of r l) h.id) h g
taken-fine given r place c (SnpHeard l snpa source range entries) g = tt

take_or_drop-fine : (given : Given) (r : Router) (place : ℕ) (c : Circuit) (m : Message) (drop : Option DropName) → IsGoodMessage m → IsReplyFine (take_or_drop given r place c m drop).reply
take_or_drop-fine given r place c m (Some cause) g = tt
take_or_drop-fine given r place c m None g = taken-fine given r place c m g

take-fine : (given : Given) (r : Router) (place : ℕ) (m : Message) (c : Option Circuit) → IsGoodMessage m → IsReplyFine (receiving.take given r place m c).reply
take-fine given r place m None g = tt
take-fine given r place m (Some c) g = take_or_drop-fine given r place c m (drop_of r place c m) g

pub step-fine : (given : Given) (r : Router) (event : Event) → IsSorted r → IsGoodRouter r → IsGoodEvent event → IsReplyFine (step given r event).reply
unfolding step
step-fine given r Second s g e = tt
step-fine given r (Take place m) s g e = take-fine given r place m (nth r.circuits place) e
step-fine given r (Pull place) s g e = pull-fine r place s g
step-fine given r (Metric place metric) s g e = tt
step-fine given r (Overload on) s g e = tt
step-fine given r (Prefix prefix metric) s g e = tt
