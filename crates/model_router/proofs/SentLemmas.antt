-- What is sent is held after the step.
use Rattle.std.proofs.Common.{◌≡◌, ℕ, suc, zero, ◌+◌, ◌==◌, nat_lt, nat_le, Bool, true, ◌&&◌, List, [], ◌∷◌, ◌++◌, length, take, drop, inl, inr, Option, Some, None, refl, sym, ap, le_trans, le_of_eq}
use Rattle.std.specs.List.{AllByRecursion}
use Rattle.isis_base.specs.declared.level.Level.{Level}
use Rattle.isis_base.specs.declared.level.Level.TheVariants as level
use Rattle.model_router.specs.declared.drop_name.DropName.{DropName}
use Rattle.model_router.specs.declared.lsp_case.LspCase.{LspCase}
use Rattle.model_router.specs.declared.lsp_case.LspCase.TheVariants as lsp
use Rattle.model_router.specs.Maps.{find}
use Rattle.model_router.specs.Both.{at}
use Rattle.model_router.specs.Places.{nth}
use Rattle.model_router.specs.Sets.{has}
use Rattle.model_router.specs.Cells.{Cell, Heard}
use Rattle.model_router.specs.Books.{Book, rank_of}
use Rattle.model_router.specs.LspTable.{met}
use Rattle.model_router.specs.SnpTable.{SnpEntry}
use Rattle.model_router.specs.LetGos.{lets_go}
use Rattle.model_router.specs.Routers.{Circuit, LevelState, Router, level_of, book_of, with_level, with_book, with_circuit}
use Rattle.model_router.specs.Givens.{Given}
use Rattle.model_router.specs.Takes.{Scene, whose_of, lsp_taken, take_lsp}
use Rattle.model_router.specs.Datagrams.{Sent, PointHello, LanHello, Lsp, Csnp, Psnp}
use Rattle.model_router.specs.Pulls.{csnp_sent, Sending, srm_due, due_lsps, lan_hello, hellos, on_circuit, at_circuit, pull_hello, pull_csnp, pull_lsps, pull_psnp, pull_level, pull, is_csnp_due, with_part, answered}
use Rattle.model_router.specs.SnpLists.{snp_entry, entries_where, pieces, csnps, csnp_set, owed, psnps, last_id}
use Rattle.model_router.specs.Events.{Envelope, Reply, Done, Dropped, Send, Message, Refused, PointHelloHeard, LanHelloHeard, LspHeard, SnpHeard, Event, Second, Take, Pull, Metric, Overload, Prefix, Outcome, settled}
use Rattle.model_router.specs.Receiving.{taken, scene_of, acks, take_or_drop, drop_of}
use Rattle.model_router.specs.Steps.{sent_all, step}
use Rattle.model_router.specs.Deeds.{Hearing, Answers, Goes, Courses}
use Rattle.model_router.specs.Flooding.{KeepsBoth}
use Rattle.model_router.specs.Sorted.{IsSorted}
use Rattle.model_router.specs.ReplyLaws.{HasRank, IsHeld, IsReplyHeld}
use Rattle.model_router.specs.declared.whose.Whose.{Whose}
use Rattle.model_router.proofs.LevelLemmas.{let_go-has}
use Rattle.model_router.specs.Receiving as receiving
use Rattle.model_router.proofs.BookLemmas.{choose, test}
use Rattle.model_router.proofs.ListLemmas.{all-map, all-append, all-take, all-drop}
use Rattle.model_router.proofs.RisingLemmas.{all-found, course-rises}
use Rattle.model_router.proofs.WayLemmas.{course-keeps}
use Rattle.model_router.proofs.RouterWays.{both-trans, on-level, aside}
use Rattle.model_router.proofs.PullWays.{pull_lsps-course}

-- ---- what is held stays so

pub held-later : (heard : Level → ℕ → ℕ → ℕ) (r t : Router) → KeepsBoth heard r t → (l : Level) (id rank : ℕ) → HasRank r l id rank → HasRank t l id rank
held-later heard r t k l id rank (inr gone) = inr ((k.on l).grows id gone)
held-later heard r t k l id rank (inl has) =
    test (λ b. lets_go (level_of t l).gone id ≡ b → HasRank t l id rank) (lets_go (level_of t l).gone id)
    (λ _ e. inr e) (λ _ e. inl (le_trans has ((k.on l).floods.rank id e))) refl

sent-later : (heard : Level → ℕ → ℕ → ℕ) (r t : Router) → KeepsBoth heard r t → (s : Sent) → IsHeld r s → IsHeld t s
sent-later heard r t k (PointHello state extended names) h = tt
sent-later heard r t k (LanHello l lan snpas) h = tt
sent-later heard r t k (Lsp l id cell) h = held-later heard r t k l id cell.rank h
sent-later heard r t k (Csnp l start end entries) h = all-map _ _ entries (λ e. held-later heard r t k l e.id e.rank) h
sent-later heard r t k (Psnp l entries) h = all-map _ _ entries (λ e. held-later heard r t k l e.id e.rank) h

pub out-later : (heard : Level → ℕ → ℕ → ℕ) (r t : Router) → KeepsBoth heard r t → (out : List Sent) → AllByRecursion (IsHeld r) out → AllByRecursion (IsHeld t) out
out-later heard r t k out all = all-map (IsHeld r) (IsHeld t) out (sent-later heard r t k) all

-- ---- what is sent of a book is held

abbrev Found : Book → ℕ × Cell → Type 0
Found book p = find book.cells p.0 ≡ Some p.1

found-held : (r : Router) (l : Level) (p : ℕ × Cell) → Found (book_of r l) p → HasRank r l p.0 p.1.rank
found-held r l p e = inl (le_of_eq (sym (ap rank_of e)))

listed-held : (r : Router) (l : Level) (t : Cell → Bool) (cells : List (ℕ × Cell)) → AllByRecursion (Found (book_of r l)) cells → AllByRecursion (λ (h : SnpEntry). HasRank r l h.id h.rank) (entries_where t cells)
listed-held r l t [] all = tt
listed-held r l t (p ∷ cells) all =
    choose (λ (es : List SnpEntry). AllByRecursion (λ (h : SnpEntry). HasRank r l h.id h.rank) es) (t p.1) (snp_entry p.0 p.1 ∷ entries_where t cells) (entries_where t cells)
    (λ _. (found-held r l p all.0, listed-held r l t cells all.1)) (λ _. listed-held r l t cells all.1)

due-held : (r : Router) (l : Level) (place : ℕ) (cells : List (ℕ × Cell)) → AllByRecursion (Found (book_of r l)) cells → AllByRecursion (IsHeld r) (due_lsps l place cells)
due-held r l place [] all = tt
due-held r l place (p ∷ cells) all =
    choose (λ (out : List Sent). AllByRecursion (IsHeld r) out) (srm_due place p.1) (Lsp l p.0 p.1 ∷ due_lsps l place cells) (due_lsps l place cells)
    (λ _. (found-held r l p all.0, due-held r l place cells all.1)) (λ _. due-held r l place cells all.1)

abbrev AllHave : Router → Level → List SnpEntry → Type 0
AllHave r l entries = AllByRecursion (λ (h : SnpEntry). HasRank r l h.id h.rank) entries

pieces-held : (r : Router) (l : Level) (count : ℕ) (entries : List SnpEntry) → AllHave r l entries → AllByRecursion (AllHave r l) (pieces count entries)
pieces-held r l zero entries all = tt
pieces-held r l (suc count) entries all =
    choose (λ (ps : List (List SnpEntry)). AllByRecursion (AllHave r l) ps) (nat_le (length entries) 75) (entries ∷ []) (take 75 entries ∷ pieces count (drop 75 entries))
    (λ _. (all, tt)) (λ _. (all-take _ 75 entries all, pieces-held r l count (drop 75 entries) (all-drop _ 75 entries all)))

csnps-held : (r : Router) (l : Level) (start : ℕ) (ps : List (List SnpEntry)) → AllByRecursion (AllHave r l) ps → AllByRecursion (IsHeld r) (csnps l start ps)
csnps-held r l start [] all = tt
csnps-held r l start (piece ∷ []) all = (all.0, tt)
csnps-held r l start (piece ∷ next ∷ rest) all = (all.0, csnps-held r l (last_id piece + 1) (next ∷ rest) all.1)

psnps-held : (r : Router) (l : Level) (ps : List (List SnpEntry)) → AllByRecursion (AllHave r l) ps → AllByRecursion (IsHeld r) (psnps l ps)
psnps-held r l [] all = tt
psnps-held r l (piece ∷ rest) all = (all.0, psnps-held r l rest all.1)

-- the cells of a sorted book are found
pub cells-found : (r : Router) (l : Level) → IsSorted r → AllByRecursion (Found (book_of r l)) (book_of r l).cells
cells-found r l sorted = all-found (book_of r l).cells 0 (sorted.on l)

pub csnp_set-held : (r : Router) (l : Level) → IsSorted r → AllByRecursion (IsHeld r) (csnp_set l (book_of r l))
csnp_set-held r l sorted =
    let keyed : Cell → Bool = λ c. nat_lt 0 c.rank in
    csnps-held r l 0 _ (pieces-held r l (suc (length (book_of r l).cells)) (entries_where keyed (book_of r l).cells) (listed-held r l keyed (book_of r l).cells (cells-found r l sorted)))

pub due_lsps-held : (r : Router) (l : Level) (place : ℕ) → IsSorted r → AllByRecursion (IsHeld r) (due_lsps l place (book_of r l).cells)
due_lsps-held r l place sorted = due-held r l place (book_of r l).cells (cells-found r l sorted)

pub owed-held : (r : Router) (l : Level) (place : ℕ) → IsSorted r → AllByRecursion (IsHeld r) (psnps l (pieces (length (owed place (book_of r l))) (owed place (book_of r l))))
owed-held r l place sorted = psnps-held r l _ (pieces-held r l _ _ (listed-held r l _ (book_of r l).cells (cells-found r l sorted)))

-- ---- a pull

abbrev pub quiet : Level → Hearing
quiet l = record { rank = λ place id. 0; source = λ id rank content. Unit {0}; sane = ⊥; mine = λ id contents. Unit {0}; names = λ place id. Unit {0}; stirs = λ place. Unit {0} }

abbrev no_rank : Level → ℕ → ℕ → ℕ
no_rank l place id = 0

both-keep : (r t : Router) → Courses quiet r t → KeepsBoth no_rank r t
both-keep r t c = record { on = λ l. course-keeps (quiet l) (level_of r l) (level_of t l) (c.on l) }

-- what is sent so far is held, and the cells are by LSP ID
record Sound (s : Sending) : Type 0 where
  held : AllByRecursion (IsHeld s.router) s.out
  sorted : IsSorted s.router

-- more is sent, of what is held
sound-more : (s t : Sending) (more : List Sent) → t.out ≡ s.out ++ more → Courses quiet s.router t.router → AllByRecursion (IsHeld s.router) more → Sound s → Sound t
sound-more s t more e c new h = record {
  held = rw e (all-append (IsHeld t.router) s.out more (out-later no_rank s.router t.router (both-keep s.router t.router c) s.out h.held) (out-later no_rank s.router t.router (both-keep s.router t.router c) more new));
  sorted = record { on = λ l. course-rises (quiet l) (level_of s.router l) (level_of t.router l) (c.on l) (h.sorted.on l) };
}

lan_hello-held : (r t : Router) (place : ℕ) (c : Circuit) (l : Level) → AllByRecursion (IsHeld t) (lan_hello r place c l)
lan_hello-held r t place c l = choose (λ (out : List Sent). AllByRecursion (IsHeld t) out) (at r.config.runs l) _ [] (λ _. (tt, tt)) (λ _. tt)

hellos-held : (r t : Router) (place : ℕ) (c : Circuit) → AllByRecursion (IsHeld t) (hellos r place c)
hellos-held r t place c = choose (λ (out : List Sent). AllByRecursion (IsHeld t) out) c.lan _ _
    (λ _. all-append (IsHeld t) (lan_hello r place c level.One) (lan_hello r place c level.Two) (lan_hello-held r t place c level.One) (lan_hello-held r t place c level.Two))
    (λ _. (tt, tt))

at_circuit-sound : (s : Sending) (place : ℕ) (f : Circuit → Sending) → Sound s → ((c : Circuit) → Sound (f c)) → Sound (at_circuit s place f)
at_circuit-sound s place f h g = on-it (nth s.router.circuits place)
  where
    on-it : (c : Option Circuit) → Sound (on_circuit c s f)
    on-it None = h
    on-it (Some c) = g c

pull_hello-sound : (s : Sending) (place : ℕ) (c : Circuit) → Sound s → Sound (pull_hello s place c)
unfolding pull_hello
pull_hello-sound s place c h = choose Sound (c.hello == 0) _ s
    (λ _. sound-more s (record { router = with_circuit s.router place (record c { hello = 10 }); out = s.out ++ hellos s.router place c }) (hellos s.router place c) refl (aside quiet s.router _ refl) (hellos-held s.router s.router place c) h)
    (λ _. h)

pull_csnp-sound : (s : Sending) (place : ℕ) (l : Level) (c : Circuit) → Sound s → Sound (pull_csnp s place l c)
unfolding pull_csnp
pull_csnp-sound s place l c h =
    let t : Sending = record { router = with_circuit s.router place (with_part c l (csnp_sent c.lan (at c.levels l))); out = s.out ++ csnp_set l (book_of s.router l) } in
    choose Sound (is_csnp_due s.router.config place c l) t s
    (λ _. sound-more s t (csnp_set l (book_of s.router l)) refl (aside quiet s.router t.router refl) (csnp_set-held s.router l h.sorted) h)
    (λ _. h)

lsps-out : (s : Sending) (place : ℕ) (l : Level) → (pull_lsps s place l).out ≡ s.out ++ due_lsps l place (book_of s.router l).cells
unfolding pull_lsps
lsps-out s place l = refl

pull_lsps-sound : (s : Sending) (place : ℕ) (l : Level) → Sound s → Sound (pull_lsps s place l)
pull_lsps-sound s place l h = sound-more s (pull_lsps s place l) (due_lsps l place (book_of s.router l).cells) (lsps-out s place l) (pull_lsps-course quiet s place l) (due_lsps-held s.router l place h.sorted) h

pull_psnp-sound : (s : Sending) (place : ℕ) (l : Level) (c : Circuit) → Sound s → Sound (pull_psnp s place l c)
unfolding pull_psnp
pull_psnp-sound s place l c h =
    let entries = owed place (book_of s.router l) in
    let mid = with_circuit s.router place (with_part c l (record (at c.levels l) { psnp = 2 })) in
    let t : Sending = record { router = with_book mid l (answered (book_of s.router l) place); out = s.out ++ psnps l (pieces (length entries) entries) } in
    choose Sound (nat_lt 0 (length entries) && (at c.levels l).psnp == 0) t s
    (λ _. sound-more s t (psnps l (pieces (length entries) entries)) refl (both-trans quiet s.router mid t.router (aside quiet s.router mid refl) (on-level quiet mid l _ (Goes _ _ (Answers (level_of mid l) place tt)))) (owed-held s.router l place h.sorted) h)
    (λ _. h)

pull_level-sound : (s : Sending) (place : ℕ) (l : Level) → Sound s → Sound (pull_level s place l)
unfolding pull_level
pull_level-sound s place l h =
    let csnp = at_circuit s place (pull_csnp s place l) in
    let lsps = pull_lsps csnp place l in
    choose Sound (has (book_of s.router l).opened place) (at_circuit lsps place (pull_psnp lsps place l)) s
    (λ _. let one = at_circuit-sound s place (pull_csnp s place l) h (λ c. pull_csnp-sound s place l c h) in
    let two = pull_lsps-sound csnp place l one in
    at_circuit-sound lsps place (pull_psnp lsps place l) two (λ c. pull_psnp-sound lsps place l c two))
    (λ _. h)

pub pull-sound : (r : Router) (place : ℕ) → IsSorted r → AllByRecursion (IsHeld (pull r place).router) (pull r place).out
unfolding pull
pull-sound r place sorted =
    let start : Sending = record { router = r; out = [] } in
    let zero : Sound start = record { held = tt; sorted = sorted } in
    let one = at_circuit-sound start place (pull_hello start place) zero (λ c. pull_hello-sound start place c zero) in
    (pull_level-sound _ place level.Two (pull_level-sound _ place level.One one)).held

-- ---- the reply of a step

level-set : (P : LevelState → Type 0) (r : Router) (l : Level) (s : LevelState) → P s → P (level_of (with_level r l s) l)
level-set P r level.One s h = h
level-set P r level.Two s h = h

row-held : (scene : Scene) (r : Router) (place : ℕ) (c : Circuit) (l : Level) (w : Whose) (h : Heard) (row : LspCase) → IsReplyHeld (with_level r l (lsp_taken scene (level_of r l) place w h row)) (acks c l h row)
row-held scene r place c l w h lsp.AckPurge =
    choose (IsReplyHeld (with_level r l (lsp_taken scene (level_of r l) place w h lsp.AckPurge))) c.lan Done _
    (λ _. tt)
    (λ _. ((inr (level-set (λ t. lets_go t.gone h.id ≡ true) r l (lsp_taken scene (level_of r l) place w h lsp.AckPurge) (let_go-has (level_of r l).gone h.id)), tt), tt))
row-held scene r place c l w h lsp.Outbid = tt
row-held scene r place c l w h lsp.PurgedOwn = tt
row-held scene r place c l w h lsp.Confused = tt
row-held scene r place c l w h lsp.Stored = tt
row-held scene r place c l w h lsp.Same = tt
row-held scene r place c l w h lsp.Older = tt

acks-held : (given : Given) (r : Router) (place : ℕ) (c : Circuit) (l : Level) (from : Envelope) (h : Heard) → IsReplyHeld (taken given r place c (LspHeard l from h)).router (taken given r place c (LspHeard l from h)).reply
unfolding take_lsp
acks-held given r place c l from h =
    let w = whose_of r.config.system (level_of r l) h.id in
    row-held (scene_of given r l) r place c l w h (met (level_of r l).book w h)

taken-reply : (given : Given) (r : Router) (place : ℕ) (c : Circuit) (m : Message) → IsReplyHeld (taken given r place c m).router (taken given r place c m).reply
taken-reply given r place c (Refused cause) = tt
taken-reply given r place c (PointHelloHeard h) = tt
taken-reply given r place c (LanHelloHeard l h) = tt
taken-reply given r place c (LspHeard l from h) = acks-held given r place c l from h
taken-reply given r place c (SnpHeard l from source range entries) = tt

-- what is settled is as it was, but for counters
settled-reply : (o : Outcome) → IsReplyHeld o.router o.reply → IsReplyHeld (settled o).router (settled o).reply
settled-reply o h = by-reply o.reply h
  where
    by-reply : (reply : Reply) → IsReplyHeld o.router reply → IsReplyHeld (settled o).router reply
    by-reply Done h = tt
    by-reply (Dropped cause) h = tt
    by-reply (Send out) h = out-later no_rank o.router (settled o).router (both-keep o.router (settled o).router (aside quiet o.router (settled o).router refl)) out h

take_or_drop-reply : (given : Given) (r : Router) (place : ℕ) (c : Circuit) (m : Message) (drop : Option DropName) → IsReplyHeld (take_or_drop given r place c m drop).router (take_or_drop given r place c m drop).reply
take_or_drop-reply given r place c m (Some cause) = tt
take_or_drop-reply given r place c m None = settled-reply (taken given r place c m) (taken-reply given r place c m)

take-reply : (given : Given) (r : Router) (place : ℕ) (m : Message) (c : Option Circuit) → IsReplyHeld (receiving.take given r place m c).router (receiving.take given r place m c).reply
take-reply given r place m None = tt
take-reply given r place m (Some c) = take_or_drop-reply given r place c m (drop_of r place c m)

pub step-reply : (given : Given) (r : Router) (event : Event) → IsSorted r → IsReplyHeld (step given r event).router (step given r event).reply
unfolding step
step-reply given r Second sorted = tt
step-reply given r (Take place m) sorted = take-reply given r place m (nth r.circuits place)
step-reply given r (Pull place) sorted = settled-reply (sent_all (pull r place)) (pull-sound r place sorted)
step-reply given r (Metric place metric) sorted = tt
step-reply given r (Overload on) sorted = tt
step-reply given r (Prefix prefix metric) sorted = tt
