-- An LSP of one's own system that another sent isn't stored live, so what is stored live is of another system.
use Rattle.std.proofs.Common.{◌≡◌, ◌≢◌, ℕ, ◌+◌, ◌/◌, ◌<◌, ◌==◌, nat_lt, Bool, true, false, not, ◌&&◌, ◌||◌, inl, inr, ⊎_elim}
use Rattle.std.proofs.Common.{Option, Some, None, is_some, if◌then◌else◌, refl, sym, ap, ◌∙◌, arith}
use Rattle.std.proofs.lemmas.Bool.Decides.{nat_tests}
use Rattle.std.specs.Option.{option_map}
use Rattle.isis_base.specs.declared.level.Level.{Level}
use Rattle.isis_base.specs.declared.level.Level.TheVariants as level
use Rattle.model_router.specs.declared.whose.Whose.{Whose}
use Rattle.model_router.specs.declared.whose.Whose.TheVariants as whose
use Rattle.model_router.specs.declared.lsp_case.LspCase.{LspCase}
use Rattle.model_router.specs.declared.lsp_case.LspCase.TheVariants as lsp
use Rattle.model_router.specs.declared.drop_name.DropName.{DropName}
use Rattle.model_router.specs.Maps.{find}
use Rattle.model_router.specs.Places.{nth}
use Rattle.model_router.specs.Ranks.{number_of, is_live, live_rank}
use Rattle.model_router.specs.Cells.{Cell, Heard, kept, purged, purge_of, flagged, srm_on, srm_off, ssn_off}
use Rattle.model_router.specs.Books.{Book, cell_at, rank_of, set_cell}
use Rattle.model_router.specs.LspTable.{is_newer, differs, lsp_case, acked, lsp_row, hear_lsp}
use Rattle.model_router.specs.Routers.{Circuit, Contents, LevelState, Router, level_of, book_of, with_level}
use Rattle.model_router.specs.Givens.{Given}
use Rattle.model_router.specs.OwnLsps.{issue_cell, install, retire, outbid, last_number}
use Rattle.model_router.specs.Takes.{answer_of, last_purge, lsp_taken, take_lsp, whose_of}
use Rattle.model_router.specs.Events.{Envelope, Message, Refused, PointHelloHeard, LanHelloHeard, LspHeard, SnpHeard}
use Rattle.model_router.specs.Events.{Event, Second, Take, Pull, Metric, Overload, Prefix}
use Rattle.model_router.specs.Receiving.{scene_of, take_or_drop, drop_of}
use Rattle.model_router.specs.Receiving as receiving
use Rattle.model_router.specs.Steps.{step}
use Rattle.model_router.specs.Deeds.{Content, content_of}
use Rattle.model_router.specs.Hearings.{Source, hearing}
use Rattle.model_router.specs.Hearings as hearings
use Rattle.model_router.specs.ContentLaws.{Comes}
use Rattle.model_router.proofs.BookLemmas.{choose, cells-after}
use Rattle.model_router.proofs.FloodLemmas.{each-row}
use Rattle.model_router.proofs.GoodCells.{purge-dead}
use Rattle.model_router.proofs.LevelWays.{issued-own}
use Rattle.model_router.proofs.OwnLemmas.{answer-mine}
use Rattle.model_router.proofs.StepWays.{step-course}
use Rattle.model_router.proofs.TellLemmas.{course-tells}
use Rattle.step_laws.specs.Origins.{Origin, Taken, Made, NewHasOrigin}

-- ---- one cell

comes-refl : (source : ℕ → Content → Type 0) (held : Option Cell) → Comes source held held
comes-refl source None = tt
comes-refl source (Some c) = λ live. inl (refl, refl)

-- what holds from another source holds from this one
comes-map : (S T : ℕ → Content → Type 0) → ((rank : ℕ) (content : Content) → S rank content → T rank content)
    → (old new : Option Cell) → Comes S old new → Comes T old new
comes-map S T f old None h = tt
comes-map S T f old (Some c) h = λ live. ⊎_elim (λ was. inl was) (λ s. inr (f c.rank (content_of c) s)) (h live)

-- what is live isn't dead
never : {A : Type 0} → (rank : ℕ) → is_live rank ≡ true → is_live rank ≡ false → A
never rank live dead = absurd (let both : true ≡ false = sym live ∙ dead in cc)

-- what is held is changed, and rank and content stay
comes-level : (source : ℕ → Content → Type 0) (f : Cell → Cell) (held : Option Cell)
    → ((c : Cell) → ((f c).rank ≡ c.rank) × (content_of (f c) ≡ content_of c)) → Comes source held (option_map f held)
comes-level source f None k = tt
comes-level source f (Some c) k = λ live. inl (sym (k c).0, sym (k c).1)

-- what is held is purged
comes-purged : (source : ℕ → Content → Type 0) (f : Cell → Cell) (held : Option Cell)
    → ((c : Cell) → is_live (f c).rank ≡ false) → Comes source held (option_map f held)
comes-purged source f None k = tt
comes-purged source f (Some c) k = λ live. never (f c).rank live (k c)

-- ---- the rows

-- a newer LSP of one's own that counts as issued is outbid
issued-outbid : (held : Option Cell) (h : Heard) → rank_of held < h.rank → lsp_case whose.Issued held h ≡ lsp.Outbid
unfolding lsp_case
issued-outbid held h newer =
    choose (λ (row : LspCase). row ≡ lsp.Outbid) (is_newer held h.rank || differs held h.rank h.checksum) lsp.Outbid _
    (λ _. refl) (λ other. absurd (grind (arith, nat_tests, newer, other)))

-- a newer live one that isn't issued is purged
unissued-purged : (held : Option Cell) (h : Heard) → rank_of held < h.rank → is_live h.rank ≡ true → lsp_case whose.Unissued held h ≡ lsp.PurgedOwn
unfolding lsp_case
unissued-purged held h newer live =
    choose (λ (row : LspCase). row ≡ lsp.PurgedOwn) (true && is_newer held h.rank && is_live h.rank) lsp.PurgedOwn _
    (λ _. refl) (λ other. absurd (grind (arith, nat_tests, newer, live, other)))

-- a live LSP that is stored is of another system
stored-other : (system : ℕ) (s : LevelState) (h : Heard) → lsp_case (whose_of system s h.id) (cell_at s.book h.id) h ≡ lsp.Stored
    → rank_of (cell_at s.book h.id) < h.rank → is_live h.rank ≡ true → h.id / 65536 ≢ system
stored-other system s h e newer live own = by-test (h.id / 65536 == system) (is_some (find s.own h.id)) (grind (arith, nat_tests, own)) e
  where
    by-test : (t u : Bool) → t ≡ true
        → lsp_case (if not t then whose.Other else (if u then whose.Issued else whose.Unissued)) (cell_at s.book h.id) h ≡ lsp.Stored → ⊥
    by-test false u k e = absurd (cc)
    by-test true true k e = absurd (let row : lsp.Stored ≡ lsp.Outbid = sym e ∙ issued-outbid (cell_at s.book h.id) h newer in cc)
    by-test true false k e = absurd (let row : lsp.Stored ≡ lsp.PurgedOwn = sym e ∙ unissued-purged (cell_at s.book h.id) h newer live in cc)

row-comes : (source : ℕ → Content → Type 0) (opened p2p place : ℕ) (w : Whose) (held : Option Cell) (h : Heard)
    → (lsp_case w held h ≡ lsp.Stored → rank_of held < h.rank → is_live h.rank ≡ true → source h.rank (content_of (kept h)))
    → Comes source held (lsp_row (lsp_case w held h) opened p2p place held h)
row-comes source opened p2p place w held h stored =
    each-row (λ row. lsp_case w held h ≡ row → Comes source held (lsp_row row opened p2p place held h)) w held h
    (λ _ _ _ _. comes-refl source held)
    (λ _ _ _ live. never (purge_of (number_of h.rank) h.flags h.octets).rank live (purge-dead (number_of h.rank)))
    (λ _ _ _. tt)
    (λ _ _ _. comes-purged source (λ (c : Cell). flagged (purged c) opened 0) held (λ c. purge-dead (number_of c.rank)))
    (λ newer e live. inr (stored e newer live))
    (λ _ _. comes-level source (λ (c : Cell). acked p2p place (srm_off c place)) held (λ c. (refl, refl)))
    (λ _ _. comes-level source (λ (c : Cell). ssn_off (srm_on c place) place) held (λ c. (refl, refl)))
    refl

-- ---- a book

abbrev BookComes : (ℕ → ℕ → Content → Type 0) → Book → Book → Type 0
BookComes source a b = (id : ℕ) → Comes (source id) (cell_at a id) (cell_at b id)

set-comes : (source : ℕ → ℕ → Content → Type 0) (b : Book) (id : ℕ) (c : Option Cell)
    → Comes (source id) (cell_at b id) c → BookComes source b (set_cell b id c)
set-comes source b id c h x = cells-after (λ y cell. Comes (source y) (cell_at b y) cell) b id c h (λ y. comes-refl (source y) (cell_at b y)) x

hear_lsp-comes : (source : ℕ → ℕ → Content → Type 0) (b : Book) (place : ℕ) (w : Whose) (h : Heard)
    → (lsp_case w (cell_at b h.id) h ≡ lsp.Stored → rank_of (cell_at b h.id) < h.rank → is_live h.rank ≡ true
    → source h.id h.rank (content_of (kept h))) → BookComes source b (hear_lsp b place w h)
unfolding hear_lsp
hear_lsp-comes source b place w h stored =
    let held = cell_at b h.id in
    set-comes source b h.id (lsp_row (lsp_case w held h) b.opened b.p2p place held h) (row-comes (source h.id) b.opened b.p2p place w held h stored)

last-dead : (held : Option Cell) (h : Heard) → is_live (last_purge held h).rank ≡ false
last-dead None h = purge-dead (number_of h.rank)
last-dead (Some c) h =
    choose (λ (d : Cell). is_live d.rank ≡ false) (nat_lt c.rank h.rank) (purge_of (number_of h.rank) h.flags h.octets) (purged c)
    (λ _. purge-dead (number_of h.rank)) (λ _. purge-dead (number_of c.rank))

outbid-comes : (source : ℕ → ℕ → Content → Type 0) (given : Given) (r : Router) (l : Level) (s : LevelState) (id above : ℕ) (contents : Contents)
    (last : Cell) → is_live last.rank ≡ false → source id (live_rank (above + 1)) (content_of (issue_cell given r l id (above + 1) contents))
    → BookComes source s.book (outbid given r l s id above contents last).book
unfolding outbid install retire
outbid-comes source given r l s id above contents last dead made =
    let new = issue_cell given r l id (above + 1) contents in
    choose (λ (t : LevelState). BookComes source s.book t.book) (above == last_number) (retire s id last) (install s id contents new)
    (λ _. set-comes source s.book id (Some (flagged last s.book.opened 0)) (λ live. never last.rank live dead))
    (λ _. set-comes source s.book id (Some (flagged new s.book.opened 0)) (λ live. inr made))

-- ---- an LSP that is taken

take_lsp-comes : (given : Given) (r : Router) (place : ℕ) (l : Level) (from : Envelope) (h : Heard)
    → BookComes (Origin given r (Take place (LspHeard l from h)) l) (book_of r l)
    (take_lsp (scene_of given r l) (level_of r l) place (whose_of r.config.system (level_of r l) h.id) h).book
unfolding take_lsp
take_lsp-comes given r place l from h =
    let s = level_of r l in
    let scene = scene_of given r l in
    let system = r.config.system in
    let w = whose_of system s h.id in
    let held = cell_at s.book h.id in
    let source : ℕ → ℕ → Content → Type 0 = Origin given r (Take place (LspHeard l from h)) l in
    let plain : BookComes source s.book (hear_lsp s.book place w h) =
    hear_lsp-comes source s.book place w h (λ e newer live. Taken place from h refl refl refl refl (stored-other system s h e newer live)) in
    each-row (λ row. BookComes source s.book (lsp_taken scene s place w h row).book) w held h
    (λ own _ _. outbid-comes source given r l s h.id (number_of h.rank) (answer_of scene h.id) (last_purge held h) (last-dead held h)
    (Made r (number_of h.rank + 1) (answer_of scene h.id) refl (answer-mine given r l h.id (issued-own system s h.id own)) refl refl))
    (λ _ _. plain)
    (λ _ _. plain)
    (λ _ _. plain)
    (λ _. plain)
    (λ _. plain)
    (λ _. plain)

-- one level changes
on-level-comes : (source : Level → ℕ → ℕ → Content → Type 0) (r : Router) (l : Level) (s : LevelState) → BookComes (source l) (book_of r l) s.book
    → (m : Level) → BookComes (source m) (book_of r m) (book_of (with_level r l s) m)
on-level-comes source r level.One s k level.One = k
on-level-comes source r level.One s k level.Two = λ id. comes-refl (source level.Two id) (cell_at (book_of r level.Two) id)
on-level-comes source r level.Two s k level.One = λ id. comes-refl (source level.One id) (cell_at (book_of r level.One) id)
on-level-comes source r level.Two s k level.Two = k

drop-origin : (given : Given) (r : Router) (place : ℕ) (c : Circuit) (l : Level) (from : Envelope) (h : Heard) (drop : Option DropName)
    → NewHasOrigin given (Take place (LspHeard l from h)) r (take_or_drop given r place c (LspHeard l from h) drop).router
drop-origin given r place c l from h (Some cause) = λ m id. comes-refl (Origin given r (Take place (LspHeard l from h)) m id) (cell_at (book_of r m) id)
drop-origin given r place c l from h None =
    let s = level_of r l in
    on-level-comes (Origin given r (Take place (LspHeard l from h))) r l
    (take_lsp (scene_of given r l) s place (whose_of r.config.system s h.id) h) (take_lsp-comes given r place l from h)

lsp-origin : (given : Given) (r : Router) (place : ℕ) (l : Level) (from : Envelope) (h : Heard) (c : Option Circuit)
    → NewHasOrigin given (Take place (LspHeard l from h)) r (receiving.take given r place (LspHeard l from h) c).router
lsp-origin given r place l from h None = λ m id. comes-refl (Origin given r (Take place (LspHeard l from h)) m id) (cell_at (book_of r m) id)
lsp-origin given r place l from h (Some c) = drop-origin given r place c l from h (drop_of r place c (LspHeard l from h))

lsp-step : (given : Given) (r : Router) (place : ℕ) (l : Level) (from : Envelope) (h : Heard)
    → NewHasOrigin given (Take place (LspHeard l from h)) r (step given r (Take place (LspHeard l from h))).router
unfolding step
lsp-step given r place l from h = lsp-origin given r place l from h (nth r.circuits place)

-- ---- all other events take no LSP

abbrev is_lsp : Message → Bool
is_lsp (Refused cause) = false
is_lsp (PointHelloHeard h) = false
is_lsp (LanHelloHeard l h) = false
is_lsp (LspHeard l from h) = true
is_lsp (SnpHeard l from source range entries) = false

abbrev takes_lsp : Event → Bool
takes_lsp Second = false
takes_lsp (Take place m) = is_lsp m
takes_lsp (Pull place) = false
takes_lsp (Metric place metric) = false
takes_lsp (Overload on) = false
takes_lsp (Prefix prefix metric) = false

source-origin : (given : Given) (r : Router) (event : Event) (l : Level) (id rank : ℕ) (content : Content) → takes_lsp event ≡ false
    → Source given r event l id rank content → Origin given r event l id rank content
source-origin given r event l id rank content none (hearings.Taken place from h e _ _ _) =
    absurd (let both : true ≡ false = sym (ap takes_lsp e) ∙ none in cc)
source-origin given r event l id rank content none (hearings.Made now number contents config own ranked said) = Made now number contents config own ranked said

other-origin : (given : Given) (r : Router) (event : Event) → takes_lsp event ≡ false → NewHasOrigin given event r (step given r event).router
other-origin given r event none l id =
    let t = (step given r event).router in
    comes-map (Source given r event l id) (Origin given r event l id) (λ rank content. source-origin given r event l id rank content none)
    (cell_at (book_of r l) id) (cell_at (book_of t l) id)
    ((course-tells (hearing given r event l) (level_of r l) (level_of t l) ((step-course given r event).on l)).comes id)

message-origin : (given : Given) (r : Router) (place : ℕ) (m : Message) → NewHasOrigin given (Take place m) r (step given r (Take place m)).router
message-origin given r place (Refused cause) = other-origin given r (Take place (Refused cause)) refl
message-origin given r place (PointHelloHeard h) = other-origin given r (Take place (PointHelloHeard h)) refl
message-origin given r place (LanHelloHeard l h) = other-origin given r (Take place (LanHelloHeard l h)) refl
message-origin given r place (LspHeard l from h) = lsp-step given r place l from h
message-origin given r place (SnpHeard l from source range entries) = other-origin given r (Take place (SnpHeard l from source range entries)) refl

pub new-has-origin : (given : Given) (r : Router) (event : Event) → NewHasOrigin given event r (step given r event).router
new-has-origin given r Second = other-origin given r Second refl
new-has-origin given r (Take place m) = message-origin given r place m
new-has-origin given r (Pull place) = other-origin given r (Pull place) refl
new-has-origin given r (Metric place metric) = other-origin given r (Metric place metric) refl
new-has-origin given r (Overload on) = other-origin given r (Overload on) refl
new-has-origin given r (Prefix prefix metric) = other-origin given r (Prefix prefix metric) refl
