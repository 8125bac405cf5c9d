-- No part of a step lets a rank fall but the ageing of entries, where a purge ends.
use Rattle.std.proofs.Common.{◌≡◌, ℕ, zero, suc, ◌+◌, ◌*◌, ◌<◌, ◌≤◌, ◌==◌, eqb, nat_lt, nat_le, Bool, true, false, not, ◌&&◌, ◌⊎◌, inl, inr}
use Rattle.std.proofs.Common.{List, [], ◌∷◌, length, Option, Some, None, if◌then◌else◌, refl, sym, ap, ap₂, ◌∙◌, subst, arith, le_refl, le_trans}
use Rattle.std.proofs.lemmas.Bool.Decides.{nat_tests}
use Rattle.std.specs.Option.{option_map}
use Rattle.isis_base.specs.declared.level.Level.{Level}
use Rattle.isis_base.specs.declared.level.Level.TheVariants as level
use Rattle.model_router.specs.declared.whose.Whose.{Whose}
use Rattle.model_router.specs.declared.drop_name.DropName.{DropName}
use Rattle.model_router.specs.Maps.{find, each}
use Rattle.model_router.specs.Both.{at, alone}
use Rattle.model_router.specs.Places.{nth}
use Rattle.model_router.specs.Sets.{has}
use Rattle.model_router.specs.Ranks.{number_of, is_purge, is_live}
use Rattle.model_router.specs.Cells.{Cell, Heard, purged, flagged, srm_on, srm_off, srm_sent}
use Rattle.model_router.specs.Books.{Book, cell_at, rank_of, rank_at, is_full, set_cell}
use Rattle.model_router.specs.LspTable.{hear_lsp}
use Rattle.model_router.specs.SnpTable.{SnpEntry, hear_entry, hear_range}
use Rattle.model_router.specs.LetGos.{lets_go}
use Rattle.model_router.specs.Openings.{marked, close, open_up, set_open}
use Rattle.model_router.specs.Adjacencies.{common_of, Handshake, Hello, is_same}
use Rattle.model_router.specs.Routers.{Circuit, Contents, Issued, LevelState, Router, level_of, book_of, with_level, with_circuit, is_open}
use Rattle.model_router.specs.Hellos.{follow_circuit, follow, point_circuit, lan_circuit, take_point, take_lan}
use Rattle.model_router.specs.Givens.{Given}
use Rattle.model_router.specs.Wanted.{wanted}
use Rattle.model_router.specs.OwnLsps.{Next, Wait, Number, Exhaust, is_due, is_held, issue_cell, install, retire, retire_held, do_next}
use Rattle.model_router.specs.OwnLsps.{look, look_all, withdraw_one, withdraw_all, renew, outbid, last_number}
use Rattle.model_router.specs.Takes.{Scene, last_purge, lsp_taken, take_lsp, held_purge, entry_taken, take_entry, take_entries, take_range, take_snp, whose_of}
use Rattle.model_router.specs.Ageing.{wait_less, less, aged, is_let_go, age_cell, age_one, age_all, age}
use Rattle.model_router.specs.Seconds.{circuit_less, waited, count_down, hold, hold_one, hold_all, age_both, renew_both, second}
use Rattle.model_router.specs.Pulls.{srm_due, sent, answered, Sending, with_part, is_csnp_due, at_circuit}
use Rattle.model_router.specs.Pulls.{pull_hello, pull_csnp, pull_lsps, pull_psnp, pull_level, pull}
use Rattle.model_router.specs.SnpLists.{owed}
use Rattle.model_router.specs.Events.{Message, Refused, PointHelloHeard, LanHelloHeard, LspHeard, SnpHeard, Event, Second, Take, Pull, Metric, Overload, Prefix}
use Rattle.model_router.specs.Receiving.{greeted, scene_of, taken, take_or_drop, drop_of}
use Rattle.model_router.specs.Receiving as receiving
use Rattle.model_router.specs.Steps.{with_metric, step}
use Rattle.model_router.specs.Sorted.{RisesFrom, IsSorted}
use Rattle.model_router.specs.Flooding.{Floods}
use Rattle.model_router.specs.Deeds.{Hearing, with_this}
use Rattle.model_router.proofs.MapLemmas.{find-each}
use Rattle.model_router.proofs.BookLemmas.{choose, test, cell_at-set_cell, cells-after}
use Rattle.model_router.proofs.FloodLemmas.{each-row, each-snp, lsp-floods, entry-floods, range-floods}
use Rattle.model_router.proofs.LevelLemmas.{last-rank, held-rank}
use Rattle.model_router.proofs.RouterWays.{waited-way, hold_all-course}
use Rattle.model_router.proofs.RisingLemmas.{way-rises, course-rises}
use Rattle.model_router.proofs.KeyLemmas.{at_circuit-tells}
use Rattle.model_router.proofs.StepLemmas.{rank-stays}
use Rattle.step_laws.specs.Falls.{is_ending, IsLetGoNow, FallIsLetGo}

-- ---- what holds from a level to another

-- no rank falls
abbrev Up : LevelState → LevelState → Type 0
Up a b = (id : ℕ) → rank_at a.book id ≤ rank_at b.book id

-- the rank and the seconds left of what is held
abbrev clock_of : Option Cell → Option (ℕ × ℕ)
clock_of held = option_map (λ (c : Cell). (c.rank, c.left)) held

-- ranks and seconds left stay
abbrev Stands : LevelState → LevelState → Type 0
Stands a b = (id : ℕ) → clock_of (cell_at b.book id) ≡ clock_of (cell_at a.book id)

abbrev rank_in : Option (ℕ × ℕ) → ℕ
rank_in None = 0
rank_in (Some clock) = clock.0

abbrev ending_in : Option (ℕ × ℕ) → Bool
ending_in None = false
ending_in (Some clock) = nat_le clock.1 1 && is_purge clock.0

rank-in : (held : Option Cell) → rank_in (clock_of held) ≡ rank_of held
rank-in None = refl
rank-in (Some c) = refl

ending-in : (held : Option Cell) → ending_in (clock_of held) ≡ is_ending held
ending-in None = refl
ending-in (Some c) = refl

rank-stands : (old new : Option Cell) → clock_of new ≡ clock_of old → rank_of new ≡ rank_of old
rank-stands old new e = sym (rank-in new) ∙ ap rank_in e ∙ rank-in old

ending-stands : (old new : Option Cell) → clock_of new ≡ clock_of old → is_ending new ≡ is_ending old
ending-stands old new e = sym (ending-in new) ∙ ap ending_in e ∙ ending-in old

stands-up : (a b : LevelState) → Stands a b → Up a b
stands-up a b h id = let e = rank-stands (cell_at a.book id) (cell_at b.book id) (h id) in omega (arith, e)

stands-refl : (s : LevelState) → Stands s s
stands-refl s id = refl

stands-trans : (a b c : LevelState) → Stands a b → Stands b c → Stands a c
stands-trans a b c f g id = g id ∙ f id

up-refl : (s : LevelState) → Up s s
up-refl s id = le_refl _

up-trans : (a b c : LevelState) → Up a b → Up b c → Up a c
up-trans a b c f g id = le_trans (f id) (g id)

-- ---- what holds of both levels

abbrev On : (LevelState → LevelState → Type 0) → Router → Router → Type 0
On P r t = (l : Level) → P (level_of r l) (level_of t l)

-- one level changes
on-level : (P : LevelState → LevelState → Type 0) → ((s : LevelState) → P s s) → (r : Router) (l : Level) (s : LevelState)
    → P (level_of r l) s → (m : Level) → P (level_of r m) (level_of (with_level r l s) m)
on-level P same r level.One s k level.One = k
on-level P same r level.One s k level.Two = same (level_of r level.Two)
on-level P same r level.Two s k level.One = same (level_of r level.One)
on-level P same r level.Two s k level.Two = k

stay : (r : Router) → On Stands r r
stay r l = stands-refl (level_of r l)

stay-on : (a b c : Router) → On Stands a b → On Stands b c → On Stands a c
stay-on a b c f g l = stands-trans (level_of a l) (level_of b l) (level_of c l) (f l) (g l)

both-up : (r t : Router) → On Stands r t → On Up r t
both-up r t h l = stands-up (level_of r l) (level_of t l) (h l)

-- ---- deeds by which ranks and seconds left stay

each-stands : (f : ℕ → Cell → Cell) (m : List (ℕ × Cell))
    → ((id : ℕ) (c : Cell) → ((f id c).rank ≡ c.rank) × ((f id c).left ≡ c.left)) → (id : ℕ) → clock_of (find (each f m) id) ≡ clock_of (find m id)
each-stands f m k id = ap clock_of (find-each f m id) ∙ mapped (find m id)
  where
    mapped : (held : Option Cell) → clock_of (option_map (f id) held) ≡ clock_of held
    mapped None = refl
    mapped (Some c) = ap₂ (λ (rank left : ℕ). Some (rank, left)) (k id c).0 (k id c).1

-- a choice between a cell and one of its rank and seconds left
either-stands : (t : Bool) (c d : Cell) → (d.rank ≡ c.rank) × (d.left ≡ c.left) → ((if t then d else c).rank ≡ c.rank) × ((if t then d else c).left ≡ c.left)
either-stands true c d h = h
either-stands false c d h = (refl, refl)

wait_less-stands : (s : LevelState) → Stands s (with_this s (wait_less s.book))
unfolding wait_less
wait_less-stands s = each-stands _ s.book.cells (λ id c. (refl, refl))

close-stands : (s : LevelState) (place : ℕ) → Stands s (with_this s (close s.book place))
unfolding close
close-stands s place = each-stands _ s.book.cells (λ id c. (refl, refl))

open_up-stands : (s : LevelState) (place : ℕ) → Stands s (with_this s (open_up s.book place))
unfolding open_up
open_up-stands s place = each-stands _ s.book.cells (λ id c.
    either-stands (has s.book.p2p place) c (marked c place) (either-stands (nat_lt 0 c.rank) c (srm_on c place) (refl, refl)))

sent-stands : (s : LevelState) (place : ℕ) → Stands s (with_this s (sent s.book place))
unfolding sent
sent-stands s place = each-stands _ s.book.cells (λ id c.
    let P : Cell → Type 0 = λ d. (d.rank ≡ c.rank) × (d.left ≡ c.left) in
    either-stands (srm_due place c) c _ (choose P (has s.book.p2p place) (srm_sent c place) (srm_off c place) (λ _. (refl, refl)) (λ _. (refl, refl))))

answered-stands : (s : LevelState) (place : ℕ) → Stands s (with_this s (answered s.book place))
unfolding answered
answered-stands s place = each-stands _ s.book.cells (λ id c. (refl, refl))

-- ---- openings

set_open-stands : (s : LevelState) (place : ℕ) (up : Bool) → Stands s (with_this s (set_open s.book place up))
set_open-stands s place up =
    let b = s.book in
    let P : Book → Type 0 = λ t. Stands s (with_this s t) in
    choose P up (if has b.opened place then b else open_up b place) (if has b.opened place then close b place else b)
    (λ _. choose P (has b.opened place) b (open_up b place) (λ _. stands-refl s) (λ _. open_up-stands s place))
    (λ _. choose P (has b.opened place) (close b place) b (λ _. close-stands s place) (λ _. stands-refl s))

follow_circuit-stands : (s : LevelState) (anew : Bool) (place : ℕ) (up : Bool) → Stands s (with_this s (follow_circuit anew s.book place up))
follow_circuit-stands s anew place up =
    let first : LevelState = with_this s (if anew then close s.book place else s.book) in
    stands-trans s first (with_this first (set_open first.book place up))
    (choose (λ (t : Book). Stands s (with_this s t)) anew (close s.book place) s.book (λ _. close-stands s place) (λ _. stands-refl s))
    (set_open-stands first place up)

follow-stands : (r : Router) (anew : Bool) (place : ℕ) (c : Circuit) → On Stands r (follow r anew place c)
follow-stands r anew place c =
    let one = with_this (level_of r level.One) (follow_circuit anew (book_of r level.One) place (is_open c level.One)) in
    let first = with_level r level.One one in
    let two = with_this (level_of first level.Two) (follow_circuit anew (book_of first level.Two) place (is_open c level.Two)) in
    stay-on r first (with_level first level.Two two)
    (on-level Stands stands-refl r level.One one (follow_circuit-stands (level_of r level.One) anew place (is_open c level.One)))
    (on-level Stands stands-refl first level.Two two (follow_circuit-stands (level_of first level.Two) anew place (is_open c level.Two)))

take_point-stands : (r : Router) (place : ℕ) (c : Circuit) (h : Hello) (s : Handshake) → On Stands r (take_point r place c h s)
unfolding take_point
take_point-stands r place c h s =
    let common = common_of r.config h in
    let new = point_circuit c common h s in
    follow-stands (with_circuit r place new) (not (is_same c.point.neighbour common h s.extended)) place new

take_lan-stands : (r : Router) (place : ℕ) (c : Circuit) (l : Level) (h : Hello) → On Stands r (take_lan r place c l h)
unfolding take_lan
take_lan-stands r place c l h =
    let new = lan_circuit c l (alone l (common_of r.config h)) h in
    follow-stands (with_circuit r place new) false place new

greeted-stands : (r : Router) (place : ℕ) (c : Circuit) (h : Hello) (s : Option Handshake) → On Stands r (greeted r place c h s)
greeted-stands r place c h None = stay r
greeted-stands r place c h (Some s) = take_point-stands r place c h s

-- ---- a pull

pull_hello-stands : (s : Sending) (place : ℕ) (c : Circuit) → On Stands s.router (pull_hello s place c).router
unfolding pull_hello
pull_hello-stands s place c = choose (λ (t : Sending). On Stands s.router t.router) (c.hello == 0) _ s (λ _. stay s.router) (λ _. stay s.router)

pull_csnp-stands : (s : Sending) (place : ℕ) (l : Level) (c : Circuit) → On Stands s.router (pull_csnp s place l c).router
unfolding pull_csnp
pull_csnp-stands s place l c =
    choose (λ (t : Sending). On Stands s.router t.router) (is_csnp_due s.router.config place c l) _ s (λ _. stay s.router) (λ _. stay s.router)

pull_lsps-stands : (s : Sending) (place : ℕ) (l : Level) → On Stands s.router (pull_lsps s place l).router
unfolding pull_lsps
pull_lsps-stands s place l =
    on-level Stands stands-refl s.router l (with_this (level_of s.router l) (sent (book_of s.router l) place)) (sent-stands (level_of s.router l) place)

pull_psnp-stands : (s : Sending) (place : ℕ) (l : Level) (c : Circuit) → On Stands s.router (pull_psnp s place l c).router
unfolding pull_psnp
pull_psnp-stands s place l c =
    let mid = with_circuit s.router place (with_part c l (record (at c.levels l) { psnp = 2 })) in
    choose (λ (t : Sending). On Stands s.router t.router) (nat_lt 0 (length (owed place (book_of s.router l))) && (at c.levels l).psnp == 0) _ s
    (λ _. on-level Stands stands-refl mid l (with_this (level_of mid l) (answered (book_of mid l) place)) (answered-stands (level_of mid l) place))
    (λ _. stay s.router)

pull_level-stands : (s : Sending) (place : ℕ) (l : Level) → On Stands s.router (pull_level s place l).router
unfolding pull_level
pull_level-stands s place l =
    let P : Sending → Type 0 = λ u. On Stands s.router u.router in
    let csnp = at_circuit s place (pull_csnp s place l) in
    let lsps = pull_lsps csnp place l in
    choose P (has (book_of s.router l).opened place) (at_circuit lsps place (pull_psnp lsps place l)) s
    (λ _. let one : P csnp = at_circuit-tells P s place (pull_csnp s place l) (stay s.router) (λ c. pull_csnp-stands s place l c) in
    let two : P lsps = stay-on s.router csnp.router lsps.router one (pull_lsps-stands csnp place l) in
    at_circuit-tells P lsps place (pull_psnp lsps place l) two (λ c.
    stay-on s.router lsps.router (pull_psnp lsps place l c).router two (pull_psnp-stands lsps place l c)))
    (λ _. stay s.router)

pull-stands : (r : Router) (place : ℕ) → On Stands r (pull r place).router
unfolding pull
pull-stands r place =
    let start : Sending = record { router = r; out = [] } in
    let P : Sending → Type 0 = λ u. On Stands r u.router in
    let hello = at_circuit start place (pull_hello start place) in
    let one = pull_level hello place level.One in
    let first : P hello = at_circuit-tells P start place (pull_hello start place) (stay r) (λ c. pull_hello-stands start place c) in
    stay-on r one.router (pull_level one place level.Two).router
    (stay-on r hello.router one.router first (pull_level-stands hello place level.One)) (pull_level-stands one place level.Two)

-- ---- a second, up to the ageing of entries

count_down-stands : (r : Router) (l : Level) → Stands (level_of r l) (level_of (count_down r) l)
unfolding count_down
count_down-stands r level.One = wait_less-stands r.levels.one
count_down-stands r level.Two = wait_less-stands r.levels.two

hold-stands : (r : Router) (place : ℕ) (c : Circuit) → On Stands r (hold r place c)
unfolding hold
hold-stands r place c = let new = circuit_less c in follow-stands (with_circuit r place new) false place new

hold_one-stands : (r : Router) (place : ℕ) (c : Option Circuit) → On Stands r (hold_one r place c)
hold_one-stands r place None = stay r
hold_one-stands r place (Some c) = hold-stands r place c

hold_all-stands : (r : Router) (count : ℕ) → On Stands r (hold_all r count)
hold_all-stands r zero = stay r
hold_all-stands r (suc place) =
    let first = hold_all r place in
    stay-on r first (hold_one first place (nth first.circuits place)) (hold_all-stands r place) (hold_one-stands first place (nth first.circuits place))

-- ---- deeds by which a rank may rise

set-up : (b : Book) (id : ℕ) (c : Option Cell) → rank_at b id ≤ rank_of c → (x : ℕ) → rank_at b x ≤ rank_at (set_cell b id c) x
set-up b id c h x = cells-after (λ y cell. rank_at b y ≤ rank_of cell) b id c h (λ y. le_refl _) x

floods-up : (heard : ℕ → ℕ → ℕ) (a b : Book) → Floods heard (λ (_ : ℕ). false) a b → (x : ℕ) → rank_at a x ≤ rank_at b x
floods-up heard a b f x = f.rank x refl

hear_lsp-up : (s : LevelState) (place : ℕ) (w : Whose) (h : Heard) → Up s (with_this s (hear_lsp s.book place w h))
hear_lsp-up s place w h =
    let heard : ℕ → ℕ → ℕ = λ _ _. h.rank in
    floods-up heard s.book (hear_lsp s.book place w h) (lsp-floods heard (λ (_ : ℕ). false) s.book place w h (le_refl h.rank))

hear_entry-up : (s : LevelState) (place : ℕ) (w : Whose) (h : SnpEntry) → Up s (with_this s (hear_entry s.book place w h))
hear_entry-up s place w h =
    let heard : ℕ → ℕ → ℕ = λ _ _. h.rank in
    floods-up heard s.book (hear_entry s.book place w h) (entry-floods heard (λ (_ : ℕ). false) s.book place w h (le_refl h.rank))

outbid-up : (given : Given) (r : Router) (l : Level) (s : LevelState) (id above : ℕ) (contents : Contents) (last : Cell)
    → rank_at s.book id ≤ 2 * above + 1 → rank_at s.book id ≤ last.rank → Up s (outbid given r l s id above contents last)
unfolding outbid install retire
outbid-up given r l s id above contents last h k =
    choose (λ (t : LevelState). Up s t) (above == last_number) (retire s id last) (install s id contents (issue_cell given r l id (above + 1) contents))
    (λ _. set-up s.book id (Some (flagged last s.book.opened 0)) k)
    (λ _. set-up s.book id (Some (flagged (issue_cell given r l id (above + 1) contents) s.book.opened 0)) (omega (arith, h)))

take_lsp-up : (scene : Scene) (s : LevelState) (place : ℕ) (w : Whose) (h : Heard) → Up s (take_lsp scene s place w h)
unfolding take_lsp
take_lsp-up scene s place w h =
    let plain = hear_lsp-up s place w h in
    each-row (λ row. Up s (lsp_taken scene s place w h row)) w (cell_at s.book h.id) h
    (λ own e t. let held = cell_at s.book h.id in
    outbid-up scene.given scene.router scene.level s h.id (number_of h.rank) _ (last_purge held h) (omega (arith, e)) (last-rank held h e))
    (λ _ _. plain)
    (λ _ _. plain)
    (λ _ _. plain)
    (λ _. plain)
    (λ _. plain)
    (λ _. plain)

take_entry-up : (scene : Scene) (s : LevelState) (system place : ℕ) (h : SnpEntry) → Up s (take_entry scene s system place h)
unfolding take_entry
take_entry-up scene s system place h =
    let w = whose_of system s h.id in
    let plain = hear_entry-up s place w h in
    each-snp (λ row. Up s (entry_taken scene s place w h row)) w (cell_at s.book h.id) h
    plain
    (λ own e live. let held = cell_at s.book h.id in
    outbid-up scene.given scene.router scene.level s h.id (number_of h.rank) _ (held_purge held) (omega (arith, e)) (held-rank held))
    (λ _ _. plain)
    (λ _. plain)
    (λ _. plain)
    (λ _. plain)
    plain
    plain

take_entries-up : (scene : Scene) (s : LevelState) (system place : ℕ) (entries : List SnpEntry) → Up s (take_entries scene s system place entries)
take_entries-up scene s system place [] = up-refl s
take_entries-up scene s system place (h ∷ entries) =
    let first = take_entry scene s system place h in
    up-trans s first (take_entries scene first system place entries) (take_entry-up scene s system place h) (take_entries-up scene first system place entries)

take_range-up : (s : LevelState) (place : ℕ) (range : Option (ℕ × ℕ)) (entries : List SnpEntry) → Up s (take_range s place range entries)
take_range-up s place None entries = up-refl s
take_range-up s place (Some range) entries =
    let heard : ℕ → ℕ → ℕ = λ _ _. 0 in
    floods-up heard s.book (hear_range s.book place range.0 range.1 entries) (range-floods heard (λ (_ : ℕ). false) s.book place range.0 range.1 entries)

take_snp-up : (scene : Scene) (s : LevelState) (system place : ℕ) (range : Option (ℕ × ℕ)) (entries : List SnpEntry)
    → Up s (take_snp scene s system place range entries)
unfolding take_snp
take_snp-up scene s system place range entries =
    let first = take_entries scene s system place entries in
    up-trans s first (take_range first place range entries) (take_entries-up scene s system place entries) (take_range-up first place range entries)

-- ---- own LSPs are followed

retire_held-up : (s : LevelState) (id : ℕ) (held : Option Cell) → cell_at s.book id ≡ held → Up s (retire_held s id held)
unfolding retire
retire_held-up s id None e = up-refl s
retire_held-up s id (Some c) e =
    choose (λ (t : LevelState). Up s t) (is_live c.rank) (retire s id (purged c)) _
    (λ _. set-up s.book id (Some (flagged (purged c) s.book.opened 0)) (let r : rank_at s.book id ≡ c.rank = ap rank_of e in omega (arith, r)))
    (λ _. up-refl s)

look-up : (given : Given) (r : Router) (l : Level) (s : LevelState) (want : ℕ × Contents) → Up s (look given r l s want)
unfolding look install
look-up given r l s want =
    let held = cell_at s.book want.0 in
    let number = number_of (rank_of held) + 1 in
    let P : Next → Type 0 = λ n. Up s (do_next given r l want.0 want.1 s n) in
    choose P (not (is_due (find s.own want.0) want.1)) Wait _ (λ _. up-refl s) (λ _.
    choose P (number_of (rank_of held) == last_number) Exhaust _ (λ _. retire_held-up s want.0 held refl) (λ _.
    choose P (is_full s.book && not (is_held held)) Wait (Number number) (λ _. up-refl s)
    (λ _. set-up s.book want.0 (Some (flagged (issue_cell given r l want.0 number want.1) s.book.opened 0)) (omega arith))))

look_all-up : (given : Given) (r : Router) (l : Level) (s : LevelState) (wants : List (ℕ × Contents)) → Up s (look_all given r l s wants)
look_all-up given r l s [] = up-refl s
look_all-up given r l s (want ∷ wants) =
    let first = look given r l s want in
    up-trans s first (look_all given r l first wants) (look-up given r l s want) (look_all-up given r l first wants)

withdraw_one-up : (s : LevelState) (id : ℕ) (want : Option Contents) → Up s (withdraw_one s id want)
withdraw_one-up s id (Some _) = up-refl s
withdraw_one-up s id None = retire_held-up s id (cell_at s.book id) refl

withdraw_all-up : (s : LevelState) (wants : List (ℕ × Contents)) (own : List (ℕ × Issued)) → Up s (withdraw_all s wants own)
withdraw_all-up s wants [] = up-refl s
withdraw_all-up s wants (pair ∷ own) =
    let first = withdraw_one s pair.0 (find wants pair.0) in
    up-trans s first (withdraw_all first wants own) (withdraw_one-up s pair.0 (find wants pair.0)) (withdraw_all-up first wants own)

renew-up : (given : Given) (r : Router) (l : Level) (s : LevelState) (wants : List (ℕ × Contents)) → Up s (renew given r l s wants)
renew-up given r l s wants =
    let after = look_all given r l s wants in
    up-trans s after (withdraw_all after wants after.own) (look_all-up given r l s wants) (withdraw_all-up after wants after.own)

renew_both-up : (given : Given) (before r : Router) → On Up r (renew_both given before r)
renew_both-up given before r l =
    let one = renew given r level.One (level_of r level.One) (wanted given before r level.One) in
    let first = with_level r level.One one in
    let two = renew given first level.Two (level_of first level.Two) (wanted given before first level.Two) in
    up-trans (level_of r l) (level_of first l) (level_of (with_level first level.Two two) l)
    (on-level Up up-refl r level.One one (renew-up given r level.One (level_of r level.One) (wanted given before r level.One)) l)
    (on-level Up up-refl first level.Two two (renew-up given first level.Two (level_of first level.Two) (wanted given before first level.Two)) l)

-- ---- a second of the entries

self : (n : ℕ) → eqb n n ≡ true
self n = grind (arith, nat_tests)

set-here : (b : Book) (id : ℕ) (c : Option Cell) → cell_at (set_cell b id c) id ≡ c
set-here b id c = cell_at-set_cell b id c id ∙ ap (λ (t : Bool). if t then c else cell_at b id) (self id)

empty-rank : (c : Cell) → nat_le 2 c.left ≡ false → is_live c.rank ≡ false → is_let_go c ≡ false → c.rank ≡ 0
empty-rank c t u v = grind (arith, nat_tests)

-- what a second takes away of a cell's rank ends as a purge
aged-ends : (opened : ℕ) (c : Cell) → rank_of (aged opened c) < c.rank → is_let_go c ≡ true
aged-ends opened c falls =
    let P : Option Cell → Type 0 = λ d. rank_of d < c.rank → is_let_go c ≡ true in
    choose P (nat_le 2 c.left) (Some (less c)) (if is_live c.rank then Some (flagged (purged c) opened 0) else None)
    (λ _ f. absurd (omega (arith, f)))
    (λ late. choose P (is_live c.rank) (Some (flagged (purged c) opened 0)) None
    (λ _ f. absurd (omega (arith, f)))
    (λ dead f. test (λ (t : Bool). is_let_go c ≡ t → t ≡ true) (is_let_go c)
    (λ _ _. refl) (λ _ e. absurd (let none = empty-rank c late dead e in omega (arith, none, f))) refl))
    falls

-- an LSP ID's rank falls only where a purge ends
abbrev Ends : LevelState → LevelState → ℕ → Type 0
Ends s t id = rank_at t.book id < rank_at s.book id → is_ending (cell_at s.book id) ≡ true

age_cell-ends : (s : LevelState) (id : ℕ) (held : Option Cell) → rank_at (age_cell s id held).book id < rank_of held → is_ending held ≡ true
age_cell-ends s id None falls = absurd (omega (arith, falls))
age_cell-ends s id (Some c) falls =
    aged-ends s.book.opened c (subst (λ (d : Option Cell). rank_of d < c.rank) (set-here s.book id (aged s.book.opened c)) falls)

age_one-ends : (s : LevelState) (id : ℕ) → Ends s (age_one s id) id
unfolding age_one
age_one-ends s id falls = age_cell-ends s id (cell_at s.book id) falls

age_cell-other : (s : LevelState) (key : ℕ) (held : Option Cell) (id : ℕ) → eqb key id ≡ false → cell_at (age_cell s key held).book id ≡ cell_at s.book id
age_cell-other s key None id e = refl
age_cell-other s key (Some c) id e =
    cell_at-set_cell s.book key (aged s.book.opened c) id ∙ ap (λ (t : Bool). if t then aged s.book.opened c else cell_at s.book id) e

age_one-other : (s : LevelState) (key id : ℕ) → eqb key id ≡ false → cell_at (age_one s key).book id ≡ cell_at s.book id
unfolding age_one
age_one-other s key id e = age_cell-other s key (cell_at s.book key) id e

above-other : (least key id : ℕ) → least ≤ key → id < least → eqb key id ≡ false
above-other least key id h k = grind (arith, nat_tests, h, k)

-- an LSP ID below all of a list isn't aged by it
age_all-other : (s : LevelState) (cells : List (ℕ × Cell)) (least id : ℕ) → RisesFrom least cells → id < least
    → cell_at (age_all s cells).book id ≡ cell_at s.book id
age_all-other s [] least id r below = refl
age_all-other s (pair ∷ cells) least id r below =
    let low = r.0 in
    age_all-other (age_one s pair.0) cells (pair.0 + 1) id r.1 (omega (arith, low, below)) ∙ age_one-other s pair.0 id (above-other least pair.0 id low below)

age_all-here : (s : LevelState) (cells : List (ℕ × Cell)) (id : ℕ) → RisesFrom (id + 1) cells → Ends s (age_all (age_one s id) cells) id
age_all-here s cells id r falls =
    let same = age_all-other (age_one s id) cells (id + 1) id r (omega arith) in
    age_one-ends s id (subst (λ (d : Option Cell). rank_of d < rank_at s.book id) same falls)

age_all-ends : (s : LevelState) (cells : List (ℕ × Cell)) (least id : ℕ) → RisesFrom least cells → Ends s (age_all s cells) id
age_all-ends s [] least id r falls = absurd (omega (arith, falls))
age_all-ends s (pair ∷ cells) least id r falls =
    let first = age_one s pair.0 in
    let last = age_all first cells in
    test (λ (t : Bool). eqb pair.0 id ≡ t → is_ending (cell_at s.book id) ≡ true) (eqb pair.0 id)
    (λ _ e. let same : id ≡ pair.0 = grind (arith, nat_tests, e) in
    subst (λ (key : ℕ). RisesFrom (key + 1) cells → Ends s (age_all (age_one s key) cells) id) same (age_all-here s cells id) r.1 falls)
    (λ _ e. let other : cell_at first.book id ≡ cell_at s.book id = age_one-other s pair.0 id e in
    let ends = age_all-ends first cells (pair.0 + 1) id r.1 (subst (λ (d : Option Cell). rank_at last.book id < rank_of d) (sym other) falls) in
    subst (λ (d : Option Cell). is_ending d ≡ true) other ends) refl

age-ends : (s : LevelState) (id : ℕ) → RisesFrom 0 s.book.cells → Ends s (age s) id
unfolding age
age-ends s id r = age_all-ends s s.book.cells 0 id r

age_both-ends : (r : Router) (l : Level) (id : ℕ) → RisesFrom 0 (book_of r l).cells → Ends (level_of r l) (level_of (age_both r) l) id
age_both-ends r level.One id rises = age-ends (level_of r level.One) id rises
age_both-ends r level.Two id rises = age-ends (level_of r level.Two) id rises

-- ---- the step

-- a hearing in which nothing is known
abbrev quiet : Hearing
quiet = record {
  rank = λ place id. 0;
  source = λ id rank content. Unit {0};
  sane = ⊥;
  mine = λ id contents. Unit {0};
  names = λ place id. Unit {0};
  stirs = λ place. Unit {0};
}

count_down-rises : (r : Router) (l : Level) → RisesFrom 0 (book_of r l).cells → RisesFrom 0 (book_of (count_down r) l).cells
unfolding count_down
count_down-rises r level.One rises = way-rises quiet r.levels.one (waited r.levels.one) (waited-way quiet r.levels.one) rises
count_down-rises r level.Two rises = way-rises quiet r.levels.two (waited r.levels.two) (waited-way quiet r.levels.two) rises

hold_all-rises : (r : Router) (count : ℕ) (l : Level) → RisesFrom 0 (book_of r l).cells → RisesFrom 0 (book_of (hold_all r count) l).cells
hold_all-rises r count l rises =
    course-rises quiet (level_of r l) (level_of (hold_all r count) l) ((hold_all-course (λ (_ : Level). quiet) r count (λ _ _. tt)).on l) rises

second-ends : (given : Given) (r : Router) → IsSorted r → (l : Level) (id : ℕ) → Ends (level_of r l) (level_of (second given r) l) id
unfolding second
second-ends given r sorted l id falls =
    let one = count_down r in
    let two = hold_all one (length one.circuits) in
    let four = age_both two in
    let held = cell_at (book_of r l) id in
    let before = cell_at (book_of two l) id in
    let stood : clock_of before ≡ clock_of held = stay-on r one two (count_down-stands r) (hold_all-stands one (length one.circuits)) l id in
    let rank : rank_of before ≡ rank_of held = rank-stands held before stood in
    let later : rank_at (book_of four l) id ≤ rank_at (book_of (renew_both given r four) l) id = renew_both-up given r four l id in
    let rises = hold_all-rises one (length one.circuits) l (count_down-rises r l (sorted.on l)) in
    sym (ending-stands held before stood) ∙ age_both-ends two l id rises (omega (arith, rank, later, falls))

-- where a rank falls, the LSP ID counts as let go
fall-counts : (given : Given) (r : Router) (event : Event) (l : Level) (id : ℕ)
    → rank_at (book_of (step given r event).router l) id < rank_at (book_of r l) id → lets_go (level_of (step given r event).router l).gone id ≡ true
fall-counts given r event l id falls =
    let gone = lets_go (level_of (step given r event).router l).gone id in
    test (λ (t : Bool). gone ≡ t → t ≡ true) gone
    (λ _ _. refl) (λ _ e. absurd (let k = rank-stays given r event l id e in omega (arith, k, falls))) refl

taken-up : (given : Given) (r : Router) (place : ℕ) (c : Circuit) (m : Message) → On Up r (taken given r place c m).router
taken-up given r place c (Refused cause) = both-up r r (stay r)
taken-up given r place c (PointHelloHeard h) = both-up r (greeted r place c h h.handshake) (greeted-stands r place c h h.handshake)
taken-up given r place c (LanHelloHeard l h) = both-up r (take_lan r place c l h) (take_lan-stands r place c l h)
taken-up given r place c (LspHeard l from h) =
    let w = whose_of r.config.system (level_of r l) h.id in
    on-level Up up-refl r l (take_lsp (scene_of given r l) (level_of r l) place w h) (take_lsp-up (scene_of given r l) (level_of r l) place w h)
taken-up given r place c (SnpHeard l from source range entries) =
    let s = level_of r l in
    let system = r.config.system in
    on-level Up up-refl r l (take_snp (scene_of given r l) s system place range entries) (take_snp-up (scene_of given r l) s system place range entries)

take_or_drop-up : (given : Given) (r : Router) (place : ℕ) (c : Circuit) (m : Message) (drop : Option DropName)
    → On Up r (take_or_drop given r place c m drop).router
take_or_drop-up given r place c m (Some cause) = both-up r r (stay r)
take_or_drop-up given r place c m None = taken-up given r place c m

take-up : (given : Given) (r : Router) (place : ℕ) (m : Message) (c : Option Circuit) → On Up r (receiving.take given r place m c).router
take-up given r place m None = both-up r r (stay r)
take-up given r place m (Some c) = take_or_drop-up given r place c m (drop_of r place c m)

with_metric-up : (r : Router) (place metric : ℕ) (c : Option Circuit) → On Up r (with_metric r place metric c)
with_metric-up r place metric None = both-up r r (stay r)
with_metric-up r place metric (Some c) = both-up r r (stay r)

second-end : (given : Given) (r : Router) → IsSorted r → (l : Level) (id : ℕ) → Ends (level_of r l) (level_of (step given r Second).router l) id
unfolding step
second-end given r sorted l id falls = second-ends given r sorted l id falls

-- no other event lets a rank fall
event-up : (given : Given) (r : Router) (event : Event) → (event ≡ Second) ⊎ On Up r (step given r event).router
unfolding step
event-up given r Second = inl refl
event-up given r (Take place m) = inr (take-up given r place m (nth r.circuits place))
event-up given r (Pull place) = inr (both-up r (pull r place).router (pull-stands r place))
event-up given r (Metric place metric) = inr (with_metric-up r place metric (nth r.circuits place))
event-up given r (Overload on) = inr (both-up r r (stay r))
event-up given r (Prefix prefix metric) = inr (both-up r r (stay r))

pub fall-is-let_go : (given : Given) (r : Router) (event : Event) → FallIsLetGo event r (step given r event).router
fall-is-let_go given r event l id falls = by-event (event-up given r event)
  where
    by-event : (event ≡ Second) ⊎ On Up r (step given r event).router → IsLetGoNow event r (step given r event).router l id
    by-event (inl is) = record {
      in_second = is;
      ends = λ sorted. subst (λ (e : Event). Ends (level_of r l) (level_of (step given r e).router l) id) (sym is) (second-end given r sorted l id) falls;
      counts = fall-counts given r event l id falls;
    }
    by-event (inr up) = absurd (let k = up l id in omega (arith, k, falls))
