-- What is told of a level once its second passed and its own LSPs are followed.
use Rattle.std.proofs.Common.{◌≡◌, ◌∙◌, ℕ, ◌+◌, ◌<◌, ◌≤◌, ◌==◌, ◌&&◌, nat_lt, Bool, true, false, not, List, [], ◌∷◌, length, map, Option, Some, None, is_some, refl, sym, ap, subst, arith, if◌then◌else◌}
use Rattle.std.specs.List.{AllByRecursion}
use Rattle.std.proofs.lemmas.Bool.{eq-eqb, eqb-true, ne_eqb}
use Rattle.std.proofs.lemmas.Bool.Decides.{nat_tests}
use Rattle.isis_base.specs.declared.identifiers.LspId.{LspId}
use Rattle.isis_base.specs.declared.identifiers.NodeId.{NodeId}
use Rattle.isis_base.specs.declared.level.Level.{Level}
use Rattle.isis_base.specs.Identifiers.{IsId, lsp_number}
use Rattle.lsp_store.specs.declared.entry.Entry.{Entry}
use Rattle.lsp_store.specs.Maps as maps
use Rattle.lsp_fragments.specs.declared.issue.Issue.TheVariants as issue
use Rattle.lsp_fragments.specs.Issues.{is_issue_due, issue_above, issue_next, next_of, says_same}
use Rattle.flag_sync.specs.BookStates as sync
use Rattle.flag_sync.specs.BookStates.{BookState}
use Rattle.model_router.specs.Books.{Book, cell_at, is_full, rank_of, set_cell}
use Rattle.model_router.specs.Cells.{Cell, flagged, purged}
use Rattle.model_router.specs.Configs.{Config}
use Rattle.model_router.specs.Deeds.{Content}
use Rattle.model_router.specs.Maps.{each, erase, find, put}
use Rattle.model_router.specs.OwnLsps.{Next, do_next, install, is_due, is_held, issue_cell, last_number, look, look_all, next, renew, retire, retire_held, withdraw_all, withdraw_one}
use Rattle.model_router.specs.OwnLsps as own
use Rattle.model_router.specs.Ranks.{is_live, number_of}
use Rattle.model_router.specs.Routers.{Circuit, Contents, Issued, LevelState, Router, book_of, level_of}
use Rattle.model_router.specs.Seconds.{older}
use Rattle.model_router.specs.Sorted.{RisesFrom}
use Rattle.model_router.proofs.MapLemmas.{find-erase, find-put}
use Rattle.ordered.proofs.MapLemmas.{length-put, put-rises}
use Rattle.router_wanted.specs.declared.wanted.Wanted.{Wanted}
use Rattle.router_wanted.specs.Views.{wanted_of}
use Rattle.router_routes.specs.Moved.{AreMovedTo, is_beside, told_by_nodes}
use Rattle.router_routes.specs.Told.{told_by, told_in}
use Rattle.router_core.specs.Asides.{AreNamed, IsHeldAside, IsNamed, IsShown, seen}
use Rattle.router_core.specs.Givens.{given}
use Rattle.router_core.specs.Renewals.{IsAhead, IsForeseen, IsSeenAside, IsSightAside, Sight, ended, number_in, sight_of, staying, stays_in, with_sight, withdrawn, withdrawn_one}
use Rattle.router_core.proofs.AsideLemmas.{Entries, put-named, seen-dead}
use Rattle.router_core.specs.Seconds.{level_later}
use Rattle.router_core.proofs.LaterLemmas.{later-foreseen, later-sight}
use Rattle.router_core.proofs.MovedLemmas.{not-live}
use Rattle.router_core.proofs.NodesLemmas.{aside-moved}
use Rattle.router_core.proofs.SightLemmas.{sight-same}

clash : {A : Type 0} → true ≡ false → A
clash e = absurd (cc)

-- ---- of a router own LSPs look at its configuration alone

issue-config : (q r : Router) (l : Level) (id number : ℕ) (contents : Contents) → q.config ≡ r.config → issue_cell given q l id number contents ≡ issue_cell given r l id number contents
issue-config q r l id number contents e = ap (λ (x : Config). issue_cell given (record r { config = x }) l id number contents) e

do-config : (q r : Router) (l : Level) (id : ℕ) (contents : Contents) (s : LevelState) (what : Next) → q.config ≡ r.config → do_next given q l id contents s what ≡ do_next given r l id contents s what
do-config q r l id contents s own.Wait e = refl
do-config q r l id contents s (own.Number n) e = ap (install s id contents) (issue-config q r l id n contents e)
do-config q r l id contents s own.Exhaust e = refl

look-config : (q r : Router) (l : Level) (s : LevelState) (want : ℕ × Contents) → q.config ≡ r.config → look given q l s want ≡ look given r l s want
unfolding look
look-config q r l s want e = do-config q r l want.0 want.1 s (next (is_full s.book) (find s.own want.0) (cell_at s.book want.0) want.1) e

all-config : (q r : Router) (l : Level) (s : LevelState) (wants : List (ℕ × Contents)) → q.config ≡ r.config → look_all given q l s wants ≡ look_all given r l s wants
all-config q r l s [] e = refl
all-config q r l s (want ∷ wants) e = all-config q r l (look given q l s want) wants e ∙ ap (λ (t : LevelState). look_all given r l t wants) (look-config q r l s want e)

pub renew-config : (q r : Router) (l : Level) (s : LevelState) (wants : List (ℕ × Contents)) → q.config ≡ r.config → renew given q l s wants ≡ renew given r l s wants
renew-config q r l s wants e = ap (λ (t : LevelState). withdraw_all t wants t.own) (all-config q r l s wants e)

-- ---- what becomes of a wanted fragment

due-same : (issued : Option Issued) (contents : Contents) → is_issue_due issued (says_same issued contents) ≡ is_due issued contents
due-same None contents = refl
due-same (Some i) contents = refl

placed : (full : Bool) (held : Option Cell) (issued : Option Issued) (contents : Contents) (m : ℕ) → number_of (rank_of held) ≡ m → (full && not (is_held held)) ≡ false → next full issued held contents ≡ next_of (if is_issue_due issued (says_same issued contents) then issue_above m else issue.Wait)
placed full held issued contents m number place =
    (λ i. if not (is_due issued contents) then own.Wait else (if number i == last_number then own.Exhaust else (if place i then own.Wait else own.Number (number i + 1))))
    ∙ by (is_due issued contents) (m == last_number)
    ∙ ap (λ (t : Bool). next_of (if t then issue_above m else issue.Wait)) (sym (due-same issued contents))
  where
    by : (t u : Bool) → (if not t then own.Wait else (if u then own.Exhaust else (if false then own.Wait else own.Number (m + 1)))) ≡ next_of (if t then (if u then issue.Exhausted else issue.Number (m + 1)) else issue.Wait)
    by true true = refl
    by true false = refl
    by false u = refl

pub number-some : (issued : Option Issued) (k : ℕ) (same : Bool) (n : ℕ) → issue_next issued k same ≡ issue.Number n → 0 < n
number-some issued k same n e = grind (arith, nat_tests, e)

-- where so many entries are held, and there is a place
pub foreseen-next : (held : Entries) (mine : List (ℕ × Issued)) (least count : ℕ) (s : LevelState) (k : ℕ) (contents : Contents) (key : ℕ) → least ≤ k → IsForeseen held mine least count s → number_of key ≡ number_in (maps.find held k)
    → (count == 65536 && not (stays_in (maps.find held k))) ≡ false
    → next_of (issue_next (find mine k) key (says_same (find mine k) contents)) ≡ next (is_full s.book) (find s.own k) (cell_at s.book k) contents
foreseen-next held mine least count s k contents key low f number place =
    ap (λ (m : ℕ). next_of (if is_issue_due (find mine k) (says_same (find mine k) contents) then issue_above m else issue.Wait)) (number ∙ sym (f.number k low))
    ∙ ap (λ (o : Option Issued). next_of (if is_issue_due o (says_same o contents) then issue_above (number_of (rank_of (cell_at s.book k))) else issue.Wait)) (sym (f.own_is k low))
    ∙ sym (placed (is_full s.book) (cell_at s.book k) (find s.own k) contents (number_of (rank_of (cell_at s.book k))) refl
    ((λ i. f.long i == 65536 && not (f.is_there k low i)) ∙ place))

-- and where there is none
pub foreseen-full : (held : Entries) (mine : List (ℕ × Issued)) (least count : ℕ) (s : LevelState) (k : ℕ) (contents : Contents) → least ≤ k → IsForeseen held mine least count s
    → (count == 65536 && not (stays_in (maps.find held k))) ≡ true
    → own.Wait ≡ next (is_full s.book) (find s.own k) (cell_at s.book k) contents
foreseen-full held mine least count s k contents low f place =
    sym (of (cell_at s.book k) (is_full s.book) ((λ i. f.long i == 65536 && not (f.is_there k low i)) ∙ place))
  where
    of : (o : Option Cell) (full : Bool) → (full && not (is_held o)) ≡ true → next full (find s.own k) o contents ≡ own.Wait
    of None true e = by (is_due (find s.own k) contents)
      where
        by : (t : Bool) → (if not t then own.Wait else (if number_of 0 == last_number then own.Exhaust else (if true then own.Wait else own.Number (number_of 0 + 1)))) ≡ own.Wait
        by true = refl
        by false = refl
    of None false e = clash (sym e)
    of (Some c) true e = clash (sym e)
    of (Some c) false e = clash (sym e)

-- ---- a wanted fragment is looked at

looked : (r : Router) (l : Level) (s : LevelState) (want : ℕ × Contents) (what : Next) → what ≡ next (is_full s.book) (find s.own want.0) (cell_at s.book want.0) want.1 → look given r l s want ≡ do_next given r l want.0 want.1 s what
unfolding look
looked r l s want what e = ap (do_next given r l want.0 want.1 s) (sym e)

-- one LSP ID alone is another
record Turned (s t : LevelState) (k : ℕ) (new : Option (ℕ × Content)) (more : ℕ) : Type 0 where
  pub sight : (n : ℕ) → with_sight (sight_of s.book) k new n ≡ seen (cell_at t.book n)
  pub own : (n : ℕ) → (k ≡ n → ⊥) → find t.own n ≡ find s.own n
  pub cell : (n : ℕ) → (k ≡ n → ⊥) → cell_at t.book n ≡ cell_at s.book n
  pub long : length t.book.cells ≡ more
  pub sorted : RisesFrom 0 t.book.cells
  pub named : AreNamed t.book.cells

below-other : (k n : ℕ) → k + 1 ≤ n → k ≡ n → ⊥
below-other k n h e = absurd (omega (arith, h, e))

turned-foreseen : (held : Entries) (mine : List (ℕ × Issued)) (least count more k : ℕ) (s t : LevelState) (new : Option (ℕ × Content)) → least ≤ k → IsForeseen held mine least count s → Turned s t k new more → IsForeseen held mine (k + 1) more t
turned-foreseen held mine least count more k s t new low f d = record {
  own_is = λ n h. d.own n (below-other k n h) ∙ f.own_is n (omega (arith, low, h));
  number = λ n h. ap (λ (o : Option Cell). number_of (rank_of o)) (d.cell n (below-other k n h)) ∙ f.number n (omega (arith, low, h));
  is_there = λ n h. ap is_held (d.cell n (below-other k n h)) ∙ f.is_there n (omega (arith, low, h));
  long = d.long;
  sorted = d.sorted;
  named = d.named;
}

is-held : (o : Option Cell) → is_some o ≡ is_held o
is-held None = refl
is-held (Some c) = refl

-- a cell is put, and what is issued of the LSP ID is another
module _ (s : LevelState) (k : ℕ) (c : Cell) (b : Book) (mine : List (ℕ × Issued)) (count : ℕ) (sorted : RisesFrom 0 s.book.cells) (names : AreNamed s.book.cells) (is : IsNamed k) (long : length s.book.cells ≡ count)
    (cells : b.cells ≡ put s.book.cells k c) (others : (n : ℕ) → (k ≡ n → ⊥) → find mine n ≡ find s.own n) where
  put-turned : (t : LevelState) → t.book ≡ b → t.own ≡ mine → Turned s t k (seen (Some c)) (if is_held (cell_at s.book k) then count else count + 1)
  put-turned t e f = record {
    sight = λ n. sym (ap (λ (x : Book). seen (find x.cells n)) e ∙ ap (λ (m : List (ℕ × Cell)). seen (find m n)) cells ∙ ap seen (find-put s.book.cells k c n) ∙ either n (k == n));
    own = λ n other. ap (λ (m : List (ℕ × Issued)). find m n) f ∙ others n other;
    cell = λ n other. ap (λ (x : Book). find x.cells n) e ∙ ap (λ (m : List (ℕ × Cell)). find m n) cells ∙ find-put s.book.cells k c n ∙ ap (λ (t : Bool). if t then Some c else find s.book.cells n) (ne_eqb k n other);
    long = ap (λ (x : Book). length x.cells) e ∙ ap length cells ∙ length-put s.book.cells 0 k c sorted ∙ (λ i. if is-held (find s.book.cells k) i then long i else long i + 1);
    sorted = subst (λ (x : Book). RisesFrom 0 x.cells) (sym e) (subst (RisesFrom 0) (sym cells) (put-rises s.book.cells 0 k c (omega arith) sorted));
    named = subst (λ (x : Book). AreNamed x.cells) (sym e) (subst AreNamed (sym cells) (put-named s.book.cells k c names is));
  }
    where
      either : (n : ℕ) (t : Bool) → seen (if t then Some c else find s.book.cells n) ≡ (if t then seen (Some c) else seen (find s.book.cells n))
      either n true = refl
      either n false = refl

put-other : (s : LevelState) (k : ℕ) (i : Issued) (n : ℕ) → (k ≡ n → ⊥) → find (put s.own k i) n ≡ find s.own n
put-other s k i n other = find-put s.own k i n ∙ ap (λ (t : Bool). if t then Some i else find s.own n) (ne_eqb k n other)

erase-other : (s : LevelState) (k n : ℕ) → (k ≡ n → ⊥) → find (erase s.own k) n ≡ find s.own n
erase-other s k n other = find-erase s.own k n ∙ ap (λ (t : Bool). if t then None else find s.own n) (ne_eqb k n other)

cell-set : (b : Book) (k : ℕ) (c : Cell) → (set_cell b k (Some c)).cells ≡ put b.cells k c
unfolding set_cell
cell-set b k c = refl

install-turned : (s : LevelState) (k : ℕ) (contents : Contents) (c : Cell) (count : ℕ) → RisesFrom 0 s.book.cells → AreNamed s.book.cells → IsNamed k → length s.book.cells ≡ count → Turned s (install s k contents c) k (seen (Some c)) (if is_held (cell_at s.book k) then count else count + 1)
unfolding install
install-turned s k contents c count sorted names is long =
    let issued : Issued = record { contents = contents; age = 0 } in
    put-turned s k (flagged c s.book.opened 0) (set_cell s.book k (Some (flagged c s.book.opened 0))) (put s.own k issued) count sorted names is long
    (cell-set s.book k (flagged c s.book.opened 0)) (put-other s k issued) (install s k contents c) refl refl

retired-turned : (s : LevelState) (k : ℕ) (c : Cell) (count : ℕ) → RisesFrom 0 s.book.cells → AreNamed s.book.cells → IsNamed k → length s.book.cells ≡ count → Turned s (retire s k c) k (seen (Some c)) (if is_held (cell_at s.book k) then count else count + 1)
unfolding retire
retired-turned s k c count sorted names is long =
    put-turned s k (flagged c s.book.opened 0) (set_cell s.book k (Some (flagged c s.book.opened 0))) (erase s.own k) count sorted names is long
    (cell-set s.book k (flagged c s.book.opened 0)) (erase-other s k) (retire s k c) refl refl

-- what is seen of it already is nothing
dropped-turned : (s : LevelState) (k count : ℕ) → seen (cell_at s.book k) ≡ None → RisesFrom 0 s.book.cells → AreNamed s.book.cells → length s.book.cells ≡ count → Turned s (record s { own = erase s.own k }) k None count
dropped-turned s k count none sorted names long = record {
  sight = λ n. by n (k == n) refl;
  own = erase-other s k;
  cell = λ n other. refl;
  long = long;
  sorted = sorted;
  named = names;
}
  where
    by : (n : ℕ) (t : Bool) → (k == n) ≡ t → (if t then None else seen (cell_at s.book n)) ≡ seen (cell_at s.book n)
    by n true at = sym none ∙ ap (λ (m : ℕ). seen (cell_at s.book m)) (eqb-true k n at)
    by n false at = refl

retire-turned : (s : LevelState) (k count : ℕ) (o : Option Cell) → cell_at s.book k ≡ o → RisesFrom 0 s.book.cells → AreNamed s.book.cells → IsNamed k → length s.book.cells ≡ count → Turned s (retire_held s k o) k None count
retire-turned s k count None at sorted names is long = dropped-turned s k count (ap seen at) sorted names long
retire-turned s k count (Some c) at sorted names is long = by (is_live c.rank) refl
  where
    dead : seen (Some (purged c)) ≡ None
    dead = seen-dead (purged c) (not-live (number_of c.rank))

    here : (if is_held (cell_at s.book k) then count else count + 1) ≡ count
    here = ap (λ (o : Option Cell). if is_held o then count else count + 1) at

    by : (t : Bool) → is_live c.rank ≡ t → Turned s (if t then retire s k (purged c) else record s { own = erase s.own k }) k None count
    by true live = subst (λ (m : ℕ). Turned s (retire s k (purged c)) k None m) here (subst (λ (x : Option (ℕ × Content)). Turned s (retire s k (purged c)) k x (if is_held (cell_at s.book k) then count else count + 1)) dead (retired-turned s k (purged c) count sorted names is long))
    by false off = dropped-turned s k count (ap seen at ∙ seen-dead c off) sorted names long

-- ---- as the code foresees it

pub look-waits : (r : Router) (l : Level) (held : Entries) (mine : List (ℕ × Issued)) (least count : ℕ) (nodes : List NodeId) (xs : Entries) (s : LevelState) (want : ℕ × Contents) → least ≤ want.0 → IsAhead r l held mine least count nodes xs s
    → own.Wait ≡ next (is_full s.book) (find s.own want.0) (cell_at s.book want.0) want.1 → IsAhead r l held mine (want.0 + 1) count nodes xs (look given r l s want)
look-waits r l held mine least count nodes xs s want low a e = subst (IsAhead r l held mine (want.0 + 1) count nodes xs) (sym (looked r l s want own.Wait e)) (record {
  foreseen = record {
    own_is = λ n h. a.foreseen.own_is n (omega (arith, low, h));
    number = λ n h. a.foreseen.number n (omega (arith, low, h));
    is_there = λ n h. a.foreseen.is_there n (omega (arith, low, h));
    long = a.foreseen.long;
    sorted = a.foreseen.sorted;
    named = a.foreseen.named;
  };
  seen_aside = a.seen_aside;
})

module _ (r : Router) (l : Level) (held : Entries) (mine : List (ℕ × Issued)) (least count : ℕ) (nodes new : List NodeId) (xs ys : Entries) (s : LevelState) (want : ℕ × Contents) (low : least ≤ want.0) (is : IsNamed want.0) (a : IsAhead r l held mine least count nodes xs s) where
  abbrev want-id : ℕ
  want-id = want.0

  abbrev fore : IsForeseen held mine least count s
  fore = a.foreseen

  abbrev what : Next
  what = next (is_full s.book) (find s.own want-id) (cell_at s.book want-id) want.1

  pub look-retires : own.Exhaust ≡ what → IsSightAside r l new (with_sight (sight_of s.book) want-id None) ys → IsAhead r l held mine (want-id + 1) count new ys (look given r l s want)
  look-retires e told =
      let t = retire_held s want-id (cell_at s.book want-id) in
      let d : Turned s t want-id None count = retire-turned s want-id count (cell_at s.book want-id) refl fore.sorted fore.named is fore.long in
      subst (IsAhead r l held mine (want-id + 1) count new ys) (sym (looked r l s want own.Exhaust e)) (record {
        foreseen = turned-foreseen held mine least count count want-id s t None low fore d;
        seen_aside = sight-same r l new (with_sight (sight_of s.book) want-id None) (sight_of t.book) ys d.sight told;
      })

  pub look-issues : (n more : ℕ) → own.Number n ≡ what → more ≡ (if stays_in (maps.find held want-id) then count else count + 1) → IsSightAside r l new (with_sight (sight_of s.book) want-id (seen (Some (issue_cell given r l want-id n want.1)))) ys → IsAhead r l held mine (want-id + 1) more new ys (look given r l s want)
  look-issues n more e many told =
      let c = issue_cell given r l want-id n want.1 in
      let t = install s want-id want.1 c in
      let d : Turned s t want-id (seen (Some c)) (if is_held (cell_at s.book want-id) then count else count + 1) = install-turned s want-id want.1 c count fore.sorted fore.named is fore.long in
      let so-many : (if is_held (cell_at s.book want-id) then count else count + 1) ≡ more = ap (λ (b : Bool). if b then count else count + 1) (fore.is_there want-id low) ∙ sym many in
      let all : Turned s t want-id (seen (Some c)) more = subst (Turned s t want-id (seen (Some c))) so-many d in
      subst (IsAhead r l held mine (want-id + 1) more new ys) (sym (looked r l s want (own.Number n) e)) (record {
        foreseen = turned-foreseen held mine least count more want-id s t (seen (Some c)) low fore all;
        seen_aside = sight-same r l new (with_sight (sight_of s.book) want-id (seen (Some c))) (sight_of t.book) ys all.sight told;
      })

-- ---- one fragment after another

-- a level that the fragments that are left bring where all bring the first one
pub record Looked (r : Router) (l : Level) (held : Entries) (mine : List (ℕ × Issued)) (all left : List Wanted) (count : ℕ) (nodes : List NodeId) (xs : Entries) (s : LevelState) : Type 0 where
  pub least : ℕ
  pub state : LevelState
  pub rises : RisesFrom least (map wanted_of left)
  pub ahead : IsAhead r l held mine least count nodes xs state
  pub same : look_all given r l state (map wanted_of left) ≡ look_all given r l s (map wanted_of all)

abbrev pub Looks : Router → Level → Entries → List (ℕ × Issued) → List Wanted → List Wanted → ℕ → List NodeId → Entries → List NodeId → Entries → Type 0
Looks r l held mine all left count nodes xs new ys =
    (s : LevelState) → IsShown r l held → IsAhead r l held mine 0 (staying held) nodes xs s → Looked r l held mine all left count new ys s

pub look-first : (r : Router) (l : Level) (held : Entries) (mine : List (ℕ × Issued)) (all : List Wanted) (count : ℕ) (nodes : List NodeId) (xs : Entries) → RisesFrom 0 (map wanted_of all) → count ≡ staying held → Looks r l held mine all all count nodes xs nodes xs
look-first r l held mine all count nodes xs rises many s shown a = record {
  least = 0;
  state = s;
  rises = rises;
  ahead = subst (λ (n : ℕ). IsAhead r l held mine 0 n nodes xs s) (sym many) a;
  same = refl;
}

pub look-turn : (r : Router) (l : Level) (held : Entries) (mine : List (ℕ × Issued)) (all left rest : List Wanted) (want : Wanted) (count more : ℕ) (nodes old new : List NodeId) (xs ys zs : Entries) → left ≡ want ∷ rest
    → ((least : ℕ) (s : LevelState) → least ≤ lsp_number want.id → IsShown r l held → IsAhead r l held mine least count old ys s → IsAhead r l held mine (lsp_number want.id + 1) more new zs (look given r l s (wanted_of want)))
    → Looks r l held mine all left count nodes xs old ys → Looks r l held mine all rest more nodes xs new zs
look-turn r l held mine all left rest want count more nodes old new xs ys zs is step looks s shown a =
    let k = looks s shown a in
    let rises : RisesFrom k.least (map wanted_of (want ∷ rest)) = subst (λ (ws : List Wanted). RisesFrom k.least (map wanted_of ws)) is k.rises in
    record {
      least = lsp_number want.id + 1;
      state = look given r l k.state (wanted_of want);
      rises = rises.1;
      ahead = step k.least k.state rises.0 shown k.ahead;
      same = ap (λ (ws : List Wanted). look_all given r l k.state (map wanted_of ws)) (sym is) ∙ k.same;
    }

pub look-end : (r : Router) (l : Level) (held : Entries) (mine : List (ℕ × Issued)) (all left : List Wanted) (count : ℕ) (nodes new : List NodeId) (xs ys : Entries) → length left < 1 → Looks r l held mine all left count nodes xs new ys
    → (s : LevelState) → IsShown r l held → IsAhead r l held mine 0 (staying held) nodes xs s → IsSeenAside r l new ys (look_all given r l s (map wanted_of all))
look-end r l held mine all [] count nodes new xs ys few looks s shown a =
    let k = looks s shown a in
    subst (IsSeenAside r l new ys) k.same (record { sees = k.ahead.seen_aside; named = k.ahead.foreseen.named })
look-end r l held mine all (w ∷ left) count nodes new xs ys few looks s shown a = absurd (omega (arith, few))

-- ---- own LSPs that aren't wanted

pub withdraw-kept : (r : Router) (l : Level) (nodes : List NodeId) (o : Option Contents) (sight : Sight) (k : ℕ) (xs : Entries) → is_some o ≡ true → IsSightAside r l nodes sight xs → IsSightAside r l nodes (withdrawn_one sight k o) xs
withdraw-kept r l nodes None sight k xs e a = clash (sym e)
withdraw-kept r l nodes (Some c) sight k xs e a = sight-same r l nodes sight (withdrawn_one sight k (Some c)) xs (λ n. refl) a

pub withdraw-gone : (r : Router) (l : Level) (nodes : List NodeId) (o : Option Contents) (sight : Sight) (k : ℕ) (xs : Entries) → o ≡ None → IsSightAside r l nodes (with_sight sight k None) xs → IsSightAside r l nodes (withdrawn_one sight k o) xs
withdraw-gone r l nodes None sight k xs e a = sight-same r l nodes (with_sight sight k None) (withdrawn_one sight k None) xs (λ n. refl) a
withdraw-gone r l nodes (Some c) sight k xs e a = absurd (cc)

pub record Withdraws (r : Router) (l : Level) (mine : List (ℕ × Issued)) (wants : List (ℕ × Contents)) (left : List (ℕ × Issued)) (start : Sight) (nodes : List NodeId) (xs : Entries) : Type 0 where
  pub sight : Sight
  pub told : IsSightAside r l nodes sight xs
  pub same : (n : ℕ) → withdrawn left wants sight n ≡ withdrawn mine wants start n

abbrev pub AreWithdrawn : List (ℕ × Issued) → List (ℕ × Contents) → List (ℕ × Issued) → Entries → List NodeId → Entries → List NodeId → Entries → Type 0
AreWithdrawn mine wants left held nodes xs new ys =
    (r : Router) (l : Level) (start : Sight) → IsShown r l held → IsSightAside r l nodes start xs → Withdraws r l mine wants left start new ys

pub withdraw-first : (mine : List (ℕ × Issued)) (wants : List (ℕ × Contents)) (left : List (ℕ × Issued)) (held : Entries) (nodes : List NodeId) (xs : Entries) → left ≡ mine → AreWithdrawn mine wants left held nodes xs nodes xs
withdraw-first mine wants left held nodes xs same r l start shown a = record { sight = start; told = a; same = λ n. ap (λ (m : List (ℕ × Issued)). withdrawn m wants start n) same }

pub withdraw-turn : (mine : List (ℕ × Issued)) (wants : List (ℕ × Contents)) (left rest : List (ℕ × Issued)) (q : ℕ × Issued) (k : ℕ) (held : Entries) (nodes old new : List NodeId) (xs ys zs : Entries) → left ≡ q ∷ rest → q.0 ≡ k
    → ((r : Router) (l : Level) (sight : Sight) → IsShown r l held → IsSightAside r l old sight ys → IsSightAside r l new (withdrawn_one sight k (find wants k)) zs)
    → AreWithdrawn mine wants left held nodes xs old ys → AreWithdrawn mine wants rest held nodes xs new zs
withdraw-turn mine wants left rest q k held nodes old new xs ys zs is at step before r l start shown a =
    let g = before r l start shown a in
    record {
      sight = withdrawn_one g.sight k (find wants k);
      told = step r l g.sight shown g.told;
      same = λ n.
          ap (λ (m : ℕ). withdrawn rest wants (withdrawn_one g.sight m (find wants m)) n) (sym at)
          ∙ ap (λ (m : List (ℕ × Issued)). withdrawn m wants g.sight n) (sym is) ∙ g.same n;
    }

pub withdraw-end : (mine : List (ℕ × Issued)) (wants : List (ℕ × Contents)) (left : List (ℕ × Issued)) (held : Entries) (nodes new : List NodeId) (xs ys : Entries) → left ≡ [] → AreWithdrawn mine wants left held nodes xs new ys
    → (r : Router) (l : Level) (start : Sight) → IsShown r l held → IsSightAside r l nodes start xs → IsSightAside r l new (withdrawn mine wants start) ys
withdraw-end mine wants left held nodes new xs ys none before r l start shown a =
    let g = before r l start shown a in
    sight-same r l new g.sight (withdrawn mine wants start) ys (λ n. ap (λ (m : List (ℕ × Issued)). withdrawn m wants g.sight n) (sym none) ∙ g.same n) g.told

-- ---- what is withdrawn, in one look

purged-if : Bool → Option (ℕ × Content) → Option (ℕ × Content)
purged-if true x = None
purged-if false x = x

same-withdrawn : (mine : List (ℕ × Issued)) (wants : List (ℕ × Contents)) (f g : Sight) (n : ℕ) → ((m : ℕ) → f m ≡ g m) → withdrawn mine wants f n ≡ withdrawn mine wants g n
same-withdrawn [] wants f g n same = same n
same-withdrawn (p ∷ mine) wants f g n same = same-withdrawn mine wants (withdrawn_one f p.0 (find wants p.0)) (withdrawn_one g p.0 (find wants p.0)) n (one (find wants p.0))
  where
    one : (o : Option Contents) (m : ℕ) → withdrawn_one f p.0 o m ≡ withdrawn_one g p.0 o m
    one None m = ap (λ (x : Option (ℕ × Content)). if p.0 == m then None else x) (same m)
    one (Some c) m = same m

-- what is wanted stays
wanted-stays : (mine : List (ℕ × Issued)) (wants : List (ℕ × Contents)) (f : Sight) (n : ℕ) → is_some (find wants n) ≡ true → withdrawn mine wants f n ≡ f n
wanted-stays [] wants f n is = refl
wanted-stays (p ∷ mine) wants f n is = wanted-stays mine wants (withdrawn_one f p.0 (find wants p.0)) n is ∙ by (find wants p.0) refl (p.0 == n) refl
  where
    by : (o : Option Contents) → find wants p.0 ≡ o → (t : Bool) → (p.0 == n) ≡ t → withdrawn_one f p.0 o n ≡ f n
    by None none true at = clash (sym is ∙ ap (λ (m : ℕ). is_some (find wants m)) (sym (eqb-true p.0 n at)) ∙ ap (λ (o : Option Contents). is_some o) none)
    by None none false at = ap (λ (t : Bool). if t then None else f n) at
    by (Some c) some t at = refl

-- and what isn't is gone where it is issued
unwanted-by : (mine : List (ℕ × Issued)) (wants : List (ℕ × Contents)) (f : Sight) (n : ℕ) → find wants n ≡ None → withdrawn mine wants f n ≡ (if is_some (find mine n) then None else f n)
unwanted-by [] wants f n none = refl
unwanted-by (p ∷ mine) wants f n none = unwanted-by mine wants (withdrawn_one f p.0 (find wants p.0)) n none ∙ by (p.0 == n) refl (find wants p.0) refl
  where
    gone : (t : Bool) → ◌≡◌ {A = Option (ℕ × Content)} (if t then None else None) None
    gone true = refl
    gone false = refl

    some-none : {A : Type 0} (c : Contents) → ◌≡◌ {A = Option Contents} (Some c) None → A
    some-none c e = absurd (cc)

    by : (t : Bool) → (p.0 == n) ≡ t → (o : Option Contents) → find wants p.0 ≡ o → (if is_some (find mine n) then None else withdrawn_one f p.0 o n) ≡ (if is_some (if t then Some p.1 else find mine n) then None else f n)
    by true at None e = ap (λ (t : Bool). if is_some (find mine n) then None else (if t then None else f n)) at ∙ gone (is_some (find mine n))
    by true at (Some c) e = some-none c (sym e ∙ ap (find wants) (eqb-true p.0 n at) ∙ none)
    by false at None e = ap (λ (t : Bool). if is_some (find mine n) then None else (if t then None else f n)) at
    by false at (Some c) e = refl

-- ---- the definition does so

retire-sight : (s : LevelState) (k : ℕ) (o : Option Cell) → cell_at s.book k ≡ o → (n : ℕ) → seen (cell_at (retire_held s k o).book n) ≡ with_sight (sight_of s.book) k None n
unfolding retire
retire-sight s k None at n = sym (by (k == n) refl)
  where
    by : (t : Bool) → (k == n) ≡ t → (if t then None else seen (cell_at s.book n)) ≡ seen (cell_at s.book n)
    by true here = sym (ap seen at) ∙ ap (λ (m : ℕ). seen (cell_at s.book m)) (eqb-true k n here)
    by false here = refl
retire-sight s k (Some c) at n = by (is_live c.rank) refl
  where
    cell : Cell
    cell = flagged (purged c) s.book.opened 0

    dead : seen (Some cell) ≡ None
    dead = seen-dead cell (not-live (number_of c.rank))

    either : (t : Bool) → seen (if t then Some cell else find s.book.cells n) ≡ (if t then None else seen (find s.book.cells n))
    either true = dead
    either false = refl

    gone : (t : Bool) → (k == n) ≡ t → is_live c.rank ≡ false → seen (cell_at s.book n) ≡ (if t then None else seen (cell_at s.book n))
    gone true same off = ap (λ (m : ℕ). seen (cell_at s.book m)) (sym (eqb-true k n same)) ∙ ap seen at ∙ seen-dead c off
    gone false same off = refl

    by : (t : Bool) → is_live c.rank ≡ t → seen (cell_at (if t then retire s k (purged c) else record s { own = erase s.own k }).book n) ≡ with_sight (sight_of s.book) k None n
    by true live = ap (λ (m : List (ℕ × Cell)). seen (find m n)) (cell-set s.book k cell) ∙ ap seen (find-put s.book.cells k cell n) ∙ either (k == n)
    by false off = gone (k == n) refl off

one-sight : (s : LevelState) (k : ℕ) (o : Option Contents) (n : ℕ) → seen (cell_at (withdraw_one s k o).book n) ≡ withdrawn_one (sight_of s.book) k o n
one-sight s k None n = retire-sight s k (cell_at s.book k) refl n
one-sight s k (Some c) n = refl

withdraw-sight : (mine : List (ℕ × Issued)) (s : LevelState) (wants : List (ℕ × Contents)) (n : ℕ) → seen (cell_at (withdraw_all s wants mine).book n) ≡ withdrawn mine wants (sight_of s.book) n
withdraw-sight [] s wants n = refl
withdraw-sight (p ∷ mine) s wants n =
    let next = withdraw_one s p.0 (find wants p.0) in
    withdraw-sight mine next wants n ∙ same-withdrawn mine wants (sight_of next.book) (withdrawn_one (sight_of s.book) p.0 (find wants p.0)) n (one-sight s p.0 (find wants p.0))

found-named : (m : List (ℕ × Cell)) (q : ℕ) (c : Cell) → AreNamed m → find m q ≡ Some c → IsNamed q
found-named [] q c names e = absurd (cc)
found-named (p ∷ m) q c names e = by (p.0 == q) refl e (λ h. found-named m q c names.1 h)
  where
    by : (t : Bool) → (p.0 == q) ≡ t → (if t then Some p.1 else find m q) ≡ Some c → (find m q ≡ Some c → IsNamed q) → IsNamed q
    by true at h rest = subst IsNamed (eqb-true p.0 q at) names.0
    by false at h rest = rest h

retire-named : (s : LevelState) (k : ℕ) (o : Option Cell) → cell_at s.book k ≡ o → AreNamed s.book.cells → AreNamed (retire_held s k o).book.cells
unfolding retire
retire-named s k None at names = names
retire-named s k (Some c) at names = by (is_live c.rank)
  where
    by : (t : Bool) → AreNamed (if t then retire s k (purged c) else record s { own = erase s.own k }).book.cells
    by true = subst AreNamed (sym (cell-set s.book k (flagged (purged c) s.book.opened 0))) (put-named s.book.cells k (flagged (purged c) s.book.opened 0) names (found-named s.book.cells k c names at))
    by false = names

one-named : (s : LevelState) (k : ℕ) (o : Option Contents) → AreNamed s.book.cells → AreNamed (withdraw_one s k o).book.cells
one-named s k None names = retire-named s k (cell_at s.book k) refl names
one-named s k (Some c) names = names

withdraw-named : (mine : List (ℕ × Issued)) (s : LevelState) (wants : List (ℕ × Contents)) → AreNamed s.book.cells → AreNamed (withdraw_all s wants mine).book.cells
withdraw-named [] s wants names = names
withdraw-named (p ∷ mine) s wants names = withdraw-named mine (withdraw_one s p.0 (find wants p.0)) wants (one-named s p.0 (find wants p.0) names)

-- what isn't wanted is issued where it was
held-own : (s : LevelState) (k : ℕ) (o : Option Cell) (n : ℕ) → (k ≡ n → ⊥) → find (retire_held s k o).own n ≡ find s.own n
unfolding retire
held-own s k None n other = erase-other s k n other
held-own s k (Some c) n other = by (is_live c.rank)
  where
    by : (t : Bool) → find (if t then retire s k (purged c) else record s { own = erase s.own k }).own n ≡ find s.own n
    by true = erase-other s k n other
    by false = erase-other s k n other

do-own : (r : Router) (l : Level) (k : ℕ) (contents : Contents) (s : LevelState) (what : Next) (n : ℕ) → (k ≡ n → ⊥) → find (do_next given r l k contents s what).own n ≡ find s.own n
unfolding install
do-own r l k contents s own.Wait n other = refl
do-own r l k contents s (own.Number m) n other = put-other s k (record { contents = contents; age = 0 }) n other
do-own r l k contents s own.Exhaust n other = held-own s k (cell_at s.book k) n other

look-own : (r : Router) (l : Level) (s : LevelState) (want : ℕ × Contents) (n : ℕ) → (want.0 ≡ n → ⊥) → find (look given r l s want).own n ≡ find s.own n
unfolding look
look-own r l s want n other = do-own r l want.0 want.1 s (next (is_full s.book) (find s.own want.0) (cell_at s.book want.0) want.1) n other

not-first : (p : ℕ × Contents) (ps : List (ℕ × Contents)) (n : ℕ) → find (p ∷ ps) n ≡ None → (p.0 ≡ n → ⊥) × (find ps n ≡ None)
not-first p ps n e = by (p.0 == n) refl e
  where
    some-none : {A : Type 0} → ◌≡◌ {A = Option Contents} (Some p.1) None → A
    some-none e = absurd (cc)

    by : (t : Bool) → (p.0 == n) ≡ t → (if t then Some p.1 else find ps n) ≡ None → (p.0 ≡ n → ⊥) × (find ps n ≡ None)
    by true at h = some-none h
    by false at h = ((λ same. clash (sym (eq-eqb p.0 n same) ∙ at)), h)

all-own : (r : Router) (l : Level) (wants : List (ℕ × Contents)) (s : LevelState) (n : ℕ) → find wants n ≡ None → find (look_all given r l s wants).own n ≡ find s.own n
all-own r l [] s n none = refl
all-own r l (want ∷ wants) s n none =
    let parts = not-first want wants n none in
    all-own r l wants (look given r l s want) n parts.1 ∙ look-own r l s want n parts.0

-- a level that is followed is seen so
renewed-sight : (r : Router) (l : Level) (s : LevelState) (mine : List (ℕ × Issued)) (wants : List (ℕ × Contents)) (n : ℕ) → ((m : ℕ) → find s.own m ≡ find mine m) → withdrawn mine wants (sight_of (look_all given r l s wants).book) n ≡ seen (cell_at (renew given r l s wants).book n)
renewed-sight r l s mine wants n same = of (find wants n) refl ∙ sym (withdraw-sight after.own after wants n)
  where
    after : LevelState
    after = look_all given r l s wants

    of : (o : Option Contents) → find wants n ≡ o → withdrawn mine wants (sight_of after.book) n ≡ withdrawn after.own wants (sight_of after.book) n
    of None none =
        unwanted-by mine wants (sight_of after.book) n none
        ∙ ap (λ (o : Option Issued). if is_some o then None else seen (cell_at after.book n)) (sym (all-own r l wants s n none ∙ same n))
        ∙ sym (unwanted-by after.own wants (sight_of after.book) n none)
    of (Some c) some =
        let is : is_some (find wants n) ≡ true = ap (λ (o : Option Contents). is_some o) some in
        wanted-stays mine wants (sight_of after.book) n is ∙ sym (wanted-stays after.own wants (sight_of after.book) n is)

pub renewed-aside : (r : Router) (l : Level) (held : Entries) (mine : List (ℕ × Issued)) (count : ℕ) (nodes new : List NodeId) (xs ys : Entries) (s : LevelState) (wants : List (ℕ × Contents)) → IsForeseen held mine 0 count s → IsSeenAside r l nodes xs (look_all given r l s wants)
    → (IsSightAside r l nodes (sight_of (look_all given r l s wants).book) xs → IsSightAside r l new (withdrawn mine wants (sight_of (look_all given r l s wants).book)) ys) → IsSeenAside r l new ys (renew given r l s wants)
renewed-aside r l held mine count nodes new xs ys s wants f a step =
    let after = look_all given r l s wants in
    let t = renew given r l s wants in
    record {
      sees = sight-same r l new (withdrawn mine wants (sight_of after.book)) (sight_of t.book) ys (λ n. renewed-sight r l s mine wants n (λ m. f.own_is m (omega arith))) (step a.sees);
      named = withdraw-named after.own after wants a.named;
    }

-- ---- what moves

pub seen-held : (r : Router) (l : Level) (nodes : List NodeId) (xs : Entries) (s : LevelState) → RisesFrom 0 s.book.cells → IsSeenAside r l nodes xs s → IsHeldAside r l nodes (record (level_of r l) { book = s.book }) xs
seen-held r l nodes xs s sorted a = record {
  sees = a.sees.sees;
  within = a.sees.within;
  own = λ n live. refl;
  named = a.named;
  sorted = sorted;
}

filter-all : (es : Entries) → told_by_nodes (is_beside []) es ≡ es
filter-all [] = refl
filter-all (e ∷ es) = ap (λ (q : Entries). e ∷ q) (filter-all es)

pub none-moved : (nodes : List NodeId) (told old new : Entries) → nodes ≡ [] → AreMovedTo nodes told old new → new ≡ old
none-moved nodes told old new none m =
    sym (filter-all new) ∙ ap (λ (ns : List NodeId). told_by_nodes (is_beside ns) new) (sym none) ∙ m.others ∙ ap (λ (ns : List NodeId). told_by_nodes (is_beside ns) old) none ∙ filter-all old

pub no-nodes : (nodes : List NodeId) → length nodes ≡ 0 → nodes ≡ []
no-nodes [] e = refl
no-nodes (n ∷ nodes) e = absurd (omega (arith, e))

abbrev HaveIds : Entries → Type 0
HaveIds es = AllByRecursion (λ (p : LspId × Entry). IsId p.0) es

-- what is seen aside moves
pub renewed-moved : (r : Router) (l : Level) (nodes : List NodeId) (xs held : Entries) (s : LevelState) → IsSeenAside r l nodes xs s → RisesFrom 0 s.book.cells → IsShown r l held → HaveIds xs → maps.RisesFrom 0 xs → AreMovedTo nodes (told_in xs) (told_by (book_of r l).cells) (told_by s.book.cells)
renewed-moved r l nodes xs held s a sorted shown ids rises = aside-moved r l nodes (record (level_of r l) { book = s.book }) xs held (seen-held r l nodes xs s sorted a) shown ids rises

-- a level a second later, once its live entries whose time ends are told
pub later-ahead : (r : Router) (l : Level) (v : BookState) (held : Entries) (mine : List (ℕ × Issued)) (cs : List Circuit) (nodes : List NodeId) (xs : Entries) → held ≡ v.store.entries → sync.book_of v ≡ book_of r l → length v.rows ≡ length v.store.entries → HaveIds held → maps.RisesFrom 0 held
    → RisesFrom 0 (book_of r l).cells → mine ≡ each (λ (_ : ℕ) (i : Issued). older i) (level_of r l).own → IsSightAside r l nodes (ended held (sight_of (book_of r l))) xs → IsAhead r l held mine 0 (staying held) nodes xs (level_later (level_of r l) l cs)
later-ahead r l v held mine cs nodes xs e of_book long ids rises sorted own told =
    subst (λ (es : Entries). HaveIds es → maps.RisesFrom 0 es → IsSightAside r l nodes (ended es (sight_of (book_of r l))) xs → IsAhead r l es mine 0 (staying es) nodes xs (level_later (level_of r l) l cs)) (sym e)
    (λ of-ids of-rises of-told. record {
      foreseen = later-foreseen r l v mine cs of_book long of-ids sorted own;
      seen_aside = sight-same r l nodes (ended v.store.entries (sight_of (book_of r l))) (sight_of (level_later (level_of r l) l cs).book) xs (λ n. later-sight r l v cs n of_book long of-rises sorted) of-told;
    }) ids rises told

-- ---- how many are held

pub is-place : (count : ℕ) (b : Bool) → (count == 65536 && not b) ≡ false → b ≡ false → count ≡ 65536 → ⊥
is-place count b off out full = clash (sym (λ i. eq-eqb count 65536 full i && not (out i)) ∙ off)

pub one-few : (b : Bool) (count : ℕ) → count ≤ 65536 → (b ≡ false → count ≡ 65536 → ⊥) → (if b then count else count + 1) ≤ 65536
one-few true count few other = few
one-few false count few other = by (nat_lt count 65536) refl
  where
    by : (t : Bool) → nat_lt count 65536 ≡ t → count + 1 ≤ 65536
    by true less = grind (arith, nat_tests, less)
    by false more = absurd (other refl (let most : 65536 ≤ count = grind (arith, nat_tests, more) in omega (arith, most, few)))
