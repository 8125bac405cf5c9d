-- Own LSPs that are followed: what is wanted, and what isn't wanted any longer.
use Rattle.std.proofs.Common.{◌≡◌, ℕ, ◌+◌, ◌<◌, ◌≤◌, eqb, nat_lt, Bool, true, false, not, ◌||◌, List, [], ◌∷◌, length, map, Option, Some, None, IsSome, is_some, ◌⊎◌, inl, inr, if◌then◌else◌, refl, ap, sym, ◌∙◌, subst, arith, zero-le}
use Rattle.std.proofs.lemmas.Bool.Decides.{nat_tests}
use Rattle.std.specs.List.{AllByRecursion}
use Rattle.std.specs.Option.{option_map}
use Rattle.isis_base.specs.declared.identifiers.LspId.{LspId}
use Rattle.isis_base.specs.Identifiers.{lsp_number}
use Rattle.model_router.specs.LetGos.{contains}
use Rattle.model_router.specs.Maps.{find, erase}
use Rattle.model_router.specs.Sorted.{RisesFrom}
use Rattle.model_router.specs.Cells.{Cell}
use Rattle.model_router.specs.Books.{rank_of, cell_at, is_full}
use Rattle.model_router.specs.Routers.{Contents, Issued, LevelState, Router}
use Rattle.isis_base.specs.declared.level.Level.{Level}
use Rattle.model_router.specs.Givens.{Given}
use Rattle.model_router.specs.OwnLsps.{Next, next, do_next, look, look_all, withdraw_one, withdraw_all}
use Rattle.lsp_fragments.specs.declared.issue.Issue.TheVariants as issue
use Rattle.lsp_fragments.specs.Issues.{issue_next, says_same, next_of}
use Rattle.lsp_fragments.specs.Kept.{issued_from, first_id}
use Rattle.flag_sync.specs.Walks.{numbers_of}
use Rattle.purge_ageing.specs.Ids.{Rises}
use Rattle.router_sending.specs.Drafts.{DraftView}
use Rattle.router_levels.specs.Drafts.{IsUnder, AreUnder, wants_of, numbers_wanted}
use Rattle.router_levels.specs.Views.{LevelView, HasRoom, Keeps}

-- by a test's two answers
choose : (P : Bool → Type 0) (t : Bool) → P true → P false → P t
choose P true a b = a
choose P false a b = b

-- ---- what becomes of a wanted fragment

module _ (free : (issued : Option Issued) (held : Option Cell) (contents : Contents) → next false issued held contents ≡ next_of (issue_next issued (rank_of held) (says_same issued contents))) (known : (full : Bool) (issued : Option Issued) (held : Cell) (contents : Contents) → next full issued (Some held) contents ≡ next_of (issue_next issued held.rank (says_same issued contents))) where
  pub next-place : (full : Bool) (held : Option Cell) (issued : Option Issued) (contents : Contents) → (not full || is_some held) ≡ true → next full issued held contents ≡ next_of (issue_next issued (rank_of held) (says_same issued contents))
  next-place false held issued contents place = free issued held contents
  next-place true (Some cell) issued contents place = known true issued cell contents
  next-place true None issued contents place = absurd (cc)

pub no-place : (full : Bool) (held : Option Cell) → (not full || is_some held) ≡ false → (full ≡ true) × (held ≡ None)
no-place false held e = absurd (cc)
no-place true None e = (refl, refl)
no-place true (Some cell) e = absurd (cc)

pub some-place : (full : Bool) (held : Option Cell) → (not full || is_some held) ≡ true → (full ≡ false) ⊎ IsSome held
some-place false held e = inl refl
some-place true held e = inr e

pub next-number : (issued : Option Issued) (rank : ℕ) (same : Bool) (n : ℕ) → issue_next issued rank same ≡ issue.Number n → 0 < n
next-number issued rank same n e = grind (arith, nat_tests, e)

-- ---- LSP IDs that are wanted

pub wanted-find : (wants : List (ℕ × Contents)) (n : ℕ) → contains (numbers_wanted wants) n ≡ is_some (find wants n)
wanted-find [] n = refl
wanted-find (pair ∷ wants) n = grind (arith, nat_tests, wanted-find wants n)

pub numbers-are : (drafts : List DraftView) → numbers_wanted (wants_of drafts) ≡ numbers_of (map (λ (d : DraftView). d.id) drafts)
numbers-are [] = refl
numbers-are (d ∷ drafts) = ap (λ (ns : List ℕ). lsp_number d.id ∷ ns) (numbers-are drafts)

pub wants-rise : (drafts : List DraftView) (least : ℕ) → RisesFrom least (wants_of drafts) → Rises least (numbers_of (map (λ (d : DraftView). d.id) drafts))
wants-rise [] least r = tt
wants-rise (d ∷ drafts) least r = (r.0, wants-rise drafts (lsp_number d.id + 1) r.1)

pub kept-wanted : (state : LevelState) (n : ℕ) (held : Option Contents) → is_some held ≡ true → state ≡ withdraw_one state n held
kept-wanted state n None e = absurd (cc)
kept-wanted state n (Some contents) e = refl

pub not-wanted : (held : Option Contents) → is_some held ≡ false → held ≡ None
not-wanted None e = refl
not-wanted (Some contents) e = absurd (cc)

-- ---- those that are still to be looked at

-- the own LSPs from an LSP ID on, or none
abbrev pub behind : {V : Type 0} → Option LspId → List (ℕ × V) → List (ℕ × V)
behind None own = []
behind (Some id) own = issued_from (lsp_number id) own

pub from-zero : {V : Type 0} (own : List (ℕ × V)) → issued_from 0 own ≡ own
from-zero [] = refl
from-zero (p ∷ own) = grind (arith, nat_tests)

stays : {V : Type 0} (m : List (ℕ × V)) (least start : ℕ) → start ≤ least → RisesFrom least m → issued_from start m ≡ m
stays [] least start le r = refl
stays (p ∷ m) least start le r = let h = r.0 in grind (arith, nat_tests, h, le)

absent : {V : Type 0} (m : List (ℕ × V)) (least n : ℕ) → n < least → RisesFrom least m → erase m n ≡ m
unfolding erase
absent [] least n lt r = refl
absent (p ∷ m) least n lt r = let h = r.0 in grind (arith, nat_tests, h, lt, absent m (p.0 + 1) n (omega (arith, h, lt)) r.1)

from-least : {V : Type 0} (m : List (ℕ × V)) (least start : ℕ) (q : ℕ × V) (rest : List (ℕ × V)) → RisesFrom least m → issued_from start m ≡ q ∷ rest → least ≤ q.0
from-least [] least start q rest r e = absurd (cc)
from-least {V} (p ∷ m) least start q rest r e = cases (nat_lt p.0 start) (λ f. from-least m (p.0 + 1) start q rest r.1 f) e
  where
    cases : (t : Bool) → (issued_from start m ≡ q ∷ rest → p.0 + 1 ≤ q.0) → (if t then issued_from start m else p ∷ m) ≡ q ∷ rest → least ≤ q.0
    cases true g f = let h = g f in let k = r.0 in omega (arith, h, k)
    cases false g f = let same : p ≡ q = cc in subst (λ (x : ℕ × V). least ≤ x.0) same r.0

-- the first of those that are left, and those behind it
head-list : {A : Type 0} {p q : A} {xs ys : List A} → p ∷ xs ≡ q ∷ ys → p ≡ q
head-list e = cc

tail-list : {A : Type 0} {p q : A} {xs ys : List A} → p ∷ xs ≡ q ∷ ys → xs ≡ ys
tail-list e = cc

pub from-here : {V : Type 0} (m : List (ℕ × V)) (least start : ℕ) (q : ℕ × V) (rest : List (ℕ × V)) → RisesFrom least m → issued_from start m ≡ q ∷ rest → issued_from q.0 m ≡ q ∷ rest
from-here [] least start q rest r e = absurd (cc)
from-here {V} (p ∷ m) least start q rest r e = cases (nat_lt p.0 start) (λ f. from-here m (p.0 + 1) start q rest r.1 f) e
  where
    cases : (t : Bool) → (issued_from start m ≡ q ∷ rest → issued_from q.0 m ≡ q ∷ rest) → (if t then issued_from start m else p ∷ m) ≡ q ∷ rest → issued_from q.0 (p ∷ m) ≡ q ∷ rest
    cases true g f =
        let h = from-least m (p.0 + 1) start q rest r.1 f in
        let below : nat_lt p.0 q.0 ≡ true = grind (arith, nat_tests, h) in
        rw below (g f)
    cases false g f =
        let same : p ≡ q = head-list f in
        let here : nat_lt p.0 q.0 ≡ false = subst (λ (x : ℕ × V). nat_lt p.0 x.0 ≡ false) same (grind (arith, nat_tests)) in
        rw here f

pub from-next : {V : Type 0} (m : List (ℕ × V)) (least start : ℕ) (q : ℕ × V) (rest : List (ℕ × V)) → RisesFrom least m → issued_from start m ≡ q ∷ rest → issued_from (q.0 + 1) m ≡ rest
from-next [] least start q rest r e = absurd (cc)
from-next {V} (p ∷ m) least start q rest r e = cases (nat_lt p.0 start) (λ f. from-next m (p.0 + 1) start q rest r.1 f) e
  where
    cases : (t : Bool) → (issued_from start m ≡ q ∷ rest → issued_from (q.0 + 1) m ≡ rest) → (if t then issued_from start m else p ∷ m) ≡ q ∷ rest → issued_from (q.0 + 1) (p ∷ m) ≡ rest
    cases true g f =
        let h = from-least m (p.0 + 1) start q rest r.1 f in
        let below : nat_lt p.0 (q.0 + 1) ≡ true = grind (arith, nat_tests, h) in
        rw below (g f)
    cases false g f =
        let same : p ≡ q = head-list f in
        let here : nat_lt p.0 (q.0 + 1) ≡ true = subst (λ (x : ℕ × V). nat_lt p.0 (x.0 + 1) ≡ true) same (grind (arith, nat_tests)) in
        rw here (ap (λ (x : ℕ × V). issued_from (x.0 + 1) m) (sym same) ∙ stays m (p.0 + 1) (p.0 + 1) (omega arith) r.1 ∙ tail-list f)

pub from-erased : {V : Type 0} (m : List (ℕ × V)) (least start : ℕ) (q : ℕ × V) (rest : List (ℕ × V)) → RisesFrom least m → issued_from start m ≡ q ∷ rest → issued_from (q.0 + 1) (erase m q.0) ≡ rest
unfolding erase
from-erased [] least start q rest r e = absurd (cc)
from-erased {V} (p ∷ m) least start q rest r e = cases (nat_lt p.0 start) (λ f. from-erased m (p.0 + 1) start q rest r.1 f) e
  where
    cases : (t : Bool) → (issued_from start m ≡ q ∷ rest → issued_from (q.0 + 1) (erase m q.0) ≡ rest) → (if t then issued_from start m else p ∷ m) ≡ q ∷ rest → issued_from (q.0 + 1) (erase (p ∷ m) q.0) ≡ rest
    cases true g f =
        let h = from-least m (p.0 + 1) start q rest r.1 f in
        let other : eqb p.0 q.0 ≡ false = grind (arith, nat_tests, h) in
        let below : nat_lt p.0 (q.0 + 1) ≡ true = grind (arith, nat_tests, h) in
        rw (other, below) (g f)
    cases false g f =
        let same : p ≡ q = head-list f in
        let here : eqb p.0 q.0 ≡ true = subst (λ (x : ℕ × V). eqb p.0 x.0 ≡ true) same (grind (arith, nat_tests)) in
        rw here (ap (λ (x : ℕ × V). issued_from (x.0 + 1) (erase m x.0)) (sym same)
        ∙ ap (λ (ys : List (ℕ × V)). issued_from (p.0 + 1) ys) (absent m (p.0 + 1) p.0 (omega arith) r.1)
        ∙ stays m (p.0 + 1) (p.0 + 1) (omega arith) r.1 ∙ tail-list f)

-- an LSP ID that is the first from a number on has the same ones behind it
pub behind-is : {V : Type 0} (m : List (ℕ × V)) (start : ℕ) (next : Option LspId) → RisesFrom 0 m → option_map lsp_number next ≡ first_id (issued_from start m) → behind next m ≡ issued_from start m
behind-is {V} m start next r e = cases next (issued_from start m) refl e
  where
    cases : (o : Option LspId) (xs : List (ℕ × V)) → issued_from start m ≡ xs → option_map lsp_number o ≡ first_id xs → behind o m ≡ xs
    cases None [] f g = refl
    cases None (q ∷ rest) f g = absurd (cc)
    cases (Some id) [] f g = absurd (cc)
    cases (Some id) (q ∷ rest) f g =
        let same : lsp_number id ≡ q.0 = cc in
        ap (λ (n : ℕ). issued_from n m) same ∙ from-here m 0 start q rest r f

-- a turn: the first of those that are left is looked at, and the others are left
pub turn-left : {V : Type 0} (m : List (ℕ × V)) (n : ℕ) → RisesFrom 0 m → Some n ≡ first_id (issued_from n m) → (q : ℕ × V) × (rest : List (ℕ × V)) × (issued_from n m ≡ q ∷ rest) × (q.0 ≡ n)
turn-left {V} m n r e = cases (issued_from n m) refl e
  where
    cases : (xs : List (ℕ × V)) → issued_from n m ≡ xs → Some n ≡ first_id xs → (q : ℕ × V) × (rest : List (ℕ × V)) × (issued_from n m ≡ q ∷ rest) × (q.0 ≡ n)
    cases [] f g = absurd (cc)
    cases (q ∷ rest) f g = (q, rest, f, cc)

module _ {V : Type 0} (own new : List (ℕ × V)) (n : ℕ) (up : RisesFrom 0 own) (head : Some n ≡ first_id (issued_from n own)) (left : (new ≡ own) ⊎ (new ≡ erase own n)) where
  pub rest-of : (q : ℕ × V) (rest : List (ℕ × V)) → issued_from n own ≡ q ∷ rest → q.0 ≡ n → issued_from (n + 1) new ≡ rest
  rest-of q rest e at = elim left [
    | inl h ↦ ap (issued_from (n + 1)) h ∙ subst (λ (k : ℕ). issued_from (k + 1) own ≡ rest) at (from-next own 0 n q rest up e)
    | inr h ↦ ap (issued_from (n + 1)) h ∙ subst (λ (k : ℕ). issued_from (k + 1) (erase own k) ≡ rest) at (from-erased own 0 n q rest up e)
  ]

pub turn-withdraws : (state : LevelState) (wants : List (ℕ × Contents)) (own new : List (ℕ × Issued)) (n : ℕ) → RisesFrom 0 own → Some n ≡ first_id (issued_from n own) → (new ≡ own) ⊎ (new ≡ erase own n) → withdraw_all (withdraw_one state n (find wants n)) wants (issued_from (n + 1) new) ≡ withdraw_all state wants (issued_from n own)
turn-withdraws state wants own new n up head left =
    let t = turn-left own n up head in
    let rest = rest-of own new n up head left t.0 t.1 t.2 t.3 in
    ap (withdraw_all (withdraw_one state n (find wants n)) wants) rest
    ∙ ap (λ (k : ℕ). withdraw_all (withdraw_one state k (find wants k)) wants t.1) (sym t.3)
    ∙ sym (ap (withdraw_all state wants) t.2)

pub turn-shorter : {V : Type 0} (own new : List (ℕ × V)) (n : ℕ) → RisesFrom 0 own → Some n ≡ first_id (issued_from n own) → (new ≡ own) ⊎ (new ≡ erase own n) → length (issued_from (n + 1) new) < length (issued_from n own)
turn-shorter own new n up head left =
    let t = turn-left own n up head in
    let rest = ap length (rest-of own new n up head left t.0 t.1 t.2 t.3) in
    let all = ap length t.2 in
    omega (arith, rest, all)

rises-less : {V : Type 0} (m : List (ℕ × V)) (least less : ℕ) → less ≤ least → RisesFrom least m → RisesFrom less m
rises-less [] least less le r = tt
rises-less (p ∷ m) least less le r = (let h = r.0 in omega (arith, h, le), r.1)

erase-rises : {V : Type 0} (m : List (ℕ × V)) (least n : ℕ) → RisesFrom least m → RisesFrom least (erase m n)
unfolding erase
erase-rises [] least n r = tt
erase-rises {V} (p ∷ m) least n r =
    choose (λ t. RisesFrom {V = V} least (if t then erase m n else p ∷ erase m n)) (eqb p.0 n)
    (rises-less (erase m n) (p.0 + 1) least (let h = r.0 in omega (arith, h)) (erase-rises m (p.0 + 1) n r.1))
    (r.0, erase-rises m (p.0 + 1) n r.1)

pub left-rises : {V : Type 0} (own new : List (ℕ × V)) (n : ℕ) → RisesFrom 0 own → (new ≡ own) ⊎ (new ≡ erase own n) → RisesFrom 0 new
left-rises own new n up left = elim left [
  | inl h ↦ subst (RisesFrom 0) (sym h) up
  | inr h ↦ subst (RisesFrom 0) (sym h) (erase-rises own 0 n up)
]

-- ---- a fragment is looked at

pub looked : (given : Given) (r : Router) (level : Level) (state : LevelState) (n : ℕ) (contents : Contents) (what : Next) → what ≡ next (is_full state.book) (find state.own n) (cell_at state.book n) contents → do_next given r level n contents state what ≡ look given r level state (n, contents)
unfolding look
looked given r level state n contents what e = ap (do_next given r level n contents state) e

-- ---- the drafts that are left

pub keyed-next : (keyed : Bool) (all left : List DraftView) (draft : DraftView) → all ≡ draft ∷ left → AllByRecursion (λ (d : DraftView). keyed ≡ d.keyed) all → (keyed ≡ draft.keyed) × AllByRecursion (λ (d : DraftView). keyed ≡ d.keyed) left
keyed-next keyed all left draft is h = subst (λ (ds : List DraftView). AllByRecursion (λ (d : DraftView). keyed ≡ d.keyed) ds) is h

pub under-next : (key : Option (List ℕ)) (r : Router) (level : Level) (all left : List DraftView) (draft : DraftView) → all ≡ draft ∷ left → AreUnder key r level all → IsUnder key r level draft × AreUnder key r level left
under-next key r level all left draft is h = subst (AreUnder key r level) is h

pub look-next : (given : Given) (r : Router) (level : Level) (old new : LevelState) (all left : List DraftView) (draft : DraftView) → all ≡ draft ∷ left → new ≡ look given r level old (lsp_number draft.id, draft.contents) → look_all given r level new (wants_of left) ≡ look_all given r level old (wants_of all)
look-next given r level old new all left draft is e =
    ap (λ (s : LevelState). look_all given r level s (wants_of left)) e
    ∙ ap (λ (ds : List DraftView). look_all given r level old (wants_of ds)) (sym is)

pub room-turn : (old new : LevelView) (all left : List DraftView) (draft : DraftView) → all ≡ draft ∷ left → HasRoom old (length all) (length all) → Keeps old new → HasRoom new (length left) (length left)
room-turn old new all left draft is room keeps =
    let more : length all ≡ length left + 1 = ap length is ∙ omega arith in
    record {
      held = elim room.held [
        | inl h ↦ inl (let s = keeps.room.spare in omega (arith, h, s, more))
        | inr h ↦ inr (let m = keeps.room.made in omega (arith, h, m))
      ];
      own = let o = room.own in let s = keeps.spare in omega (arith, o, s, more);
    }

pub room-one-draft : (view : LevelView) (all left : List DraftView) (draft : DraftView) → all ≡ draft ∷ left → HasRoom view (length all) (length all) → HasRoom view 1 1
room-one-draft view all left draft is room =
    let more : length all ≡ length left + 1 = ap length is ∙ omega arith in
    record {
      held = elim room.held [
        | inl h ↦ inl (omega (arith, h, more))
        | inr h ↦ inr h
      ];
      own = let o = room.own in omega (arith, o, more);
    }

pub first-room : (view : LevelView) → HasRoom view 1 1 → HasRoom view 1 0
first-room view room = record { held = room.held; own = zero-le }
