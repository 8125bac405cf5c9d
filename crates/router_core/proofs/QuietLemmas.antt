-- A level on which nothing is issued and purged stays as it is.
use Rattle.std.proofs.Common.{◌≡◌, ℕ, zero, suc, ◌+◌, ◌<◌, ◌≤◌, ◌==◌, nat_lt, List, [], ◌∷◌, length, map, is_some, Bool, true, false, not, ◌&&◌, if◌then◌else◌, Option, Some, None, refl, sym, ap, ◌∙◌, subst, arith}
use Rattle.std.proofs.lemmas.Bool.Decides.{nat_tests}
use Rattle.std.specs.Option.{option_map}
use Rattle.std.specs.List.{AllByRecursion}
use Rattle.isis_base.specs.declared.identifiers.LspId.{LspId}
use Rattle.isis_base.specs.declared.level.Level.{Level}
use Rattle.isis_base.specs.Identifiers.{lsp_number}
use Rattle.model_router.specs.Ageing.{age, age_all, age_one, age_cell}
use Rattle.model_router.specs.Books.{cell_at, is_full, rank_of}
use Rattle.model_router.specs.Cells.{Cell}
use Rattle.model_router.specs.Givens.{Given}
use Rattle.model_router.specs.Maps.{find, each}
use Rattle.model_router.specs.OwnLsps.{Next, Wait, Number, Exhaust, next, do_next, is_due, is_held, look, look_all, withdraw_one, withdraw_all, renew, last_number}
use Rattle.model_router.specs.Places.{nth}
use Rattle.model_router.specs.Ranks.{number_of}
use Rattle.model_router.specs.Routers.{Circuit, Contents, Issued, LevelState, Router}
use Rattle.model_router.specs.Seconds.{older, waited}
use Rattle.model_router.specs.Sorted.{RisesFrom}
use Rattle.lsp_fragments.specs.Kept.{first_id, issued_from}
use Rattle.router_wanted.specs.declared.wanted.Wanted.{Wanted}
use Rattle.router_wanted.specs.Views.{wanted_of}
use Rattle.router_core.specs.Seconds.{follow_one, follow_first, level_later, numbers, Waits, IsQuiet}

-- ---- what is issued, in order

stays : {V : Type 0} (m : List (ℕ × V)) (least start : ℕ) → start ≤ least → RisesFrom least m → issued_from start m ≡ m
stays [] least start h r = refl
stays (p ∷ m) least start h r =
    let not-below : nat_lt p.0 start ≡ false = grind (arith, nat_tests, h, r.0) in
    rw not-below refl

pub from-zero : {V : Type 0} (own : List (ℕ × V)) → issued_from 0 own ≡ own
from-zero [] = refl
from-zero (p ∷ own) = grind (arith, nat_tests)

no-pair : {V : Type 0} (q : ℕ × V) (rest : List (ℕ × V)) → [] ≡ q ∷ rest → ⊥
no-pair q rest e = cc

pub from-least : {V : Type 0} (m : List (ℕ × V)) (least start : ℕ) (q : ℕ × V) (rest : List (ℕ × V)) → RisesFrom least m → issued_from start m ≡ q ∷ rest → least ≤ q.0
from-least [] least start q rest r e = absurd (no-pair q rest e)
from-least {V} (p ∷ m) least start q rest r e = cases (nat_lt p.0 start) (λ f. from-least m (p.0 + 1) start q rest r.1 f) e
  where
    head-is : {X : Type 0} (a b : X) (xs ys : List X) → a ∷ xs ≡ b ∷ ys → a ≡ b
    head-is a b xs ys f = cc

    cases : (t : Bool) → (issued_from start m ≡ q ∷ rest → p.0 + 1 ≤ q.0) → (if t then issued_from start m else p ∷ m) ≡ q ∷ rest → least ≤ q.0
    cases true g f = omega (arith, g f, r.0)
    cases false g f = subst (λ (x : ℕ × V). least ≤ x.0) (head-is p q m rest f) r.0

pub from-next : {V : Type 0} (m : List (ℕ × V)) (least start : ℕ) (q : ℕ × V) (rest : List (ℕ × V)) → RisesFrom least m → issued_from start m ≡ q ∷ rest → issued_from (q.0 + 1) m ≡ rest
from-next [] least start q rest r e = absurd (no-pair q rest e)
from-next {V} (p ∷ m) least start q rest r e = cases (nat_lt p.0 start) (λ f. from-next m (p.0 + 1) start q rest r.1 f) e
  where
    head-is : {X : Type 0} (a b : X) (xs ys : List X) → a ∷ xs ≡ b ∷ ys → a ≡ b
    head-is a b xs ys f = cc

    tail-is : {X : Type 0} (a b : X) (xs ys : List X) → a ∷ xs ≡ b ∷ ys → xs ≡ ys
    tail-is a b xs ys f = cc

    cases : (t : Bool) → (issued_from start m ≡ q ∷ rest → issued_from (q.0 + 1) m ≡ rest) → (if t then issued_from start m else p ∷ m) ≡ q ∷ rest → issued_from (q.0 + 1) (p ∷ m) ≡ rest
    cases true g f =
        let h = from-least m (p.0 + 1) start q rest r.1 f in
        let below : nat_lt p.0 (q.0 + 1) ≡ true = grind (arith, nat_tests, h) in
        rw below (g f)
    cases false g f =
        let same : p ≡ q = head-is p q m rest f in
        let here : nat_lt p.0 (q.0 + 1) ≡ true = subst (λ (x : ℕ × V). nat_lt p.0 (x.0 + 1) ≡ true) same (grind (arith, nat_tests)) in
        rw here (ap (λ (x : ℕ × V). issued_from (x.0 + 1) m) (sym same) ∙ stays m (p.0 + 1) (p.0 + 1) (omega arith) r.1 ∙ tail-is p q m rest f)

-- a turn: the next one that is issued is the next one that is wanted
pub same-turn : (G : Type 0) (own : List (ℕ × Issued)) (k : ℕ) (o above : Option LspId) (ws rest : List Wanted) (w : Wanted) → RisesFrom 0 own → ws ≡ w ∷ rest
    → option_map lsp_number o ≡ first_id (issued_from k own) → option_map lsp_number o ≡ Some (lsp_number w.id)
    → option_map lsp_number above ≡ first_id (issued_from (lsp_number w.id + 1) own)
    → (numbers (issued_from k own) ≡ numbers (map wanted_of ws) → G)
    → (j : ℕ) × (option_map lsp_number above ≡ first_id (issued_from j own)) × (numbers (issued_from j own) ≡ numbers (map wanted_of rest) → G)
same-turn G own k o above ws rest w up is head this next f = (lsp_number w.id + 1, next, λ h. f (of (issued_from k own) refl (sym head ∙ this) h ∙ ap (λ (xs : List Wanted). numbers (map wanted_of xs)) (sym is)))
  where
    none : (n : ℕ) → None ≡ Some n → ⊥
    none n e = cc

    one : (a b : ℕ) → Some a ≡ Some b → a ≡ b
    one a b e = cc

    of : (xs : List (ℕ × Issued)) → issued_from k own ≡ xs → first_id xs ≡ Some (lsp_number w.id) → numbers (issued_from (lsp_number w.id + 1) own) ≡ numbers (map wanted_of rest) → numbers xs ≡ lsp_number w.id ∷ numbers (map wanted_of rest)
    of [] e g h = absurd (none (lsp_number w.id) g)
    of (q ∷ tail) e g h =
        let at : q.0 ≡ lsp_number w.id = one q.0 (lsp_number w.id) g in
        ap (λ (n : ℕ). n ∷ numbers tail) at
        ∙ ap (λ (ns : List ℕ). lsp_number w.id ∷ ns) (ap numbers (sym (from-next own 0 k q tail up e)) ∙ ap (λ (n : ℕ). numbers (issued_from (n + 1) own)) at ∙ h)

pub waits-turn : (P : ℕ × Contents → Type 0) (ws all rest : List Wanted) (w : Wanted) → ws ≡ w ∷ rest → P (wanted_of w) → (AllByRecursion P (map wanted_of ws) → AllByRecursion P (map wanted_of all)) → AllByRecursion P (map wanted_of rest) → AllByRecursion P (map wanted_of all)
waits-turn P ws all rest w is p f a = f (subst (λ (xs : List Wanted). AllByRecursion P (map wanted_of xs)) (sym is) (p, a))

-- nothing is left
pub list-end : (P : ℕ × Contents → Type 0) (own : List (ℕ × Issued)) (k : ℕ) (o : Option LspId) (left all : List Wanted) → length left < 1 → o ≡ None
    → option_map lsp_number o ≡ first_id (issued_from k own) → (numbers (issued_from k own) ≡ numbers (map wanted_of left) → numbers own ≡ numbers (map wanted_of all))
    → (AllByRecursion P (map wanted_of left) → AllByRecursion P (map wanted_of all)) → AllByRecursion P (map wanted_of all) × (numbers own ≡ numbers (map wanted_of all))
list-end P own k o (x ∷ left) all h e head f g = absurd (omega (arith, h))
list-end P own k o [] all h e head f g = (g tt, f (of (issued_from k own) (sym head ∙ ap (option_map lsp_number) e)))
  where
    none : (n : ℕ) → Some n ≡ None → ⊥
    none n e = cc

    of : (xs : List (ℕ × Issued)) → first_id xs ≡ None → numbers xs ≡ []
    of [] e = refl
    of (q ∷ xs) e = absurd (none q.0 e)

pub quiet-end : (own : List (ℕ × Issued)) (k : ℕ) (o : Option LspId) (left all : List Wanted) → length left < 1 → o ≡ None
    → option_map lsp_number o ≡ first_id (issued_from k own) → (numbers (issued_from k own) ≡ numbers (map wanted_of left) → numbers own ≡ numbers (map wanted_of all))
    → (AllByRecursion (Waits own) (map wanted_of left) → AllByRecursion (Waits own) (map wanted_of all)) → IsQuiet own (map wanted_of all)
quiet-end own k o left all h e head f g = let ends = list-end (Waits own) own k o left all h e head f g in record { waits = ends.0; same = ends.1 }

-- ---- those behind an LSP ID

-- those that are issued from an LSP ID on, or none
abbrev pub behind : Option LspId → List (ℕ × Issued) → List (ℕ × Issued)
behind None m = []
behind (Some id) m = issued_from (lsp_number id) m

head-list : {A : Type 0} {p q : A} {xs ys : List A} → p ∷ xs ≡ q ∷ ys → p ≡ q
head-list e = cc

from-here : (m : List (ℕ × Issued)) (least start : ℕ) (q : ℕ × Issued) (rest : List (ℕ × Issued)) → RisesFrom least m → issued_from start m ≡ q ∷ rest → issued_from q.0 m ≡ q ∷ rest
from-here [] least start q rest r e = absurd (cc)
from-here (p ∷ m) least start q rest r e = cases (nat_lt p.0 start) (λ f. from-here m (p.0 + 1) start q rest r.1 f) e
  where
    cases : (t : Bool) → (issued_from start m ≡ q ∷ rest → issued_from q.0 m ≡ q ∷ rest) → (if t then issued_from start m else p ∷ m) ≡ q ∷ rest → issued_from q.0 (p ∷ m) ≡ q ∷ rest
    cases true g f =
        let h = from-least m (p.0 + 1) start q rest r.1 f in
        let below : nat_lt p.0 q.0 ≡ true = grind (arith, nat_tests, h) in
        rw below (g f)
    cases false g f =
        let same : p ≡ q = head-list f in
        let here : nat_lt p.0 q.0 ≡ false = subst (λ (x : ℕ × Issued). nat_lt p.0 x.0 ≡ false) same (grind (arith, nat_tests)) in
        rw here f

pub behind-is : (m : List (ℕ × Issued)) (start : ℕ) (next : Option LspId) → RisesFrom 0 m → option_map lsp_number next ≡ first_id (issued_from start m) → behind next m ≡ issued_from start m
behind-is m start next r e = cases next (issued_from start m) refl e
  where
    cases : (o : Option LspId) (xs : List (ℕ × Issued)) → issued_from start m ≡ xs → option_map lsp_number o ≡ first_id xs → behind o m ≡ xs
    cases None [] f g = refl
    cases None (q ∷ rest) f g = absurd (cc)
    cases (Some id) [] f g = absurd (cc)
    cases (Some id) (q ∷ rest) f g =
        let same : lsp_number id ≡ q.0 = cc in
        ap (λ (n : ℕ). issued_from n m) same ∙ from-here m 0 start q rest r f

-- the first of those that are left, and the others
pub turn-left : (m : List (ℕ × Issued)) (n : ℕ) → RisesFrom 0 m → Some n ≡ first_id (issued_from n m) → (q : ℕ × Issued) × (issued_from n m ≡ q ∷ issued_from (n + 1) m) × (q.0 ≡ n)
turn-left m n r e = cases (issued_from n m) refl e
  where
    cases : (xs : List (ℕ × Issued)) → issued_from n m ≡ xs → Some n ≡ first_id xs → (q : ℕ × Issued) × (issued_from n m ≡ q ∷ issued_from (n + 1) m) × (q.0 ≡ n)
    cases [] f g = absurd (cc)
    cases (q ∷ rest) f g =
        let at : q.0 ≡ n = cc in
        (q, f ∙ ap (λ (xs : List (ℕ × Issued)). q ∷ xs) (sym (from-next m 0 n q rest r f) ∙ ap (λ (k : ℕ). issued_from (k + 1) m) at), at)

-- ---- the level stays

-- own LSPs stay where entries' time passes and circuits are followed
age-own : (s : LevelState) (cells : List (ℕ × Cell)) → (age_all s cells).own ≡ s.own
unfolding age_one
age-own s [] = refl
age-own s (pair ∷ cells) = age-own (age_one s pair.0) cells ∙ of (cell_at s.book pair.0)
  where
    of : (o : Option Cell) → (age_cell s pair.0 o).own ≡ s.own
    of None = refl
    of (Some cell) = refl

follow-own : (s : LevelState) (l : Level) (cs : List Circuit) (n : ℕ) → (follow_first s l cs n).own ≡ s.own
follow-own s l cs zero = refl
follow-own s l cs (suc n) = of (nth cs n) ∙ follow-own s l cs n
  where
    of : (o : Option Circuit) → (follow_one (follow_first s l cs n) l n o).own ≡ (follow_first s l cs n).own
    of None = refl
    of (Some c) = refl

pub later-own : (s : LevelState) (l : Level) (cs : List Circuit) → (level_later s l cs).own ≡ each (λ (_ : ℕ) (i : Issued). older i) s.own
unfolding age
later-own s l cs = age-own (follow_first (waited s) l cs (length cs)) (follow_first (waited s) l cs (length cs)).book.cells ∙ follow-own (waited s) l cs (length cs)

next-waits : (full : Bool) (i : Option Issued) (held : Option Cell) (contents : Contents) → is_due i contents ≡ false → next full i held contents ≡ Wait
next-waits full i held contents e = ap (λ (b : Bool). if not b then Wait else (if number_of (rank_of held) == last_number then Exhaust else (if full && not (is_held held) then Wait else Number (number_of (rank_of held) + 1)))) e

look-same : (given : Given) (r : Router) (l : Level) (s : LevelState) (want : ℕ × Contents) → Waits s.own want → look given r l s want ≡ s
unfolding look
look-same given r l s want e = ap (λ (what : Next). do_next given r l want.0 want.1 s what) (next-waits (is_full s.book) (find s.own want.0) (cell_at s.book want.0) want.1 e)

all-same : (given : Given) (r : Router) (l : Level) (s : LevelState) (wants : List (ℕ × Contents)) → AllByRecursion (Waits s.own) wants → look_all given r l s wants ≡ s
all-same given r l s [] a = refl
all-same given r l s (want ∷ wants) a = ap (λ (t : LevelState). look_all given r l t wants) (look-same given r l s want a.0) ∙ all-same given r l s wants a.1

find-behind : (p : ℕ × Contents) (ps : List (ℕ × Contents)) (n : ℕ) → is_some (find ps n) ≡ true → is_some (find (p ∷ ps) n) ≡ true
find-behind p ps n h = of (p.0 == n)
  where
    of : (b : Bool) → is_some (if b then Some p.1 else find ps n) ≡ true
    of true = refl
    of false = h

-- what is issued is wanted
covers : (own : List (ℕ × Issued)) (ws all : List (ℕ × Contents)) → ((n : ℕ) → is_some (find ws n) ≡ true → is_some (find all n) ≡ true) → numbers own ≡ numbers ws → AllByRecursion (λ (p : ℕ × Issued). is_some (find all p.0) ≡ true) own
covers [] ws all f e = tt
covers (o ∷ own) [] all f e = absurd (bad o.0 (numbers own) e)
  where
    bad : (n : ℕ) (ns : List ℕ) → n ∷ ns ≡ [] → ⊥
    bad n ns e = cc
covers (o ∷ own) (w ∷ ws) all f e = (f o.0 here, covers own ws all (λ n h. f n (find-behind w ws n h)) (tail-is o.0 w.0 (numbers own) (numbers ws) e))
  where
    head-is : (a b : ℕ) (xs ys : List ℕ) → a ∷ xs ≡ b ∷ ys → a ≡ b
    head-is a b xs ys f = cc

    tail-is : (a b : ℕ) (xs ys : List ℕ) → a ∷ xs ≡ b ∷ ys → xs ≡ ys
    tail-is a b xs ys f = cc

    itself : (n : ℕ) → (n == n) ≡ true
    itself n = grind (arith, nat_tests)

    here : is_some (find (w ∷ ws) o.0) ≡ true
    here = ap (λ (n : ℕ). is_some (find (w ∷ ws) n)) (head-is o.0 w.0 (numbers own) (numbers ws) e) ∙ ap (λ (b : Bool). is_some (if b then Some w.1 else find ws w.0)) (itself w.0)

withdraw-same : (s : LevelState) (wants : List (ℕ × Contents)) (own : List (ℕ × Issued)) → AllByRecursion (λ (p : ℕ × Issued). is_some (find wants p.0) ≡ true) own → withdraw_all s wants own ≡ s
withdraw-same s wants [] a = refl
withdraw-same s wants (p ∷ own) a = ap (λ (t : LevelState). withdraw_all t wants own) (of (find wants p.0) a.0) ∙ withdraw-same s wants own a.1
  where
    bad : false ≡ true → ⊥
    bad e = cc

    of : (o : Option Contents) → is_some o ≡ true → withdraw_one s p.0 o ≡ s
    of None e = absurd (bad e)
    of (Some contents) e = refl

quiet-same : (given : Given) (r : Router) (l : Level) (s : LevelState) (wants : List (ℕ × Contents)) → IsQuiet s.own wants → renew given r l s wants ≡ s
quiet-same given r l s wants q = ap (λ (t : LevelState). withdraw_all t wants t.own) (all-same given r l s wants q.waits) ∙ withdraw-same s wants s.own (covers s.own wants wants (λ n h. h) q.same)

-- a level on which nothing is issued and purged, a second later
pub later-same : (given : Given) (r : Router) (l : Level) (s : LevelState) (cs : List Circuit) (own : List (ℕ × Issued)) (ws wants : List (ℕ × Contents)) → own ≡ each (λ (_ : ℕ) (i : Issued). older i) s.own → ws ≡ wants → IsQuiet own ws → level_later s l cs ≡ renew given r l (level_later s l cs) wants
later-same given r l s cs own ws wants e f q = sym (quiet-same given r l (level_later s l cs) wants (subst (λ (xs : List (ℕ × Issued)). IsQuiet xs wants) (e ∙ sym (later-own s l cs)) (subst (IsQuiet own) f q)))
