-- The schedules of a tree are all, each once.
use Rattle.std.proofs.Common.{◌≡◌, ℕ, zero, suc, ◌+◌, ◌≤◌, ◌⊎◌, inl, inr, Bool, true, false, List, [], ◌∷◌, ◌++◌, refl, sym, ap, ◌∙◌, subst, arith}
use Rattle.std.proofs.lemmas.List.{append_assoc}
use Rattle.losses.specs.Trees.{Tree, Ends, Comes, quiet_cost, cost_of, losses_in, places_from}
use Rattle.losses.specs.Schedules.{Schedule, schedules, with_losses}
use Rattle.losses.specs.Claims.{LosesAmong, AreApart, AreAllOnce}
use Rattle.losses.proofs.TreeLemmas.{behind-nil}

-- ---- fates behind those of a beginning

abbrev pub lost_first : List (List Bool) → List (List Bool)
lost_first [] = []
lost_first (r ∷ rs) = (true ∷ r) ∷ lost_first rs

abbrev pub arrived_first : List (List Bool) → List (List Bool)
arrived_first [] = []
arrived_first (r ∷ rs) = (false ∷ r) ∷ arrived_first rs

-- those with a loss and at most so many
abbrev pub rests : Tree → ℕ → List (List Bool)
rests (Ends cost) most = []
rests (Comes a l) zero = []
rests (Comes a l) (suc most) = lost_first ([] ∷ rests l most) ++ arrived_first (rests a (suc most))

abbrev pub shifted : Tree → List Bool → List (List Bool) → List Schedule
shifted t begun [] = []
shifted t begun (r ∷ rs) = record { fates = begun ++ r; cost = cost_of t r } ∷ shifted t begun rs

shifted-append : (t : Tree) (begun : List Bool) (xs ys : List (List Bool)) → shifted t begun (xs ++ ys) ≡ shifted t begun xs ++ shifted t begun ys
shifted-append t begun [] ys = refl
shifted-append t begun (x ∷ xs) ys = ap (λ (list : List Schedule). record { fates = begun ++ x; cost = cost_of t x } ∷ list) (shifted-append t begun xs ys)

shifted-lost : (a l : Tree) (begun : List Bool) (rs : List (List Bool)) → shifted l (begun ++ (true ∷ [])) rs ≡ shifted (Comes a l) begun (lost_first rs)
shifted-lost a l begun [] = refl
shifted-lost a l begun (r ∷ rs) =
    ap (λ (fates : List Bool). record { fates = fates; cost = cost_of l r } ∷ shifted l (begun ++ (true ∷ [])) rs) (append_assoc begun (true ∷ []) r)
    ∙ ap (λ (list : List Schedule). record { fates = begun ++ (true ∷ r); cost = cost_of l r } ∷ list) (shifted-lost a l begun rs)

shifted-arrived : (a l : Tree) (begun : List Bool) (rs : List (List Bool)) → shifted a (begun ++ (false ∷ [])) rs ≡ shifted (Comes a l) begun (arrived_first rs)
shifted-arrived a l begun [] = refl
shifted-arrived a l begun (r ∷ rs) =
    ap (λ (fates : List Bool). record { fates = fates; cost = cost_of a r } ∷ shifted a (begun ++ (false ∷ [])) rs) (append_assoc begun (false ∷ []) r)
    ∙ ap (λ (list : List Schedule). record { fates = begun ++ (false ∷ r); cost = cost_of a r } ∷ list) (shifted-arrived a l begun rs)

are-shifted : (t : Tree) (most : ℕ) (begun : List Bool) → with_losses t most begun ≡ shifted t begun (rests t most)
are-shifted (Ends cost) most begun = refl
are-shifted (Comes a l) zero begun = refl
are-shifted (Comes a l) (suc most) begun =
    ap (λ (cost : ℕ). record { fates = begun ++ (true ∷ []); cost = cost } ∷ (with_losses l most (begun ++ (true ∷ [])) ++ with_losses a (suc most) (begun ++ (false ∷ [])))) (sym (ap quiet_cost (behind-nil l)))
    ∙ ap (λ (list : List Schedule). record { fates = begun ++ (true ∷ []); cost = cost_of l [] } ∷ (list ++ with_losses a (suc most) (begun ++ (false ∷ [])))) (are-shifted l most (begun ++ (true ∷ [])) ∙ shifted-lost a l begun (rests l most))
    ∙ ap (λ (list : List Schedule). record { fates = begun ++ (true ∷ []); cost = cost_of l [] } ∷ (shifted (Comes a l) begun (lost_first (rests l most)) ++ list)) (are-shifted a (suc most) (begun ++ (false ∷ [])) ∙ shifted-arrived a l begun (rests a (suc most)))
    ∙ ap (λ (list : List Schedule). record { fates = begun ++ (true ∷ []); cost = cost_of l [] } ∷ list) (sym (shifted-append (Comes a l) begun (lost_first (rests l most)) (arrived_first (rests a (suc most)))))

-- ---- what they lose

abbrev Among : ℕ → Tree → List ℕ → List (List Bool) → Type 0
Among p t places [] = ⊥
Among p t places (r ∷ rs) = (places_from p t r ≡ places) ⊎ Among p t places rs

among-left : (p : ℕ) (t : Tree) (places : List ℕ) (xs ys : List (List Bool)) → Among p t places xs → Among p t places (xs ++ ys)
among-left p t places [] ys h = absurd h
among-left p t places (x ∷ xs) ys (inl e) = inl e
among-left p t places (x ∷ xs) ys (inr h) = inr (among-left p t places xs ys h)

among-right : (p : ℕ) (t : Tree) (places : List ℕ) (xs ys : List (List Bool)) → Among p t places ys → Among p t places (xs ++ ys)
among-right p t places [] ys h = h
among-right p t places (x ∷ xs) ys h = inr (among-right p t places xs ys h)

among-split : (p : ℕ) (t : Tree) (places : List ℕ) (xs ys : List (List Bool)) → Among p t places (xs ++ ys) → Among p t places xs ⊎ Among p t places ys
among-split p t places [] ys h = inr h
among-split p t places (x ∷ xs) ys (inl e) = inl (inl e)
among-split p t places (x ∷ xs) ys (inr h) = sooner (among-split p t places xs ys h)
  where
    sooner : Among p t places xs ⊎ Among p t places ys → Among p t places (x ∷ xs) ⊎ Among p t places ys
    sooner (inl j) = inl (inr j)
    sooner (inr j) = inr j

among-lost : (p : ℕ) (a l : Tree) (places : List ℕ) (rs : List (List Bool)) → Among (p + 1) l places rs → Among p (Comes a l) (p ∷ places) (lost_first rs)
among-lost p a l places [] h = absurd h
among-lost p a l places (r ∷ rs) (inl e) = inl (ap (λ (xs : List ℕ). p ∷ xs) e)
among-lost p a l places (r ∷ rs) (inr h) = inr (among-lost p a l places rs h)

tail : List ℕ → List ℕ
tail [] = []
tail (x ∷ xs) = xs

lost-among : (p : ℕ) (a l : Tree) (places : List ℕ) (rs : List (List Bool)) → Among p (Comes a l) (p ∷ places) (lost_first rs) → Among (p + 1) l places rs
unfolding tail
lost-among p a l places [] h = absurd h
lost-among p a l places (r ∷ rs) (inl e) = inl (ap tail e)
lost-among p a l places (r ∷ rs) (inr h) = inr (lost-among p a l places rs h)

among-arrived : (p : ℕ) (a l : Tree) (places : List ℕ) (rs : List (List Bool)) → Among (p + 1) a places rs → Among p (Comes a l) places (arrived_first rs)
among-arrived p a l places [] h = absurd h
among-arrived p a l places (r ∷ rs) (inl e) = inl e
among-arrived p a l places (r ∷ rs) (inr h) = inr (among-arrived p a l places rs h)

arrived-among : (p : ℕ) (a l : Tree) (places : List ℕ) (rs : List (List Bool)) → Among p (Comes a l) places (arrived_first rs) → Among (p + 1) a places rs
arrived-among p a l places [] h = absurd h
arrived-among p a l places (r ∷ rs) (inl e) = inl e
arrived-among p a l places (r ∷ rs) (inr h) = inr (arrived-among p a l places rs h)

pub no-place : (p : ℕ) (t : Tree) → places_from p t [] ≡ []
no-place p (Ends cost) = refl
no-place p (Comes a l) = refl

-- ---- each run is among them

none-zero : (t : Tree) → rests t zero ≡ []
none-zero (Ends cost) = refl
none-zero (Comes a l) = refl

next-found : (a l : Tree) (p most : ℕ) (fates : List Bool) → Among (p + 1) a (places_from (p + 1) a fates) ([] ∷ rests a most)
    → Among p (Comes a l) (places_from (p + 1) a fates) ([] ∷ rests (Comes a l) most)
next-found a l p most fates (inl e) = inl (sym (no-place (p + 1) a) ∙ e)
next-found a l p zero fates (inr h) = absurd (subst (Among (p + 1) a (places_from (p + 1) a fates)) (none-zero a) h)
next-found a l p (suc most) fates (inr h) = inr (among-right p (Comes a l) (places_from (p + 1) a fates) (lost_first ([] ∷ rests l most)) (arrived_first (rests a (suc most)))
    (among-arrived p a l (places_from (p + 1) a fates) (rests a (suc most)) h))

found : (t : Tree) (p most : ℕ) (fates : List Bool) → losses_in fates ≤ most → Among p t (places_from p t fates) ([] ∷ rests t most)
found (Ends cost) p most fates h = inl refl
found (Comes a l) p most [] h = inl refl
found (Comes a l) p zero (true ∷ fates) h = absurd (omega (arith, h))
found (Comes a l) p (suc most) (true ∷ fates) h =
    inr (among-left p (Comes a l) (p ∷ places_from (p + 1) l fates) (lost_first ([] ∷ rests l most)) (arrived_first (rests a (suc most)))
    (among-lost p a l (places_from (p + 1) l fates) ([] ∷ rests l most) (found l (p + 1) most fates (omega (arith, h)))))
found (Comes a l) p most (false ∷ fates) h = next-found a l p most fates (found a (p + 1) most fates h)

-- ---- no two lose the same

-- the first place that is lost is none of those before
abbrev IsFrom : ℕ → List ℕ → Type 0
IsFrom p [] = ⊥
IsFrom p (x ∷ xs) = p ≤ x

from-less : (p : ℕ) (xs : List ℕ) → IsFrom (p + 1) xs → IsFrom p xs
from-less p [] h = h
from-less p (x ∷ xs) h = omega (arith, h)

from-lost : (p : ℕ) (a l : Tree) (places : List ℕ) (rs : List (List Bool)) → Among p (Comes a l) places (lost_first rs) → (tl : List ℕ) × (places ≡ p ∷ tl)
from-lost p a l places [] h = absurd h
from-lost p a l places (r ∷ rs) (inl e) = (places_from (p + 1) l r, sym e)
from-lost p a l places (r ∷ rs) (inr h) = from-lost p a l places rs h

from : (t : Tree) (p most : ℕ) (places : List ℕ) → Among p t places (rests t most) → IsFrom p places
from (Ends cost) p most places h = absurd h
from (Comes a l) p zero places h = absurd h
from (Comes a l) p (suc most) places h = by (λ i. from a (p + 1) (suc most) places i) (among-split p (Comes a l) places (lost_first ([] ∷ rests l most)) (arrived_first (rests a (suc most))) h)
  where
    by : (Among (p + 1) a places (rests a (suc most)) → IsFrom (p + 1) places)
        → Among p (Comes a l) places (lost_first ([] ∷ rests l most)) ⊎ Among p (Comes a l) places (arrived_first (rests a (suc most))) → IsFrom p places
    by more (inl i) = let f = from-lost p a l places ([] ∷ rests l most) i in subst (IsFrom p) (sym f.1) (omega arith)
    by more (inr i) = from-less p places (more (arrived-among p a l places (rests a (suc most)) i))

abbrev Apart : ℕ → Tree → List (List Bool) → Type 0
Apart p t [] = Unit {0}
Apart p t (r ∷ rs) = (Among p t (places_from p t r) rs → ⊥) × Apart p t rs

apart-append : (p : ℕ) (t : Tree) (xs ys : List (List Bool)) → Apart p t xs → Apart p t ys
    → ((places : List ℕ) → Among p t places xs → Among p t places ys → ⊥) → Apart p t (xs ++ ys)
apart-append p t [] ys a b cross = b
apart-append p t (x ∷ xs) ys a b cross = (
  λ i. neither (among-split p t (places_from p t x) xs ys i),
  apart-append p t xs ys a.1 b (λ places i j. cross places (inr i) j),
)
  where
    neither : Among p t (places_from p t x) xs ⊎ Among p t (places_from p t x) ys → ⊥
    neither (inl i) = a.0 i
    neither (inr j) = cross (places_from p t x) (inl refl) j

apart-lost : (p : ℕ) (a l : Tree) (rs : List (List Bool)) → Apart (p + 1) l rs → Apart p (Comes a l) (lost_first rs)
apart-lost p a l [] h = tt
apart-lost p a l (r ∷ rs) h = (λ i. h.0 (lost-among p a l (places_from (p + 1) l r) rs i), apart-lost p a l rs h.1)

apart-arrived : (p : ℕ) (a l : Tree) (rs : List (List Bool)) → Apart (p + 1) a rs → Apart p (Comes a l) (arrived_first rs)
apart-arrived p a l [] h = tt
apart-arrived p a l (r ∷ rs) h = (λ i. h.0 (arrived-among p a l (places_from (p + 1) a r) rs i), apart-arrived p a l rs h.1)

rest : (t : Tree) (p most : ℕ) → Apart p t (rests t most)
rest (Ends cost) p most = tt
rest (Comes a l) p zero = tt
rest (Comes a l) p (suc most) = apart-append p (Comes a l) (lost_first ([] ∷ rests l most)) (arrived_first (rests a (suc most)))
    (apart-lost p a l ([] ∷ rests l most) (λ i. subst (λ (xs : List ℕ). IsFrom (p + 1) xs) (no-place (p + 1) l) (from l (p + 1) most (places_from (p + 1) l []) i), rest l (p + 1) most))
    (apart-arrived p a l (rests a (suc most)) (rest a (p + 1) (suc most)))
    (λ places i j. let f = from-lost p a l places ([] ∷ rests l most) i in
    let up : IsFrom (p + 1) (p ∷ f.0) = subst (IsFrom (p + 1)) f.1 (from a (p + 1) (suc most) places (arrived-among p a l places (rests a (suc most)) j)) in omega (arith, up))

apart : (t : Tree) (p most : ℕ) → Apart p t ([] ∷ rests t most)
apart t p most = (λ i. subst (λ (xs : List ℕ). IsFrom p xs) (no-place p t) (from t p most (places_from p t []) i), rest t p most)

-- ---- as schedules

to-loses : (t : Tree) (places : List ℕ) (rs : List (List Bool)) → Among 0 t places rs → LosesAmong t places (shifted t [] rs)
to-loses t places [] h = h
to-loses t places (r ∷ rs) (inl e) = inl e
to-loses t places (r ∷ rs) (inr h) = inr (to-loses t places rs h)

of-loses : (t : Tree) (places : List ℕ) (rs : List (List Bool)) → LosesAmong t places (shifted t [] rs) → Among 0 t places rs
of-loses t places [] h = h
of-loses t places (r ∷ rs) (inl e) = inl e
of-loses t places (r ∷ rs) (inr h) = inr (of-loses t places rs h)

to-apart : (t : Tree) (rs : List (List Bool)) → Apart 0 t rs → AreApart t (shifted t [] rs)
to-apart t [] h = tt
to-apart t (r ∷ rs) h = (λ i. h.0 (of-loses t (places_from 0 t r) rs i), to-apart t rs h.1)

pub all-of : (t : Tree) (most : ℕ) → schedules t most [] ≡ shifted t [] ([] ∷ rests t most)
all-of t most =
    ap (λ (cost : ℕ). record { fates = []; cost = cost } ∷ with_losses t most []) (sym (ap quiet_cost (behind-nil t)))
    ∙ ap (λ (list : List Schedule). record { fates = []; cost = cost_of t [] } ∷ list) (are-shifted t most [])

pub all-once : (t : Tree) (most : ℕ) → AreAllOnce t most (schedules t most [])
all-once t most = record {
  each = λ fates few. subst (LosesAmong t (places_from 0 t fates)) (sym (all-of t most)) (to-loses t (places_from 0 t fates) ([] ∷ rests t most) (found t 0 most fates few));
  once = subst (AreApart t) (sym (all-of t most)) (to-apart t ([] ∷ rests t most) (apart t 0 most));
}
