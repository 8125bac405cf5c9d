-- Where an end stands to the other, it is ahead in no more LSP IDs than its flags.
use Rattle.std.proofs.Common.{◌≡◌, ℕ, ◌+◌, ◌≤◌, Bool, true, false, ◌&&◌, ◌||◌, not, nat_lt, ⊎_elim, List, [], ◌∷◌, Option, Some, if◌then◌else◌, refl, sym, ap, ◌∙◌, subst, arith, zero-le}
use Rattle.std.proofs.lemmas.Bool.Decides.{nat_tests}
use Rattle.std.specs.List.{AllByRecursion}
use Rattle.isis_base.specs.declared.level.Level.{Level}
use Rattle.model_router.specs.Maps.{find}
use Rattle.model_router.specs.Sets.{has}
use Rattle.model_router.specs.Cells.{Cell}
use Rattle.model_router.specs.LetGos.{lets_go}
use Rattle.model_router.specs.Books.{rank_of, rank_at, srm_of, srm_at}
use Rattle.model_router.specs.Routers.{Router, level_of, book_of}
use Rattle.model_router.specs.Flooding.{IsKept}
use Rattle.model_router.proofs.RisingLemmas.{all-found}
use Rattle.model_network.specs.Ports.{Port}
use Rattle.model_network.specs.Links.{IsSound, Standing}
use Rattle.model_network.specs.Counts.{count_where, is_excepted, ahead, flags}

one-or-none : Bool → ℕ
one-or-none t = if t then 1 else 0

-- where one test implies another, it counts no more
counts : (p q : ℕ → Cell → Bool) (cells : List (ℕ × Cell)) → AllByRecursion (λ (x : ℕ × Cell). p x.0 x.1 ≡ true → q x.0 x.1 ≡ true) cells → count_where p cells ≤ count_where q cells
counts p q [] a = zero-le
counts p q (x ∷ cells) a = sum-le (p x.0 x.1) (q x.0 x.1) (count_where p cells) (count_where q cells) a.0 (counts p q cells a.1)
  where
    sum-le : (s t : Bool) (m n : ℕ) → (s ≡ true → t ≡ true) → m ≤ n → (if s then 1 else 0) + m ≤ (if t then 1 else 0) + n
    sum-le false false m n i h = omega (arith, h)
    sum-le false true m n i h = omega (arith, h)
    sum-le true true m n i h = omega (arith, h)
    sum-le true false m n i h = absurd (let e = i refl in cc)

-- a fact of the pairs of a list, from what is found there
all-of : (P : ℕ × Cell → Type 0) (m cells : List (ℕ × Cell)) → AllByRecursion (λ (x : ℕ × Cell). find m x.0 ≡ Some x.1) cells → ((x : ℕ × Cell) → find m x.0 ≡ Some x.1 → P x) → AllByRecursion P cells
all-of P m [] a f = tt
all-of P m (x ∷ cells) a f = (f x a.0, all-of P m cells a.1 f)

neither : (s t : Bool) → not (s || t) ≡ true → (s ≡ false) × (t ≡ false)
neither false false e = (refl, refl)
neither false true e = absurd (cc)
neither true t e = absurd (cc)

both : (s t : Bool) → (s && t) ≡ true → (s ≡ true) × (t ≡ true)
both true true e = (refl, refl)
both true false e = absurd (cc)
both false t e = absurd (cc)

less : (m n : ℕ) → nat_lt m n ≡ true → n ≤ m → ⊥
less m n e h = grind (arith, nat_tests, h)

pub ahead-flags : (e : Port) (a b : Router) (l : Level) → IsSound e a → ((id : ℕ) → IsKept a l id → IsKept b l id → Standing a e.place b l id) → ahead a b l ≤ flags a e.place l
ahead-flags e a b l sound stands = counts _ _ (book_of a l).cells
    (all-of _ (book_of a l).cells (book_of a l).cells (all-found (book_of a l).cells 0 (sound.sorted.on l)) flagged)
  where
    flagged : (x : ℕ × Cell) → find (book_of a l).cells x.0 ≡ Some x.1 → (not (is_excepted a b l x.0) && nat_lt (rank_at (book_of b l) x.0) x.1.rank) ≡ true → has x.1.srm e.place ≡ true
    flagged x f t =
        let two = both _ _ t in
        let kept = neither (lets_go (level_of a l).gone x.0) (lets_go (level_of b l).gone x.0) two.0 in
        ⊎_elim (λ (s : srm_at (book_of a l) x.0 e.place ≡ true). sym (ap (λ (o : Option Cell). srm_of o e.place) f) ∙ s)
        (λ (h : rank_at (book_of a l) x.0 ≤ rank_at (book_of b l) x.0). absurd (less (rank_at (book_of b l) x.0) x.1.rank two.1 (subst (λ (o : Option Cell). rank_of o ≤ rank_at (book_of b l) x.0) f h)))
        (stands x.0 kept.0 kept.1)
