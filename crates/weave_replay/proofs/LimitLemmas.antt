-- Limits: how many journals a router has, and how many datagrams the replies send.
use Rattle.std.proofs.Common.{◌≡◌, ℕ, zero, suc, ◌<◌, ◌≤◌, ◌⊎◌, inl, inr, true, false, Bool, ◌||◌, nat_lt, List, [], ◌∷◌, length, Some, refl, sym, ap, ◌∙◌, subst, arith}
use Rattle.std.specs.List.{AllByRecursion, list_any}
use Rattle.std.proofs.lemmas.Bool.{cases_order, cases_Bool, ltb-true, ltb-false}
use Rattle.model_router.specs.Places.{nth}
use Rattle.weave_replay.specs.declared.journal.WovenJournal.{WovenJournal}
use Rattle.weave_replay.specs.Replays.{journals_of, AreManyBoots, AreFewBoots}
use Rattle.weave_replay.specs.Outcomes.{AreCounts}
use Rattle.weave_replay.proofs.PlaceLemmas.{some-is, there}
use Rattle.weave_replay.proofs.JournalLemmas.{other-first}

-- ---- boots

no-journals : (router size : ℕ) (js : List WovenJournal) → size ≤ router → AllByRecursion (λ (j : WovenJournal). j.router < size) js → journals_of router js ≡ []
no-journals router size [] past all = refl
no-journals router size (j ∷ js) past all =
    other-first router j js (λ e. let h = all.0 in omega (arith, h, past, e)) ∙ no-journals router size js past all.1

-- a number above the limit
record Above (xs : List ℕ) : Type 0 where
  place : ℕ
  number : ℕ
  at : nth xs place ≡ Some number
  above : 16777215 < number

above : (xs : List ℕ) → list_any (λ (count : ℕ). nat_lt 16777215 count) xs ≡ true → Above xs
above [] e = absurd (cc)
above (x ∷ xs) e = by (cases_Bool (nat_lt 16777215 x)) (above xs)
  where
    by : (nat_lt 16777215 x ≡ true) ⊎ (nat_lt 16777215 x ≡ false) → (list_any (λ (count : ℕ). nat_lt 16777215 count) xs ≡ true → Above xs) → Above (x ∷ xs)
    by (inl here) more = record { place = 0; number = x; at = refl; above = ltb-true 16777215 x here }
    by (inr other) more =
        let found = more (ap (λ (b : Bool). b || list_any (λ (count : ℕ). nat_lt 16777215 count) xs) (sym other) ∙ e) in
        record { place = suc found.place; number = found.number; at = found.at; above = found.above }

none-above : (xs : List ℕ) (i n : ℕ) → list_any (λ (count : ℕ). nat_lt 16777215 count) xs ≡ false → nth xs i ≡ Some n → n ≤ 16777215
none-above [] i n e at = absurd (cc)
none-above (x ∷ xs) i n e at = by (cases_Bool (nat_lt 16777215 x)) i at (λ k. none-above xs k n)
  where
    by : (nat_lt 16777215 x ≡ true) ⊎ (nat_lt 16777215 x ≡ false) → (k : ℕ) → nth (x ∷ xs) k ≡ Some n → ((m : ℕ) → list_any (λ (count : ℕ). nat_lt 16777215 count) xs ≡ false → nth xs m ≡ Some n → n ≤ 16777215) → n ≤ 16777215
    by (inl here) k there more = absurd (contra (sym (ap (λ (b : Bool). b || list_any (λ (count : ℕ). nat_lt 16777215 count) xs) here) ∙ e))
      where
        contra : true ≡ false → ⊥
        contra h = cc
    by (inr other) zero there more = subst (λ (m : ℕ). m ≤ 16777215) (some-is x n there) (ltb-false 16777215 x other)
    by (inr other) (suc k) there more = more k (ap (λ (b : Bool). b || list_any (λ (count : ℕ). nat_lt 16777215 count) xs) (sym other) ∙ e) there

pub few-boots : (counts : List ℕ) (js : List WovenJournal) → AllByRecursion (λ (j : WovenJournal). j.router < length counts) js → AreCounts counts js → list_any (λ (count : ℕ). nat_lt 16777215 count) counts ≡ false → AreFewBoots js
few-boots counts js all are none router = by (cases_order router (length counts))
  where
    past : length counts ≤ router → length (journals_of router js) ≤ 16777215
    past le = let h = ap length (no-journals router (length counts) js le all) in omega (arith, h)

    by : (router ≡ length counts) ⊎ ((router < length counts) ⊎ (length counts < router)) → length (journals_of router js) ≤ 16777215
    by (inl e) = past (omega (arith, e))
    by (inr (inl lt)) =
        let t = there counts router lt in
        subst (λ (n : ℕ). n ≤ 16777215) (are router t.item t.there) (none-above counts router t.item none t.there)
    by (inr (inr gt)) = past (omega (arith, gt))

pub many-boots : (counts : List ℕ) (js : List WovenJournal) → AreCounts counts js → list_any (λ (count : ℕ). nat_lt 16777215 count) counts ≡ true → AreManyBoots js
many-boots counts js are some =
    let found = above counts some in
    record { router = found.place; many = subst (λ (n : ℕ). 16777215 < n) (are found.place found.number found.at) found.above }
