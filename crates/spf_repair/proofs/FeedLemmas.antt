-- What rows offer.

use Rattle.std.proofs.Common.{◌≡◌, ◌∙◌, ℕ, ◌+◌, Bool, true, false, Option, Some, None, List, ◌∷◌, refl, sym, ap, subst, arith, inl, inr}
use Rattle.std.specs.List.{Contains}
use Rattle.std.specs.Option.{is_some}
use Rattle.std.proofs.lemmas.Bool.{false≢true}
use Rattle.std.proofs.lemmas.List.Sorted.{Contains-permutation, IsPermutation-sym}
use Rattle.spf_tree.specs.declared.row.Row.{Row}
use Rattle.spf_tree.specs.declared.label.Label.{Label}
use Rattle.spf_tree.specs.Walks.{start, end}
use Rattle.spf_tree.specs.Labels.{at}
use Rattle.spf_tree.specs.Search.{IsCovered}
use Rattle.spf_repair.specs.Erase.{IsMarked}
use Rattle.spf_repair.specs.Change.{IsAlike}
use Rattle.spf_repair.specs.Feed.{IsOpen, IsGiven, IsGivenIf, IsFed, IsOfferedOn}
use Rattle.spf_tree.proofs.SearchLemmas.{news, cover_kept, some_same, contains_first, contains_rest, contains_cases}

-- ---- rows alike

pub alike_itself : (rows : List Row) (row : Row) → Contains rows row → IsAlike rows row
alike_itself rows row h = (row, h, refl, refl, refl)

-- ---- what one row offers

pub given_kept : (labels : List Label) (root : ℕ) (row : Row) (old new : List (ℕ × ℕ)) → IsGiven labels root row old new → (o : ℕ × ℕ) → Contains old o → Contains new o
given_kept labels root row old new h o there =
    elim h [
      | inl none ↦ subst (λ (q : List (ℕ × ℕ)). Contains q o) (sym none.1) there
      | inr some ↦
          elim some.2 [
            | inl same ↦ subst (λ (q : List (ℕ × ℕ)). Contains q o) (sym same.0) there
            | inr new_one ↦ let sum : ℕ × ℕ = (some.0 + row.metric, end row) in Contains-permutation (sum ∷ old) new o new_one.1 (contains_rest sum o old there)
          ]
    ]

pub given_fed : (rows : List Row) (root : ℕ) (labels : List Label) (row : Row) (old new : List (ℕ × ℕ)) → IsAlike rows row → IsFed rows root labels old → IsGiven labels root row old new → IsFed rows root labels new
given_fed rows root labels row old new in_rows fed h o there =
    elim h [
      | inl none ↦ fed o (subst (λ (q : List (ℕ × ℕ)). Contains q o) none.1 there)
      | inr some ↦
          elim some.2 [
            | inl same ↦ fed o (subst (λ (q : List (ℕ × ℕ)). Contains q o) same.0 there)
            | inr new_one ↦
                let sum : ℕ × ℕ = (some.0 + row.metric, end row) in
                elim (contains_cases sum o old (Contains-permutation new (sum ∷ old) o (IsPermutation-sym (sum ∷ old) new new_one.1) there)) [
                  | inl is ↦
                      let met = in_rows.4 in
                      let total : some.0 + in_rows.0.metric ≡ some.0 + row.metric = omega arith in
                      (in_rows.0, in_rows.1, (some.0, ap (at labels) in_rows.2 ∙ some.1, (λ e. new_one.0 (sym in_rows.3 ∙ e)), in_rows.3 ∙ ap (λ (p : ℕ × ℕ). p.1) is, total ∙ ap (λ (p : ℕ × ℕ). p.0) is))
                  | inr older ↦ fed o older
                ]
          ]
    ]

pub given_covers : (root : ℕ) (labels : List Label) (row : Row) (old new : List (ℕ × ℕ)) → IsGiven labels root row old new → IsOfferedOn labels root new row
given_covers root labels row old new h c e ne small =
    elim h [
      | inl none ↦ let f = none.0 in cc
      | inr some ↦
          let c_is : c ≡ some.0 = some_same some.0 c (at labels (start row)) some.1 e in
          subst (λ (x : ℕ). IsCovered labels new (end row) (x + row.metric)) (sym c_is)
          (elim some.2 [
            | inl same ↦ news labels root (end row) (some.0 + row.metric) new same.1 ne (omega arith)
            | inr new_one ↦ let sum : ℕ × ℕ = (some.0 + row.metric, end row) in inr (sum, Contains-permutation (sum ∷ old) new sum new_one.1 (contains_first sum old), refl, omega arith)
          ])
    ]

pub covers_kept : (root : ℕ) (labels : List Label) (row : Row) (old new : List (ℕ × ℕ)) → ((o : ℕ × ℕ) → Contains old o → Contains new o) → IsOfferedOn labels root old row → IsOfferedOn labels root new row
covers_kept root labels row old new kept h c e ne small = cover_kept labels old new (end row) (c + row.metric) kept (h c e ne small)

-- ---- where its end has no label

pub if_kept : (labels : List Label) (root : ℕ) (row : Row) (old new : List (ℕ × ℕ)) → IsGivenIf labels root row old new → (o : ℕ × ℕ) → Contains old o → Contains new o
if_kept labels root row old new h o there =
    elim h [ inl on ↦ given_kept labels root row old new on.1 o there | inr off ↦ subst (λ (q : List (ℕ × ℕ)). Contains q o) (sym off.1) there ]

pub if_fed : (rows : List Row) (root : ℕ) (labels : List Label) (row : Row) (old new : List (ℕ × ℕ)) → IsAlike rows row → IsFed rows root labels old → IsGivenIf labels root row old new → IsFed rows root labels new
if_fed rows root labels row old new in_rows fed h =
    elim h [ inl on ↦ given_fed rows root labels row old new in_rows fed on.1 | inr off ↦ (λ o there. fed o (subst (λ (q : List (ℕ × ℕ)). Contains q o) off.1 there)) ]

pub if_covers : (root : ℕ) (labels : List Label) (row : Row) (old new : List (ℕ × ℕ)) → IsGivenIf labels root row old new → IsOpen labels (end row) → IsOfferedOn labels root new row
if_covers root labels row old new h free =
    elim h [ inl on ↦ given_covers root labels row old new on.1 | inr off ↦ absurd (false≢true (sym free ∙ off.0)) ]

-- a cost is carried over only where there is no mark
open_by : (o : Option ℕ) (marked : Bool) → ((c : ℕ) → o ≡ Some c → marked ≡ false) → marked ≡ true → is_some o ≡ false
open_by None marked from h = refl
open_by (Some c) marked from h = absurd (false≢true (sym (from c refl) ∙ h))

pub marked_open : (old marks labels : List Label) → ((n c : ℕ) → at labels n ≡ Some c → (at old n ≡ Some c) × (is_some (at marks n) ≡ false)) → (n : ℕ) → IsMarked marks n → IsOpen labels n
marked_open old marks labels from n h = open_by (at labels n) (is_some (at marks n)) (λ c e. (from n c e).1) h
