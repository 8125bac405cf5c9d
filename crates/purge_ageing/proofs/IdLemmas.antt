-- What a sorted list of LSP IDs has, and what it has with one more.
use Rattle.std.proofs.Common.{◌≡◌, ℕ, zero, suc, ◌+◌, ◌<◌, ◌≤◌, true, false, Bool, eqb, nat_lt, List, [], ◌∷◌, length, Some, None, Result, Ok, Err, MatchResult, if◌then◌else◌, refl, sym, ap, ◌∙◌, subst, arith}
use Rattle.std.specs.List.{insert}
use Rattle.std.specs.Result.{is_ok}
use Rattle.std.proofs.lemmas.Bool.Decides.{nat_tests}
use Rattle.isis_base.specs.declared.identifiers.LspId.{LspId}
use Rattle.isis_base.specs.Identifiers.{lsp_number}
use Rattle.model_router.specs.Sorted.{RisesFrom}
use Rattle.model_router.specs.LetGos.{LetGo, contains, with_id, lets_go, let_go}
use Rattle.flag_sync.specs.Walks.{numbers_of}
use Rattle.ordered.specs.Keyed.{keyed, AllAbove, IsPlace, IsGap}
use Rattle.purge_ageing.specs.Ids.{Rises, IsListed, gone_of}

pub length-numbers : (xs : List LspId) → length (numbers_of xs) ≡ length xs
length-numbers [] = refl
length-numbers (x ∷ xs) = ap suc (length-numbers xs)

-- the same of the list as a map
pub keyed-rises : (xs : List LspId) (least : ℕ) → Rises least (numbers_of xs) → RisesFrom least (keyed lsp_number xs)
keyed-rises [] least r = tt
keyed-rises (x ∷ xs) least r = (r.0, keyed-rises xs (lsp_number x + 1) r.1)

pub has-place : (xs : List LspId) (n i : ℕ) → IsPlace lsp_number xs n i → contains (numbers_of xs) n ≡ true
has-place [] n i at = absurd (let h = at.inside in omega (arith, h))
has-place (x ∷ xs) n zero at = let h = at.here x in grind (arith, nat_tests, h)
has-place (x ∷ xs) n (suc i) at =
    let rest : IsPlace lsp_number xs n i = record { inside = (let k = at.inside in omega (arith, k)); low = at.low.1; here = at.here; high = at.high } in
    grind (arith, nat_tests, has-place xs n i rest)

above-none : (xs : List LspId) (n : ℕ) → AllAbove lsp_number n xs → contains (numbers_of xs) n ≡ false
above-none [] n a = refl
above-none (x ∷ xs) n a = let h = a.0 in grind (arith, nat_tests, h, above-none xs n a.1)

pub has-gap : (xs : List LspId) (n i : ℕ) → IsGap lsp_number xs n i → contains (numbers_of xs) n ≡ false
has-gap [] n i gap = refl
has-gap (x ∷ xs) n zero gap = above-none (x ∷ xs) n gap.high
has-gap (x ∷ xs) n (suc i) gap =
    let h = gap.low.0 in
    let rest : IsGap lsp_number xs n i = record { inside = (let k = gap.inside in omega (arith, k)); low = gap.low.1; high = gap.high } in
    grind (arith, nat_tests, h, has-gap xs n i rest)

pub with-gap : (xs : List LspId) (v : LspId) (i : ℕ) → IsGap lsp_number xs (lsp_number v) i → numbers_of (insert xs i v) ≡ with_id (numbers_of xs) (lsp_number v)
with-gap [] v zero gap = refl
with-gap [] v (suc i) gap = refl
with-gap (x ∷ xs) v zero gap = let h = gap.high.0 in grind (arith, nat_tests, h)
with-gap (x ∷ xs) v (suc i) gap =
    let h = gap.low.0 in
    let rest : IsGap lsp_number xs (lsp_number v) i = record { inside = (let k = gap.inside in omega (arith, k)); low = gap.low.1; high = gap.high } in
    grind (arith, nat_tests, h, with-gap xs v i rest)

pub with-rises : (ns : List ℕ) (least n : ℕ) → least ≤ n → Rises least ns → Rises least (with_id ns n)
with-rises [] least n le r = (le, tt)
with-rises (x ∷ ns) least n le r = cases (eqb x n) (nat_lt n x) refl refl (λ lt. with-rises ns (x + 1) n lt r.1)
  where
    cases : (t u : Bool) → eqb x n ≡ t → nat_lt n x ≡ u → (x + 1 ≤ n → Rises (x + 1) (with_id ns n)) → Rises least (if t then x ∷ ns else (if u then n ∷ x ∷ ns else x ∷ with_id ns n))
    cases true u e f h = r
    cases false true e f h = let lt : n < x = grind (arith, nat_tests, f) in (le, (omega (arith, lt), r.1))
    cases false false e f h = (r.0, h (grind (arith, nat_tests, e, f)))

pub length-with : (ns : List ℕ) (n : ℕ) → length (with_id ns n) ≤ length ns + 1
length-with [] n = omega arith
length-with (x ∷ ns) n = let h = length-with ns n in grind (arith, nat_tests, h)

-- ---- one more that is let go

pub go-held : (ids : List ℕ) (n : ℕ) → contains ids n ≡ true → let_go (Some ids) n ≡ Some ids
unfolding let_go
go-held ids n e = rw e refl

pub go-new : (ids : List ℕ) (n : ℕ) → contains ids n ≡ false → length ids < 4096 → let_go (Some ids) n ≡ Some (with_id ids n)
unfolding let_go
go-new ids n e few = let yes : nat_lt (length ids) 4096 ≡ true = grind (arith, nat_tests, few) in rw (e, yes) refl

pub go-all : (ids : List ℕ) (n : ℕ) → contains ids n ≡ false → 4096 ≤ length ids → let_go (Some ids) n ≡ None
unfolding let_go
go-all ids n e many = let no : nat_lt (length ids) 4096 ≡ false = grind (arith, nat_tests, many) in rw (e, no) refl

-- ---- what is seen of the list, and of All

module _ (all : Bool) (ids : List LspId) (now : LetGo) (n : ℕ) (seen : gone_of all ids ≡ now) where
  all-seen : all ≡ true → now ≡ None
  all-seen e = sym seen ∙ rw e refl

  list-seen : all ≡ false → now ≡ Some (numbers_of ids)
  list-seen e = sym seen ∙ rw e refl

  pub add-all : all ≡ true → now ≡ let_go now n
  unfolding let_go
  add-all e = let none = all-seen e in rw none refl

  pub add-held : (i : ℕ) → all ≡ false → IsPlace lsp_number ids n i → now ≡ let_go now n
  add-held i e at = let some = list-seen e in rw some (sym (go-held (numbers_of ids) n (has-place ids n i at)))

  pub add-new : (i : ℕ) (new : List LspId) → all ≡ false → IsGap lsp_number ids n i → length ids < 4096 → numbers_of new ≡ with_id (numbers_of ids) n → gone_of all new ≡ let_go now n
  add-new i new e gap few same =
      let some = list-seen e in
      let len = length-numbers ids in
      rw (some, e) (ap (λ (ns : List ℕ). Some ns) same ∙ sym (go-new (numbers_of ids) n (has-gap ids n i gap) (omega (arith, len, few))))

  pub add-full : (i : ℕ) → all ≡ false → IsGap lsp_number ids n i → 4096 ≤ length ids → None ≡ let_go now n
  add-full i e gap many =
      let some = list-seen e in
      let len = length-numbers ids in
      rw some (sym (go-all (numbers_of ids) n (has-gap ids n i gap) (omega (arith, len, many))))

  pub has-all : all ≡ true → all ≡ lets_go now n
  unfolding lets_go
  has-all e = let none = all-seen e in rw (none, e) refl

  pub has-list : (r : Result ℕ ℕ) → all ≡ false → MatchResult r (IsPlace lsp_number ids n) (IsGap lsp_number ids n) → is_ok r ≡ lets_go now n
  unfolding lets_go
  has-list (Ok i) e h = let some = list-seen e in rw some (sym (has-place ids n i h))
  has-list (Err i) e h = let some = list-seen e in rw some (sym (has-gap ids n i h))

pub listed-more : (ids new : List LspId) (n room more : ℕ) → IsListed ids room → length ids < 4096 → numbers_of new ≡ with_id (numbers_of ids) n → more ≡ room → IsListed new more
listed-more ids new n room more h lt same e = record {
  rises = subst (Rises 0) (sym same) (with-rises (numbers_of ids) 0 n (omega arith) h.rises);
  few = let a = length-numbers ids in let b = length-numbers new in let k = ap length same in let most = length-with (numbers_of ids) n in omega (arith, a, b, k, most, lt);
  room = let r = h.room in omega (arith, r, e);
}
