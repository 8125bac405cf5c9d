-- Where in journals a move of their track stands.
use Rattle.std.proofs.Common.{◌≡◌, ◌≢◌, ℕ, zero, suc, ◌+◌, ◌==◌, ◌<◌, ◌≤◌, ◌⊎◌, inl, inr, true, false, List, [], ◌∷◌, ◌++◌, take, length, Some, refl, sym, ap, ◌∙◌, subst, arith}
use Rattle.std.proofs.lemmas.List.{length-append}
use Rattle.std.proofs.lemmas.Bool.Decides.{eqb_tells}
use Rattle.model_router.specs.Places.{nth}
use Rattle.weave_model.specs.Entries.{Entry}
use Rattle.weave_model.specs.Weavings.{Move, Does, Restarts, behind_restart, track_of}
use Rattle.weave_replay.specs.declared.journal.WovenJournal.{WovenJournal}
use Rattle.weave_replay.specs.Entries.{entries_of}
use Rattle.weave_replay.specs.Replays.{journals_of}
use Rattle.weave_replay.proofs.JournalLemmas.{own-first, other-first}
use Rattle.weave.specs.Counts.{with_restarts}

-- an entry of a journal with so many moves of its router before it
pub record IsAt (router : ℕ) (js : List WovenJournal) (before : ℕ) : Type 0 where
  pub place : ℕ
  pub j : WovenJournal
  pub at : nth js place ≡ Some j
  pub of : j.router ≡ router
  pub entry : ℕ
  pub inside : entry < length (entries_of j)
  pub counted : before ≡ with_restarts (journals_of router (take place js)) + entry

-- what is behind a journal and the restart there
record IsPast (ks : List (List Entry)) (size : ℕ) (made more : List Move) : Type 0 where
  later : List Move
  rest : track_of ks ≡ later ++ more
  counted : length made ≡ size + 1 + length later

abbrev moves_behind : List Move → List Move
moves_behind [] = []
moves_behind (m ∷ ms) = ms

none-there : (made : List Move) (m : Move) (more : List Move) → [] ≡ made ++ (m ∷ more) → ⊥
none-there made m more e = let n = ap length e ∙ length-append made (m ∷ more) in omega (arith, n)

abbrev does_first : List Move → ℕ
does_first [] = 0
does_first (Does e ∷ ms) = 1
does_first (Restarts ∷ ms) = 2

past : (es : List Entry) (ks : List (List Entry)) (made more : List Move) (e : Entry) → behind_restart es ks ≡ made ++ (Does e ∷ more) → length es ≤ length made → IsPast ks (length es) made (Does e ∷ more)
past [] [] made more e same h = absurd (none-there made (Does e) more same)
past [] (k ∷ ks) [] more e same h = absurd (let n : 2 ≡ 1 = ap does_first same in omega (arith, n))
past [] (k ∷ ks) (m ∷ made) more e same h = record { later = made; rest = ap moves_behind same; counted = omega arith }
past (x ∷ es) ks [] more e same h = absurd (omega (arith, h))
past (x ∷ es) [] (m ∷ made) more e same h = on (past es [] made more e (ap moves_behind same) (omega (arith, h)))
  where
    on : IsPast [] (length es) made (Does e ∷ more) → IsPast [] (length (x ∷ es)) (m ∷ made) (Does e ∷ more)
    on p = record { later = p.later; rest = p.rest; counted = let n = p.counted in omega (arith, n) }
past (x ∷ es) (k ∷ ks) (m ∷ made) more e same h = on (past es (k ∷ ks) made more e (ap moves_behind same) (omega (arith, h)))
  where
    on : IsPast (k ∷ ks) (length es) made (Does e ∷ more) → IsPast (k ∷ ks) (length (x ∷ es)) (m ∷ made) (Does e ∷ more)
    on p = record { later = p.later; rest = p.rest; counted = let n = p.counted in omega (arith, n) }

order : (m n : ℕ) → (m < n) ⊎ (n ≤ m)
order zero zero = inr (omega arith)
order zero (suc n) = inl (omega arith)
order (suc m) zero = inr (omega arith)
order (suc m) (suc n) = up (order m n)
  where
    up : (m < n) ⊎ (n ≤ m) → (suc m < suc n) ⊎ (suc n ≤ suc m)
    up (inl l) = inl (omega (arith, l))
    up (inr g) = inr (omega (arith, g))

pub locate : (js : List WovenJournal) (router : ℕ) (made more : List Move) (e : Entry) → track_of (journals_of router js) ≡ made ++ (Does e ∷ more) → IsAt router js (length made)
locate [] router made more e same = absurd (none-there made (Does e) more same)
locate (j ∷ js) router made more e same =
    by (λ (later : List Move) (rest : track_of (journals_of router js) ≡ later ++ (Does e ∷ more)). locate js router later more e rest) (eqb_tells j.router router)
  where
    other : j.router ≢ router → IsAt router js (length made) → IsAt router (j ∷ js) (length made)
    other n x = record {
      place = suc x.place;
      j = x.j;
      at = x.at;
      of = x.of;
      entry = x.entry;
      inside = x.inside;
      counted = x.counted ∙ ap (λ (ks : List (List Entry)). with_restarts ks + x.entry) (sym (other-first router j (take x.place js) n));
    }

    own-is : j.router ≡ router → (ks : List WovenJournal) → journals_of router (j ∷ ks) ≡ entries_of j ∷ journals_of router ks
    own-is s ks = subst (λ (k : ℕ). journals_of k (j ∷ ks) ≡ entries_of j ∷ journals_of k ks) s (own-first j ks)

    first : j.router ≡ router → length made < length (entries_of j) → IsAt router (j ∷ js) (length made)
    first s less = record { place = 0; j = j; at = refl; of = s; entry = length made; inside = less; counted = omega arith }

    later : j.router ≡ router → (p : IsPast (journals_of router js) (length (entries_of j)) made (Does e ∷ more)) → IsAt router js (length p.later) → IsAt router (j ∷ js) (length made)
    later s p x = record {
      place = suc x.place;
      j = x.j;
      at = x.at;
      of = x.of;
      entry = x.entry;
      inside = x.inside;
      counted =
          let n = p.counted in
          let m = x.counted in
          let w = ap with_restarts (own-is s (take x.place js)) in
          omega (arith, n, m, w);
    }

    by : ((later : List Move) → track_of (journals_of router js) ≡ later ++ (Does e ∷ more) → IsAt router js (length later)) → (((j.router == router) ≡ true) × (j.router ≡ router)) ⊎ (((j.router == router) ≡ false) × (j.router ≢ router)) → IsAt router (j ∷ js) (length made)
    by rest (inr n) = other n.1 (rest made (ap track_of (sym (other-first router j js n.1)) ∙ same))
    by rest (inl s) = which (order (length made) (length (entries_of j)))
      where
        mine : behind_restart (entries_of j) (journals_of router js) ≡ made ++ (Does e ∷ more)
        mine = ap track_of (sym (own-is s.1 js)) ∙ same

        behind : IsPast (journals_of router js) (length (entries_of j)) made (Does e ∷ more) → IsAt router (j ∷ js) (length made)
        behind p = later s.1 p (rest p.later p.rest)

        which : (length made < length (entries_of j)) ⊎ (length (entries_of j) ≤ length made) → IsAt router (j ∷ js) (length made)
        which (inl less) = first s.1 less
        which (inr past_it) = behind (past (entries_of j) (journals_of router js) made more e mine past_it)
