-- How many moves journals are.
use Rattle.std.proofs.Common.{◌≡◌, ◌≢◌, ℕ, zero, suc, ◌+◌, ◌-◌, ◌<◌, ◌≤◌, ◌==◌, ◌⊎◌, inl, inr, true, false, List, [], ◌∷◌, ◌++◌, take, drop, length, Some, refl, sym, ap, ◌∙◌, subst, arith}
use Rattle.std.proofs.lemmas.Bool.Decides.{eqb_tells}
use Rattle.model_router.specs.Places.{nth, with_nth}
use Rattle.weave_model.specs.Entries.{Entry}
use Rattle.weave_model.specs.Weavings.{Move, Restarts, entries_before, behind_restart, track_of}
use Rattle.weave_replay.specs.declared.journal.WovenJournal.{WovenJournal}
use Rattle.weave_replay.specs.Entries.{entries_of}
use Rattle.weave_replay.specs.Replays.{journals_of}
use Rattle.weave_replay.proofs.PlaceLemmas.{some-is, There, there, at-same, at-other}
use Rattle.weave_replay.proofs.JournalLemmas.{journals-append, own-first, own-more, other-more}
use Rattle.weave.specs.Unreached.{moves_to, moves_in}
use Rattle.weave.specs.Counts.{with_restarts, AreAhead, IsMade, AreMade, AreAllMade, IsNotMade}
use Rattle.weave.proofs.ListLemmas.{parts, taken}

-- ---- the length of tracks

before-length : (es : List Entry) (ms : List Move) → length (entries_before es ms) ≡ length es + length ms
before-length [] ms = omega arith
before-length (e ∷ es) ms = let h = before-length es ms in omega (arith, h)

behind-length : (j : List Entry) (ks : List (List Entry)) → length (behind_restart j ks) ≡ length j + with_restarts ks
behind-length j [] = before-length j []
behind-length j (k ∷ ks) =
    let h = before-length j (Restarts ∷ behind_restart k ks) in
    let m = behind-length k ks in
    omega (arith, h, m)

-- journals with one among them
pub track-all : (js : List (List Entry)) (es : List Entry) (ks : List (List Entry)) → length (track_of (js ++ (es ∷ ks))) ≡ with_restarts js + length es + with_restarts ks
track-all [] es ks = let h = behind-length es ks in omega (arith, h)
track-all (j ∷ js) es ks = by js
  where
    all-with : (js : List (List Entry)) → with_restarts (js ++ (es ∷ ks)) ≡ with_restarts js + length es + 1 + with_restarts ks
    all-with [] = omega arith
    all-with (x ∷ js) = let h = all-with js in omega (arith, h)

    by : (js : List (List Entry)) → length (behind_restart j (js ++ (es ∷ ks))) ≡ length j + 1 + with_restarts js + length es + with_restarts ks
    by js = let h = behind-length j (js ++ (es ∷ ks)) in let m = all-with js in omega (arith, h, m)

-- the moves to and with so many entries
pub to-is : (before : List WovenJournal) (j : WovenJournal) (n : ℕ) → n ≤ length (entries_of j) → moves_to before j n ≡ with_restarts (journals_of j.router before) + n
to-is before j n h =
    let a = track-all (journals_of j.router before) (take n (entries_of j)) [] in
    let t = taken n (entries_of j) h in
    omega (arith, a, t)

-- all moves of a journal's router
pub in-is : (js : List WovenJournal) (place : ℕ) (j : WovenJournal) → nth js place ≡ Some j
    → moves_in j.router js ≡ with_restarts (journals_of j.router (take place js)) + length (entries_of j) + with_restarts (journals_of j.router (drop (suc place) js))
in-is js place j at =
    ap (λ (ks : List WovenJournal). moves_in j.router ks) (parts js place j at)
    ∙ (ap (λ (ks : List (List Entry)). length (track_of ks))
    (journals-append j.router (take place js) (j ∷ drop (suc place) js) ∙ ap (λ (ks : List (List Entry)). journals_of j.router (take place js) ++ ks) (own-first j (drop (suc place) js)))
    ∙ track-all (journals_of j.router (take place js)) (entries_of j) (journals_of j.router (drop (suc place) js)))

-- no more are made to an entry than in all
pub to-within : (js : List WovenJournal) (place : ℕ) (j : WovenJournal) (n : ℕ) → nth js place ≡ Some j → n ≤ length (entries_of j) → moves_to (take place js) j n ≤ moves_in j.router js
to-within js place j n at h = let a = to-is (take place js) j n h in let b = in-is js place j at in omega (arith, a, b, h)

-- ---- what is made

with-more : (js : List (List Entry)) (es : List Entry) → with_restarts (js ++ (es ∷ [])) ≡ with_restarts js + length es + 1
with-more [] es = omega arith
with-more (j ∷ js) es = let h = with-more js es in omega (arith, h)

-- the moves of an entry that is made
is-made : (made : List ℕ) (before : List WovenJournal) (j : WovenJournal) (ahead : List ℕ) (rest place : ℕ) → AreAhead made before ahead → nth ahead j.router ≡ Some rest → place < length (entries_of j) → place < rest → IsMade made before j (place + 1)
is-made made before j ahead rest place are at inside few count at_count =
    let t = to-is before j (place + 1) (omega (arith, inside)) in
    let e = are.left j.router count rest at_count at in
    omega (arith, t, e, few)

pub not-made : (made : List ℕ) (before : List WovenJournal) (j : WovenJournal) (ahead : List ℕ) (rest : ℕ) → AreAhead made before ahead → j.router < length ahead → nth ahead j.router ≡ Some rest → rest < length (entries_of j) → IsNotMade made before j rest
not-made made before j ahead rest are inside at few = by (there made j.router (let s = are.size in omega (arith, inside, s)))
  where
    by : There (nth made j.router) → IsNotMade made before j rest
    by x = record {
      there = few;
      count = x.item;
      counted = x.there;
      behind =
          let t = to-is before j (rest + 1) (omega (arith, few)) in
          let e = are.left j.router x.item rest x.there at in
          omega (arith, t, e);
      earlier = λ place less. is-made made before j ahead rest place are at (omega (arith, less, few)) less;
    }

pub are-made : (made : List ℕ) (before : List WovenJournal) (j : WovenJournal) (ahead : List ℕ) (rest : ℕ) → AreAhead made before ahead → nth ahead j.router ≡ Some rest → length (entries_of j) ≤ rest → AreMade made before j (length (entries_of j))
are-made made before j ahead rest are at many place inside = is-made made before j ahead rest place are at inside (omega (arith, inside, many))

pub ahead-more : (made : List ℕ) (before : List WovenJournal) (j : WovenJournal) (ahead : List ℕ) (rest : ℕ) → AreAhead made before ahead → nth ahead j.router ≡ Some rest → length (entries_of j) ≤ rest → AreAhead made (before ++ (j ∷ [])) (with_nth ahead j.router (rest - length (entries_of j) - 1))
ahead-more made before j ahead rest are at many = record {
  size = with-length ahead j.router (rest - length (entries_of j) - 1) ∙ are.size;
  left = λ router count left at_count at_left. by router count left at_count at_left (eqb_tells j.router router);
}
  where
    with-length : (xs : List ℕ) (i y : ℕ) → length (with_nth xs i y) ≡ length xs
    with-length [] i y = refl
    with-length (x ∷ xs) zero y = refl
    with-length (x ∷ xs) (suc i) y = ap suc (with-length xs i y)

    own : (count left : ℕ) → nth made j.router ≡ Some count → nth (with_nth ahead j.router (rest - length (entries_of j) - 1)) j.router ≡ Some left → left ≡ count - with_restarts (journals_of j.router (before ++ (j ∷ [])))
    own count left at_count at_left =
        let l = some-is left (rest - length (entries_of j) - 1) (sym at_left ∙ at-same ahead j.router rest (rest - length (entries_of j) - 1) at) in
        let e = are.left j.router count rest at_count at in
        let w = ap with_restarts (own-more before j) ∙ with-more (journals_of j.router before) (entries_of j) in
        omega (arith, l, e, w, many)

    other : (router count left : ℕ) → j.router ≢ router → nth made router ≡ Some count → nth (with_nth ahead j.router (rest - length (entries_of j) - 1)) router ≡ Some left → left ≡ count - with_restarts (journals_of router (before ++ (j ∷ [])))
    other router count left n at_count at_left =
        are.left router count left at_count (sym (at-other ahead j.router (rest - length (entries_of j) - 1) router n) ∙ at_left)
        ∙ ap (λ (ks : List (List Entry)). count - with_restarts ks) (sym (other-more router before j n))

    by : (router count left : ℕ) → nth made router ≡ Some count → nth (with_nth ahead j.router (rest - length (entries_of j) - 1)) router ≡ Some left
        → (((j.router == router) ≡ true) × (j.router ≡ router)) ⊎ (((j.router == router) ≡ false) × (j.router ≢ router)) → left ≡ count - with_restarts (journals_of router (before ++ (j ∷ [])))
    by router count left at_count at_left (inr n) = other router count left n.1 at_count at_left
    by router count left at_count at_left (inl s) =
        subst (λ (k : ℕ). left ≡ count - with_restarts (journals_of k (before ++ (j ∷ [])))) s.1
        (own count left (ap (nth made) s.1 ∙ at_count) (ap (nth (with_nth ahead j.router (rest - length (entries_of j) - 1))) s.1 ∙ at_left))

-- a journal more of which all entries are made
pub all-made-more : (made : List ℕ) (js : List WovenJournal) (place : ℕ) (j : WovenJournal) → nth js place ≡ Some j → AreAllMade made js place → AreMade made (take place js) j (length (entries_of j)) → AreAllMade made js (place + 1)
all-made-more made js place j at all one other k less at_k = by (below other place less)
  where
    below : (n m : ℕ) → n < m + 1 → (n < m) ⊎ (n ≡ m)
    below zero zero h = inr refl
    below zero (suc m) h = inl (omega arith)
    below (suc n) zero h = absurd (omega (arith, h))
    below (suc n) (suc m) h = up (below n m (omega (arith, h)))
      where
        up : (n < m) ⊎ (n ≡ m) → (suc n < suc m) ⊎ (suc n ≡ suc m)
        up (inl l) = inl (omega (arith, l))
        up (inr e) = inr (ap suc e)

    by : (other < place) ⊎ (other ≡ place) → AreMade made (take other js) k (length (entries_of k))
    by (inl l) = all other k l at_k
    by (inr s) =
        subst (λ (n : ℕ). AreMade made (take n js) k (length (entries_of k))) (sym s)
        (subst (λ (x : WovenJournal). AreMade made (take place js) x (length (entries_of x))) (some-is j k (sym at ∙ (ap (nth js) (sym s) ∙ at_k))) one)
