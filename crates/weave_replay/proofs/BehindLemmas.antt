-- Routers behind one journal more.
use Rattle.std.proofs.Common.{◌≡◌, ◌≢◌, ℕ, zero, suc, ◌+◌, ◌==◌, ◌<◌, ◌≤◌, ◌⊎◌, inl, inr, true, false, List, [], ◌∷◌, ◌++◌, length, take, Option, Some, None, refl, sym, ap, ◌∙◌, subst, arith}
use Rattle.std.specs.Prelude.{IfSome}
use Rattle.std.proofs.lemmas.Bool.Decides.{eqb_tells}
use Rattle.model_router.specs.Places.{nth, with_nth}
use Rattle.model_router.specs.Routers.{Router}
use Rattle.model_router.specs.Starts.{start}
use Rattle.model_network.specs.Networks.{restarted}
use Rattle.router_core.specs.Givens.{given}
use Rattle.weave_model.specs.Entries.{Entry, replay}
use Rattle.weave_model.specs.Faults.{AreGood, Fault, OfEvent, OfReply, opening}
use Rattle.weave_replay.specs.declared.entries.Replayed.{Replayed}
use Rattle.weave_replay.specs.declared.entries.Replayed.TheVariants as replayed
use Rattle.weave_replay.specs.declared.journal.WovenJournal.{WovenJournal}
use Rattle.weave_replay.specs.Entries.{entries_of}
use Rattle.weave_replay.specs.Replays.{journals_of, in_first_boot, Opens, IsFaultAt, IsFaultless, HasFault, AreFaultless}
use Rattle.weave_replay.specs.Outcomes.{IsReplayed, IsReplayedIn, AreCounts, AreBehind, IsReplayedNext}
use Rattle.weave_replay.proofs.PlaceLemmas.{some-is, There, there, within, at-same, at-other, in-more, take-part, take-before, nth-between}
use Rattle.weave_replay.proofs.JournalLemmas.{own-more, other-more, own-length, few-journals, opening-more, StepsStay, replay-boot}

-- ---- counts

pub counts-more : (counts : List ℕ) (before : List WovenJournal) (j : WovenJournal) (count : ℕ) → nth counts j.router ≡ Some count → AreCounts counts before → AreCounts (with_nth counts j.router (count + 1)) (before ++ j ∷ [])
counts-more counts before j count here all router n at = by (eqb_tells j.router router)
  where
    by : (((j.router == router) ≡ true) × (j.router ≡ router)) ⊎ (((j.router == router) ≡ false) × (j.router ≢ router)) → n ≡ length (journals_of router (before ++ j ∷ []))
    by (inl same) =
        let at-own = subst (λ (i : ℕ). nth (with_nth counts j.router (count + 1)) i ≡ Some n) (sym same.1) at in
        let e = some-is (count + 1) n (sym (at-same counts j.router count (count + 1) here) ∙ at-own) in
        let counted = all j.router count here in
        subst (λ (i : ℕ). n ≡ length (journals_of i (before ++ j ∷ []))) same.1
        (sym e ∙ ap (λ (k : ℕ). k + 1) counted ∙ sym (own-length before j))
    by (inr other) =
        all router n (sym (at-other counts j.router (count + 1) router other.1) ∙ at)
        ∙ ap length (sym (other-more router before j other.1))

take-most : (n : ℕ) (xs : List WovenJournal) → length (take n xs) ≤ n
take-most zero xs = omega arith
take-most (suc n) [] = omega arith
take-most (suc n) (x ∷ xs) = let h = take-most n xs in omega (arith, h)

-- counts stay below the number of journals
pub few-counts : (counts : List ℕ) (js : List WovenJournal) (place router most : ℕ) → AreCounts counts (take place js) → place + 1 < most → IfSome (nth counts router) (λ count. count + 1 < most)
few-counts counts js place router most all lt = by (nth counts router) refl
  where
    by : (o : Option ℕ) → nth counts router ≡ o → IfSome o (λ count. count + 1 < most)
    by None e = tt
    by (Some count) e =
        let counted = all router count e in
        let few = few-journals router (take place js) in
        let size = take-most place js in
        omega (arith, lt, counted, few, size)

-- ---- routers

-- a journal behind the last boot
pub behind-over : (firsts routers : List Router) (before : List WovenJournal) (j : WovenJournal) → 16777215 ≤ length (journals_of j.router before) → AreBehind firsts routers before → AreBehind firsts routers (before ++ j ∷ [])
behind-over firsts routers before j over all router first r at-first at few = by (eqb_tells j.router router)
  where
    by : (((j.router == router) ≡ true) × (j.router ≡ router)) ⊎ (((j.router == router) ≡ false) × (j.router ≢ router)) → start r.config (length (journals_of router (before ++ j ∷ [])) + 1) r.circuits ≡ opening given (in_first_boot first) (journals_of router (before ++ j ∷ []))
    by (inl same) =
        let own = subst (λ (i : ℕ). length (journals_of i (before ++ j ∷ [])) ≤ 16777215) (sym same.1) few in
        let size = own-length before j in
        absurd (omega (arith, over, own, size))
    by (inr other) =
        let e = other-more router before j other.1 in
        subst (λ (js : List (List Entry)). start r.config (length js + 1) r.circuits ≡ opening given (in_first_boot first) js) (sym e)
        (all router first r at-first at (subst (λ (js : List (List Entry)). length js ≤ 16777215) e few))

pub faultless-over : (firsts : List Router) (before : List WovenJournal) (j : WovenJournal) → 16777215 ≤ length (journals_of j.router before) → IsFaultless firsts before j
faultless-over firsts before j over r opens = let b = opens.boot in absurd (omega (arith, over, b))

-- a journal that was replayed

restarts : StepsStay → (r : Router) (count : ℕ) (es : List Entry) → let t = replay given (start r.config (count + 1) r.circuits) es in start t.config (count + 1 + 1) t.circuits ≡ restarted t
restarts stays r count es =
    let t = replay given (start r.config (count + 1) r.circuits) es in
    ap (λ (b : ℕ). start t.config (b + 1) t.circuits) (sym (replay-boot stays (start r.config (count + 1) r.circuits) es))

pub behind-more : StepsStay → (firsts routers : List Router) (before : List WovenJournal) (j : WovenJournal) (r t : Router) → length (journals_of j.router before) ≤ 16777215 → nth routers j.router ≡ Some r → t ≡ replay given (start r.config (length (journals_of j.router before) + 1) r.circuits) (entries_of j) → AreBehind firsts routers before → AreBehind firsts (with_nth routers j.router t) (before ++ j ∷ [])
behind-more stays firsts routers before j r t small here state all router first s at-first at few = by (eqb_tells j.router router)
  where
    own : nth firsts j.router ≡ Some first → start t.config (length (journals_of j.router (before ++ j ∷ [])) + 1) t.circuits ≡ opening given (in_first_boot first) (journals_of j.router (before ++ j ∷ []))
    own at-own =
        let js = journals_of j.router before in
        let begun = start r.config (length js + 1) r.circuits in
        ap (λ (n : ℕ). start t.config (n + 1) t.circuits) (own-length before j)
        ∙ ap (λ (x : Router). start x.config (length js + 1 + 1) x.circuits) state
        ∙ restarts stays r (length js) (entries_of j)
        ∙ ap (λ (x : Router). restarted (replay given x (entries_of j))) (all j.router first r at-own here small)
        ∙ sym (opening-more (in_first_boot first) js (entries_of j))
        ∙ ap (λ (x : List (List Entry)). opening given (in_first_boot first) x) (sym (own-more before j))

    by : (((j.router == router) ≡ true) × (j.router ≡ router)) ⊎ (((j.router == router) ≡ false) × (j.router ≢ router)) → start s.config (length (journals_of router (before ++ j ∷ [])) + 1) s.circuits ≡ opening given (in_first_boot first) (journals_of router (before ++ j ∷ []))
    by (inl same) =
        let at-own = subst (λ (i : ℕ). nth (with_nth routers j.router t) i ≡ Some s) (sym same.1) at in
        let e = some-is t s (sym (at-same routers j.router r t here) ∙ at-own) in
        let found = own (subst (λ (i : ℕ). nth firsts i ≡ Some first) (sym same.1) at-first) in
        subst (λ (i : ℕ). start s.config (length (journals_of i (before ++ j ∷ [])) + 1) s.circuits ≡ opening given (in_first_boot first) (journals_of i (before ++ j ∷ []))) same.1
        (subst (λ (x : Router). start x.config (length (journals_of j.router (before ++ j ∷ [])) + 1) x.circuits ≡ opening given (in_first_boot first) (journals_of j.router (before ++ j ∷ []))) e found)
    by (inr other) =
        let e = other-more router before j other.1 in
        subst (λ (js : List (List Entry)). start s.config (length js + 1) s.circuits ≡ opening given (in_first_boot first) js) (sym e)
        (all router first s at-first (sym (at-other routers j.router t router other.1) ∙ at) (subst (λ (js : List (List Entry)). length js ≤ 16777215) e few))

-- where it opens
pub opens-here : (firsts routers : List Router) (before : List WovenJournal) (j : WovenJournal) (r s : Router) → nth routers j.router ≡ Some r → AreBehind firsts routers before → Opens firsts before j s → start r.config (length (journals_of j.router before) + 1) r.circuits ≡ s
opens-here firsts routers before j r s here all opens =
    let b = opens.boot in
    all j.router opens.first r opens.of here (omega (arith, b)) ∙ sym opens.state

pub faultless-here : (firsts routers : List Router) (before : List WovenJournal) (j : WovenJournal) (r : Router) → nth routers j.router ≡ Some r → AreBehind firsts routers before → AreGood given (start r.config (length (journals_of j.router before) + 1) r.circuits) (entries_of j) → IsFaultless firsts before j
faultless-here firsts routers before j r here all good s opens = subst (λ (x : Router). AreGood given x (entries_of j)) (opens-here firsts routers before j r s here all opens) good

pub fault-here : (firsts routers : List Router) (before : List WovenJournal) (j : WovenJournal) (r : Router) (entry : ℕ) (fault : Fault) → length firsts ≡ length routers → length (journals_of j.router before) < 16777215 → nth routers j.router ≡ Some r → AreBehind firsts routers before → IsFaultAt (start r.config (length (journals_of j.router before) + 1) r.circuits) (entries_of j) entry fault → HasFault firsts before j entry fault
fault-here firsts routers before j r entry fault size boot here all faulty = by (there firsts j.router (let h = within routers j.router r here in omega (arith, size, h)))
  where
    by : There (nth firsts j.router) → HasFault firsts before j entry fault
    by first = record {
      r = opening given (in_first_boot first.item) (journals_of j.router before);
      opens = record { first = first.item; of = first.there; state = refl; boot = boot };
      faulty = subst (λ (x : Router). IsFaultAt x (entries_of j) entry fault) (all j.router first.item r first.there here (omega (arith, boot))) faulty;
    }

pub replayed-next : StepsStay → (firsts routers new : List Router) (before : List WovenJournal) (j : WovenJournal) (r : Router) (boot : ℕ) (answer : Replayed) → length firsts ≡ length routers → length (journals_of j.router before) < 16777215 → boot ≡ length (journals_of j.router before) + 1 → nth routers j.router ≡ Some r → AreBehind firsts routers before → IsReplayedIn routers new j.router (start r.config boot r.circuits) (entries_of j) answer → IsReplayedNext firsts new before j answer
replayed-next stays firsts routers new before j r boot answer size few count here all done = by answer (subst (λ (n : ℕ). IsReplayed (start r.config n r.circuits) done.behind (entries_of j) answer) count done.replayed_is)
  where
    by : (x : Replayed) → IsReplayed (start r.config (length (journals_of j.router before) + 1) r.circuits) done.behind (entries_of j) x → IsReplayedNext firsts new before j x
    by replayed.Good h = (
      subst (λ (x : List Router). AreBehind firsts x (before ++ j ∷ [])) (sym done.routers) (behind-more stays firsts routers before j r done.behind (omega (arith, few)) here h.1 all),
      faultless-here firsts routers before j r here all h.0,
    )
    by (replayed.OfEvent entry) h = fault-here firsts routers before j r entry OfEvent size few here all h
    by (replayed.OfReply entry) h = fault-here firsts routers before j r entry OfReply size few here all h

pub replayed-at : StepsStay → (firsts routers new : List Router) (before : List WovenJournal) (j : WovenJournal) (boot : ℕ) (answer : Replayed) → j.router < length routers → length firsts ≡ length routers → length (journals_of j.router before) < 16777215 → boot ≡ length (journals_of j.router before) + 1 → AreBehind firsts routers before → IfSome (nth routers j.router) (λ r. IsReplayedIn routers new j.router (start r.config boot r.circuits) (entries_of j) answer) → IsReplayedNext firsts new before j answer
replayed-at stays firsts routers new before j boot answer here size few count all done =
    let r = there routers j.router here in
    replayed-next stays firsts routers new before j r.item boot answer size few count r.there all
    (subst (λ (o : Option Router). IfSome o (λ r. IsReplayedIn routers new j.router (start r.config boot r.circuits) (entries_of j) answer)) r.there done)

-- ---- journals without a fault

pub faultless-more : (routers : List Router) (js : List WovenJournal) (j : WovenJournal) → AreFaultless routers js → IsFaultless routers js j → AreFaultless routers (js ++ j ∷ [])
faultless-more routers js j all one place k at = by (in-more js j place k at)
  where
    by : ((place < length js) × (nth js place ≡ Some k)) ⊎ ((place ≡ length js) × (j ≡ k)) → IsFaultless routers (take place (js ++ j ∷ [])) k
    by (inl (lt, at-old)) = subst (λ (xs : List WovenJournal). IsFaultless routers xs k) (sym (take-part js (j ∷ []) place (omega (arith, lt)))) (all place k at-old)
    by (inr (e, same)) =
        subst (λ (xs : List WovenJournal). IsFaultless routers xs k) (sym (ap (λ (n : ℕ). take n (js ++ j ∷ [])) e ∙ take-before js (j ∷ [])))
        (subst (λ (x : WovenJournal). IsFaultless routers js x) same one)

pub faultless-between : (routers : List Router) (before : List WovenJournal) (j : WovenJournal) (behind : List WovenJournal) → AreFaultless routers (before ++ j ∷ behind) → IsFaultless routers before j
faultless-between routers before j behind all =
    subst (λ (xs : List WovenJournal). IsFaultless routers xs j) (take-before before (j ∷ behind)) (all (length before) j (nth-between before j behind))
