-- Plans of routers, as they grow.
use Rattle.std.proofs.Common.{◌≡◌, ℕ, zero, suc, ◌+◌, ◌<◌, true, false, List, [], ◌∷◌, ◌++◌, length, Some, refl, sym, ap, ◌∙◌, arith}
use Rattle.std.proofs.lemmas.List.{append_assoc}
use Rattle.model_router.specs.Places.{nth}
use Rattle.weave_model.specs.Entries.{Entry}
use Rattle.weave_model.specs.Weavings.{Move, Does, Restarts, entries_before, track_of}
use Rattle.weave_replay.specs.declared.journal.WovenJournal.{WovenJournal}
use Rattle.weave_replay.specs.Replays.{journals_of}
use Rattle.weave.specs.Coded.{has_some}
use Rattle.weave.specs.Begins.{tracks_from}
use Rattle.weave.proofs.TrackLemmas.{before-more, track-more, track-first, track-none}

-- ---- tracks of routers

tracks-behind : (router count : ℕ) (js : List WovenJournal) → tracks_from router (suc count) js ≡ tracks_from router count js ++ (track_of (journals_of (router + count) js) ∷ [])
tracks-behind router zero js = let n : router ≡ router + 0 = omega arith in ap (λ (k : ℕ). track_of (journals_of k js) ∷ []) n
tracks-behind router (suc count) js =
    let n : router + 1 + count ≡ router + suc count = omega arith in
    ap (λ (ts : List (List Move)). track_of (journals_of router js) ∷ ts)
    (tracks-behind (router + 1) count js ∙ ap (λ (k : ℕ). tracks_from (router + 1) count js ++ (track_of (journals_of k js) ∷ [])) n)

-- a router more
pub tracks-more : (count : ℕ) (js : List WovenJournal) → tracks_from 0 (count + 1) js ≡ tracks_from 0 count js ++ (track_of (journals_of count js) ∷ [])
tracks-more count js =
    let m : count + 1 ≡ suc count = omega arith in
    let n : 0 + count ≡ count = omega arith in
    ap (λ (k : ℕ). tracks_from 0 k js) m ∙ (tracks-behind 0 count js ∙ ap (λ (k : ℕ). tracks_from 0 count js ++ (track_of (journals_of k js) ∷ [])) n)

pub tracks-length : (router count : ℕ) (js : List WovenJournal) → length (tracks_from router count js) ≡ count
tracks-length router zero js = refl
tracks-length router (suc count) js = ap suc (tracks-length (router + 1) count js)

tracks-at : (router count i : ℕ) (js : List WovenJournal) → i < count → nth (tracks_from router count js) i ≡ Some (track_of (journals_of (router + i) js))
tracks-at router zero i js h = absurd (omega (arith, h))
tracks-at router (suc count) zero js h = let n : router ≡ router + 0 = omega arith in ap (λ (k : ℕ). Some (track_of (journals_of k js))) n
tracks-at router (suc count) (suc i) js h =
    let n : router + 1 + i ≡ router + suc i = omega arith in
    tracks-at (router + 1) count i js (omega (arith, h)) ∙ ap (λ (k : ℕ). Some (track_of (journals_of k js))) n

-- the track of a router
pub track-there : (count i : ℕ) (js : List WovenJournal) → i < count → nth (tracks_from 0 count js) i ≡ Some (track_of (journals_of i js))
track-there count i js h = let n : 0 + i ≡ i = omega arith in tracks-at 0 count i js h ∙ ap (λ (k : ℕ). Some (track_of (journals_of k js))) n

-- ---- a journal more

-- steps behind others
pub steps-more : (es : List Entry) (e : Entry) (old moves : List Move) → moves ≡ old ++ entries_before es [] → moves ++ (Does e ∷ []) ≡ old ++ entries_before (es ++ (e ∷ [])) []
steps-more es e old moves same =
    ap (λ (ms : List Move). ms ++ (Does e ∷ [])) same
    ∙ (append_assoc old (entries_before es []) (Does e ∷ []) ∙ ap (λ (ms : List Move). old ++ ms) (sym (before-more es e)))

-- a first journal
pub plan-first : (js : List (List Entry)) (es : List Entry) (old : List Move) → has_some js ≡ false → old ≡ track_of js → old ++ entries_before es [] ≡ track_of (js ++ (es ∷ []))
plan-first js es old none same =
    ap (λ (ms : List Move). ms ++ entries_before es []) (same ∙ track-none js none) ∙ sym (track-first js es none)

-- a later one
pub plan-more : (js : List (List Entry)) (es : List Entry) (old : List Move) → has_some js ≡ true → old ≡ track_of js → (old ++ (Restarts ∷ [])) ++ entries_before es [] ≡ track_of (js ++ (es ∷ []))
plan-more js es old some same =
    append_assoc old (Restarts ∷ []) (entries_before es [])
    ∙ (ap (λ (ms : List Move). ms ++ (Restarts ∷ entries_before es [])) same ∙ sym (track-more js es some))
