-- A network at its start matches the tracks by letters.
use Rattle.std.proofs.Common.{◌≡◌, ℕ, zero, suc, ◌+◌, ◌<◌, List, [], ◌∷◌, map, length, Some, slice_get, refl, sym, ap, ◌∙◌, subst, arith}
use Rattle.model_router.specs.Givens.{Given}
use Rattle.model_router.specs.Places.{nth}
use Rattle.model_router.specs.Routers.{Router}
use Rattle.model_network.specs.Networks.{Datagram, Network}
use Rattle.weave_replay.specs.Passed.{given}
use Rattle.weave_core.specs.declared.moves.Move.{Move as CoreMove}
use Rattle.weave_core.specs.Codes.{code_of}
use Rattle.weave_core.specs.Scenes.{start as start_of}
use Rattle.weave_model.specs.Entries.{Entry}
use Rattle.weave_model.specs.Faults.{AreGoodAll}
use Rattle.weave_model.specs.Weavings.{Move, track_of}
use Rattle.weave_model.specs.Coding.{IsGoodTrack, letter_of, IsPair, Matches}
use Rattle.weave_replay.specs.declared.journal.WovenJournal.{WovenJournal}
use Rattle.weave_replay.specs.Replays.{journals_of, in_first_boot, AreReplayed}
use Rattle.weave_replay.proofs.PlaceLemmas.{some-is, There, there, within}
use Rattle.weave.specs.Coded.{AreAllCoded}
use Rattle.weave.specs.Begins.{tracks_from, begin, IsAtStart}
use Rattle.weave.proofs.PortLemmas.{AreGoodEach}

nth-slice : {X : Type 0} → (xs : List X) (i : ℕ) → slice_get xs i ≡ nth xs i
nth-slice [] i = refl
nth-slice (x ∷ xs) zero = refl
nth-slice (x ∷ xs) (suc i) = nth-slice xs i

tracks-length : (router count : ℕ) (js : List WovenJournal) → length (tracks_from router count js) ≡ count
tracks-length router zero js = refl
tracks-length router (suc count) js = ap suc (tracks-length (router + 1) count js)

-- the track at a place is of that router
track-at : (router count : ℕ) (js : List WovenJournal) (i : ℕ) (left : List Move) → slice_get (tracks_from router count js) i ≡ Some left → left ≡ track_of (journals_of (router + i) js)
track-at router zero js i left at = absurd (cc)
track-at router (suc count) js zero left at = let n : router ≡ router + 0 = omega arith in sym (some-is (track_of (journals_of router js)) left at) ∙ ap (λ (k : ℕ). track_of (journals_of k js)) n
track-at router (suc count) js (suc i) left at = let n : router + 1 + i ≡ router + suc i = omega arith in track-at (router + 1) count js i left at ∙ ap (λ (k : ℕ). track_of (journals_of k js)) n

-- journals without faults are a track without faults
abbrev pub AreTracks : Type 0
AreTracks = (g : Given) (r : Router) (js : List (List Entry)) → AreGoodAll g r js → IsGoodTrack g r (track_of js)

pair-at : AreTracks → AreGoodEach → (routers : List Router) (rows : List (List ℕ)) (js : List WovenJournal) (wires : List (ℕ × List ℕ)) (tracks : List (List CoreMove)) (net : Network) → AreReplayed routers js → AreAllCoded wires rows js tracks → IsAtStart routers rows net → (i : ℕ) (ms : List CoreMove) → nth tracks i ≡ Some ms → IsPair given (code_of wires) (length wires) net.links i net (track_of (journals_of i js)) ms
pair-at track good routers rows js wires tracks net all coded at i ms at-i = by (there rows i inside) (there routers i (let s = at.rows_size in omega (arith, inside, s)))
  where
    inside : i < length rows
    inside = let h = within tracks i ms at-i in let s = coded.size in omega (arith, h, s)

    by : There (nth rows i) → There (nth routers i) → IsPair given (code_of wires) (length wires) net.links i net (track_of (journals_of i js)) ms
    by row first = record {
      r = in_first_boot first.item;
      at = at.opens i first.item first.there;
      codes = coded.coded i row.item ms row.there at-i net.links (at.ports i row.item row.there);
      good = track given (in_first_boot first.item) (journals_of i js) (good routers js i first.item all first.there);
    }

pub begins : AreTracks → AreGoodEach → (routers : List Router) (rows : List (List ℕ)) (js : List WovenJournal) (wires : List (ℕ × List ℕ)) (tracks : List (List CoreMove)) (net : Network) → AreReplayed routers js → AreAllCoded wires rows js tracks → IsAtStart routers rows net → Matches given (code_of wires) (length wires) net.links (begin net js) (start_of tracks)
begins track good routers rows js wires tracks net all coded at = record {
  links_are = refl;
  sent = sym (ap (λ (ds : List Datagram). map (letter_of (code_of wires)) ds) at.silent);
  pairs = λ i left ms at-left at-ms.
      subst (λ (x : List Move). IsPair given (code_of wires) (length wires) net.links i net x ms)
      (sym (track-at 0 (length net.routers) js i left at-left ∙ ap (λ (k : ℕ). track_of (journals_of k js)) (plus-none i)))
      (pair-at track good routers rows js wires tracks net all coded at i ms (sym (nth-slice tracks i) ∙ at-ms));
  size = tracks-length 0 (length net.routers) js ∙ at.size ∙ sym at.rows_size ∙ sym coded.size;
}
  where
    plus-none : (i : ℕ) → 0 + i ≡ i
    plus-none i = omega arith
