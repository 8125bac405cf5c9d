-- Where the rounds end, no schedule goes further.
use Rattle.std.proofs.Common.{◌≡◌, ℕ, suc, ◌≤◌, List, [], ◌∷◌, ◌++◌, map, length, Some, slice_get, refl, sym, ap, ◌∙◌, subst, arith}
use Rattle.std.proofs.lemmas.List.{length-append, length-set}
use Rattle.model_router.specs.Givens.{Given}
use Rattle.model_network.specs.declared.end.End.{End}
use Rattle.model_network.specs.Links.{IsWired}
use Rattle.model_network.specs.Runs.{Happening}
use Rattle.weave_core.specs.declared.moves.Move.{Move as CoreMove}
use Rattle.weave_core.specs.declared.moves.Turn.{Turn}
use Rattle.weave_core.specs.Scenes.{Scene as CoreScene, IsEnd}
use Rattle.weave_core.specs.Fronts.{IsFarther, Front as CoreFront}
use Rattle.weave_model.specs.Weavings.{Move, Scene, Front, IsDone, IsWeaving, IsFarthest}
use Rattle.weave_core.specs.Codes.{IsCode}
use Rattle.weave_model.specs.Coding.{AreCodes, Matches, turn_for}
use Rattle.weave_model.proofs.ApplyLemmas.{AreWired}
use Rattle.weave_model.proofs.PlaceLemmas.{There, there-too}
use Rattle.weave_model.proofs.MatchLemmas.{Told, events-of, turns-of}

codes-length : (code : ℕ → List ℕ → ℕ) (count : ℕ) (links : List (List End)) (i : ℕ) (left : List Move) (ms : List CoreMove) → AreCodes code count links i left ms → length left ≡ length ms
codes-length code count links i [] [] c = refl
codes-length code count links i [] (m ∷ ms) c = absurd c
codes-length code count links i (x ∷ left) [] c = absurd c
codes-length code count links i (x ∷ left) (m ∷ ms) c = ap suc (codes-length code count links i left ms c.1)

pub track-length : (given : Given) (code : ℕ → List ℕ → ℕ) (count : ℕ) (links : List (List End)) (b : Scene) (t : CoreScene) (i : ℕ) (left : List Move) (ms : List CoreMove) → Matches given code count links b t → slice_get b.tracks i ≡ Some left → slice_get t.tracks i ≡ Some ms → length left ≡ length ms
track-length given code count links b t i left ms mt at core = codes-length code count links i left ms (mt.pairs i left ms at core).codes

farther : (given : Given) (code : ℕ → List ℕ → ℕ) (count : ℕ) (links : List (List End)) (b c : Scene) (t u : CoreScene) → Matches given code count links b t → Matches given code count links c u → IsFarther t u → (router : ℕ) (left more : List Move) → slice_get b.tracks router ≡ Some left → slice_get c.tracks router ≡ Some more → length left ≤ length more
farther given code count links b c t u mb mc h router left more at_b at_c = of (there-too c.tracks u.tracks router more at_c (sym mc.size))
  where
    of : There (slice_get u.tracks router) → length left ≤ length more
    of x =
        let f = h router x.item x.there in
        omega (arith, track-length given code count links b t router left f.0 mb at_b f.1, track-length given code count links c u router more x.item mc at_c x.there, ap length f.2.whole, length-append f.2.made f.0)

wired-links : (a : Scene) (links : List (List End)) → a.net.links ≡ links → IsWired a.net → AreWired links
wired-links a links same wired = subst AreWired same (record { once = wired.once })

pub end-law : ((a b : CoreScene) → IsEnd a b → (turns : List Turn) × (b.told.turns ≡ a.told.turns ++ turns) × CoreFront turns a b) → ((a b c : CoreScene) (turns : List Turn) → IsEnd a b → CoreFront turns a c → IsFarther b c) → (given : Given) (code : ℕ → List ℕ → ℕ) (count : ℕ) (links : List (List End)) (a : Scene) (s t : CoreScene) → IsCode code count → IsWired a.net → Matches given code count links a s → IsEnd s t → (hs : List Happening) × (b : Scene) × (t.told.turns ≡ s.told.turns ++ map turn_for hs) × Matches given code count links b t × IsFarthest given hs a b
end-law front farthest given code count links a s t is_code is_wired mt end =
    let wired = wired-links a links mt.links_are is_wired in
    let f = front s t end in
    let x = events-of given code count links a s t f.0 is_code wired mt f.2 in (
      x.hs,
      x.b,
      f.1 ∙ ap (λ (xs : List Turn). s.told.turns ++ xs) (sym x.turns_are),
      x.alike,
      record {
        front = x.front;
        farthest = λ c gs g. on c gs g x.b x.alike (turns-of given code count links a c s gs wired mt g);
      },
    )
  where
    on : (c : Scene) (gs : List Happening) → Front given gs a c → (b : Scene) → Matches given code count links b t → Told given code count links c s → (router : ℕ) (left more : List Move) → slice_get b.tracks router ≡ Some left → slice_get c.tracks router ≡ Some more → length left ≤ length more
    on c gs g b alike y = farther given code count links b c t y.t alike y.alike (farthest s t y.t y.turns end y.front)

-- ---- nothing is left where a weaving is

goes-size : (given : Given) (hs : List Happening) (a b : Scene) → Front given hs a b → length b.tracks ≡ length a.tracks
goes-size given [] a b f = ap (λ (s : Scene). length s.tracks) f
goes-size given (h ∷ hs) a b f = goes-size given hs f.0 b f.2 ∙ ap length f.1.tracks ∙ length-set a.tracks f.1.router f.1.more

empty-is : (left more : List Move) → length left ≤ length more → more ≡ [] → left ≡ []
empty-is [] more h e = refl
empty-is (x ∷ left) more h e = absurd (omega (arith, h, ap length e))

pub stuck-law : (given : Given) (hs gs : List Happening) (a b c : Scene) → IsFarthest given hs a b → IsWeaving given gs a c → IsDone b
stuck-law given hs gs a b c far w = λ router left at. of router left at (there-too b.tracks c.tracks router left at (goes-size given gs a c w.front ∙ sym (goes-size given hs a b far.front)))
  where
    of : (router : ℕ) (left : List Move) → slice_get b.tracks router ≡ Some left → There (slice_get c.tracks router) → left ≡ []
    of router left at x = empty-is left x.item (far.farthest c gs w.front router left x.item at x.there) (w.done router x.item x.there)
