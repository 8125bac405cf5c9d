-- Fronts of a network: what they leave of each track.
use Rattle.std.proofs.Common.{◌≡◌, ◌≢◌, ℕ, ◌==◌, ◌⊎◌, inl, inr, true, false, List, [], ◌∷◌, ◌++◌, length, Some, slice_get, set, refl, sym, ap, ◌∙◌, subst, arith}
use Rattle.std.proofs.lemmas.List.{length-set}
use Rattle.std.proofs.lemmas.Bool.Decides.{eqb_tells}
use Rattle.model_router.specs.Givens.{Given}
use Rattle.model_network.specs.Networks.{Network}
use Rattle.model_network.specs.Runs.{Happening, Restart, apply, run}
use Rattle.weave_core.proofs.PlaceLemmas.{slice_get-set, slice_get-set_other}
use Rattle.weave_model.specs.Weavings.{Move, Restarts, Scene, Goes, Front, IsFarthest}
use Rattle.weave_replay.proofs.PlaceLemmas.{some-is}

-- there are as many tracks
pub front-size : (given : Given) (hs : List Happening) (a b : Scene) → Front given hs a b → length b.tracks ≡ length a.tracks
front-size given [] a b f = ap (λ (s : Scene). length s.tracks) f
front-size given (h ∷ hs) a b f = front-size given hs f.0 b f.2 ∙ (ap length f.1.tracks ∙ length-set a.tracks f.1.router f.1.more)

-- the network is the one in which the events were run
pub front-run : (given : Given) (hs : List Happening) (a b : Scene) → Front given hs a b → b.net ≡ run given a.net hs
front-run given [] a b f = ap (λ (s : Scene). s.net) f
front-run given (h ∷ hs) a b f = front-run given hs f.0 b f.2 ∙ ap (λ (n : Network). run given n hs) f.1.net

-- an event more
front-more : (given : Given) (hs : List Happening) (h : Happening) (a b c : Scene) → Front given hs a b → Goes given h b c → Front given (hs ++ (h ∷ [])) a c
front-more given [] h a b c f g = (c, subst (λ (s : Scene). Goes given h s c) f g, refl)
front-more given (x ∷ hs) h a b c f g = (f.0, f.1, front-more given hs h f.0 b c f.2 g)

-- what is left of a track stands behind some moves of it
pub record IsBehind (whole left : List Move) : Type 0 where
  pub made : List Move
  pub whole_is : whole ≡ made ++ left

pub front-behind : (given : Given) (hs : List Happening) (a b : Scene) → Front given hs a b → (router : ℕ) (whole left : List Move) → slice_get a.tracks router ≡ Some whole → slice_get b.tracks router ≡ Some left → IsBehind whole left
front-behind given [] a b f router whole left at at_left = record {
  made = [];
  whole_is = some-is whole left (sym at ∙ (ap (λ (s : Scene). slice_get s.tracks router) (sym f) ∙ at_left));
}
front-behind given (h ∷ hs) a b f router whole left at at_left =
    by (λ (mid : List Move) (at_mid : slice_get f.0.tracks router ≡ Some mid). front-behind given hs f.0 b f.2 router mid left at_mid at_left) (eqb_tells router f.1.router)
  where
    by : ((mid : List Move) → slice_get f.0.tracks router ≡ Some mid → IsBehind mid left) → (((router == f.1.router) ≡ true) × (router ≡ f.1.router)) ⊎ (((router == f.1.router) ≡ false) × (router ≢ f.1.router)) → IsBehind whole left
    by behind (inr n) = behind whole (ap (λ (ts : List (List Move)). slice_get ts router) f.1.tracks ∙ (slice_get-set_other a.tracks f.1.router router f.1.more n.1 ∙ at))
    by behind (inl s) = more (behind f.1.more
        (ap (slice_get f.0.tracks) s.1
        ∙ (ap (λ (ts : List (List Move)). slice_get ts f.1.router) f.1.tracks ∙ slice_get-set a.tracks f.1.router (f.1.move ∷ f.1.more) f.1.more f.1.there)))
      where
        first : whole ≡ f.1.move ∷ f.1.more
        first = some-is whole (f.1.move ∷ f.1.more) (sym at ∙ (ap (slice_get a.tracks) s.1 ∙ f.1.there))

        more : IsBehind f.1.more left → IsBehind whole left
        more x = record { made = f.1.move ∷ x.made; whole_is = first ∙ ap (λ (ms : List Move). f.1.move ∷ ms) x.whole_is }

-- a front that goes farthest leaves no restart first
pub no-restart : (given : Given) (hs : List Happening) (a b : Scene) (router : ℕ) (more : List Move) → IsFarthest given hs a b → slice_get b.tracks router ≡ Some (Restarts ∷ more) → ⊥
no-restart given hs a b router more far at =
    let less = far.farthest c (hs ++ (Restart router ∷ [])) (front-more given hs (Restart router) a b c far.front goes) router (Restarts ∷ more) more at (slice_get-set b.tracks router (Restarts ∷ more) more at) in
    omega (arith, less)
  where
    c : Scene
    c = record { tracks = set b.tracks router more; net = apply given b.net (Restart router) }

    goes : Goes given (Restart router) b c
    goes = record { router = router; move = Restarts; more = more; there = at; says = refl; tracks = refl; net = refl }
