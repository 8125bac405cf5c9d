-- What is told and what is played where rounds end, whatever network is stood for.
use Rattle.std.proofs.Common.{◌≡◌, ℕ, ◌<◌, List, [], length, sym, ap, ◌∙◌, subst}
use Rattle.std.specs.List.{AllByRecursion}
use Rattle.model_network.specs.Networks.{Network}
use Rattle.network_lab.specs.declared.event.LabEvent.{LabEvent}
use Rattle.network_lab.specs.LabNets.{Seen, LabNet, StandsFor}
use Rattle.network_lab.specs.Claims.{HaveOneLink, IsClaimed}
use Rattle.router_core.specs.Givens.{given}
use Rattle.weave_core.specs.declared.moves.Turn.{Turn}
use Rattle.weave_core.specs.declared.moves.Move.{Move as CoreMove}
use Rattle.weave_model.specs.Weavings.{Move}
use Rattle.weave_replay.specs.declared.journal.WovenJournal.{WovenJournal}
use Rattle.weave_replay.specs.Replays.{AreReplayed}
use Rattle.weave.specs.Begins.{tracks_from, begin}
use Rattle.weave.specs.Woven.{IsUnbegun, IsWoven}
use Rattle.weave.specs.Unreached.{IsFirstUnreached}
use Rattle.weave.specs.Counts.{AreCounted, AreAllMade, IsFirstLeft}
use Rattle.weave.specs.Plays.{EndRounds, CanPlay, PlaysOn}
use Rattle.weave.proofs.PlanLemmas.{tracks-length}
use Rattle.weave.proofs.FrontLemmas.{front-size}
use Rattle.weave.proofs.EndLemmas.{EndLaw, LeftLaw, BeginLaw, CodeLaw, Ready, ready, opening_net, opening-stands, first-unreached, none-left, woven}

-- the laws, and where rounds end
pub record AtEnd (a : LabNet) (journals : List WovenJournal) (left : List (List CoreMove)) (turns : List Turn) : Type 0 where
  pub end_law : EndLaw
  pub left_law : LeftLaw
  pub begin_law : BeginLaw
  pub code_law : CodeLaw
  pub begun : IsUnbegun a
  pub claimed : IsClaimed a.seen
  pub wired : HaveOneLink a.seen.links
  pub rounds : EndRounds a.seen journals left turns

ready-at : (a : LabNet) (journals : List WovenJournal) (left : List (List CoreMove)) (turns : List Turn) → AtEnd a journals left turns → (net : Network) → StandsFor net a → Ready net journals a left turns
ready-at a journals left turns x net stands = ready x.end_law x.left_law x.begin_law x.code_law a journals left turns net x.begun x.claimed x.wired x.rounds stands

routers-of : (a : LabNet) (net : Network) → StandsFor net a → length net.routers ≡ length a.seen.routers
routers-of a net stands = ap (λ (s : Seen). length s.routers) stands.seen

-- there is a track of each router
pub left-size : (a : LabNet) (journals : List WovenJournal) (left : List (List CoreMove)) (turns : List Turn) → AtEnd a journals left turns → length left ≡ length a.seen.routers
left-size a journals left turns x = of (ready-at a journals left turns x (opening_net a) (opening-stands a x.begun))
  where
    of : Ready (opening_net a) journals a left turns → length left ≡ length a.seen.routers
    of r =
        r.ended.size
        ∙ (front-size given r.hs (begin (opening_net a) journals) r.b r.ended.far.front
        ∙ (tracks-length 0 (length (opening_net a).routers) journals ∙ routers-of a (opening_net a) (opening-stands a x.begun)))

-- the turns can be played
pub can-play : (a : LabNet) (journals : List WovenJournal) (left : List (List CoreMove)) (turns : List Turn) → AtEnd a journals left turns → CanPlay [] turns (tracks_from 0 (length a.seen.routers) journals) a
can-play a journals left turns x = of (ready-at a journals left turns x (opening_net a) (opening-stands a x.begun))
  where
    of : Ready (opening_net a) journals a left turns → CanPlay [] turns (tracks_from 0 (length a.seen.routers) journals) a
    of r = record { origin = opening_net a; hs = r.hs; last = r.b; plays = r.plays }

-- what was counted, for a network that is stood for
counted-for : (a : LabNet) (journals : List WovenJournal) (left : List (List CoreMove)) (made : List ℕ) (net : Network) → StandsFor net a → AreCounted (tracks_from 0 (length a.seen.routers) journals) left made → AreCounted (tracks_from 0 (length net.routers) journals) left made
counted-for a journals left made net stands counts = subst (λ (n : ℕ). AreCounted (tracks_from 0 n journals) left made) (sym (routers-of a net stands)) counts

-- where all was made, what was played is a weaving
pub all-woven : (a after : LabNet) (journals : List WovenJournal) (left : List (List CoreMove)) (turns : List Turn) (made : List ℕ) (schedule : List LabEvent) (plans : List (List Move)) → AtEnd a journals left turns → AreCounted (tracks_from 0 (length a.seen.routers) journals) left made
    → AreAllMade made journals (length journals) → PlaysOn [] turns (tracks_from 0 (length a.seen.routers) journals) a schedule [] plans after → (net : Network) → StandsFor net a → IsWoven net journals schedule after
all-woven a after journals left turns made schedule plans x counts all played net stands = of (ready-at a journals left turns x net stands)
  where
    of : Ready net journals a left turns → IsWoven net journals schedule after
    of r = woven net journals a after left turns schedule plans r (played net r.hs r.b r.plays)
        (none-left net journals left r.hs r.b made r.ended (counted-for a journals left made net stands counts) all)

-- else the first entry that wasn't made is the first that no front reaches
pub stuck-at : (a : LabNet) (journals : List WovenJournal) (left : List (List CoreMove)) (turns : List Turn) (made : List ℕ) (journal entry : ℕ) → AtEnd a journals left turns → AreCounted (tracks_from 0 (length a.seen.routers) journals) left made
    → AllByRecursion (λ (j : WovenJournal). j.router < length a.seen.routers) journals → IsFirstLeft made journals journal entry → (net : Network) → StandsFor net a → AreReplayed net.routers journals × IsFirstUnreached net journals journal entry
stuck-at a journals left turns made journal entry x counts there first net stands = of (ready-at a journals left turns x net stands)
  where
    of : Ready net journals a left turns → AreReplayed net.routers journals × IsFirstUnreached net journals journal entry
    of r = (
      r.replayed,
      first-unreached net journals left r.hs r.b made journal entry r.ended (counted-for a journals left made net stands counts)
          (subst (λ (n : ℕ). AllByRecursion (λ (j : WovenJournal). j.router < n) journals) (sym (routers-of a net stands)) there) first,
    )
