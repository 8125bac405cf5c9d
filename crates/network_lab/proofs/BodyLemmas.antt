-- What is held live of an LSP ID that isn't doubled has one body.
use Rattle.std.proofs.Common.{◌≡◌, ℕ, ◌/◌, ⊎_elim, true, false, List, [], ◌∷◌, Some, refl, sym, ap, ◌∙◌, subst}
use Rattle.isis_base.specs.declared.level.Level.{Level}
use Rattle.model_router.specs.Ranks.{is_live, number_of}
use Rattle.model_router.specs.Cells.{Cell}
use Rattle.model_router.specs.Books.{cell_at}
use Rattle.model_router.specs.LetGos.{contains}
use Rattle.model_router.specs.Places.{nth}
use Rattle.model_router.specs.Routers.{Contents, Router, book_of}
use Rattle.lab_facts.specs.Joined.{In}
use Rattle.lab_facts.specs.Sightings.{sighting, sightings_of, doubled_in}
use Rattle.lab_facts.proofs.OnceLemmas.{once-seen, past-here, past-there}
use Rattle.model_network.specs.Origins.{Body, Among, IsSingle}
use Rattle.model_network.proofs.OriginLemmas as origin
use Rattle.network_lab.specs.LabNets.{Seen}
use Rattle.network_lab.specs.Reached.{HasRun}
use Rattle.network_lab.specs.Agreements.{HaveOneBody}

-- what a router of the past held of its own was seen
pub was-seen : (past : List Router) (owner : Router) (level : Level) (id : ℕ) (cell : Cell) → Among owner past → id / 65536 ≡ owner.config.system → cell_at (book_of owner level) id ≡ Some cell → is_live cell.rank ≡ true → In (sighting id cell) (sightings_of past level)
was-seen [] owner level id cell was own at live = absurd was
was-seen (r ∷ past) owner level id cell was own at live = ⊎_elim
    (λ (e : owner ≡ r). subst (λ (x : Router). In (sighting id cell) (sightings_of (x ∷ past) level)) e (past-here past owner level id cell own at live))
    (λ (w : Among owner past). past-there past r level (sighting id cell) (was-seen past owner level id cell w own at live)) was

abbrev body-from : Contents → Body
body-from c = record { flags = c.flags; tlvs = c.tlvs }

past-single : (past : List Router) (level : Level) (id : ℕ) → contains (doubled_in past level) id ≡ false → IsSingle past level id
past-single past level id h = record {
  one = λ rank a b live w v.
      let seen_w = was-seen past w.owner level id w.cell w.was w.own w.held (ap is_live w.rank_is ∙ live) in
      let seen_v = was-seen past v.owner level id v.cell v.was v.own v.held (ap is_live v.rank_is ∙ live) in
      sym w.body_is
      ∙ (ap body-from (once-seen past level id h (sighting id w.cell) (sighting id v.cell) refl refl (ap number_of (w.rank_is ∙ sym v.rank_is)) seen_w seen_v)
      ∙ v.body_is);
}

pub one-body : (s : Seen) → HasRun s → HaveOneBody s
one-body s h none level i j id a b c d once x y p q same live =
    origin.one-body h.net i j a b level id c d h.reached.origins
    (past-single h.net.past level id (ap (λ (t : Seen). contains (doubled_in t.noted.past level) id) h.seen ∙ once))
    (ap (λ (t : Seen). nth t.routers i) h.seen ∙ x) (ap (λ (t : Seen). nth t.routers j) h.seen ∙ y) p q same live
