-- What is looked at of a router's own LSPs after an event is enough.
use Rattle.std.proofs.Common.{◌≡◌, ℕ, ◌-◌, ◌^◌, ◌<◌, ◌==◌, nat_lt, ◌&&◌, not, Bool, true, false, List, length, Some, None, IfSome, refl, sym, ap, ap₂, ◌∙◌, subst, arith}
use Rattle.std.proofs.lemmas.Bool.Decides.{nat_tests}
use Rattle.isis_base.specs.declared.level.Level.{Level}
use Rattle.isis_base.specs.declared.level.Level.TheVariants as level
use Rattle.model_router.specs.Places.{nth, with_nth}
use Rattle.model_router.specs.Ranks.{is_live, number_of}
use Rattle.model_router.specs.Routers.{Router, level_of, book_of}
use Rattle.model_router.specs.Events as model
use Rattle.model_router.specs.Hearings.{Source, hearing}
use Rattle.model_router.specs.ContentLaws.{Tells}
use Rattle.model_router.specs.Steps.{step}
use Rattle.model_router.proofs.BondLemmas.{step-stays}
use Rattle.model_router.proofs.RisingLemmas.{course-rises}
use Rattle.model_router.proofs.StepWays.{step-course}
use Rattle.model_router.proofs.TellLemmas.{course-tells}
use Rattle.router_core.specs.declared.event.NodeEvent.{NodeEvent}
use Rattle.router_core.specs.Events.{event_of}
use Rattle.router_core.specs.Givens.{given}
use Rattle.model_network.specs.declared.end.End.{End}
use Rattle.model_network.specs.Networks.{Network}
use Rattle.model_network.specs.Origins.{Body, HaveOrigins}
use Rattle.lab_facts.specs.declared.levels_to_see.LevelsToSee.{LevelsToSee}
use Rattle.lab_facts.specs.Joined.{In}
use Rattle.lab_facts.specs.Sightings.{Sighting, sightings_of}
use Rattle.lab_facts.specs.Seen.{IsSeen, AreEnough}
use Rattle.lab_facts.proofs.SeenLemmas.{own-each, seen-stays}
use Rattle.network_lab.specs.declared.sent.Changes.{Changes}
use Rattle.network_lab.specs.LabNets.{Seen, LabNet}
use Rattle.network_lab.specs.LabInside.{IsNet}
use Rattle.network_lab.specs.LabTakings.{counts_at}
use Rattle.network_lab.specs.Noting.{IsNoted, stands}
use Rattle.network_lab.specs.Reached.{AreInRun, HasRun}
use Rattle.network_lab.proofs.BodyLemmas.{was-seen}
use Rattle.network_lab.proofs.PlaceLemmas.{nth-there, nth-set, of-place}
use Rattle.network_lab.proofs.StartLemmas.{has-run}
use Rattle.network_lab.proofs.TakeLemmas.{each-place}

-- ---- before an event

abbrev shown : ℕ → ℕ → Body → Sighting
shown id rank body = record {
  id = id;
  number = number_of rank;
  contents = record { flags = body.flags; tlvs = body.tlvs };
}

-- what a router holds live of its own comes from itself
own-noted : (net : Network) → HaveOrigins net → AreInRun net.routers → (i : ℕ) (r : Router) → nth net.routers i ≡ Some r → IsNoted net.past r
own-noted net h run i r e = record {
  sorted = (run i r e).speaking.sorted;
  own = λ level. own-each (λ (s : Sighting). In s (sightings_of net.past level)) r.config.system (book_of r level).cells ((run i r e).speaking.sorted.on level)
      (λ id cell at own live.
      let w = h.held i r level id cell e at live in
      subst (λ (s : Sighting). In s (sightings_of net.past level)) (ap₂ (shown id) w.rank_is w.body_is)
      (was-seen net.past w.owner level id w.cell w.was w.own w.held (ap is_live w.rank_is ∙ live)));
}

run-noted : (s : Seen) → HasRun s → (i : ℕ) → IfSome (nth s.routers i) (IsNoted s.noted.past)
run-noted s h i =
    each-place (IsNoted s.noted.past) (nth s.routers i) (λ r e.
    subst (λ (past : List Router). IsNoted past r) (ap (λ (t : Seen). t.noted.past) h.seen)
    (own-noted h.net h.reached.origins h.reached.routers i r (ap (λ (t : Seen). nth t.routers i) h.seen ∙ e)))

-- of a network in which nothing was injected
pub net-noted : (ports : List (List ℕ)) (ordered : List (List End)) (a : LabNet) (i : ℕ) → IsNet ports ordered a → a.stopped ≡ None → a.seen.injected ≡ 0 → IfSome (nth a.seen.routers i) (λ r. IsNoted a.seen.noted.past r)
net-noted ports ordered a i h going none = run-noted a.seen (has-run ports ordered a h going none) i

pub zero-is : (n : ℕ) → (n == 0) ≡ true → n ≡ 0
zero-is n e = grind (arith, nat_tests, e)

-- ---- after it

-- where a level's count of changes stood, all is seen still
stood : (past : List Router) (r : Router) (event : model.Event) (level : Level) → IsNoted past r → (book_of (step given r event).router level).changes ≡ (book_of r level).changes → (book_of (step given r event).router level).changes < 2 ^ 64 - 1 → IsSeen past level (step given r event).router
stood past r event level n same less =
    seen-stays past level r (step given r event).router (step-stays given r event).system
    (course-rises _ _ _ ((step-course given r event).on level) (n.sorted.on level)) (tells.same same less) (n.own level)
  where
    tells : Tells (Source given r event level) (book_of r level) (book_of (step given r event).router level)
    tells = course-tells (hearing given r event level) (level_of r level) (level_of (step given r event).router level) ((step-course given r event).on level)

-- what is known of a level that isn't looked at
record HasStood (seen : Bool) (before now : ℕ) : Type 0 where
  seen_before : seen ≡ true
  same : now ≡ before
  less : now < 2 ^ 64 - 1

unseen : (seen : Bool) (before now : ℕ) (look : Bool) → look ≡ not (seen && stands before now) → look ≡ false → HasStood seen before now
unseen false before now look e none = absurd (let clash = sym e ∙ none in cc)
unseen true before now look e none = by (before == now) (nat_lt now (2 ^ 64 - 1)) refl refl (sym none ∙ e)
  where
    by : (a b : Bool) → (before == now) ≡ a → nat_lt now (2 ^ 64 - 1) ≡ b → false ≡ not (a && b) → HasStood true before now
    by true true p q e = record { seen_before = refl; same = grind (arith, nat_tests, p); less = grind (arith, nat_tests, q) }
    by true false p q e = absurd (cc)
    by false b p q e = absurd (cc)

-- the levels that are looked at are enough
pub levels-enough : (old now : List Router) (i : ℕ) (event : NodeEvent) (seen : Bool) (before after : Changes) (levels : LevelsToSee) (past : List Router) → i < length old
    → IfSome (nth old i) (λ r. now ≡ with_nth old i (step given r (event_of r event)).router) → before ≡ counts_at (nth old i) → after ≡ counts_at (nth now i)
    → levels.one ≡ not (seen && stands before.one after.one) → levels.two ≡ not (seen && stands before.two after.two) → (seen ≡ true → IfSome (nth old i) (λ r. IsNoted past r)) → IfSome (nth now i) (λ r. AreEnough levels past r)
levels-enough old now i event seen before after levels past inside state from to one two noted =
    subst (λ (o : _). IfSome o (λ r. AreEnough levels past r)) (sym at_now) (record {
      one = λ e. let s = unseen seen before.one after.one levels.one one e in
          stood past r (event_of r event) level.One (known s.seen_before) (sym (ap (λ (c : Changes). c.one) now_is) ∙ (s.same ∙ ap (λ (c : Changes). c.one) old_is)) (subst (λ (n : ℕ). n < 2 ^ 64 - 1) (ap (λ (c : Changes). c.one) now_is) s.less);
      two = λ e. let s = unseen seen before.two after.two levels.two two e in
          stood past r (event_of r event) level.Two (known s.seen_before) (sym (ap (λ (c : Changes). c.two) now_is) ∙ (s.same ∙ ap (λ (c : Changes). c.two) old_is)) (subst (λ (n : ℕ). n < 2 ^ 64 - 1) (ap (λ (c : Changes). c.two) now_is) s.less);
    })
  where
    there : (r : Router) × (nth old i ≡ Some r)
    there = nth-there old i inside

    r : Router
    r = there.0

    t : Router
    t = (step given r (event_of r event)).router

    at_now : nth now i ≡ Some t
    at_now = ap (λ (rs : List Router). nth rs i) (of-place (λ r. now ≡ with_nth old i (step given r (event_of r event)).router) (nth old i) r there.1 state) ∙ nth-set old i r t there.1

    old_is : before ≡ counts_at (Some r)
    old_is = from ∙ ap counts_at there.1

    now_is : after ≡ counts_at (Some t)
    now_is = to ∙ ap counts_at at_now

    known : seen ≡ true → IsNoted past r
    known e = of-place (λ r. IsNoted past r) (nth old i) r there.1 (noted e)
