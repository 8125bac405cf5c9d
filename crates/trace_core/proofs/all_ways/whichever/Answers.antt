use Rattle.std.proofs.Common.{◌∙◌, ℕ, List, sym, subst}
use Rattle.trace_core.specs.declared.step.Step.TheVariants.{Home, Lost}
use Rattle.trace_core.specs.Reaching.{AreBelow, EndsAmong, LoopsAmong}
use Rattle.trace_core.proofs.AmongLemmas.{all-below, may-end, may-loop}
use Rattle.trace_core.proofs.all_ways.whichever.Goals as goal

pub loops_among-requires : goal.loops_among-requires
loops_among-requires g c =
    subst (AreBelow (g.W.Ways.many c.args.among.now)) (sym (c.as_slice.ensures.value ∙ c.in-Ok-push.ensures.items))
    (all-below (g.W.Ways.ways c.args.among.now) (g.W.Ways.many c.args.among.now) c.args.from c.in-Ok.places.items c.in-Ok.ensures c.requires)

pub ends_among-requires : goal.ends_among-requires
ends_among-requires g c =
    subst (AreBelow (g.W.Ways.many c.args.among.now)) (sym (c.as_slice-2.ensures.value ∙ c.in-Ok-push.ensures.items))
    (all-below (g.W.Ways.ways c.args.among.now) (g.W.Ways.many c.args.among.now) c.args.from c.in-Ok.places.items c.in-Ok.ensures c.requires)

pub ends_among-requires-2 : goal.ends_among-requires-2
ends_among-requires-2 g c =
    subst (AreBelow (g.W.Ways.many c.args.among.now)) (sym (c.as_slice-3.ensures.value ∙ c.in-Ok-push.ensures.items))
    (all-below (g.W.Ways.ways c.args.among.now) (g.W.Ways.many c.args.among.now) c.args.from c.in-Ok.places.items c.in-Ok.ensures c.requires)

pub returns : goal.returns
returns g c =
    let ways = g.W.Ways.ways c.args.among.now in
    let many = g.W.Ways.many c.args.among.now in
    let found = c.in-Ok.places.items in
    let home = may-end ways many c.args.from found c.in-Ok.ensures Home in
    let lost = may-end ways many c.args.from found c.in-Ok.ensures Lost in
    let loops = may-loop ways many c.args.from found c.in-Ok.ensures in
    let one = c.as_slice.ensures.value ∙ c.in-Ok-push.ensures.items in
    let two = c.as_slice-2.ensures.value ∙ c.in-Ok-push.ensures.items in
    let three = c.as_slice-3.ensures.value ∙ c.in-Ok-push.ensures.items in
    record {
      arrives = (
        λ h. home.0 (subst (λ (xs : List ℕ). EndsAmong ways xs Home) two (c.ends_among.ensures.0 h)),
        λ m. c.ends_among.ensures.1 (subst (λ (xs : List ℕ). EndsAmong ways xs Home) (sym two) (home.1 m)),
      );
      loops = (
        λ h. loops.0 (subst (λ (xs : List ℕ). LoopsAmong ways xs) one (c.in-Ok-loops_among.ensures.0 h)),
        λ m. c.in-Ok-loops_among.ensures.1 (subst (λ (xs : List ℕ). LoopsAmong ways xs) (sym one) (loops.1 m)),
      );
      lost = (
        λ h. lost.0 (subst (λ (xs : List ℕ). EndsAmong ways xs Lost) three (c.ends_among-2.ensures.0 h)),
        λ m. c.ends_among-2.ensures.1 (subst (λ (xs : List ℕ). EndsAmong ways xs Lost) (sym three) (lost.1 m)),
      );
    }
