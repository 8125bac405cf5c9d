use Rattle.std.proofs.Common.{◌≡◌, ◌∷◌, is_some, ◌∙◌}
use Rattle.std.specs.Option.{option_copied}
use Rattle.std.specs.Vec.Iter.{into_iter_items}
use Rattle.model_datagram.specs.Lsps.{given_octets}
use Rattle.router_levels.specs.Views.{state_of}
use Rattle.router_levels.proofs.RenewLemmas.{keyed-next, under-next, look-next, room-turn}
use Rattle.router_levels.proofs.level_parts.LevelParts.look_all.Goals as goal

pub loop-draft-preserved : goal.loop-draft-preserved
loop-draft-preserved c =
    let all = into_iter_items c.loop-draft.drafts in
    let left = into_iter_items c.next.new.self in
    let draft = c.in-Some.draft in
    let is : all ≡ draft ∷ left = c.in-Some.ensures.items in
    let i = c.loop-draft.invariant in
    let key = option_copied c.args.key in
    record {
      keyed = (keyed-next (is_some key) all left draft is i.keyed).1;
      room = room-turn c.loop-draft.self c.look.new.self all left draft is i.room c.look.ensures.keeps;
      circuits = c.look.ensures.keeps.circuits.circuits ∙ i.circuits;
      state = λ leaks attached r level are.
          let now = i.state leaks attached r level are in
          let under = under-next key r level all left draft is now.0 in
          (under.1, look-next (given_octets leaks attached) r level (state_of c.loop-draft.self) (state_of c.look.new.self) all left draft is (c.look.ensures.state leaks attached r level under.0) ∙ now.1);
    }
