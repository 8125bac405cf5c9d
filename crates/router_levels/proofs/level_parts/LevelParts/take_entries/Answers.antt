use Rattle.std.proofs.Common.{◌≡◌, ◌-◌, ◌∷◌, List, [], length, take, drop, get_or, is_some, sym, ap, ◌∙◌}
use Rattle.std.specs.Option.{option_copied}
use Rattle.std.specs.Vec.Iter.{into_iter_items}
use Rattle.isis_base.specs.declared.entry.LspEntry.{LspEntry}
use Rattle.model_router.specs.Routers.{LevelState}
use Rattle.model_router.specs.Takes.{take_entries}
use Rattle.model_router.specs.Numbers.{system_number}
use Rattle.flag_sync.specs.Heard.{entries_of}
use Rattle.router_levels.specs.Views.{state_of}
use Rattle.router_levels.specs.Drafts.{scene_with}
use Rattle.router_levels.proofs.EntryLemmas.{opens, room-next, ready-next, ready-after, answers-next}
use Rattle.router_levels.proofs.level_parts.LevelParts.take_entries.Goals as goal

pub loop-left-preserved : goal.loop-left-preserved
loop-left-preserved c =
    let none : LspEntry = record { lifetime = 0; id = record { node = record { system = record { 0 = [] }; pseudonode = 0 }; number = 0 }; number = 0; checksum = 0 } in
    let left = c.loop-left.left.now in
    let e = get_or left 0 none in
    let rest = take (length left - 1) (drop 1 left) in
    let is : left ≡ e ∷ rest = opens left none c.in-len1-up.len_at_least in
    let i = c.loop-left.invariant in
    let drafts = into_iter_items c.loop-left.drafts in
    let behind = into_iter_items c.next_draft-draft.new.drafts in
    let draft = c.next_draft-draft.result in
    let next = c.next_draft-draft.ensures in
    let keyed = is_some (option_copied c.args.key) in
    let old = c.loop-left.self in
    let new = c.take_entry.new.self in
    let system = system_number c.args.system in
    let p = c.args.circuit - 1 in
    record {
      circuits = c.take_entry.ensures.keeps.circuits.circuits ∙ i.circuits;
      room = room-next e left rest is old new i.room c.take_entry.ensures.keeps;
      ready = ready-after keyed old.own.issued new.own.issued rest behind c.take_entry.ensures.fewer (ready-next e left rest is keyed old.own.issued drafts behind draft i.ready next).1;
      state = λ leaks attached r level are.
          let scene = scene_with leaks attached r level in
          let now = i.state leaks attached r level are in
          let more = answers-next e left rest is (option_copied c.args.key) scene drafts behind draft now.0 next in (
            more.1,
            ap (λ (s : LevelState). take_entries scene s system p (entries_of rest)) (c.take_entry.ensures.state leaks attached r level more.0)
                ∙ ap (λ (es : List LspEntry). take_entries scene (state_of old) system p (entries_of es)) (sym is)
                ∙ now.1,
          );
    }
