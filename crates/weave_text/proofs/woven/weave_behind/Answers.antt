use Rattle.std.proofs.Common.{◌∙◌, ℕ, ◌<◌, List, Err, take, length, sym, ap, subst}
use Rattle.std.specs.List.{AllByRecursion}
use Rattle.lab_script.specs.Scripts.{names_in}
use Rattle.weave_replay.specs.declared.journal.WovenJournal.{WovenJournal}
use Rattle.weave_text.specs.Blocks.{blocks_in, IsFaultOf}
use Rattle.weave_text.specs.Lines.{Left, IsUnbroken}
use Rattle.weave.specs.Faults.{IsToldOf}
use Rattle.weave.specs.Woven.{IsWoven}
use Rattle.weave_text.specs.declared.fault.WeaveTextFault.{WeaveTextFault}
use Rattle.weave_text.specs.Answers.{Weaves}
use Rattle.weave_text.specs.Weavings.{said_by}
use Rattle.model_router.proofs.ListLemmas.{all-take}
use Rattle.weave_text.proofs.ChangeLemmas.{AreAhead, ahead-ahead}
use Rattle.weave_text.proofs.NamingLemmas.{has-names}
use Rattle.weave_text.proofs.WovenLemmas.{unplayed, blocks-after, unwoven-after, woven-after, begun-after, there}
use Rattle.weave_text.proofs.woven.weave_behind.Goals as goal

pub weave-requires-clause-there : goal.weave-requires-clause-there
weave-requires-clause-there c =
    subst (λ (js : List WovenJournal). AllByRecursion (λ (j : WovenJournal). j.router < length c.in-Ok.net.seen.routers) js) (sym c.as_slice.ensures.value)
    (there (length (names_in c.args.script.now)) (length c.in-Ok.net.seen.routers) c.in-Ok-read_blocks.journals.items c.in-Ok.ensures.routers c.in-Ok-read_blocks.ensures.there)

pub weave-requires-clause-begun : goal.weave-requires-clause-begun
weave-requires-clause-begun c =
    begun-after c.args.count c.args.lines.now c.args.script.now c.in-Ok.net c.requires.ahead c.facts.ensures (record { read = c.requires.read; plays = c.in-Ok.ensures.ends })

pub has_schedule-requires : goal.has_schedule-requires
has_schedule-requires c =
    has-names (take c.args.count c.args.lines.now.lines) c.args.script.now (all-take IsUnbroken c.args.count c.args.lines.now.lines c.facts.ensures)
    (subst (λ (n : ℕ). AreAhead (take n c.args.lines.now.lines)) (sym c.requires.ahead) (ahead-ahead c.args.lines.now.lines)) c.requires.read

pub returns-in-Err : goal.returns-in-Err
returns-in-Err c = unplayed c.args.count c.args.lines.now c.args.script.now c.in-Err.fault c.requires.read c.in-Err.ensures.ends

pub returns-in-Err-read_blocks : goal.returns-in-Err-read_blocks
returns-in-Err-read_blocks c =
    subst (λ (f : WeaveTextFault). Weaves (said_by c.args.count c.args.lines.now) (Err f)) (sym c.from.ensures)
    (blocks-after c.args.count c.args.lines.now c.args.script.now c.in-Ok.net c.in-Err-read_blocks.fault (record { read = c.requires.read; plays = c.in-Ok.ensures.ends })
    (subst (λ (l : Left). IsFaultOf (blocks_in (names_in c.args.script.now) l) c.in-Err-read_blocks.fault) c.requires.left c.in-Err-read_blocks.ensures.err))

pub returns-in-Err-weave : goal.returns-in-Err-weave
returns-in-Err-weave c =
    subst (λ (f : WeaveTextFault). Weaves (said_by c.args.count c.args.lines.now) (Err f)) (sym c.from-in-Err-weave.ensures)
    (unwoven-after c.args.count c.args.lines.now c.args.script.now c.in-Ok.net c.in-Ok-read_blocks.journals.items c.in-Err-weave.fault (record { read = c.requires.read; plays = c.in-Ok.ensures.ends })
    (ap (blocks_in (names_in c.args.script.now)) (sym c.requires.left) ∙ c.in-Ok-read_blocks.ensures.ok)
    (λ net stands. subst (λ (js : List WovenJournal). IsToldOf net js c.in-Err-weave.fault) c.as_slice.ensures.value (c.in-Err-weave.ensures.err net stands)))

pub returns-in-Ok-text : goal.returns-in-Ok-text
returns-in-Ok-text c =
    woven-after c.args.count c.args.lines.now c.args.script.now c.in-Ok.net c.in-Ok-read_blocks.journals.items c.in-Ok-weave.woven.1 c.in-Ok-weave.woven.0 c.in-Ok-text.text c.requires.ahead c.facts.ensures
    (record { read = c.requires.read; plays = c.in-Ok.ensures.ends })
    (ap (blocks_in (names_in c.args.script.now)) (sym c.requires.left) ∙ c.in-Ok-read_blocks.ensures.ok)
    (λ net stands. subst (λ (js : List WovenJournal). IsWoven net js c.in-Ok-weave.woven.1 c.in-Ok-weave.woven.0) c.as_slice.ensures.value (c.in-Ok-weave.ensures.ok net stands))
    (c.has_schedule.ensures c.if-not-has_schedule.false)
    c.in-Ok-text.ensures
