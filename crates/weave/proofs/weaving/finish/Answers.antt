use Rattle.std.proofs.Common.{ℕ, ◌<◌, [], List, Option, length, ap, sym, ◌∙◌, subst}
use Rattle.std.specs.List.{AllByRecursion}
use Rattle.weave_model.specs.Weavings.{Move}
use Rattle.weave_replay.specs.declared.journal.WovenJournal.{WovenJournal}
use Rattle.weave.specs.Begins.{tracks_from}
use Rattle.weave.specs.Counts.{AreCounted, IsFound}
use Rattle.weave.specs.Plays.{CanPlay, PlaysOn}
use Rattle.weave.proofs.PlanLemmas.{tracks-length}
use Rattle.weave.proofs.WeaveLemmas.{AtEnd, left-size, can-play, all-woven, stuck-at}
use Rattle.weave.proofs.weaving.finish.Goals as goal

pub first_left-requires-clause-size : goal.first_left-requires-clause-size
first_left-requires-clause-size c =
    let a = c.args.network.now in
    let n = length a.seen.routers in
    let plans = c.deref.ensures.value ∙ (c.in-Ok.ensures ∙ ap (λ (k : ℕ). tracks_from 0 k c.args.journals.now) c.routers.ensures) in
    let at : AtEnd a c.args.journals.now c.args.left.now c.args.turns.now = record {
      end_law = c.end_laws.ensures.end;
      left_law = c.end_laws.ensures.left;
      begin_law = c.coding_laws.ensures.begin;
      code_law = c.code_law.ensures;
      begun = c.requires.begun;
      claimed = c.facts.ensures.claimed c.requires.begun.running;
      wired = c.facts.ensures.wired;
      rounds = c.requires.rounds;
    } in
    left-size a c.args.journals.now c.args.left.now c.args.turns.now at ∙ sym (ap length plans ∙ tracks-length 0 n c.args.journals.now)

pub first_left-requires-clause-there : goal.first_left-requires-clause-there
first_left-requires-clause-there c =
    let n = length c.args.network.now.seen.routers in
    let plans = c.deref.ensures.value ∙ (c.in-Ok.ensures ∙ ap (λ (k : ℕ). tracks_from 0 k c.args.journals.now) c.routers.ensures) in
    subst (λ (k : ℕ). AllByRecursion (λ (j : WovenJournal). j.router < k) c.args.journals.now) (sym (ap length plans ∙ tracks-length 0 n c.args.journals.now)) c.requires.there

pub play_all-requires : goal.play_all-requires
play_all-requires c =
    let a = c.args.network.now in
    let plans = c.deref_mut.ensures.value ∙ (c.in-Ok.ensures ∙ ap (λ (k : ℕ). tracks_from 0 k c.args.journals.now) c.routers.ensures) in
    let at : AtEnd a c.args.journals.now c.args.left.now c.args.turns.now = record {
      end_law = c.end_laws.ensures.end;
      left_law = c.end_laws.ensures.left;
      begin_law = c.coding_laws.ensures.begin;
      code_law = c.code_law.ensures;
      begun = c.requires.begun;
      claimed = c.facts.ensures.claimed c.requires.begun.running;
      wired = c.facts.ensures.wired;
      rounds = c.requires.rounds;
    } in
    subst (λ (ps : List (List Move)). CanPlay [] c.args.turns.now ps a) (sym plans) (can-play a c.args.journals.now c.args.left.now c.args.turns.now at)

pub returns-in-Ok-play_all-clause-ok : goal.returns-in-Ok-play_all-clause-ok
returns-in-Ok-play_all-clause-ok c =
    let a = c.args.network.now in
    let journals = c.args.journals.now in
    let plans = c.deref.ensures.value ∙ (c.in-Ok.ensures ∙ ap (λ (k : ℕ). tracks_from 0 k journals) c.routers.ensures) in
    let played = c.deref_mut.ensures.value ∙ (c.in-Ok.ensures ∙ ap (λ (k : ℕ). tracks_from 0 k journals) c.routers.ensures) in
    let f = c.in-Ok-None.ensures in
    let at : AtEnd a journals c.args.left.now c.args.turns.now = record {
      end_law = c.end_laws.ensures.end;
      left_law = c.end_laws.ensures.left;
      begin_law = c.coding_laws.ensures.begin;
      code_law = c.code_law.ensures;
      begun = c.requires.begun;
      claimed = c.facts.ensures.claimed c.requires.begun.running;
      wired = c.facts.ensures.wired;
      rounds = c.requires.rounds;
    } in
    all-woven a c.play_all.new.network journals c.args.left.now c.args.turns.now f.0 c.in-Ok-play_all.schedule c.play_all.new.plans at
    (subst (λ (ps : List (List Move)). AreCounted ps c.args.left.now f.0) plans f.1)
    (subst (λ (o : Option (ℕ × ℕ)). IsFound f.0 journals o) c.in-Ok-None.field-0-is f.2)
    (subst (λ (ps : List (List Move)). PlaysOn [] c.args.turns.now ps a c.in-Ok-play_all.schedule [] c.play_all.new.plans c.play_all.new.network) played c.in-Ok-play_all.ensures)

pub returns-in-Ok-Some-clause-err : goal.returns-in-Ok-Some-clause-err
returns-in-Ok-Some-clause-err c =
    let a = c.args.network.now in
    let journals = c.args.journals.now in
    let plans = c.deref.ensures.value ∙ (c.in-Ok.ensures ∙ ap (λ (k : ℕ). tracks_from 0 k journals) c.routers.ensures) in
    let f = c.in-Ok-Some.ensures in
    let at : AtEnd a journals c.args.left.now c.args.turns.now = record {
      end_law = c.end_laws.ensures.end;
      left_law = c.end_laws.ensures.left;
      begin_law = c.coding_laws.ensures.begin;
      code_law = c.code_law.ensures;
      begun = c.requires.begun;
      claimed = c.facts.ensures.claimed c.requires.begun.running;
      wired = c.facts.ensures.wired;
      rounds = c.requires.rounds;
    } in
    stuck-at a journals c.args.left.now c.args.turns.now f.0 c.in-Ok-Some.journal c.in-Ok-Some.entry at
    (subst (λ (ps : List (List Move)). AreCounted ps c.args.left.now f.0) plans f.1) c.requires.there
    (subst (λ (o : Option (ℕ × ℕ)). IsFound f.0 journals o) c.in-Ok-Some.field-0-is f.2)
