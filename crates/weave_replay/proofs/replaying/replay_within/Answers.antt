use Rattle.std.proofs.Common.{◌<◌, length, ℕ, sym, ap, ◌∙◌, subst}
use Rattle.std.specs.List.{AllByRecursion}
use Rattle.std.proofs.lemmas.Bool.{ltb-true, ltb-false}
use Rattle.std.proofs.lemmas.List.{length-replicate}
use Rattle.weave_replay.specs.declared.journal.WovenJournal.{WovenJournal}
use Rattle.weave_replay.specs.Replays.{sent_in}
use Rattle.weave_replay.proofs.LimitLemmas.{few-boots, many-boots}
use Rattle.weave_replay.proofs.replaying.replay_within.Goals as goal

pub returns-then-are_many-clause-err : goal.returns-then-are_many-clause-err
returns-then-are_many-clause-err c =
    (c.in-Ok.ensures.ok, many-boots c.replay_all.new.counts c.args.journals.now c.in-Ok.ensures.counts (sym c.are_many.ensures ∙ c.if-are_many.true))

pub returns-then-send_too_many-clause-err : goal.returns-then-send_too_many-clause-err
returns-then-send_too_many-clause-err c =
    let size = c.replay_all.ensures.size ∙ ap length c.requires.none ∙ length-replicate (length c.args.routers.now) 0 in (
      c.in-Ok.ensures.ok,
      (
        few-boots c.replay_all.new.counts c.args.journals.now (subst (λ (n : ℕ). AllByRecursion (λ (j : WovenJournal). j.router < n) c.args.journals.now) (sym size) c.requires.there) c.in-Ok.ensures.counts (sym c.are_many.ensures ∙ c.if-are_many.false),
        ltb-true 262144 (sent_in c.args.journals.now) (sym c.send_too_many.ensures ∙ c.if-send_too_many.true),
      ),
    )

pub returns-clause-ok : goal.returns-clause-ok
returns-clause-ok c =
    let size = c.replay_all.ensures.size ∙ ap length c.requires.none ∙ length-replicate (length c.args.routers.now) 0 in
    record {
      faultless = c.in-Ok.ensures.ok;
      boots = few-boots c.replay_all.new.counts c.args.journals.now (subst (λ (n : ℕ). AllByRecursion (λ (j : WovenJournal). j.router < n) c.args.journals.now) (sym size) c.requires.there) c.in-Ok.ensures.counts (sym c.are_many.ensures ∙ c.if-are_many.false);
      datagrams = ltb-false 262144 (sent_in c.args.journals.now) (sym c.send_too_many.ensures ∙ c.if-send_too_many.false);
    }
