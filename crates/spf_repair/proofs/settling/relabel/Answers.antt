use Rattle.std.proofs.Common.{◌∙◌, ℕ, List, refl, sym, subst}
use Rattle.std.specs.List.{Contains}
use Rattle.spf_repair.specs.Repair.{IsLoose, IsCounted, IsSettled}
use Rattle.spf_tree.proofs.SearchLemmas.{contains_none}
use Rattle.spf_repair.proofs.RepairLemmas.{done_loose, counted_start, counted_fewer, counted_more, settle_effort}
use Rattle.spf_repair.proofs.settling.relabel.Goals as goal

pub loop-steps-init : goal.loop-steps-init
loop-steps-init g c = record { names = refl; loose = c.requires.loose; counted = counted_start c.args.labels.now c.args.queue.now c.args.steps.now }

pub returns-in-Ok-End-clause-least : goal.returns-in-Ok-End-clause-least
returns-in-Ok-End-clause-least g c =
    let m = rw c.in-Ok-End.field-0-is at c.in-Ok-End.ensures.moved in
    done_loose c.args.rows.now c.args.root c.advance.new.labels c.requires.bounded (subst (λ (q : List (ℕ × ℕ)). IsLoose c.args.rows.now c.args.root c.advance.new.labels q) m.1 c.in-Ok-End.ensures.loose)

pub returns-in-Ok-End-clause-counted : goal.returns-in-Ok-End-clause-counted
returns-in-Ok-End-clause-counted g c =
    let m = rw c.in-Ok-End.field-0-is at c.in-Ok-End.ensures.moved in
    counted_fewer c.args.labels.now c.loop-steps.labels c.advance.new.labels c.loop-steps.queue c.advance.new.queue c.args.steps.now c.loop-steps.steps m.0
    (λ o h. absurd (contains_none o (subst (λ (q : List (ℕ × ℕ)). Contains q o) m.1 h))) c.loop-steps.invariant.counted

pub loop-steps-preserved-in-Ok-Skipped : goal.loop-steps-preserved-in-Ok-Skipped
loop-steps-preserved-in-Ok-Skipped g c =
    let m = rw c.in-Ok-Skipped.field-0-is at c.in-Ok-Skipped.ensures.moved in
    record {
      names = c.in-Ok-Skipped.ensures.names ∙ c.loop-steps.invariant.names;
      loose = c.in-Ok-Skipped.ensures.loose;
      counted = counted_fewer c.args.labels.now c.loop-steps.labels c.advance.new.labels c.loop-steps.queue c.advance.new.queue c.args.steps.now c.loop-steps.steps m.0 m.2 c.loop-steps.invariant.counted;
    }

pub loop-steps-smaller : goal.loop-steps-smaller
loop-steps-smaller g c =
    let s : IsSettled c.args.rows.now c.loop-steps.labels c.advance.new.labels c.loop-steps.queue c.advance.new.queue c.in-Ok-Settled.field-0-0 c.in-Ok-Settled.field-0-1 = rw c.in-Ok-Settled.field-0-is at c.in-Ok-Settled.ensures.moved in
    settle_effort c.args.rows.now c.loop-steps.labels c.advance.new.labels c.loop-steps.queue c.advance.new.queue c.in-Ok-Settled.field-0-0 c.in-Ok-Settled.field-0-1
    (c.loop-steps.invariant.loose.named (c.in-Ok-Settled.field-0-0, c.in-Ok-Settled.field-0-1) s.popped) c.in-Ok-Settled.ensures.names s

pub loop-steps-preserved : goal.loop-steps-preserved
loop-steps-preserved g c =
    let s : IsSettled c.args.rows.now c.loop-steps.labels c.advance.new.labels c.loop-steps.queue c.advance.new.queue c.in-Ok-Settled.field-0-0 c.in-Ok-Settled.field-0-1 = rw c.in-Ok-Settled.field-0-is at c.in-Ok-Settled.ensures.moved in
    record {
      names = c.in-Ok-Settled.ensures.names ∙ c.loop-steps.invariant.names;
      loose = c.in-Ok-Settled.ensures.loose;
      counted = subst (λ (n : ℕ). IsCounted c.args.labels.now c.advance.new.labels c.advance.new.queue c.args.steps.now n) (sym c.tick.ensures)
          (counted_more c.args.rows.now c.args.labels.now c.loop-steps.labels c.advance.new.labels c.loop-steps.queue c.advance.new.queue c.args.steps.now c.loop-steps.steps c.in-Ok-Settled.field-0-0 c.in-Ok-Settled.field-0-1 c.loop-steps.invariant.counted s);
    }
