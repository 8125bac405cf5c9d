use Rattle.std.proofs.Common.{ℕ, get_or}
use Rattle.std.specs.List.{Contains}
use Rattle.spf_tree.proofs.TableLemmas.{up-all, up-more}
use Rattle.spf_tree.proofs.table.add_lacking.Goals as goal

pub loop-place-preserved : goal.loop-place-preserved
loop-place-preserved c =
    let more = c.add_unless_at.new.nodes.items in
    record {
      kept = λ n h. c.in-Ok.ensures.kept n (c.loop-place.invariant.kept n h);
      lacking = up-more c.args.table.now (λ (p : ℕ × ℕ). (Contains more p.0 → ⊥) → Contains c.args.other.now p) c.loop-place.place (0, 0) c.loop-place-test.true
          (λ k d l none. c.loop-place.invariant.lacking k d l (λ h. none (c.in-Ok.ensures.kept (get_or c.args.table.now k d).0 h)))
          c.in-Ok.ensures.lacking;
    }

pub returns-clause-lacking : goal.returns-clause-lacking
returns-clause-lacking c =
    up-all c.args.table.now (λ (p : ℕ × ℕ). (Contains c.loop-place.nodes.items p.0 → ⊥) → Contains c.args.other.now p) c.loop-place.place c.loop-place-test.false c.loop-place.invariant.lacking
