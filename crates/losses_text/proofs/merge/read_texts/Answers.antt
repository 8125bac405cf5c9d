use Rattle.std.proofs.Common.{◌≡◌, ◌∙◌, ◌∷◌, length, suc, sym, subst, ap, arith}
use Rattle.losses_text.specs.declared.merge_fault.MergeFault.{MergeFault}
use Rattle.losses_text.specs.Merging.{IsNotMerged}
use Rattle.losses_text.proofs.MergeLemmas.{line-taken, line-refused, end-read, none-left}
use Rattle.line_cuts.specs.Cuts.{parts_behind}
use Rattle.line_cuts.proofs.CutLemmas.{size_left, size_left-of_behind}
use Rattle.losses_text.proofs.merge.read_texts.Goals as goal

pub returns-then-ends-clause-ok : goal.returns-then-ends-clause-ok
returns-then-ends-clause-ok c =
    let line = c.cut.result.0.now in
    let behind = c.cut.result.1 in
    let parts : parts_behind 10 c.loop-left.left ≡ line ∷ parts_behind 10 behind = ap (parts_behind 10) c.in-Some.is ∙ c.cut.ensures.parts in
    sym c.loop-left.invariant.read
    ∙ end-read c.loop-left.joined c.loop-left.number (parts_behind 10 c.loop-left.left) (parts_behind 10 behind) line parts (sym c.ends.ensures ∙ c.if-ends.true)

pub returns-in-Err-clause-err : goal.returns-in-Err-clause-err
returns-in-Err-clause-err c =
    let line = c.cut.result.0.now in
    let behind = c.cut.result.1 in
    let parts : parts_behind 10 c.loop-left.left ≡ line ∷ parts_behind 10 behind = ap (parts_behind 10) c.in-Some.is ∙ c.cut.ensures.parts in
    subst (λ (fault : MergeFault). IsNotMerged c.args.texts.now fault) (sym c.fault_at.ensures)
    (line-refused c.loop-left.joined c.take_line.new.self c.loop-left.number (parts_behind 10 c.loop-left.left) (parts_behind 10 behind) line c.args.texts.now c.in-Err.fault parts (sym c.ends.ensures ∙ c.if-ends.false) c.loop-left.invariant.read c.in-Err.ensures)

pub loop-left-preserved : goal.loop-left-preserved
loop-left-preserved c =
    let line = c.cut.result.0.now in
    let behind = c.cut.result.1 in
    let number = c.loop-left.number in
    let parts : parts_behind 10 c.loop-left.left ≡ line ∷ parts_behind 10 behind = ap (parts_behind 10) c.in-Some.is ∙ c.cut.ensures.parts in
    let size : size_left c.loop-left.left ≡ suc (length c.in-Some.rest.now) = ap size_left c.in-Some.is in
    record {
      counted = omega (arith, c.loop-left.invariant.counted, size, size_left-of_behind behind (length c.in-Some.rest.now) c.cut.ensures.less);
      read = line-taken c.loop-left.joined _ number (parts_behind 10 c.loop-left.left) (parts_behind 10 behind) line parts (sym c.ends.ensures ∙ c.if-ends.false) c.in-Ok.ensures
          ∙ c.loop-left.invariant.read;
    }

pub returns-clause-ok : goal.returns-clause-ok
returns-clause-ok c = sym c.loop-left.invariant.read ∙ none-left c.loop-left.joined c.loop-left.number (parts_behind 10 c.loop-left.left) (ap (parts_behind 10) c.in_default.is)
