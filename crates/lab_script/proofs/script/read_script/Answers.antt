use Rattle.std.proofs.Common.{◌≡◌, ◌∙◌, ◌+◌, ◌∷◌, length, suc, sym, ap, arith}
use Rattle.line_cuts.specs.Cuts.{parts_behind}
use Rattle.lab_script.specs.Scripts.{hear_lines}
use Rattle.lab_script.specs.declared.script.Script.{Script}
use Rattle.line_cuts.proofs.CutLemmas.{size_left, size_left-of_behind}
use Rattle.lab_script.proofs.ReadLemmas.{hear_lines-next, hear_lines-end, hear_lines-ok, hear_lines-err, Answers-from_line}
use Rattle.lab_script.proofs.script.read_script.Goals as goal

pub loop-left-preserved : goal.loop-left-preserved
loop-left-preserved c =
    let line = c.cut-in-Some-left.result.0.now in
    let behind = c.cut-in-Some-left.result.1 in
    let number = c.loop-left.number in
    let parts : parts_behind 10 c.loop-left.left ≡ line ∷ parts_behind 10 behind = ap (parts_behind 10) c.in-Some-left.is ∙ c.cut-in-Some-left.ensures.parts in
    let size : size_left c.loop-left.left ≡ suc (length c.in-Some-left.rest.now) = ap size_left c.in-Some-left.is in
    record {
      counted = omega (arith, c.loop-left.invariant.counted, size, size_left-of_behind behind (length c.in-Some-left.rest.now) c.cut-in-Some-left.ensures.less);
      read =
          sym (hear_lines-ok c.loop-left.script c.hear_text.new.self number line (λ (x : Script). hear_lines x (number + 1) (parts_behind 10 behind)) c.in-Ok.ensures)
          ∙ sym (hear_lines-next c.loop-left.script number line (parts_behind 10 behind) (parts_behind 10 c.loop-left.left) parts)
          ∙ c.loop-left.invariant.read;
    }

pub returns-in-Err : goal.returns-in-Err
returns-in-Err c =
    let line = c.cut-in-Some-left.result.0.now in
    let behind = c.cut-in-Some-left.result.1 in
    let number = c.loop-left.number in
    let parts : parts_behind 10 c.loop-left.left ≡ line ∷ parts_behind 10 behind = ap (parts_behind 10) c.in-Some-left.is ∙ c.cut-in-Some-left.ensures.parts in
    Answers-from_line c.in-Err.fault c.hear_text.new.self _ _ c.in-Err.ensures
    (λ f e. sym c.loop-left.invariant.read
    ∙ hear_lines-next c.loop-left.script number line (parts_behind 10 behind) (parts_behind 10 c.loop-left.left) parts
    ∙ hear_lines-err c.loop-left.script number line _ f e)

pub returns : goal.returns
returns c =
    sym c.loop-left.invariant.read ∙ hear_lines-end c.loop-left.script c.loop-left.number (parts_behind 10 c.loop-left.left) (ap (parts_behind 10) c.in_default-left.is)
