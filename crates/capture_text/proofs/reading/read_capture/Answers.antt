use Rattle.std.proofs.Common.{◌≡◌, ◌∙◌, ◌∷◌, length, suc, ap, subst, arith}
use Rattle.line_cuts.specs.Cuts.{parts_behind}
use Rattle.line_cuts.specs.Words.{lines_of}
use Rattle.ipv6_reach.specs.Captured.{CapturedOf}
use Rattle.capture_text.specs.Reading.{AreRead}
use Rattle.line_cuts.proofs.CutLemmas.{size_left, size_left-of_behind}
use Rattle.capture_text.proofs.ReadLemmas.{next-read, none-read}
use Rattle.capture_text.proofs.reading.read_capture.Goals as goal

pub loop-left-init : goal.loop-left-init
loop-left-init c = record {
  counted = omega arith;
  read = λ end all. subst (λ (captured : CapturedOf). AreRead (record { capture = captured; kept = 0; skipped = 0 }) (lines_of c.args.input.now) end) c.new.ensures all;
}

pub take_line-requires : goal.take_line-requires
take_line-requires c =
    let size : size_left c.loop-left.left ≡ suc (length c.in-Some.rest.now) = ap size_left c.in-Some.is in
    record { room = omega (arith, c.loop-left.invariant.counted, size) }

pub loop-left-preserved : goal.loop-left-preserved
loop-left-preserved c =
    let line = c.cut.result.0.now in
    let behind = c.cut.result.1 in
    let parts : parts_behind 10 c.loop-left.left ≡ line ∷ parts_behind 10 behind = ap (parts_behind 10) c.in-Some.is ∙ c.cut.ensures.parts in
    let size : size_left c.loop-left.left ≡ suc (length c.in-Some.rest.now) = ap size_left c.in-Some.is in
    record {
      counted = omega (arith, c.loop-left.invariant.counted, size, c.take_line.ensures.count, size_left-of_behind behind (length c.in-Some.rest.now) c.cut.ensures.less);
      read = λ end others. c.loop-left.invariant.read end (next-read c.loop-left.read c.take_line.new.self end line (parts_behind 10 behind) (parts_behind 10 c.loop-left.left) parts c.in-Ok.ensures.line others);
    }

pub returns : goal.returns
returns c = c.loop-left.invariant.read c.loop-left.read (none-read c.loop-left.read (parts_behind 10 c.loop-left.left) (ap (parts_behind 10) c.in_default.is))
