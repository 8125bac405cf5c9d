use Rattle.std.proofs.Common.{◌∙◌, ℕ, List, ◌++◌, sym, ap, subst}
use Rattle.line_source.specs.Lines.{IsUncut, Reading}
use Rattle.line_source.proofs.PieceLemmas.{span, piece-marked, piece-whole, span-none}
use Rattle.line_source.proofs.lines.LineReader.take_piece.Goals as goal

pub returns-in-Some-clause-line : goal.returns-in-Some-clause-line
returns-in-Some-clause-line c = λ is.
    let s = c.self.inside in
    let piece = piece-marked s.begin s.end s.buffer.items _ _ _ c.in-Some.behind c.self.invariant.0 c.self.invariant.1
    (ap (span s.begin s.end) c.as_slice.ensures.value) c.cut.ensures.parts c.in-Some.is in (
      c.cut.result.0.now,
      c.in_ok-extend.ensures.ok ∙ ap (λ (r : Reading). r.line ++ c.cut.result.0.now) c.self.view_is,
      sym (ap (λ (r : Reading). r.pending) c.self.view_is) ∙ piece.0,
      piece.1,
    )

pub returns-in-None-clause-none : goal.returns-in-None-clause-none
returns-in-None-clause-none c = λ is.
    let s = c.self.inside in
    let piece = piece-whole s.begin s.end s.buffer.items _ _ _
    (ap (span s.begin s.end) c.as_slice.ensures.value) c.cut.ensures.parts c.in-None.is in (
      c.in_ok-extend.ensures.ok ∙ (ap (λ (zs : List ℕ). s.line ++ zs) piece.0 ∙ ap (λ (r : Reading). r.line ++ r.pending) c.self.view_is),
      span-none s.end s.buffer.items,
      subst (λ (r : Reading). IsUncut r.pending) c.self.view_is piece.1,
    )
