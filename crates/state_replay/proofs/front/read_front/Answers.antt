use Rattle.std.proofs.Common.{◌≡◌, ◌∙◌, ◌++◌, ◌∷◌, [], ℕ, List, length, inl, sym, ap, subst, arith}
use Rattle.std.proofs.lemmas.List.{length-append}
use Rattle.isis_edge.proofs.ToldLemmas.{Took-more}
use Rattle.state_replay.specs.Ends.{IsRefused}
use Rattle.state_replay.specs.Inputs.{is_head}
use Rattle.state_replay.proofs.FrontLemmas.{so-far-more, front-whole, front-none, front-long}
use Rattle.state_replay.proofs.LineLemmas.{as-line, as-rest}
use Rattle.state_replay.proofs.EndLemmas.{front-fault}
use Rattle.state_replay.proofs.front.read_front.Goals as goal

pub returns-in-Ok-Rest-clause-err : goal.returns-in-Ok-Rest-clause-err
returns-in-Ok-Rest-clause-err g c =
    let (input, took, so) = c.reads.invariant.so_far in
    let (more, gave, handed) = c.in-Ok-Rest.ensures.given in
    let given = as-rest c.reads.lines c.next.new.self more _ c.in-Ok-Rest.field-0 c.in-Ok-Rest.field-0-is handed in (
      input ++ more,
      Took-more _ _ _ input more took gave,
      λ boot most. subst (IsRefused boot most (input ++ more) (g.I.Source.ended c.next.new.source)) (sym c.headless.ensures)
          (front-none input c.reads.lines.pending more c.next.new.self.line c.reads.front _ so given.0 given.2),
    )

pub returns-in-Err-clause-err : goal.returns-in-Err-clause-err
returns-in-Err-clause-err g c =
    let (input, took, so) = c.reads.invariant.so_far in
    front-fault _ _ _ input c.reads.lines.pending _ c.reads.front c.in-Err.fault c.from.result took so
    c.in-Err.ensures.too_long c.in-Err.ensures.taken c.from.ensures

pub returns-then-is_head-clause-ok : goal.returns-then-is_head-clause-ok
returns-then-is_head-clause-ok g c =
    let (input, took, so) = c.reads.invariant.so_far in
    let (more, gave, handed) = c.in-Ok-Line.ensures.given in
    let given = as-line c.reads.lines c.next.new.self more _ c.in-Ok-Line.field-0 c.in-Ok-Line.field-0-is handed in (
      input ++ more,
      Took-more _ _ _ input more took gave,
      front-whole input c.reads.lines.pending more c.next.new.self.line c.next.new.self.pending c.reads.front so given
          (sym (ap is_head c.line.ensures) ∙ (sym c.is_head.ensures ∙ c.if-is_head.true)),
    )

pub returns-in-Err-add_line-clause-err : goal.returns-in-Err-add_line-clause-err
returns-in-Err-add_line-clause-err g c =
    let (input, took, so) = c.reads.invariant.so_far in
    let (more, gave, handed) = c.in-Ok-Line.ensures.given in
    let given = as-line c.reads.lines c.next.new.self more _ c.in-Ok-Line.field-0 c.in-Ok-Line.field-0-is handed in
    (input ++ more, Took-more _ _ _ input more took gave, λ boot most. tt)

pub returns-then-len-gt-LINE_LIMIT-clause-err : goal.returns-then-len-gt-LINE_LIMIT-clause-err
returns-then-len-gt-LINE_LIMIT-clause-err g c =
    let (input, took, so) = c.reads.invariant.so_far in
    let (more, gave, handed) = c.in-Ok-Line.ensures.given in
    let given = as-line c.reads.lines c.next.new.self more _ c.in-Ok-Line.field-0 c.in-Ok-Line.field-0-is handed in
    let front = c.add_line.new.front in
    let long = c.if-len-gt-LINE_LIMIT.true in
    let counted : c.len.result ≡ length front.text = c.len.ensures in (
      input ++ more,
      Took-more _ _ _ input more took gave,
      λ boot most. inl (front-long (input ++ more) c.next.new.self.pending front
          (so-far-more input c.reads.lines.pending more c.next.new.self.line c.next.new.self.pending c.reads.front front so given
          (sym (ap is_head c.line.ensures) ∙ (sym c.is_head.ensures ∙ c.if-is_head.false))
          (c.in-Ok.ensures.text ∙ ap (λ (t : List ℕ). c.reads.front.text ++ (t ++ 10 ∷ [])) c.line-in-reads.ensures)
          c.in-Ok.ensures.lines)
          (omega (arith, long, counted))),
    )

pub reads-preserved : goal.reads-preserved
reads-preserved g c =
    let (input, took, so) = c.reads.invariant.so_far in
    let (more, gave, handed) = c.in-Ok-Line.ensures.given in
    let given = as-line c.reads.lines c.next.new.self more _ c.in-Ok-Line.field-0 c.in-Ok-Line.field-0-is handed in
    let front = c.add_line.new.front in
    let short = c.if-len-gt-LINE_LIMIT.false in
    let counted : c.len.result ≡ length front.text = c.len.ensures in
    let few = c.reads.invariant.few in
    let lines = c.in-Ok.ensures.lines in
    let added = ap length c.in-Ok.ensures.text in
    let long = length-append c.reads.front.text (c.line-in-reads.result.now ++ 10 ∷ []) in
    let end = length-append c.line-in-reads.result.now (10 ∷ []) in
    let before = c.reads.invariant.later in
    let later = c.in-Ok-Line.ensures.later in
    record {
      so_far = (
        input ++ more,
        Took-more _ _ _ input more took gave,
        so-far-more input c.reads.lines.pending more c.next.new.self.line c.next.new.self.pending c.reads.front front so given
            (sym (ap is_head c.line.ensures) ∙ (sym c.is_head.ensures ∙ c.if-is_head.false))
            (c.in-Ok.ensures.text ∙ ap (λ (t : List ℕ). c.reads.front.text ++ (t ++ 10 ∷ [])) c.line-in-reads.ensures)
            c.in-Ok.ensures.lines,
      );
      short = omega (arith, short, counted);
      few = omega (arith, few, lines, added, long, end);
      later = omega (arith, before, later);
    }
