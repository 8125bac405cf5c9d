use Rattle.std.proofs.Common.{◌≡◌, ◌∙◌, ℕ, List, [], ◌∷◌, ◌++◌, length, take, drop, Result, Ok, Bool, sym, ap, subst, arith}
use Rattle.std.proofs.lemmas.List.{append_assoc}
use Rattle.isis_base.specs.declared.memory.OutOfMemory.{OutOfMemory}
use Rattle.isis_edge.proofs.ToldLemmas.{Took-more}
use Rattle.line_source.specs.Lines.{IsUncut, Reading}
use Rattle.line_source.proofs.PieceLemmas.{turn-line, turn-more, turn-rest, turn-long, span-empty, read-span}
use Rattle.line_source.proofs.lines.LineReader.next.Goals as goal

abbrev answer : Bool → Result Bool OutOfMemory
answer ended = Ok ended

pub returns-then-len-gt-LINE_LIMIT-clause-too_long :
    goal.returns-then-len-gt-LINE_LIMIT-clause-too_long
returns-then-len-gt-LINE_LIMIT-clause-too_long g c = λ is.
    let all = c.pieces.invariant.all in
    let long = c.if-len-gt-LINE_LIMIT.true in
    let counted : c.len.result ≡ length c.take_piece.new.self.line =
    c.len.ensures ∙ ap (λ (r : Reading). length r.line) c.self-in-pieces.view_is in (
      all.0,
      all.1,
      turn-long _ c.pieces.self.line c.pieces.self.pending _ c.take_piece.new.self.pending
          c.in_ok-ended.ended c.pieces.invariant.uncut all.2 c.in_ok-ended.ensures.line
          c.in_ok-ended.ensures.none (omega (arith, long, counted)),
    )

pub returns-then-ended-clause-given : goal.returns-then-ended-clause-given
returns-then-ended-clause-given g c =
    let all = c.pieces.invariant.all in (
      all.0,
      all.1,
      turn-line _ c.pieces.self.line c.pieces.self.pending _ c.take_piece.new.self.pending
          c.pieces.invariant.uncut all.2 (c.in_ok-ended.ensures.line (ap answer c.if-ended.true)),
    )

pub pieces-preserved : goal.pieces-preserved
pieces-preserved g c =
    let all = c.pieces.invariant.all in
    let line : c.self-in-pieces.inside.line ≡ c.take_piece.new.self.line =
    ap (λ (r : Reading). r.line) c.self-in-pieces.view_is in
    let more = turn-more _ c.pieces.self.line c.pieces.self.pending _ c.take_piece.new.self.pending
    c.pieces.invariant.uncut all.2 (c.in_ok-ended.ensures.none (ap answer c.if-ended.false)) in
    let short = c.if-len-gt-LINE_LIMIT.false in
    let counted = c.len.ensures in
    let fits = c.in-Some.ensures.octets.1 in
    let into = c.read.auto.into in
    let size : length c.as_mut_slice.result.now ≡ c.self-in-pieces.inside.buffer.len = c.as_mut_slice.ensures.len in
    let read : List ℕ = take c.in-Some.count c.read.new.into in
    let later = c.in-Some.ensures.later in
    let before = c.pieces.invariant.later in
    record {
      uncut = subst IsUncut (sym line) more.1;
      short = omega (arith, short, counted);
      all = (
        all.0 ++ read,
        Took-more _ _ _ all.0 read all.1 c.in-Some.ensures.octets.2,
        sym (append_assoc c.args.self.now.pending all.0 read)
            ∙ (ap (λ (zs : List ℕ). zs ++ read) (more.0 ∙ sym line)
            ∙ ap (λ (zs : List ℕ). c.self-in-pieces.inside.line ++ zs)
            (sym (read-span c.read.new.into (drop (length c.read.new.into) c.self-in-pieces.inside.buffer.items)
            c.in-Some.count c.self-in-pieces.inside.buffer.len fits (omega (arith, fits, into, size))))),
      );
      later = omega (arith, later, before);
    }

pub returns-in-End-clause-given : goal.returns-in-End-clause-given
returns-in-End-clause-given g c =
    let all = c.pieces.invariant.all in
    let added = c.in_ok-ended.ensures.none (ap answer c.if-ended.false) in
    let inside = c.self-in-pieces.inside in
    let line : inside.line ≡ c.take_piece.new.self.line =
    ap (λ (r : Reading). r.line) c.self-in-pieces.view_is in
    let none = ap (λ (r : Reading). r.pending) c.self-in-pieces.view_is ∙ added.1 in (
      all.0,
      c.in-End.ensures.octets.0 ∙ all.1,
      (
        turn-rest _ c.pieces.self.line c.pieces.self.pending _ c.take_piece.new.self.pending
            c.pieces.invariant.uncut all.2 added
            ∙ ap (λ (zs : List ℕ). zs ∷ []) (sym line),
        span-empty inside.begin inside.end inside.buffer.items _ c.self-in-pieces.invariant.0
            c.self-in-pieces.invariant.1 none,
        c.in-End.ensures.octets.1,
      ),
    )
