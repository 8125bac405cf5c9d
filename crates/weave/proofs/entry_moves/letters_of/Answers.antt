use Rattle.std.proofs.Common.{ℕ, ◌∷◌, [], ◌++◌, List, ap, ◌∙◌, arith}
use Rattle.weave_core.specs.Codes.{code_of}
use Rattle.weave.proofs.LetterLemmas.{letters-more}
use Rattle.weave.proofs.entry_moves.letters_of.Goals as goal

pub loop-place-preserved : goal.loop-place-preserved
loop-place-preserved c =
    c.in-Ok.ensures.ok
    ∙ ap (λ (ls : List ℕ). ls ++ c.letter_at.result ∷ []) c.loop-place.invariant
    ∙ letters-more (code_of c.args.book.now c.args.link) c.args.datagrams.now c.loop-place.place c.letter_at.result (omega (arith, c.loop-place-test.true, c.len-place-end.ensures)) c.letter_at.ensures
