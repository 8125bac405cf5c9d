use Rattle.std.proofs.Common.{◌∙◌, ◌+◌, ◌∷◌, ◌==◌, ℕ, List, take, sym, ap, arith}
use Rattle.std.specs.List.{slice_split}
use Rattle.line_cuts.proofs.CutLemmas.{split-at, split-none, to_end}
use Rattle.line_cuts.proofs.cuts.cut.Goals as goal

pub returns-in-Some-clause-parts : goal.returns-in-Some-clause-parts
returns-in-Some-clause-parts c =
    let text = c.args.text.now in
    let place = c.in-Some.place in
    let first = c.in-Some.ensures in
    split-at c.args.mark text place first.0.high (λ k below. first.0.before k (omega arith) below) first.1
    ∙ ap (λ (xs : List ℕ). take place text ∷ slice_split (λ byte. byte == c.args.mark) xs) (sym (to_end text (place + 1)))

pub returns-in-None-clause-parts : goal.returns-in-None-clause-parts
returns-in-None-clause-parts c = split-none c.args.mark c.args.text.now (λ k below. c.in-None.ensures k (omega arith) below)
