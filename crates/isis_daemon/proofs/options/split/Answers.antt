use Rattle.std.proofs.Common.{◌∙◌, ◌+◌, ℕ, List, Some, ap, arith}
use Rattle.line_cuts.proofs.CutLemmas.{to_end}
use Rattle.isis_daemon.proofs.OptionLemmas.{name_at, value_at, name_none, value_none}
use Rattle.isis_daemon.proofs.options.split.Goals as goal

pub returns-in-Some-clause-name : goal.returns-in-Some-clause-name
returns-in-Some-clause-name c =
    let first = c.in-Some.ensures in name_at c.args.word.now c.in-Some.place first.0.high (λ k below. first.0.before k (omega arith) below) first.1

pub returns-in-Some-clause-value : goal.returns-in-Some-clause-value
returns-in-Some-clause-value c =
    let first = c.in-Some.ensures in let word : List ℕ = c.args.word.now in let place : ℕ = c.in-Some.place in
    ap Some (to_end word (place + 1)) ∙ value_at word place first.0.high (λ k below. first.0.before k (omega arith) below) first.1

pub returns-in-None-clause-name : goal.returns-in-None-clause-name
returns-in-None-clause-name c = name_none c.args.word.now (λ k below. c.in-None.ensures k (omega arith) below)

pub returns-in-None-clause-value : goal.returns-in-None-clause-value
returns-in-None-clause-value c = value_none c.args.word.now (λ k below. c.in-None.ensures k (omega arith) below)
