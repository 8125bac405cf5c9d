use Rattle.std.proofs.Common.{◌∙◌, ℕ, List, sym, subst}
use Rattle.std.specs.Str.Parse.{ParsesUnsigned}
use Rattle.line_cuts.proofs.NumeralLemmas.{numeral_of-parsed, digits-text}
use Rattle.line_cuts.proofs.numerals.read_number.Goals as goal

pub returns-in-Ok : goal.returns-in-Ok
returns-in-Ok c =
    let parsed = subst (λ (word : List ℕ). ParsesUnsigned 128 10 word c.parse.result) c.in-Ok.ensures.cases.0 c.parse.ensures.value.0 in
    c.ok.ensures.value ∙ numeral_of-parsed c.args.word.now c.parse.result (sym c.leads_plainly.ensures ∙ c.if-not-leads_plainly.false) (sym c.all_digits.ensures ∙ c.if-not-all_digits.false) parsed

pub returns-in-Err : goal.returns-in-Err
returns-in-Err c = absurd (c.in-Err.ensures.cases.0 (digits-text c.args.word.now (sym c.all_digits.ensures ∙ c.if-not-all_digits.false)))
