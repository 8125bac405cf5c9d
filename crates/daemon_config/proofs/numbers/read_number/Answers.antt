use Rattle.std.proofs.Common.{ℕ, List, Err, sym, ◌∙◌, subst}
use Rattle.std.specs.Str.Parse.{ParsesUnsigned}
use Rattle.daemon_config.proofs.NumberLemmas.{within-parsed, digits-text}
use Rattle.daemon_config.proofs.numbers.read_number.Goals as goal

pub returns-in-Err-parse-clause-value : goal.returns-in-Err-parse-clause-value
returns-in-Err-parse-clause-value c =
    let parsed = subst (λ (word : List ℕ). ParsesUnsigned 32 10 word (Err c.in-Err-parse.field-0)) c.in-Ok.ensures.cases.0 c.in-Err-parse.ensures.value.0 in
    within-parsed c.args.least c.args.most c.args.text.now (Err c.in-Err-parse.field-0) c.ranges.most.fits (sym c.leads_plainly.ensures ∙ c.if-not-leads_plainly.false) (sym c.all_digits.ensures ∙ c.if-not-all_digits.false) parsed

pub returns-in-Err-clause-value : goal.returns-in-Err-clause-value
returns-in-Err-clause-value c = absurd (c.in-Err.ensures.cases.0 (digits-text c.args.text.now (sym c.all_digits.ensures ∙ c.if-not-all_digits.false)))
