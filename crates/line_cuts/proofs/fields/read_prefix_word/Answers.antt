use Rattle.std.proofs.Common.{◌∙◌, ℕ, List, sym, ap}
use Rattle.std.specs.Prelude.{Option, option_and_then}
use Rattle.std.specs.Result.{result_ok}
use Rattle.isis_base.specs.PrefixFronts.{prefix_parts}
use Rattle.isis_base.specs.Prefixes.{prefix_from}
use Rattle.line_cuts.proofs.PrefixTexts.{prefix_of-text, prefix_of-parts}
use Rattle.line_cuts.proofs.fields.read_prefix_word.Goals as goal

pub returns-in-Ok : goal.returns-in-Ok
returns-in-Ok c =
    let made = λ (o : Option (ℕ × ℕ)). option_and_then (λ p. prefix_from p.0 p.1) o in
    c.ok.ensures.value
    ∙ sym (prefix_of-parts (result_ok c.read_prefix.result))
    ∙ ap made c.read_prefix.ensures.value
    ∙ ap (λ (word : List ℕ). made (prefix_parts word)) c.in-Ok.ensures.cases.0

pub returns-in-Err : goal.returns-in-Err
returns-in-Err c = sym (prefix_of-text c.args.word.now c.in-Err.ensures.cases.0)
