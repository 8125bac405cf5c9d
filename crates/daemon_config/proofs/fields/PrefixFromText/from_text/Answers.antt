use Rattle.std.proofs.Common.{◌∙◌, ℕ, ap, sym}
use Rattle.std.specs.Prelude.{Option, option_and_then}
use Rattle.std.specs.Result.{result_ok}
use Rattle.isis_base.specs.Prefixes.{prefix_from}
use Rattle.daemon_config.specs.Fields.{prefix_of}
use Rattle.daemon_config.proofs.PrefixLemmas.{prefix_of-parts}
use Rattle.daemon_config.proofs.fields.PrefixFromText.from_text.Goals as goal

pub returns : goal.returns
unfolding prefix_of
returns c =
    let made = λ (o : Option (ℕ × ℕ)). option_and_then (λ p. prefix_from p.0 p.1) o in
    c.ok.ensures.value
    ∙ sym (prefix_of-parts (result_ok c.read_prefix.result))
    ∙ ap made c.read_prefix.ensures.value
