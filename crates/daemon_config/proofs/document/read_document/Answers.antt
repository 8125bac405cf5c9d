use Rattle.std.proofs.Common.{◌∙◌, ap, sym, inr}
use Rattle.toml.specs.Parse.{parse_document}
use Rattle.daemon_config.specs.declared.fault.ConfigKey.TheVariants as field
use Rattle.daemon_config.specs.declared.fault.ConfigKind.TheVariants as why
use Rattle.daemon_config.specs.Steps.{or_refused}
use Rattle.daemon_config.proofs.DocumentLemmas.{not-text, is-text}
use Rattle.daemon_config.proofs.document.read_document.Goals as goal

pub returns-in_default-clause-err : goal.returns-in_default-clause-err
returns-in_default-clause-err c =
    rw c.refused.ensures (inr (ap (λ o. or_refused why.Text field.Document o) (not-text c.args.octets.now c.in_default.ensures.cases.0)))

pub returns-in-Ok-table_from_str-clause-ok : goal.returns-in-Ok-table_from_str-clause-ok
returns-in-Ok-table_from_str-clause-ok c =
    is-text c.args.octets.now c.in-Ok.ensures.cases.1
    ∙ ap parse_document (sym c.in-Ok.ensures.cases.0)
    ∙ c.in-Ok-table_from_str.ensures.ok
