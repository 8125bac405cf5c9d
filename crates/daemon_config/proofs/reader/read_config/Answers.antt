use Rattle.std.proofs.lemmas.Result.{IfOk-weaker}
use Rattle.toml.specs.View.{table_view}
use Rattle.daemon_config.proofs.ValidLemmas.{settings-fit}
use Rattle.daemon_config.proofs.reader.read_config.Goals as goal

pub returns-clause-valid : goal.returns-clause-valid
returns-clause-valid c =
    IfOk-weaker c.read_settings.result _ _ (λ settings is. (settings-fit (table_view c.in_ok-document.document) settings is).valid) c.read_settings.ensures.ok

pub returns-clause-placed : goal.returns-clause-placed
returns-clause-placed c =
    IfOk-weaker c.read_settings.result _ _ (λ settings is. (settings-fit (table_view c.in_ok-document.document) settings is).placed) c.read_settings.ensures.ok

pub returns-clause-some : goal.returns-clause-some
returns-clause-some c =
    IfOk-weaker c.read_settings.result _ _ (λ settings is. (settings-fit (table_view c.in_ok-document.document) settings is).some) c.read_settings.ensures.ok

pub returns-clause-few : goal.returns-clause-few
returns-clause-few c =
    IfOk-weaker c.read_settings.result _ _ (λ settings is. (settings-fit (table_view c.in_ok-document.document) settings is).few) c.read_settings.ensures.ok
