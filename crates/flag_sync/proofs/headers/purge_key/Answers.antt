use Rattle.std.proofs.Common.{true, Some, refl, sym, ap, ◌∙◌}
use Rattle.isis_base.proofs.KeyLemmas.{key-same}
use Rattle.flag_sync.specs.Entries.{key_purged}
use Rattle.flag_sync.proofs.headers.purge_key.Goals as goal

pub returns-in-Some : goal.returns-in-Some
returns-in-Some c = ap Some (key-same _ (record c.in-Some.key { purged = true }) refl refl) ∙ ap key_purged (sym c.in-Some.is)
