use Rattle.std.proofs.Common.{◌∙◌, Some, map, sym, ap}
use Rattle.std.specs.Option.{option_map}
use Rattle.toml.specs.View.{view}
use Rattle.daemon_config.specs.Documents.{items_in}
use Rattle.daemon_config.proofs.ListLemmas.{items-of}
use Rattle.daemon_config.proofs.lists.items_of.Goals as goal

pub returns-in-Some : goal.returns-in-Some
returns-in-Some c =
    ap (λ vs. Some (map view vs)) c.as_slice.ensures.value
    ∙ ap Some (sym (items-of (map view c.in-Some.array.now.items)))
    ∙ ap (λ o. option_map items_in o) c.in-Some.ensures
