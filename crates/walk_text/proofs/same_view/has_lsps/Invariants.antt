use Rattle.std.proofs.Common.{◌≡◌, map}
use Rattle.walk_text.specs.Views.{stored, view_stored}
use Rattle.walk_text.proofs.same_view.has_lsps.Given as goal

-- what is left is alike just where all is
abbrev pub invariant-loop-id : goal.invariant-loop-id
invariant-loop-id l =
    (map stored l.id-iterator ≡ map stored l.others → view_stored l.store.entries ≡ view_stored l.first.entries)
    × (view_stored l.store.entries ≡ view_stored l.first.entries → map stored l.id-iterator ≡ map stored l.others)
