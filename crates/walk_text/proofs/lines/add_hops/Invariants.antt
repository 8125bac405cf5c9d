use Rattle.std.proofs.Common.{◌≡◌, ◌++◌, drop}
use Rattle.std.specs.List.{flat_map}
use Rattle.lab_script.specs.Scripts.{names_in}
use Rattle.walk_text.specs.WalkText.{hop_words}
use Rattle.walk_text.proofs.lines.add_hops.Given as goal

-- what is written, and what is left
abbrev pub invariant-loop-router : goal.invariant-loop-router
invariant-loop-router l =
    l.text ++ flat_map (hop_words (names_in l.script)) (drop l.router-index l.routers)
    ≡ l.fn.text ++ flat_map (hop_words (names_in l.script)) l.routers
