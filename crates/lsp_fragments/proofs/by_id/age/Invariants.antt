use Rattle.std.proofs.Common.{◌≡◌, ◌++◌, map, take, drop}
use Rattle.lsp_fragments.specs.Kept.{older_kept}
use Rattle.lsp_fragments.proofs.by_id.age.Given as goal

-- those before the index are older, and the others are still to become so
abbrev pub invariant-loop-kept : goal.invariant-loop-kept
invariant-loop-kept l =
    take l.kept-index l.list ++ map older_kept (drop l.kept-index l.list) ≡ map older_kept l.fn.list
