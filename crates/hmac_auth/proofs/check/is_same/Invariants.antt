use Rattle.std.proofs.Common.{◌≡◌, ◌==◌, length}
use Rattle.std.specs.Prelude.{◌&&◌}
use Rattle.std.specs.Str.{bytes_eq}
use Rattle.std.specs.Slice.Iter.{iter_rest}
use Rattle.std.specs.Iterator.Adapters.{zip_first, zip_second}
use Rattle.hmac_auth.proofs.check.is_same.Given as goal

-- so far nothing differs, and what is left is the same, where the whole is
abbrev pub invariant-loop-a : goal.invariant-loop-a
invariant-loop-a l =
    (length (iter_rest (zip_first l.a-iterator)) ≡ length (iter_rest (zip_second l.a-iterator)))
    × (((l.differing == 0) && bytes_eq (iter_rest (zip_first l.a-iterator)) (iter_rest (zip_second l.a-iterator)))
    ≡ bytes_eq l.one l.other)
