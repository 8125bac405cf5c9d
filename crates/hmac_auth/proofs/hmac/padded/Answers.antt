use Rattle.std.proofs.Common.{◌<◌, length, get_or, ap, arith, length-append, length-take, length-drop}
use Rattle.std.specs.Prelude.{bit_xor}
use Rattle.std.proofs.lemmas.List.{get_or_default, length-map}
use Rattle.std.proofs.lemmas.List.Edits.{map_over_more}
use Rattle.hmac_auth.proofs.hmac.padded.Goals as goal

pub loop-octet-preserved : goal.loop-octet-preserved
loop-octet-preserved c =
    let xs = c.args.block.now in
    let ys = c.loop-octet.octet-items in
    let i = c.loop-octet.octet-index in
    let within : i < length xs = omega arith in
    let same = simp (length-append, length-map, length-take, length-drop) at (ap length c.loop-octet.invariant) in
    map_over_more (λ octet. bit_xor octet c.args.pad) xs ys i (get_or ys i 0) within c.loop-octet.invariant (get_or_default ys i 0 (get_or ys i 0) (omega arith))
