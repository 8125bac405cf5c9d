use Rattle.std.proofs.Common.{rules, ◌≡◌, ◌∙◌}
use Rattle.hex.specs.Hex.{encode_lower}
use Rattle.circuit_threads.proofs.HexLemmas.{hex-text}
use Rattle.circuit_threads.proofs.page.put_hex.Goals as goal

pub returns : goal.returns
returns c =
    let written : c.encode_to_slice.new.output ≡ encode_lower c.args.octets.now = search rules in
    written ∙ hex-text c.args.octets.now c.octets_law.ensures
