use Rattle.std.proofs.Common.{◌∙◌, ap, arith}
use Rattle.std.specs.Int.{from_be_bytes, w64}
use Rattle.std.proofs.lemmas.Nat.{from_be_bytes-to_be_bytes_8}
use Rattle.isis_base.specs.Identifiers.{lsp_number}
use Rattle.isis_base.proofs.identifiers.LspId.from_number.Goals as goal

pub returns : goal.returns
unfolding lsp_number
returns c =
    ap (from_be_bytes w64) (c.lsp_of.ensures.octets ∙ c.to_be_bytes.ensures) ∙ from_be_bytes-to_be_bytes_8 c.args.n (omega arith)
