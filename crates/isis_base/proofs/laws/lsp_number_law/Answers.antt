use Rattle.std.proofs.Common.{◌≡◌, ◌∙◌, sym, ap, arith}
use Rattle.std.specs.Int.{to_be_bytes, from_be_bytes, w64}
use Rattle.std.proofs.lemmas.Nat.{be_bytes_8}
use Rattle.isis_base.specs.Identifiers.{lsp_number}
use Rattle.isis_base.proofs.ArrayLemmas.{lsp-same, small-at}
use Rattle.isis_base.proofs.laws.lsp_number_law.Goals as goal

pub returns : goal.returns
unfolding lsp_number
returns c =
    let a = c.args.a in
    let b = c.args.b in
    let first = c.octets_of_lsp-of_a in
    let second = c.octets_of_lsp-of_b in
    let of_first : to_be_bytes w64 (lsp_number a) ≡ first.result = be_bytes_8 first.result (lsp_number a) (omega arith) (small-at first.result first.ensures.small) (ap (from_be_bytes w64) (sym first.ensures.value)) in
    let of_second : to_be_bytes w64 (lsp_number b) ≡ second.result = be_bytes_8 second.result (lsp_number b) (omega arith) (small-at second.result second.ensures.small) (ap (from_be_bytes w64) (sym second.ensures.value)) in
    λ same. lsp-same a b (omega arith) (omega arith)
    (sym first.ensures.value ∙ sym of_first ∙ ap (to_be_bytes w64) same ∙ of_second ∙ second.ensures.value)
