use Rattle.std.proofs.Common.{ℕ, List, drop, take, sym, ap, ◌∙◌, arith}
use Rattle.std.proofs.lemmas.List.{drop_all, length-drop}
use Rattle.std.proofs.Math.Seq.{take-length}
use Rattle.isis_base.proofs.fields.behind_header.Goals as goal

pub returns-then-octets-lt-LSP_HEADER : goal.returns-then-octets-lt-LSP_HEADER
returns-then-octets-lt-LSP_HEADER c = sym (drop_all 27 c.args.octets.now (omega (arith, c.if-octets-lt-LSP_HEADER.true)))

pub returns : goal.returns
returns c =
    let rest : List ℕ = drop 27 c.args.octets.now in
    ap (λ (n : ℕ). take n rest) (sym (length-drop 27 c.args.octets.now)) ∙ take-length rest
