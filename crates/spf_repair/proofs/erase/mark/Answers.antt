use Rattle.std.proofs.Common.{◌∙◌, ℕ, List, ap, sym, subst}
use Rattle.std.specs.Option.{is_some}
use Rattle.spf_repair.specs.Erase.{HaveGrown}
use Rattle.spf_repair.proofs.EraseLemmas.{grown_push}
use Rattle.spf_repair.proofs.erase.mark.Goals as goal

pub returns-clause-grown : goal.returns-clause-grown
returns-clause-grown c =
    let open_ = ap is_some (sym c.get.ensures) ∙ sym c.is_some.ensures ∙ c.if-is_some.false in
    subst (λ (ns : List ℕ). HaveGrown c.args.root c.args.marks.now c.args.nodes.now.items c.set.new.self ns) (sym c.in-Ok.ensures.items)
    (grown_push c.args.root c.args.node c.args.marks.now c.set.new.self c.args.nodes.now.items c.requires.named c.requires.not_root c.set.ensures.names open_ c.set.ensures.costs)
