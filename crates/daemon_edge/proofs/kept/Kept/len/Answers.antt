use Rattle.std.proofs.Common.{rules, ◌≡◌, ◌∙◌, length, sym, ap}
use Rattle.daemon_edge.specs.Kept.{KeptList}
use Rattle.daemon_edge.proofs.KeptLemmas.{length-parts}
use Rattle.daemon_edge.proofs.kept.Kept.len.Goals as goal

pub returns : goal.returns
returns c =
    let e : c.len.result ≡ length c.self.inside.lengths.items = search rules in
    e ∙ sym (length-parts c.self.inside.lengths.items c.self.inside.octets.items)
    ∙ ap (λ (k : KeptList). length k.datagrams) c.self.view_is
