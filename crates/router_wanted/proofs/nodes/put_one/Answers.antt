use Rattle.std.proofs.Common.{◌∙◌, ap, map, sym, subst, arith, List, ℕ}
use Rattle.isis_tlv.specs.declared.neighbour.NeighbourItem.{NeighbourItem}
use Rattle.lsp_fragments.specs.Entries.{node_and_metric}
use Rattle.router_wanted.specs.Parts.{NotFalling}
use Rattle.router_wanted.proofs.NodeLemmas.{put-insert, put-order}
use Rattle.router_wanted.proofs.nodes.put_one.Goals as goal

pub returns-in-Ok-clause-ok : goal.returns-in-Ok-clause-ok
returns-in-Ok-clause-ok c =
    ap (λ (m : List NeighbourItem). map node_and_metric m) c.in-Ok.ensures.items
    ∙ put-insert c.args.list.now.items c.args.item c.place_of-place.result (rw c.deref.ensures.value at c.place_of-place.ensures)

pub returns-in-Ok-clause-order : goal.returns-in-Ok-clause-order
returns-in-Ok-clause-order c =
    let put = ap (λ (m : List NeighbourItem). map node_and_metric m) c.in-Ok.ensures.items
    ∙ put-insert c.args.list.now.items c.args.item c.place_of-place.result (rw c.deref.ensures.value at c.place_of-place.ensures) in
    subst (λ (m : List (ℕ × ℕ)). NotFalling 0 m) (sym put)
    (put-order (map node_and_metric c.args.list.now.items) 0 (node_and_metric c.args.item) c.requires.order (omega arith))
