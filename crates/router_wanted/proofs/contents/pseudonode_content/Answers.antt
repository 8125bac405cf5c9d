use Rattle.std.proofs.Common.{List, ℕ, ◌*◌, [], ◌∷◌, ◌++◌, map, sym, ap, ◌∙◌, append-nil}
use Rattle.isis_tlv.specs.declared.prefix.PrefixItem.{PrefixItem}
use Rattle.model_router.specs.Adjacencies.{Neighbour}
use Rattle.model_router.specs.Both.{at}
use Rattle.model_router.specs.LspNeighbours.{node_items}
use Rattle.model_router.specs.Numbers.{system_number}
use Rattle.lsp_fragments.specs.Entries.{neighbour_entry, prefix_entry}
use Rattle.router_wanted.specs.Parts.{put_ups}
use Rattle.router_wanted.proofs.NodeLemmas.{good-ids, lan-ups}
use Rattle.router_wanted.proofs.contents.pseudonode_content.Goals as goal

pub returns-clause-entries : goal.returns-clause-entries
returns-clause-entries c =
    let list = c.in_ok-neighbours.neighbours.items in
    let mine = (256 * system_number c.args.base.now.system, 0) ∷ [] in
    let heard = (at c.args.circuit.now.levels c.args.level).heard in
    ap (λ (m : List PrefixItem). map neighbour_entry list ++ map prefix_entry m) c.new-3.ensures.items
    ∙ append-nil (map neighbour_entry list)
    ∙ sym (c.content_laws.ensures.neighbours list (good-ids list c.in_ok-neighbours.ensures.good))
    ∙ ap (λ (m : List (ℕ × ℕ)). node_items m)
    (c.in_ok-neighbours.ensures.nodes ∙ ap (λ (m : List Neighbour). put_ups mine m) c.up.ensures.up ∙ sym (lan-ups heard mine))
