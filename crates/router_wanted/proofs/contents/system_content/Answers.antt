use Rattle.std.proofs.Common.{List, ℕ, ◌++◌, [], map, sym, ap, ◌∙◌}
use Rattle.model_router.specs.LspNeighbours.{all_nodes, node_items}
use Rattle.model_router.specs.LspPrefixes.{Reach, reach_items}
use Rattle.model_router.specs.Splits.{Item}
use Rattle.lsp_fragments.specs.Entries.{prefix_entry}
use Rattle.router_wanted.specs.Lent.{config_of, router_of}
use Rattle.router_wanted.proofs.NodeLemmas.{good-ids}
use Rattle.router_wanted.proofs.contents.system_content.Goals as goal

pub returns-clause-first : goal.returns-clause-first
returns-clause-first c =
    rw (c.in_ok-areas.ensures.items, c.in_ok-addresses.ensures.items)
    (sym (c.content_laws.ensures.first (router_of c.args.base.now c.args.circuits.now)))

pub returns-clause-entries : goal.returns-clause-entries
returns-clause-entries c =
    let list = c.in_ok-neighbours.neighbours.items in
    let prefixes = c.in_ok-prefixes.prefixes.items in
    let nodes = all_nodes (config_of c.args.base.now) c.args.level 0 c.args.circuits.now [] in
    ap (λ (m : List Item). m ++ map prefix_entry prefixes)
    (sym (c.content_laws.ensures.neighbours list (good-ids list c.in_ok-neighbours.ensures.good)) ∙ ap (λ (m : List (ℕ × ℕ)). node_items m) c.in_ok-neighbours.ensures.nodes)
    ∙ ap (λ (m : List Item). node_items nodes ++ m)
    (sym (c.content_laws.ensures.prefixes prefixes) ∙ ap (λ (m : List (ℕ × Reach)). reach_items m) c.in_ok-prefixes.ensures)
