use Rattle.std.proofs.Common.{◌∙◌, sym}
use Rattle.router_core.proofs.NodesLemmas.{gathered-node, gathered-same, none-met}
use Rattle.router_core.proofs.snp_told.nodes_apart.Goals as goal

-- src/snp_told.rt
pub loop-left-preserved-in-Ok : goal.loop-left-preserved-in-Ok
loop-left-preserved-in-Ok c =
    let i = c.loop-left.invariant in
    let t = gathered-node c.args.store.now.entries c.args.entries.now c.loop-left.left.now _ c.loop-left.nodes.items c.as_slice.result.now c.in-Ok.nodes.items c.in-len1-up.len_at_least c.lsp_id_law.ensures
    c.in-Ok.ensures c.as_slice.ensures.value (record { rises = i.rises; ids = i.ids; covered = i.covered }) in
    record { rises = t.rises; ids = t.ids; covered = t.covered }

-- src/snp_told.rt
pub loop-left-preserved : goal.loop-left-preserved
loop-left-preserved c =
    let i = c.loop-left.invariant in
    let t = gathered-same c.args.store.now.entries c.args.entries.now c.loop-left.left.now _ c.loop-left.nodes.items c.in-len1-up.len_at_least
    (sym c.is_apart_in.ensures ∙ c.if-is_apart_in.false) (record { rises = i.rises; ids = i.ids; covered = i.covered }) in
    record { rises = t.rises; ids = t.ids; covered = t.covered }

-- src/snp_told.rt
pub returns-clause-covered : goal.returns-clause-covered
returns-clause-covered c = c.loop-left.invariant.covered c.loop-left.nodes.items (λ n among. among) (none-met c.args.store.now.entries c.loop-left.nodes.items c.loop-left.left.now c.in_default.len_below)
