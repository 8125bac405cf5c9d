use Rattle.std.proofs.Common.{◌≡◌, ◌∙◌, ℕ, true, false, sym, ap, subst}
use Rattle.spf_tree.specs.Nodes.{node_number}
use Rattle.std.specs.List.{Contains}
use Rattle.capture_text.specs.SoFar.{AreAdded}
use Rattle.capture_text.proofs.BackupLemmas.{row-to, none-more, target-more}
use Rattle.capture_text.proofs.backups.add_target.Goals as goal

pub returns-then-not-is_system-clause-list : goal.returns-then-not-is_system-clause-list
returns-then-not-is_system-clause-list c = λ nodes so_far below.
    none-more c.args.graph.now nodes c.args.node c.args.list.now.items (λ hop system next. isnt (c.if-not-is_system.ensures ∙ system)) so_far
  where
    isnt : false ≡ true → ⊥
    isnt e = cc

pub returns-then-node-number-clause-list : goal.returns-then-node-number-clause-list
returns-then-node-number-clause-list c = λ nodes so_far below.
    none-more c.args.graph.now nodes c.args.node c.args.list.now.items (λ hop system next. (row-to c.args.graph.now.rows (node_number c.args.graph.now.root) c.args.node hop next).3 (c.if-node-number.true ∙ c.number.ensures ∙ ap node_number c.root.ensures)) so_far

pub returns-in-Ok-add_hops-clause-list : goal.returns-in-Ok-add_hops-clause-list
returns-in-Ok-add_hops-clause-list c = λ nodes so_far below.
    let graph = c.args.graph.now in
    let node = c.args.node in
    let hops = c.in-Ok.hops in
    let root : c.number.result ≡ node_number graph.root = c.number.ensures ∙ ap node_number c.root.ensures in
    let target : node_number c.own_node.result ≡ node = ap node_number c.own_node.ensures ∙ c.system_of-target.ensures in
    target-more graph nodes node hops c.args.list.now.items c.add_hops.new.list.items (λ e. c.if-node-number.false (sym e ∙ sym root))
    c.in-Ok.ensures.rising
    (λ hop has. (c.requires.table node hop).0 (subst (λ (n : ℕ). Contains c.args.table.now (n, hop)) target ((c.in-Ok.ensures.hops hop).0 has)))
    (λ hop next. (c.in-Ok.ensures.hops hop).1 (subst (λ (n : ℕ). Contains c.args.table.now (n, hop)) (sym target) ((c.requires.table node hop).1 next)))
    (subst (λ (n : ℕ). AreAdded graph n hops c.args.list.now.items c.add_hops.new.list.items) c.system_of-target.ensures c.in-Ok-add_hops.ensures.added)
    so_far below
