use Rattle.std.proofs.Common.{◌≡◌, ◌++◌, ◌∙◌, ℕ, List, OnOk, ap, append-nil, subst, sym}
use Rattle.isis_base.specs.declared.identifiers.SystemId.{SystemId}
use Rattle.isis_base.specs.declared.identifiers.LspId.{LspId}
use Rattle.lsp_store.specs.declared.entry.Entry.{Entry}
use Rattle.lsp_store.specs.Databases.{is_live}
use Rattle.spf_tree.specs.Distances.{cost_at}
use Rattle.router_routes.specs.Told.{told_pair}
use Rattle.router_routes.specs.Moved.{is_one}
use Rattle.router_routes.specs.Candidates.{reached_by}
use Rattle.router_routes.proofs.SystemLemmas.{those-dead, those-none, those-one}
use Rattle.router_routes.proofs.systems.add_where.Goals as goal

pub returns-then-not-is_live : goal.returns-then-not-is_live
returns-then-not-is_live c =
    sym (ap (λ (l : List (SystemId × ℕ)). c.args.list.now.items ++ l) (sym (those-dead (reached_by (cost_at c.args.distances.now) c.args.root) (is_one c.args.there c.args.nodes.now) (c.args.id, c.args.entry.now) (sym c.is_live.ensures ∙ c.if-not-is_live.true))) ∙ append-nil c.args.list.now.items)

pub returns-then-not-is_one : goal.returns-then-not-is_one
returns-then-not-is_one c =
    let other = ap (is_one c.args.there c.args.nodes.now) (sym c.number.ensures) ∙ sym c.is_one.ensures ∙ c.if-not-is_one.true in
    sym (ap (λ (l : List (SystemId × ℕ)). c.args.list.now.items ++ l) (sym (those-none (reached_by (cost_at c.args.distances.now) c.args.root) (is_one c.args.there c.args.nodes.now) (c.args.id, c.args.entry.now) (is_live c.args.entry.now) (λ _. is_live c.args.entry.now) other)) ∙ append-nil c.args.list.now.items)

pub returns : goal.returns
returns c =
    let reach = reached_by (cost_at c.args.distances.now) c.args.root in
    let pair : LspId × Entry = (c.args.id, c.args.entry.now) in
    let one = ap (is_one c.args.there c.args.nodes.now) (sym c.number.ensures) ∙ sym c.is_one.ensures ∙ c.if-not-is_one.false in
    subst (λ (l : List (SystemId × ℕ)). OnOk c.add_reached.result (c.add_reached.new.list.items ≡ c.args.list.now.items ++ l))
    (those-one reach (is_one c.args.there c.args.nodes.now) pair (sym c.is_live.ensures ∙ c.if-not-is_live.false) one)
    (c.add_reached.ensures (told_pair pair).1)
