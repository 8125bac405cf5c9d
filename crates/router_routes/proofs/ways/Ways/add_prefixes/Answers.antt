use Rattle.std.proofs.Common.{◌≡◌, ◌∙◌, ◌++◌, ℕ, List, length, ap, sym, subst, OnOk}
use Rattle.std.proofs.lemmas.Bool.{eqb-true}
use Rattle.route_table.specs.declared.candidate.Candidate.{Candidate}
use Rattle.router_routes.specs.Ways.{WaysOf, all_in, prefixes_via, rows_of}
use Rattle.router_routes.proofs.WayLemmas.{via-nothing}
use Rattle.router_routes.proofs.ways.Ways.add_prefixes.Goals as goal

pub returns-then-is_empty : goal.returns-then-is_empty
returns-then-is_empty c = via-nothing c.args.numbers.now (all_in c.args.self.now.rows) c.args.prefixes.now.items (eqb-true (length c.args.numbers.now) 0 (sym c.is_empty.ensures ∙ c.if-is_empty.true))

pub returns : goal.returns
returns c =
    subst (λ (rows : List (ℕ × List Candidate)). OnOk c.add_touched.result (c.add_touched.new.prefixes.items ≡ c.args.prefixes.now.items ++ prefixes_via c.args.numbers.now (all_in rows)))
    (ap rows_of c.as_slice.ensures.value ∙ ap (λ (w : WaysOf). w.rows) c.self.view_is) c.add_touched.ensures
