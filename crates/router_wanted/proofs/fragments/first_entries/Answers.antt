use Rattle.std.proofs.Common.{ℕ, ◌-◌, ◌∙◌, ap}
use Rattle.lsp_fragments.specs.Entries.{neighbour_entry, prefix_entry}
use Rattle.router_wanted.proofs.PartLemmas.{take-both}
use Rattle.router_wanted.proofs.fragments.first_entries.Goals as goal

pub returns-clause-entries : goal.returns-clause-entries
returns-clause-entries c =
    let content = c.args.content in
    let rest = c.saturating_sub.ensures ∙ ap (λ (n : ℕ). c.args.count - n) (c.len-before.ensures ∙ content.neighbours.ok.0) in
    rw (c.truncate.ensures.items, c.truncate-2.ensures.items, rest)
    (take-both neighbour_entry prefix_entry c.args.count content.neighbours.items content.prefixes.items)
