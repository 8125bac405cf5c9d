use Rattle.std.proofs.Common.{◌≡◌, ◌++◌, ◌≤◌, ◌+◌, ◌*◌, List, ℕ, length, OnOk, subst}
use Rattle.lsp_fragments.proofs.FirstLemmas.{address-parts}
use Rattle.lsp_fragments.proofs.first.add_addresses.Goals as goal

pub returns-clause-ok : goal.returns-clause-ok
returns-clause-ok c =
    subst (λ (t : List ℕ). OnOk c.add_both.result (c.add_both.new.out ≡ c.args.out.now ++ t)) (address-parts c.args.list.now c.min.result c.min.ensures) c.add_both.ensures.ok

pub returns-clause-short : goal.returns-clause-short
returns-clause-short c =
    subst (λ (t : List ℕ). OnOk c.add_both.result (length t ≤ 4 + 4 * length c.args.list.now)) (address-parts c.args.list.now c.min.result c.min.ensures) c.add_both.ensures.short
