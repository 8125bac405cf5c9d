use Rattle.std.proofs.Common.{◌≡◌, ◌∙◌, ℕ, get_or, sym}
use Rattle.std.proofs.lemmas.Bool.{and_parts, eqb-true}
use Rattle.std.proofs.lemmas.List.{get_or_default}
use Rattle.spf_tree.proofs.table.add_unless_at.Goals as goal

-- the pair stands at the place
pub returns-then-eq-clause-lacking : goal.returns-then-eq-clause-lacking
returns-then-eq-clause-lacking c = λ none.
    let found : ℕ × ℕ = get_or c.args.other.now c.args.at (0, 0) in
    let both = and_parts _ _ (sym c.eq.ensures ∙ c.if-eq.true) in
    let one : found.0 ≡ c.args.pair.0 = eqb-true _ _ both.0 in
    let two : found.1 ≡ c.args.pair.1 = eqb-true _ _ both.1 in
    let same : found ≡ c.args.pair = (λ i. (one i, two i)) in
    (c.args.at, c.if-at-other.true, get_or_default c.args.other.now c.args.at c.args.pair (0, 0) c.if-at-other.true ∙ same)
