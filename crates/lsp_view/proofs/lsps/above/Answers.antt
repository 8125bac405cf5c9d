use Rattle.std.proofs.Common.{◌≡◌, ◌∙◌, ◌<◌, ◌≤◌, ◌⊎◌, ◌+◌, ℕ, ap₂, arith, inl, inr}
use Rattle.lsp_store.specs.Maps.{between}
use Rattle.lsp_view.proofs.LspsLemmas.{above-most, cut-above}
use Rattle.lsp_view.proofs.lsps.above.Goals as goal
use Rattle.lsp_view.proofs.lsps.above.Goals.{then-number-start, else-number-start}

-- src/lsps.rt
pub returns-then-number-eq18446744073709551615 : goal.returns-then-number-eq18446744073709551615
returns-then-number-eq18446744073709551615 c =
    let most = c.if-number-eq18446744073709551615.true in
    let fits = c.ranges.end in
    above-most c.args.start c.args.end c.args.number c.args.store.now.entries (omega (arith, most, fits))

-- src/lsps.rt
pub returns : goal.returns
returns c =
    let entries = c.args.store.now.entries in
    let start = c.if-number-start.start in
    let cut : (c.args.start ≤ start) × ((c.args.number < start) × ((start ≡ c.args.start) ⊎ (start ≡ c.args.number + 1))) =
    elim c.if-number-start.branch [
      | then-number-start w ↦ let is = w.start-is in let less = w.if-number-start.true in (omega (arith, is), (omega (arith, is, less), inl is))
      | else-number-start w ↦ let is = w.start-is in let more = w.if-number-start.false in (omega (arith, is, more), (omega (arith, is), inr is))
    ] in
    c.range.ensures ∙ ap₂ (λ (s e : ℕ). between s e entries) c.from_number.ensures c.from_number-2.ensures ∙ cut-above c.args.start c.args.end c.args.number start entries cut.0 cut.1.0 cut.1.1
