use Rattle.std.proofs.Common.{◌≡◌, ◌∙◌, ◌<◌, ◌≤◌, ◌⊎◌, ◌+◌, ℕ, ap₂, arith, inl, inr}
use Rattle.lsp_store.specs.Maps.{between}
use Rattle.lsp_view.proofs.LspsLemmas.{below-zero, cut-below}
use Rattle.lsp_view.proofs.lsps.below.Goals as goal
use Rattle.lsp_view.proofs.lsps.below.Goals.{then-end-number, else-end-number}

-- src/lsps.rt
pub returns-then-number-eq0 : goal.returns-then-number-eq0
returns-then-number-eq0 c = rw c.if-number-eq0.true (below-zero c.args.start c.args.end c.args.store.now.entries)

-- src/lsps.rt
pub returns : goal.returns
returns c =
    let entries = c.args.store.now.entries in
    let end = c.if-end-number.end in
    let cut : (end ≤ c.args.end) × ((end < c.args.number) × ((end ≡ c.args.end) ⊎ (end + 1 ≡ c.args.number))) =
    elim c.if-end-number.branch [
      | then-end-number w ↦ let is = w.end-is in let less = w.if-end-number.true in (omega (arith, is), (omega (arith, is, less), inl is))
      | else-end-number w ↦ let is = w.end-is in let more = w.if-end-number.false in let some = c.if-number-eq0.false in (omega (arith, is, more), (omega (arith, is, some), inr (omega (arith, is, some))))
    ] in
    c.range.ensures ∙ ap₂ (λ (s e : ℕ). between s e entries) c.from_number.ensures c.from_number-2.ensures ∙ cut-below c.args.start c.args.end c.args.number end entries cut.0 cut.1.0 cut.1.1
