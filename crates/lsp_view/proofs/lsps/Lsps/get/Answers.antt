use Rattle.std.proofs.Common.{◌≡◌, ◌∙◌, ℕ, sym, ap, arith, inl, inr}
use Rattle.isis_base.specs.Identifiers.{lsp_number}
use Rattle.lsp_view.proofs.LspsLemmas.{get-here, get-inside, get-outside, matched}
use Rattle.lsp_view.proofs.lsps.Lsps.get.Goals as goal
use Rattle.lsp_view.proofs.lsps.Lsps.get.Goals.{else-first-to_number-via-then-first-to_number+else-to_number-last, else-first-to_number-via-else-first-to_number}

pub returns-then-to_number : goal.returns-then-to_number
returns-then-to_number c =
    get-here c.args.self.now _ c.in-Some.is (lsp_number c.args.id) (sym c.to_number-in-Some.ensures ∙ sym c.if-to_number.true ∙ c.to_number.ensures)

pub returns-then-to_number-last : goal.returns-then-to_number-last
returns-then-to_number-last c =
    let first = ap (λ (p : ℕ × ℕ). p.0) c.ends-first.ensures.same in
    let last = ap (λ (p : ℕ × ℕ). p.1) c.ends-first.ensures.same in
    let one = c.to_number-else-to_number.ensures in
    let two = c.to_number-then-first-to_number.ensures in
    let low = c.if-first-to_number.true in
    let high = c.if-to_number-last.true in
    let other = λ (e : lsp_number c.in-Some.own ≡ lsp_number c.args.id). c.if-to_number.false (c.to_number.ensures ∙ sym e ∙ sym c.to_number-in-Some.ensures) in
    matched c.get-then-to_number-last.result _ c.get-then-to_number-last.ensures
    ∙ get-inside c.args.self.now _ c.in-Some.is (lsp_number c.args.id) other (omega (arith, first, one, low)) (omega (arith, last, two, high))

pub returns-else-first-to_number : goal.returns-else-first-to_number
returns-else-first-to_number c =
    let first = ap (λ (p : ℕ × ℕ). p.0) c.ends-first.ensures.same in
    let last = ap (λ (p : ℕ × ℕ). p.1) c.ends-first.ensures.same in
    let one = c.to_number-else-to_number.ensures in
    let other = λ (e : lsp_number c.in-Some.own ≡ lsp_number c.args.id). c.if-to_number.false (c.to_number.ensures ∙ sym e ∙ sym c.to_number-in-Some.ensures) in
    get-outside c.args.self.now _ c.in-Some.is (lsp_number c.args.id) other
    (elim c.else-first-to_number.branch [
      | else-first-to_number-via-then-first-to_number+else-to_number-last w ↦ let two = w.to_number-then-first-to_number.ensures in let more = w.if-to_number-last.false in inr (omega (arith, last, two, more))
      | else-first-to_number-via-else-first-to_number w ↦ let less = w.if-first-to_number.false in inl (omega (arith, first, one, less))
    ])
