use Rattle.std.proofs.Common.{◌≡◌, ◌∙◌, ◌∷◌, ◌+◌, ℕ, refl, sym, ap}
use Rattle.line_cuts.specs.Cuts.{parts_behind}
use Rattle.weave_text.specs.Lines.{Left, whole_lines}
use Rattle.weave_text.proofs.CutLemmas.{whole-none, whole-end, whole-next}
use Rattle.weave_text.proofs.input_lines.Lines.next.Goals as goal

pub returns-in_default : goal.returns-in_default
returns-in_default c =
    let left = parts_behind 10 c.self.inside.left in
    (sym (ap (λ (l : Left). l.lines) c.self.view_is) ∙ whole-none left (ap (parts_behind 10) c.in_default.is), refl)

pub returns-then-ends : goal.returns-then-ends
returns-then-ends c =
    let left = parts_behind 10 c.self.inside.left in
    let rest = parts_behind 10 c.cut.result.1 in
    let parts : left ≡ c.cut.result.0.now ∷ rest = ap (parts_behind 10) c.in-Some.is ∙ c.cut.ensures.parts in
    (sym (ap (λ (l : Left). l.lines) c.self.view_is) ∙ whole-end left c.cut.result.0.now rest parts (sym c.ends.ensures ∙ c.if-ends.true), refl)

pub returns : goal.returns
returns c =
    let left = parts_behind 10 c.self.inside.left in
    let rest = parts_behind 10 c.cut.result.1 in
    let parts : left ≡ c.cut.result.0.now ∷ rest = ap (parts_behind 10) c.in-Some.is ∙ c.cut.ensures.parts in (
      sym (ap (λ (l : Left). l.lines) c.self.view_is) ∙ whole-next left c.cut.result.0.now rest parts (sym c.ends.ensures ∙ c.if-ends.false),
      ap (λ (n : ℕ). record { number = n + 1; lines = whole_lines rest }) (ap (λ (l : Left). l.number) c.self.view_is),
    )
