use Rattle.std.proofs.Common.{◌∙◌, ◌||◌, ℕ, List, sym, subst, ap, ap₂}
use Rattle.isis_base.specs.Identifiers.{lsp_number}
use Rattle.snp_exchange.specs.Sweeps.{SweepState, AreApart, covers, in_range, merged}
use Rattle.snp_exchange.proofs.SweepLemmas.{merged-apart, merged-covers}
use Rattle.snp_exchange.proofs.sweep.Sweep.take.Goals as goal

pub swept_of-requires : goal.swept_of-requires
swept_of-requires c =
    let rs = c.self.inside.ranges.items in
    let new = c.in-Ok.ensures ∙ ap (λ (xs : List (ℕ × ℕ)). merged xs c.to_number.result c.to_number-2.result) c.deref.ensures.value ∙ ap₂ (merged rs) c.to_number.ensures c.to_number-2.ensures in
    subst (AreApart 0) (sym (c.deref-2.ensures.value ∙ new)) (merged-apart rs (lsp_number c.args.start) (lsp_number c.args.end) c.self.invariant)

pub invariant_of-self : goal.invariant_of-self
invariant_of-self c =
    let rs = c.self.inside.ranges.items in
    let new = c.in-Ok.ensures ∙ ap (λ (xs : List (ℕ × ℕ)). merged xs c.to_number.result c.to_number-2.result) c.deref.ensures.value ∙ ap₂ (merged rs) c.to_number.ensures c.to_number-2.ensures in
    subst (AreApart 0) (sym new) (merged-apart rs (lsp_number c.args.start) (lsp_number c.args.end) c.self.invariant)

pub returns-clause-covered : goal.returns-clause-covered
returns-clause-covered c n =
    let rs = c.self.inside.ranges.items in
    let s = lsp_number c.args.start in
    let e = lsp_number c.args.end in
    let new = c.in-Ok.ensures ∙ ap (λ (xs : List (ℕ × ℕ)). merged xs c.to_number.result c.to_number-2.result) c.deref.ensures.value ∙ ap₂ (merged rs) c.to_number.ensures c.to_number-2.ensures in
    ap (λ (xs : List (ℕ × ℕ)). covers xs n) new ∙ merged-covers rs s e n c.self.invariant ∙ ap (λ (t : SweepState). covers t.ranges n || in_range s e n) c.self.view_is
