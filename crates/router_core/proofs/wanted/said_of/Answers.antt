use Rattle.std.proofs.Common.{◌≡◌, ◌==◌, ◌-◌, ◌∷◌, false, length, take, drop, sym, ◌∙◌}
use Rattle.isis_base.specs.Identifiers.{lsp_number}
use Rattle.model_router.specs.Good.{IsIssuable}
use Rattle.router_wanted.specs.declared.wanted.Wanted.{Wanted}
use Rattle.router_wanted.specs.Views.{contents_of}
use Rattle.router_core.proofs.WantedLemmas.{opens-at, all-first, all-rest, find-rest, eq-other}
use Rattle.router_core.proofs.wanted.said_of.Goals as goal

-- src/wanted.rt
pub returns-then-to_number-clause-issuable : goal.returns-then-to_number-clause-issuable
returns-then-to_number-clause-issuable c key all =
    let left = c.loop-left.left.now in
    let x = c.wanted-item.result in
    let rest = take (length left - 1) (drop 1 left) in
    let is : left ≡ x ∷ rest = opens-at left x _ c.in-len1-up.len_at_least c.wanted-item.is in
    all-first (λ (w : Wanted). IsIssuable key (contents_of w)) left rest x is (c.loop-left.invariant.issuable key all)

-- src/wanted.rt
pub loop-left-preserved : goal.loop-left-preserved
loop-left-preserved c =
    let left = c.loop-left.left.now in
    let x = c.wanted-item.result in
    let rest = take (length left - 1) (drop 1 left) in
    let is : left ≡ x ∷ rest = opens-at left x _ c.in-len1-up.len_at_least c.wanted-item.is in
    let other : (lsp_number x.id == lsp_number c.args.id) ≡ false = eq-other _ _ (λ e. c.if-to_number.false (c.to_number.ensures ∙ (e ∙ sym c.to_number-in-len1-up.ensures))) in
    record {
      same = find-rest left rest x (lsp_number c.args.id) is other ∙ c.loop-left.invariant.same;
      issuable = λ key all. all-rest (λ (w : Wanted). IsIssuable key (contents_of w)) left rest x is (c.loop-left.invariant.issuable key all);
    }
