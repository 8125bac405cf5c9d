use Rattle.std.proofs.Common.{◌∙◌, List, map, sym, ap, subst}
use Rattle.model_router.specs.Routers.{level_of}
use Rattle.lsp_fragments.specs.Issues.{all_rest}
use Rattle.router_wanted.specs.Views.{wanted_of}
use Rattle.router_core.specs.Seconds.{IsQuiet}
use Rattle.router_core.specs.Settled.{IsSettled}
use Rattle.router_core.proofs.PassedLemmas.{false-true}
use Rattle.router_core.proofs.SettledLemmas.{aged, lasting-is, own-is, settled-quiet}
use Rattle.router_core.proofs.parts.Parts.calm_level.Goals as goal

-- src/plan_second.rt
pub returns-then-rests : goal.returns-then-rests
returns-then-rests c =
    let s = level_of c.args.self.now c.args.level in
    let wants = map wanted_of c.args.wanted.now in
    let own = own-is c.level-on.result.now c.own-own.result.now s c.own-own.ensures c.level-on.ensures.state in
    let settled : IsSettled s.own wants = subst (λ (xs : List _). IsSettled xs wants) own (c.is_settled.ensures c.if-is_settled.true) in
    record {
      last = lasting-is c.level-on.result.now c.book.result.now s c.book.ensures c.level-on.ensures.state (c.lasts.ensures c.if-not-lasts.false);
      quiet = settled-quiet s.own wants (ap all_rest (sym own) ∙ (sym c.rests.ensures ∙ c.if-rests.true)) settled;
      said = λ h. settled;
    }

-- src/plan_second.rt
pub returns-then-is_quiet : goal.returns-then-is_quiet
returns-then-is_quiet c =
    let s = level_of c.args.self.now c.args.level in
    let wants = map wanted_of c.args.wanted.now in
    let own = own-is c.level-on.result.now c.own-own.result.now s c.own-own.ensures c.level-on.ensures.state in
    record {
      last = lasting-is c.level-on.result.now c.book.result.now s c.book.ensures c.level-on.ensures.state (c.lasts.ensures c.if-not-lasts.false);
      quiet = subst (λ (xs : List _). IsQuiet xs wants) (c.second.ensures.issued ∙ ap aged (c.in_ok-later.ensures ∙ own)) (c.is_quiet.ensures c.if-is_quiet.true);
      said = λ h. false-true h;
    }
