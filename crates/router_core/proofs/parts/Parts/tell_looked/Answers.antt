use Rattle.std.proofs.Common.{◌≡◌, ◌-◌, ◌∷◌, length, take, drop}
use Rattle.model_router.specs.Both.{at}
use Rattle.model_router.specs.Good.{IsIssuable}
use Rattle.router_wanted.specs.declared.wanted.Wanted.{Wanted}
use Rattle.router_wanted.specs.Views.{contents_of}
use Rattle.router_core.proofs.NodesLemmas.{rest-all}
use Rattle.router_core.proofs.RenewalLemmas.{look-end, look-first, look-turn}
use Rattle.router_core.proofs.WantedLemmas.{all-first, opens-at}
use Rattle.router_core.proofs.parts.Parts.tell_looked.Goals as goal

-- src/renewing.rt
pub loop-left-init : goal.loop-left-init
loop-left-init c = record {
  few = c.staying-count.ensures.few;
  issuable = c.requires.issuable;
  looks = look-first c.args.self.now c.args.level c.args.store.now.entries c.args.later.now.issued c.args.wanted.now c.staying-count.result c.args.movers.now.nodes.items c.args.movers.now.aside.entries c.requires.rises c.staying-count.ensures.count;
}

-- src/renewing.rt
pub tell_look-requires-clause-issuable : goal.tell_look-requires-clause-issuable
tell_look-requires-clause-issuable c =
    let left = c.loop-left.left.now in
    let x = c.want-item.result in
    let rest = take (length left - 1) (drop 1 left) in
    let is : left ≡ x ∷ rest = opens-at left x _ c.in-len1-up.len_at_least c.want-item.is in
    all-first (λ (w : Wanted). IsIssuable (at c.args.self.now.config.keys c.args.level) (contents_of w)) left rest x is c.loop-left.invariant.issuable

-- src/renewing.rt
pub loop-left-preserved : goal.loop-left-preserved
loop-left-preserved c =
    let r = c.args.self.now in
    let l = c.args.level in
    let left = c.loop-left.left.now in
    let x = c.want-item.result in
    let rest = take (length left - 1) (drop 1 left) in
    let is : left ≡ x ∷ rest = opens-at left x _ c.in-len1-up.len_at_least c.want-item.is in
    record {
      few = c.in-Ok.ensures.few;
      issuable = rest-all (λ (w : Wanted). IsIssuable (at r.config.keys l) (contents_of w)) left c.loop-left.invariant.issuable;
      looks = look-turn r l c.args.store.now.entries c.args.later.now.issued c.args.wanted.now left rest x c.loop-left.count c.in-Ok.count c.args.movers.now.nodes.items c.loop-left.movers.nodes.items c.tell_look.new.movers.nodes.items
          c.args.movers.now.aside.entries c.loop-left.movers.aside.entries c.tell_look.new.movers.aside.entries is c.in-Ok.ensures.ahead c.loop-left.invariant.looks;
    }

-- src/renewing.rt
pub returns : goal.returns
returns c =
    look-end c.args.self.now c.args.level c.args.store.now.entries c.args.later.now.issued c.args.wanted.now c.loop-left.left.now c.loop-left.count c.args.movers.now.nodes.items c.loop-left.movers.nodes.items c.args.movers.now.aside.entries c.loop-left.movers.aside.entries
    c.in_default.len_below c.loop-left.invariant.looks
