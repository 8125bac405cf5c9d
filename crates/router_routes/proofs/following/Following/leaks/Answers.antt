use Rattle.std.proofs.Common.{◌∙◌, map, ap, refl, sym, subst}
use Rattle.std.proofs.lemmas.Result.{IfOk-weaker}
use Rattle.isis_tlv.specs.declared.prefix.PrefixItem.{PrefixItem}
use Rattle.router_routes.specs.Candidates.{AreRoutesOf}
use Rattle.router_routes.specs.Following.{FollowingOf}
use Rattle.router_routes.specs.Leaks.{item_pair, pair_of}
use Rattle.router_routes.proofs.ToldLemmas.{map-map}
use Rattle.router_routes.proofs.LeakLemmas.{leaks-are}
use Rattle.router_routes.proofs.following.Following.leaks.Goals as goal

pub returns : goal.returns
returns c = λ o is.
    IfOk-weaker c.pairs_of.result _ _ (λ list e.
    ap (map pair_of) e
    ∙ map-map pair_of (λ (item : PrefixItem). pair_of (item_pair item)) item_pair _ (λ item. refl)
    ∙ ap (map (λ (item : PrefixItem). pair_of (item_pair item))) (c.as_slice.ensures.value ∙ c.in_ok-items.ensures)
    ∙ leaks-are o c.self.inside.routes c.args.level (subst (λ (f : FollowingOf). AreRoutesOf o f.routes) (sym c.self.view_is) is.routes)) c.pairs_of.ensures
