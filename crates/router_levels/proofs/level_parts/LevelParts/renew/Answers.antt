use Rattle.std.proofs.Common.{◌≡◌, List, map, sym, ap, subst, ◌∙◌}
use Rattle.std.specs.Option.{option_copied}
use Rattle.std.specs.Vec.Iter.{into_iter_items}
use Rattle.isis_base.specs.declared.identifiers.LspId.{LspId}
use Rattle.model_router.specs.Sorted.{RisesFrom}
use Rattle.model_router.specs.Routers.{LevelState}
use Rattle.model_router.specs.OwnLsps.{look_all, withdraw_all}
use Rattle.model_datagram.specs.Lsps.{given_octets}
use Rattle.flag_sync.specs.Walks.{numbers_of}
use Rattle.purge_ageing.specs.Ids.{Rises}
use Rattle.router_sending.specs.Drafts.{DraftView}
use Rattle.router_levels.specs.Views.{state_of}
use Rattle.router_levels.specs.Drafts.{AreUnder, wants_of, numbers_wanted}
use Rattle.router_levels.proofs.RenewLemmas.{numbers-are, wants-rise}
use Rattle.router_levels.proofs.level_parts.LevelParts.renew.Goals as goal

pub withdraw_all-requires : goal.withdraw_all-requires
withdraw_all-requires c =
    let ids = c.deref.ensures.value ∙ c.wants.invariant in
    let up = subst (λ (ds : List DraftView). RisesFrom 0 (wants_of ds)) (sym c.wants.view_is) c.requires.rises in
    subst (λ (xs : List LspId). Rises 0 (numbers_of xs)) (sym ids) (wants-rise c.wants.inside.drafts.items 0 up)

pub returns-clause-state : goal.returns-clause-state
returns-clause-state c leaks attached r level under =
    let given = given_octets leaks attached in
    let wants = c.args.wants in
    let ids = c.deref.ensures.value ∙ c.wants.invariant ∙ ap (λ (ds : List DraftView). map (λ (d : DraftView). d.id) ds) c.wants.view_is in
    let listed : numbers_wanted (wants_of wants) ≡ numbers_of c.deref.result.now = numbers-are wants ∙ ap numbers_of (sym ids) in
    let items : into_iter_items c.into_iter.result ≡ wants = c.into_iter.ensures.rest ∙ c.wants.view_is in
    let looked = c.look_all.ensures.state leaks attached r level (subst (AreUnder (option_copied c.args.key) r level) (sym items) under)
    ∙ ap (λ (ds : List DraftView). look_all given r level (state_of c.args.self.now) (wants_of ds)) items in
    c.withdraw_all.ensures.state (wants_of wants) listed
    ∙ ap (λ (s : LevelState). withdraw_all s (wants_of wants) s.own) looked
