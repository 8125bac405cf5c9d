use Rattle.std.proofs.Common.{◌≡◌, ◌∷◌, ◌++◌, List, map, is_some, sym, ap, subst, ◌∙◌}
use Rattle.std.specs.List.{AllByRecursion}
use Rattle.std.specs.Option.{option_copied}
use Rattle.std.specs.Vec.Iter.{into_iter_items}
use Rattle.isis_base.specs.Identifiers.{lsp_number}
use Rattle.model_router.specs.Good.{IsIssuable}
use Rattle.router_sending.specs.Drafts.{DraftView}
use Rattle.router_wanted.specs.declared.wanted.Wanted.{Wanted}
use Rattle.router_wanted.specs.Views.{contents_of, wanted_of}
use Rattle.router_levels.specs.Drafts.{wants_of}
use Rattle.router_core.specs.Seconds.{IsMade}
use Rattle.router_core.proofs.WantedLemmas.{all-rest}
use Rattle.router_core.proofs.SecondLemmas.{all-behind, says-turn}
use Rattle.router_core.proofs.renewal.drafts_of.Goals as goal

-- src/renewal.rt
pub loop-want-preserved : goal.loop-want-preserved
loop-want-preserved c =
    let all = into_iter_items c.loop-want.left in
    let left = into_iter_items c.next.new.self in
    let is : all ≡ c.in-Some.want ∷ left = c.in-Some.ensures.items in
    let key = option_copied c.args.key in
    record {
      issuable = all-rest (λ (w : Wanted). IsIssuable key (contents_of w)) all left c.in-Some.want is c.loop-want.invariant.issuable;
      says = ap (λ (ds : List DraftView). wants_of ds ++ map wanted_of left) c.in-Ok-push.ensures.ok
          ∙ says-turn c.loop-want.wants c.in-Ok.draft c.in-Some.want all left (map wanted_of c.args.wanted.items) is
          (ap (λ (d : DraftView). (lsp_number d.id, d.contents)) c.in-Ok.ensures) c.loop-want.invariant.says;
      made = subst (AllByRecursion (IsMade (is_some key) c.args.level)) (sym c.in-Ok-push.ensures.ok)
          (all-behind (IsMade (is_some key) c.args.level) c.loop-want.wants c.in-Ok.draft c.loop-want.invariant.made
          (record { keyed = sym (ap (λ (d : DraftView). d.keyed) c.in-Ok.ensures); on = ap (λ (d : DraftView). d.level) c.in-Ok.ensures }));
    }
