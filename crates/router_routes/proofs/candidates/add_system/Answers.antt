use Rattle.std.proofs.Common.{◌≡◌, ◌∙◌, ◌++◌, List, map, append_assoc, ap, sym, subst, OnOk}
use Rattle.isis_base.specs.declared.level.Level.{Level}
use Rattle.isis_base.specs.declared.level.Level.TheVariants as level
use Rattle.isis_tlv.specs.declared.prefix.PrefixItem.{PrefixItem}
use Rattle.lsp_view.specs.Lsps.{entries_in}
use Rattle.route_table.specs.declared.candidate.Candidate.{Candidate}
use Rattle.router_routes.specs.Candidates.{default_of, system_candidates, system_ways, told_candidate}
use Rattle.router_routes.specs.Moved.{told_of}
use Rattle.router_routes.proofs.ToldLemmas.{reach-told}
use Rattle.router_routes.proofs.candidates.add_system.Goals as goal

pub returns-in-One : goal.returns-in-One
returns-in-One c =
    let told = told_of c.args.told.now in
    let old = c.args.list.now.items in
    let items = c.as_slice.ensures.value ∙ c.in_ok-reach_into.ensures ∙ sym (reach-told (entries_in c.lsps_of-lsps.result) c.kept.ensures.rises c.args.reached.0) ∙ c.lsps_of-lsps.ensures.reach in
    let way = default_of told c.args.reached in
    let first : c.add_items.new.list.items ≡ old ++ system_candidates level.One told c.args.reached =
    c.in_ok-add_items.ensures ∙ ap (λ (is : List PrefixItem). old ++ map (told_candidate c.args.level c.args.reached) is) items ∙ ap (λ (l : Level). old ++ system_candidates l told c.args.reached) c.in-One.is in
    subst (λ (l : List Candidate). OnOk c.add_default.result (c.add_default.new.list.items ≡ l))
    (ap (λ (l : List Candidate). l ++ way) first ∙ append_assoc old (system_candidates level.One told c.args.reached) way ∙ ap (λ (l : Level). old ++ system_ways l told c.args.reached) (sym c.in-One.is)) c.add_default.ensures

pub returns-in-Two : goal.returns-in-Two
returns-in-Two c =
    let told = told_of c.args.told.now in
    let old = c.args.list.now.items in
    let items = c.as_slice.ensures.value ∙ c.in_ok-reach_into.ensures ∙ sym (reach-told (entries_in c.lsps_of-lsps.result) c.kept.ensures.rises c.args.reached.0) ∙ c.lsps_of-lsps.ensures.reach in
    c.in_ok-add_items.ensures
    ∙ ap (λ (is : List PrefixItem). old ++ map (told_candidate c.args.level c.args.reached) is) items
    ∙ ap (λ (l : Level). old ++ system_candidates l told c.args.reached) c.in-Two.is
    ∙ ap (λ (l : Level). old ++ system_ways l told c.args.reached) (sym c.in-Two.is)
