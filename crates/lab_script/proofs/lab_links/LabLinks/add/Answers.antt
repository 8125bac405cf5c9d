use Rattle.std.proofs.Common.{◌≡◌, ◌∙◌, ℕ, List, [], ◌∷◌, ◌++◌, sym, ap, arith}
use Rattle.std.proofs.lemmas.List.{map-append}
use Rattle.lab_script.specs.declared.setup.LabLink.{LabLink}
use Rattle.lab_script.specs.LabScripts.{circuit_count, link_names, next_ends}
use Rattle.lab_script.proofs.LabIndexLemmas.{counted-push}
use Rattle.lab_script.proofs.lab_links.LabLinks.add.Goals as goal

pub count_all-requires-clause-few : goal.count_all-requires-clause-few
count_all-requires-clause-few c = λ router.
    let now = ap (λ (links : List LabLink). circuit_count links router) c.self.view_is in
    omega (arith, c.in_ok-make_room.ensures.same router, c.self.invariant.counted router, now, c.requires.few router)

pub invariant_of-self-2 : goal.invariant_of-self-2
invariant_of-self-2 c =
    let old = c.self.inside.list.items in
    let routers = c.args.routers.now in
    let link : LabLink = record { name = c.args.name; kind = c.args.kind; ends = c.in_ok-ends.ends; metric = c.args.metric } in
    let list : c.push_reserved.new.self.items ≡ old ++ link ∷ [] = c.push_reserved.ensures.items ∙ ap (λ (xs : List LabLink). xs ++ link ∷ []) c.reserve.ensures.items in
    let before = c.in_ok-make_room.ensures.same in
    let ends = c.in_ok-ends.ensures ∙ ap (λ (links : List LabLink). next_ends links routers) (sym c.self.view_is) in
    record {
      named = c.in_ok-add.ensures.ok ∙ ap (λ (n : List ℕ). c.self.inside.names ++ n ∷ []) c.letters.ensures ∙ ap (λ (ns : List (List ℕ)). ns ++ c.args.name ∷ []) c.self.invariant.named ∙ sym (map-append (λ (l : LabLink). l.name) old (link ∷ [])) ∙ sym (ap link_names list);
      counted = λ router.
          counted-push c.make_room.new.counts.items c.count_all.new.counts.items old link routers ends c.requires.apart
          (λ r. before r ∙ c.self.invariant.counted r) c.count_all.ensures router
          ∙ sym (ap (λ (links : List LabLink). circuit_count links router) list);
    }
