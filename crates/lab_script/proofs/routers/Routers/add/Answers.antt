use Rattle.std.proofs.Common.{◌≡◌, ◌∙◌, ℕ, Bool, true, cond, List, [], ◌∷◌, ◌++◌, sym, ap}
use Rattle.std.specs.Str.{bytes_eq}
use Rattle.std.proofs.lemmas.List.{map-append}
use Rattle.lab_script.specs.declared.setup.LabRouter.{LabRouter}
use Rattle.lab_script.specs.LabScripts.{has_system, router_names}
use Rattle.lab_script.proofs.LabIndexLemmas.{has_system-push}
use Rattle.lab_script.proofs.routers.Routers.add.Goals as goal

pub invariant_of-self-in_err-add : goal.invariant_of-self-in_err-add
invariant_of-self-in_err-add c = record {
  named = c.in_err-add.ensures.err ∙ c.self.invariant.named ∙ sym (ap router_names c.reserve.ensures.items);
  systems = λ system. c.reserve-2.ensures.keys.2 system ∙ c.self.invariant.systems system ∙ sym (ap (λ (rs : List LabRouter). has_system rs system) c.reserve.ensures.items);
}

pub invariant_of-self-2 : goal.invariant_of-self-2
invariant_of-self-2 c =
    let router = c.args.router in
    let old = c.self.inside.list.items in
    let list : c.push_reserved.new.self.items ≡ old ++ router ∷ [] = c.push_reserved.ensures.items ∙ ap (λ (xs : List LabRouter). xs ++ router ∷ []) c.reserve.ensures.items in
    record {
      named = c.in_ok-add.ensures.ok ∙ ap (λ (n : List ℕ). c.self.inside.names ++ n ∷ []) c.letters.ensures ∙ ap (λ (ns : List (List ℕ)). ns ++ router.name ∷ []) c.self.invariant.named ∙ sym (map-append (λ (r : LabRouter). r.name) old (router ∷ [])) ∙ sym (ap router_names list);
      systems = λ system.
          c.in-Ok.ensures.updates.0 system
          ∙ ap (λ (h : Bool). cond (bytes_eq router.system.0 system.0) true h) (c.reserve-2.ensures.keys.2 system ∙ c.self.invariant.systems system)
          ∙ sym (has_system-push old router system)
          ∙ sym (ap (λ (rs : List LabRouter). has_system rs system) list);
    }
