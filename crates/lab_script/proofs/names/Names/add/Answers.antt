use Rattle.std.proofs.Common.{◌≡◌, ◌∙◌, List, [], ◌∷◌, ◌++◌, ℕ, Option, Some, None, cond, subst, sym, ap, length, arith}
use Rattle.std.specs.Str.{bytes_eq}
use Rattle.std.specs.Borrow.{Bor}
use Rattle.std.specs.HashMap.{get_by}
use Rattle.lab_script.specs.Names.{number_of_name}
use Rattle.line_cuts.specs.Words.{texts}
use Rattle.lab_script.proofs.NameLemmas.{number_of_name-push, texts-push, length-texts}
use Rattle.lab_script.proofs.names.Names.add.Goals as goal

pub invariant_of-self-2 : goal.invariant_of-self-2
invariant_of-self-2 c = record {
  finds = λ name.
      let names = texts c.self.inside.list.items in
      let new = c.args.name.now in
      let list : texts c.push_reserved.new.self.items ≡ names ++ new ∷ [] = ap texts (c.push_reserved.ensures.items ∙ ap (λ (xs : _). xs ++ c.args.name ∷ []) c.reserve.ensures.items) ∙ texts-push c.self.inside.list.items c.args.name in
      let absent : number_of_name names new ≡ None = subst (λ (xs : List (List ℕ)). number_of_name xs new ≡ None) (sym c.self.view_is) c.requires in
      let last : c.len.result ≡ length names = omega (arith, c.len.ensures, c.reserve.ensures.len, length-texts c.self.inside.list.items) in
      (c.in_ok-insert.ensures.updates).0 (record c.args.name { now = name })
      ∙ ap (λ (key : List ℕ). cond (bytes_eq key name) (Some c.len.result) (get_by (λ (other : Bor (List ℕ)). bytes_eq name other.now) c.self.inside.index)) c.as_bytes.ensures.value
      ∙ ap (λ (o : Option ℕ). cond (bytes_eq new name) (Some c.len.result) o) (c.self.invariant.finds name)
      ∙ ap (λ (n : ℕ). cond (bytes_eq new name) (Some n) (number_of_name names name)) last
      ∙ sym (number_of_name-push names new name absent)
      ∙ ap (λ (xs : List (List ℕ)). number_of_name xs name) (sym list);
}
