use Rattle.std.proofs.Common.{◌≡◌, ◌∙◌, ◌==◌, ◌&&◌, List, [], ◌∷◌, ◌++◌, ℕ, Option, Some, None, cond, map, length, sym, ap, arith}
use Rattle.std.specs.Borrow.{Bor}
use Rattle.std.specs.Option.{option_copied}
use Rattle.std.specs.Str.{bytes_eq}
use Rattle.weave_core.specs.Codes.{wire_place, is_wire}
use Rattle.weave_core.specs.Index.{wires_of, lent}
use Rattle.weave_core.proofs.LetterLemmas.{place-push, wires-push, length-wires, not-some}
use Rattle.weave_core.proofs.letters.LetterBook.add.Goals as goal

pub invariant_of-self-2 : goal.invariant_of-self-2
invariant_of-self-2 c = record {
  finds = λ link octets.
      let wires = wires_of c.self.inside in
      let pushed = c.push_reserved.ensures.items ∙ ap (λ (xs : _). xs ++ (c.args.link, c.args.octets) ∷ []) c.reserve.ensures.items in
      let list = ap (λ (xs : List (ℕ × Bor (List ℕ))). map lent xs) pushed ∙ wires-push c.self.inside.list.items (c.args.link, c.args.octets) in
      let absent : wire_place wires c.args.link c.args.octets.now ≡ None = sym (c.self.invariant.finds c.args.link c.args.octets.now) ∙ sym c.get.ensures.value ∙ ap option_copied (not-some c.get.result c.if-is_some.ensures) in
      let last : c.len.result ≡ length wires = omega (arith, c.len.ensures, c.reserve.ensures.len, length-wires c.self.inside.list.items) in
      (c.in_ok-insert.ensures.updates).0 (link, record c.args.octets { now = octets })
      ∙ ap (λ (o : Option ℕ). cond (c.args.link == link && bytes_eq c.args.octets.now octets) (Some c.len.result) o) (c.self.invariant.finds link octets)
      ∙ ap (λ (n : ℕ). cond (is_wire link octets (c.args.link, c.args.octets.now)) (Some n) (wire_place wires link octets)) last
      ∙ sym (place-push wires link c.args.link octets c.args.octets.now absent)
      ∙ ap (λ (xs : List (ℕ × List ℕ)). wire_place xs link octets) (sym list);
}
