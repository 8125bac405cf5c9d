use Rattle.std.proofs.Common.{◌≡◌, ◌==◌, true, sym, ◌∙◌, subst, arith}
use Rattle.std.specs.List.{Contains}
use Rattle.std.proofs.lemmas.Bool.Decides.{nat_tests}
use Rattle.spf_tree.specs.Nodes.{system_node}
use Rattle.walk_text.specs.Foreign.{IsLeastForeign}
use Rattle.walk_text.proofs.ListLemmas.{any-contains, contains-any}
use Rattle.walk_text.proofs.ForeignLemmas.{foreign-known, foreign-greater, foreign-less}
use Rattle.walk_text.proofs.strangers.lesser.Goals as goal

pub returns-then-contains : goal.returns-then-contains
returns-then-contains c = λ before h.
    let found = any-contains (λ y. y == c.system_number-node.result) c.args.known.now (sym c.contains.ensures.value ∙ c.if-contains.true) in
    let same : found.0 ≡ c.system_number-node.result = (let t = found.2 in grind (arith, nat_tests, t)) in
    foreign-known c.args.known.now before c.args.system c.args.least (subst (Contains c.args.known.now) (same ∙ c.system_number-node.ensures) found.1) h

pub returns-in-Some : goal.returns-in-Some
returns-in-Some c = λ before h.
    foreign-greater c.args.known.now before c.args.system c.in-Some.other (omega (arith, c.if-system_number-node.true, c.system_number.ensures, c.system_number-node.ensures))
    (subst (IsLeastForeign c.args.known.now before) c.in-Some.is h)

pub returns-in_default : goal.returns-in_default
returns-in_default c = λ before h.
    foreign-less c.args.known.now before c.args.system c.in-Some.other
    (λ there. (let clash : true ≡ _ = sym (contains-any (λ y. y == c.system_number-node.result) c.args.known.now (system_node c.args.system) there (let e = c.system_number-node.ensures in grind (arith, nat_tests, e))) ∙ (sym c.contains.ensures.value ∙ c.if-contains.false) in cc))
    (omega (arith, c.if-system_number-node.false, c.system_number.ensures, c.system_number-node.ensures))
    (subst (IsLeastForeign c.args.known.now before) c.in-Some.is h)
