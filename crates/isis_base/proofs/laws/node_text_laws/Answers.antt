use Rattle.std.proofs.Common.{◌≡◌, ◌<◌, ◌++◌, ◌∷◌, [], ℕ, List, length, ap, subst, arith, rules, length-append}
use Rattle.std.specs.List.{AllByRecursion}
use Rattle.isis_base.specs.declared.identifiers.LspId.{LspId}
use Rattle.isis_base.specs.declared.texts.TheConstants.{NODE_TEXT}
use Rattle.isis_base.specs.Identifiers.{node_octets}
use Rattle.isis_base.proofs.ArrayLemmas.{lsp-same}
use Rattle.isis_base.proofs.SpellingLemmas.{Spells-spelled, Spells-one}
use Rattle.isis_base.proofs.laws.node_text_laws.Goals as goal

small-front : (xs : List ℕ) (y : ℕ) → AllByRecursion (λ octet. octet < 256) (xs ++ y ∷ []) → AllByRecursion (λ octet. octet < 256) xs
small-front [] y h = tt
small-front (x ∷ xs) y h = (h.0, small-front xs y h.1)

pub returns-clause-written : goal.returns-clause-written
returns-clause-written c =
    let call = c.octets_of_lsp-octets in
    let node = c.args.a in
    let small : AllByRecursion (λ octet. octet < 256) (node_octets node ++ 0 ∷ []) = subst (λ (xs : List ℕ). AllByRecursion (λ octet. octet < 256) xs) call.ensures.value call.ensures.small in
    let seven : length (node_octets node) ≡ 7 = omega (arith, length-append node.system.0 (node.pseudonode ∷ [])) in
    Spells-spelled NODE_TEXT (node_octets node) (search rules) (small-front (node_octets node) 0 small) seven

pub returns-clause-one : goal.returns-clause-one
returns-clause-one c = λ text p q.
    let of_a : LspId = record { node = c.args.a; number = 0 } in
    let of_b : LspId = record { node = c.args.b; number = 0 } in
    let same = Spells-one NODE_TEXT text (node_octets c.args.a) (node_octets c.args.b) (search rules) p q in
    ap (λ (id : LspId). id.node) (lsp-same of_a of_b (omega arith) (omega arith) (ap (λ (octets : List ℕ). octets ++ 0 ∷ []) same))
