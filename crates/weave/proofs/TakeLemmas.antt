-- An entry that takes something, as a move; and what it takes has a letter then.
use Rattle.std.proofs.Common.{◌≡◌, ℕ, ◌-◌, List, map, length, get_or, Some, IfSome, sym, ap, ◌∙◌, subst, arith}
use Rattle.model_router.specs.Places.{nth}
use Rattle.model_network.specs.declared.end.End.{End}
use Rattle.weave_replay.specs.Passed.WovenEvent.{WovenEvent}
use Rattle.weave_replay.specs.Passed.WovenEvent.TheVariants as event
use Rattle.weave_core.specs.declared.moves.Move.{Move as CoreMove}
use Rattle.weave_core.specs.Codes.{code_of, with_wire}
use Rattle.weave_model.specs.Entries.{Take, Answer}
use Rattle.weave_model.specs.Coding.{sends_of, IsDeedCode}
use Rattle.weave_replay.specs.Entries.{deed_of}
use Rattle.weave.specs.Coded.{ArePorts, IsThere, HasPort, HasLetter, IsLettered}
use Rattle.weave.proofs.ItemLemmas.{nth-or, if-some, some-if}
use Rattle.weave.proofs.LetterLemmas.{lettered-by, letter-below}

-- the link of a circuit
port-at : (ports : List ℕ) (circuit : ℕ) → IsThere ports circuit → nth ports (circuit - 1) ≡ Some (get_or ports (circuit - 1) 0)
port-at ports circuit there = nth-or ports (circuit - 1) 0 (let a = there.0 in let b = there.1 in omega (arith, a, b))

lettered-new : (old new : List (ℕ × List ℕ)) (ports : List ℕ) (circuit : ℕ) (octets : List ℕ) → IsThere ports circuit → new ≡ with_wire old (get_or ports (circuit - 1) 0) octets → IfSome (nth ports (circuit - 1)) (λ (link : ℕ). HasLetter new link octets)
lettered-new old new ports circuit octets there e =
    let link = get_or ports (circuit - 1) 0 in
    some-if (λ (l : ℕ). HasLetter new l octets) (nth ports (circuit - 1)) link
    (subst (λ (ws : List (ℕ × List ℕ)). HasLetter ws link octets) (sym e) (lettered-by old link octets)) (port-at ports circuit there)

pub lettered-take : (old new : List (ℕ × List ℕ)) (ports : List ℕ) (e : WovenEvent) (circuit from : ℕ) (octets now : List ℕ) → e ≡ event.Take circuit octets → from ≡ circuit → now ≡ octets → HasPort ports (deed_of e) → new ≡ with_wire old (get_or ports (from - 1) 0) now → IsLettered new ports (deed_of e)
lettered-take old new ports e circuit from octets now is same-circuit same-octets there added =
    subst (λ (x : WovenEvent). IsLettered new ports (deed_of x)) (sym is)
    (lettered-new old new ports circuit octets (subst (λ (x : WovenEvent). HasPort ports (deed_of x)) is there)
    (added ∙ ap (λ (n : ℕ). with_wire old (get_or ports (n - 1) 0) now) same-circuit ∙ ap (λ (xs : List ℕ). with_wire old (get_or ports (circuit - 1) 0) xs) same-octets))

take-coded : (wires : List (ℕ × List ℕ)) (ports : List ℕ) (circuit : ℕ) (octets : List ℕ) (answer : Answer) (m : CoreMove) → IsThere ports circuit → IsLettered wires ports (Take circuit octets) → m.needs ≡ Some (code_of wires (get_or ports (circuit - 1) 0) octets) → m.sends ≡ map (code_of wires (get_or ports (circuit - 1) 0)) (sends_of answer) → (links : List (List End)) (router : ℕ) → ArePorts links router ports → IsDeedCode (code_of wires) (length wires) links router (Take circuit octets) answer m
take-coded wires ports circuit octets answer m there lettered needs sends links router are =
    let link = get_or ports (circuit - 1) 0 in
    record {
      on = record { link = link; on = are (circuit - 1) link (port-at ports circuit there); needs_are = needs; sends_are = sends };
      below = letter-below wires link octets (if-some (λ (l : ℕ). HasLetter wires l octets) (nth ports (circuit - 1)) link lettered (port-at ports circuit there));
    }

pub take-code : (wires : List (ℕ × List ℕ)) (ports : List ℕ) (e : WovenEvent) (circuit from : ℕ) (octets now : List ℕ) (answer : Answer) (letter : ℕ) (m : CoreMove) → e ≡ event.Take circuit octets → from ≡ circuit → now ≡ octets → HasPort ports (deed_of e) → IsLettered wires ports (deed_of e) → letter ≡ code_of wires (get_or ports (from - 1) 0) now → m.needs ≡ Some letter → m.sends ≡ map (code_of wires (get_or ports (from - 1) 0)) (sends_of answer) → (links : List (List End)) (router : ℕ) → ArePorts links router ports → IsDeedCode (code_of wires) (length wires) links router (deed_of e) answer m
take-code wires ports e circuit from octets now answer letter m is same-circuit same-octets there lettered coded needs sends links router are =
    subst (λ (x : WovenEvent). IsDeedCode (code_of wires) (length wires) links router (deed_of x) answer m) (sym is)
    (take-coded wires ports circuit octets answer m
    (subst (λ (x : WovenEvent). HasPort ports (deed_of x)) is there)
    (subst (λ (x : WovenEvent). IsLettered wires ports (deed_of x)) is lettered)
    (needs ∙ ap (λ (n : ℕ). Some n) (coded ∙ ap (λ (n : ℕ). code_of wires (get_or ports (n - 1) 0) now) same-circuit ∙ ap (code_of wires (get_or ports (circuit - 1) 0)) same-octets))
    (sends ∙ ap (λ (n : ℕ). map (code_of wires (get_or ports (n - 1) 0)) (sends_of answer)) same-circuit)
    links router are)
