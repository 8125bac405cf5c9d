use Rattle.std.proofs.Common.{rules, ◌≡◌, ◌∙◌, ◌+◌, ◌-◌, ◌<◌, ◌≤◌, ◌⊎◌, inl, inr, ⊎_elim, ◌∷◌, [], ◌++◌, ℕ, List, length, sym, ap, arith}
use Rattle.std.proofs.lemmas.List.{length-append}
use Rattle.daemon_edge.specs.Kept.{KeptList, parts, has_room, sum_of}
use Rattle.daemon_edge.proofs.KeptLemmas.{no-room, some-room, parts-more, sum-more}
use Rattle.daemon_edge.proofs.kept.Kept.keep.Goals as goal

pub returns-then-not-has_place-clause-fits : goal.returns-then-not-has_place-clause-fits
returns-then-not-has_place-clause-fits c =
    let ns : List ℕ = c.self.inside.lengths.items in
    let xs : List ℕ = c.self.inside.octets.items in
    let e : c.len.result ≡ length ns = search rules in
    let f : c.len-2.result ≡ length xs = search rules in
    rw (← c.self.view_is) (no-room ns xs c.args.datagram.now c.self.inside.room c.self.invariant.0 c.self.invariant.1
    (⊎_elim
    (λ (full : c.self.inside.room ≤ c.len.result). inl (let g : c.self.inside.room ≤ length ns = omega (arith, e, full) in g))
    (λ (less : (c.len.result < c.self.inside.room) × (c.self.inside.room - c.len-2.result < length c.args.datagram.now)). inr (let a : length ns < c.self.inside.room = omega (arith, e, less.0) in let b : c.self.inside.room - length xs < length c.args.datagram.now = omega (arith, f, less.1) in (a, b)))
    c.then-not-has_place.either))

pub invariant_of-self : goal.invariant_of-self
invariant_of-self c =
    let ns : List ℕ = c.self.inside.lengths.items in
    let xs : List ℕ = c.self.inside.octets.items in
    let d : List ℕ = c.args.datagram.now in
    let more : c.extend_from_slice.new.self.items ≡ xs ++ d = search rules in
    let longer : c.push.new.self.items ≡ ns ++ length d ∷ [] = search rules in
    let few : length ns < c.self.inside.room = search rules in
    let left : length d ≤ c.self.inside.room - length xs = search rules in
    let sum : sum_of (ns ++ length d ∷ []) ≡ sum_of ns + length d = sum-more ns (length d) in
    let all : length (xs ++ d) ≡ length xs + length d = length-append xs d in
    let count : length (ns ++ length d ∷ []) ≡ length ns + 1 = length-append ns (length d ∷ []) in
    let inv = c.self.invariant in
    (rw (more, longer) (omega (arith, sum, all, inv.0)), rw more (omega (arith, all, left, inv.1)), rw longer (omega (arith, count, few)), search rules, search rules)

pub returns-clause-fits : goal.returns-clause-fits
returns-clause-fits c =
    let ns : List ℕ = c.self.inside.lengths.items in
    let xs : List ℕ = c.self.inside.octets.items in
    let few : length ns < c.self.inside.room = search rules in
    let left : length c.args.datagram.now ≤ c.self.inside.room - length xs = search rules in
    rw (← c.self.view_is) (some-room ns xs c.args.datagram.now c.self.inside.room c.self.invariant.0 c.self.invariant.1 few left)

pub returns-clause-kept : goal.returns-clause-kept
returns-clause-kept c =
    let ns : List ℕ = c.self.inside.lengths.items in
    let xs : List ℕ = c.self.inside.octets.items in
    let d : List ℕ = c.args.datagram.now in
    let more : c.extend_from_slice.new.self.items ≡ xs ++ d = search rules in
    let longer : c.push.new.self.items ≡ ns ++ length d ∷ [] = search rules in
    rw (← c.self.view_is, more, longer) (ap (λ (z : List (List ℕ)). record { datagrams = z; room = c.self.inside.room }) (parts-more ns xs d c.self.invariant.0))
