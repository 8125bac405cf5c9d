use Rattle.std.proofs.Common.{List, ℕ, ◌*◌, ◌+◌, ◌++◌, [], ◌∷◌, map, length, reverse, refl, sym, ap, ◌∙◌, arith, append-nil, length-append}
use Rattle.std.proofs.lemmas.List.{reverse-append, reverse-reverse}
use Rattle.model_router.specs.Routers.{Contents}
use Rattle.model_router.specs.Numbers.{node_number}
use Rattle.router_wanted.specs.declared.wanted.Wanted.{Wanted}
use Rattle.router_wanted.specs.Parts.{counted}
use Rattle.router_wanted.specs.Views.{wanted_of}
use Rattle.router_wanted.proofs.PartLemmas.{counted-next, counted-all, counted-none}
use Rattle.router_wanted.proofs.numbering.add.Goals as goal

pub loop-tlvs-preserved : goal.loop-tlvs-preserved
loop-tlvs-preserved c =
    let id = 256 * node_number c.args.node in
    let loop = c.loop-tlvs in
    let rest = c.pop.new.self.items in
    let items = c.in-Some.ensures.items in
    let popped = ap (λ (m : List (List ℕ)). reverse m) items ∙ reverse-append rest (c.in-Some.tlvs ∷ []) in
    let inv = loop.invariant in
    let same = ap (λ (m : List (List ℕ)). length m) items in
    let count = length-append rest (c.in-Some.tlvs ∷ []) in
    let few = inv.1 in (
      ap (λ (ws : List Wanted). map wanted_of ws ++ counted c.args.first c.args.flags id (loop.number + 1) (reverse rest)) c.in-Ok.ensures.items
          ∙ counted-next loop.list.items _ c.args.first c.args.flags id loop.number c.in-Some.tlvs (reverse rest) c.id_of.ensures c.flags_of.ensures refl
          ∙ ap (λ (m : List (List ℕ)). map wanted_of loop.list.items ++ counted c.args.first c.args.flags id loop.number m) (sym popped)
          ∙ inv.0,
      omega (arith, same, count, few),
    )

pub returns : goal.returns
returns c =
    let id = 256 * node_number c.args.node in
    let loop = c.loop-tlvs in
    let inv = loop.invariant in
    let none = counted-none c.args.first c.args.flags id loop.number loop.parts.items (sym loop.parts.ok.0 ∙ c.in_default.ensures.cases.0) in
    let all = ap (λ (m : List (List ℕ)). reverse m) c.reverse.ensures.items ∙ reverse-reverse c.args.parts.items in
    sym (append-nil (map wanted_of loop.list.items))
    ∙ ap (λ (m : List (ℕ × Contents)). map wanted_of loop.list.items ++ m) (sym none)
    ∙ inv.0
    ∙ ap (λ (m : List (ℕ × Contents)). map wanted_of c.args.list.now.items ++ m)
    (ap (λ (m : List (List ℕ)). counted c.args.first c.args.flags id 0 m) all ∙ counted-all c.args.first c.args.flags id c.args.parts.items)
