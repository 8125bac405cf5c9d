use Rattle.std.proofs.Common.{rules, ◌≡◌, ◌∙◌, List, ◌∷◌, ◌++◌, [], append_assoc, append-nil, sym, ap, subst, arith}
use Rattle.std.proofs.lemmas.List.{nil_from_length}
use Rattle.std.proofs.lemmas.List.Elements.{Contains-append_right}
use Rattle.spf_tree.proofs.SearchLemmas.{contains_first}
use Rattle.route_table.specs.declared.patch.Patch.{Patch}
use Rattle.route_table.specs.Ranks.{prefix_number}
use Rattle.route_table.specs.Patches.{AreInTurn, IsPatched, coming}
use Rattle.route_table.proofs.PatchLemmas.{put_more, put_none, own-some}
use Rattle.route_table.proofs.RoomLemmas.{apart-behind, coming-cons, coming-put}
use Rattle.route_table.proofs.putting.put_all.Goals as goal

pub loop-patch-init : goal.loop-patch-init
loop-patch-init c = record {
  patched = put_none c.args.routes.now.items c.requires.rising;
  few = search rules;
  room = omega arith;
  all = search rules;
}

pub put_in-requires-clause-own : goal.put_in-requires-clause-own
put_in-requires-clause-own c =
    let ys = c.loop-patch.yielded in let patch = c.in-Some.patch in let rest = c.next.new.self.rest.items in
    let all : c.args.list.items ≡ ys ++ patch ∷ rest = c.loop-patch.invariant.all ∙ ap (λ (z : List Patch). ys ++ z) c.in-Some.ensures.steps.0 in
    let turns : AreInTurn (ys ++ patch ∷ rest) = subst AreInTurn all c.requires.turn in
    own-some patch.route _ (λ r h. turns.own patch r (Contains-append_right ys (patch ∷ rest) patch (contains_first patch rest)) h)

pub put_in-requires-clause-room : goal.put_in-requires-clause-room
put_in-requires-clause-room c =
    let now = c.loop-patch.routes.items in let patch = c.in-Some.patch in let rest = c.next.new.self.rest.items in
    let left = ap (λ (z : List Patch). coming now z) c.in-Some.ensures.steps.0 ∙ coming-cons now patch rest in
    omega (arith, left, c.loop-patch.invariant.few, c.loop-patch.invariant.room, c.requires.room)

pub loop-patch-preserved : goal.loop-patch-preserved
loop-patch-preserved c =
    let ys = c.loop-patch.yielded in let patch = c.in-Some.patch in let rest = c.next.new.self.rest.items in
    let now = c.loop-patch.routes.items in let next = c.put_in.new.routes.items in
    let e : c.loop-patch.patch-iterator.rest.items ≡ patch ∷ rest = c.in-Some.ensures.steps.0 in
    let all : c.args.list.items ≡ ys ++ patch ∷ rest = c.loop-patch.invariant.all ∙ ap (λ (z : List Patch). ys ++ z) e in
    let turns : AreInTurn (ys ++ patch ∷ rest) = subst AreInTurn all c.requires.turn in
    let left = ap (λ (z : List Patch). coming now z) e ∙ coming-cons now patch rest in
    let same : coming now rest ≡ coming next rest = coming-put now next (prefix_number patch.prefix) patch.route rest c.put_in.ensures.put
    (λ r h. turns.own patch r (Contains-append_right ys (patch ∷ rest) patch (contains_first patch rest)) h) (apart-behind ys rest patch turns) in
    record {
      patched = put_more c.args.routes.now.items now next ys rest patch turns c.loop-patch.invariant.patched c.put_in.ensures.put;
      few = omega (arith, left, same, c.loop-patch.invariant.few, c.put_in.ensures.few);
      room = omega (arith, c.loop-patch.invariant.room, c.put_in.ensures.room);
      all = all ∙ sym (append_assoc ys (patch ∷ []) rest);
    }

pub returns-clause-patched : goal.returns-clause-patched
returns-clause-patched c =
    let ended : c.loop-patch.patch-iterator.rest.len ≡ 0 = c.in-None.ensures.steps.0 in
    let none : c.loop-patch.patch-iterator.rest.items ≡ [] = nil_from_length c.loop-patch.patch-iterator.rest.items (omega (arith, ended, c.loop-patch.patch-iterator.rest.ok.0)) in
    let all : c.args.list.items ≡ c.loop-patch.yielded = c.loop-patch.invariant.all ∙ ap (λ (z : List Patch). c.loop-patch.yielded ++ z) none ∙ append-nil c.loop-patch.yielded in
    subst (λ (z : List Patch). IsPatched c.args.routes.now.items z c.loop-patch.routes.items) (sym all) c.loop-patch.invariant.patched
