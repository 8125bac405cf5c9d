use Rattle.std.proofs.Common.{◌≡◌, ◌<◌, ◌-◌, true, refl, ℕ, length, set, sym, ap, ◌∙◌, subst, arith}
use Rattle.std.proofs.lemmas.List.{length-set}
use Rattle.std.proofs.lemmas.Option.{slice_get_read}
use Rattle.lab_keys.specs.KeysNet.{Net, has_pair}
use Rattle.lab_keys.proofs.NetLemmas.{AreHeld-room, AreHeld-pass}
use Rattle.lab_keys.proofs.net.KeyNet.pass.Goals as goal

pub invariant_of-self : goal.invariant_of-self
invariant_of-self c =
    let routers = ap (λ (n : Net). n.routers) c.self.view_is in
    AreHeld-room _ _ _ _ _ _ _ c.self.invariant (omega (arith, c.requires.1)) c.index_mut.ensures.value c.make_room.ensures.same

pub overflow_sub-copy : goal.overflow_sub-copy
overflow_sub-copy c =
    let made = c.self.invariant.numbered c.args.copy c.args.from (sym c.has-2.ensures ∙ c.if-not-has-2.false) in
    omega (arith, made.0)

pub index-requires : goal.index-requires
index-requires c =
    let made = c.self.invariant.numbered c.args.copy c.args.from (sym c.has-2.ensures ∙ c.if-not-has-2.false) in
    omega (arith, made.0, made.1)

pub invariant_of-self-in_err-insert : goal.invariant_of-self-in_err-insert
invariant_of-self-in_err-insert c =
    let routers = ap (λ (n : Net). n.routers) c.self.view_is in
    rw c.in_err-insert.ensures.err
    (AreHeld-room _ _ _ _ _ _ _ c.self.invariant (omega (arith, c.requires.1)) c.index_mut.ensures.value c.make_room.ensures.same)

pub invariant_of-self-2 : goal.invariant_of-self-2
invariant_of-self-2 c =
    let routers = ap (λ (n : Net). n.routers) c.self.view_is in
    let roomy = AreHeld-room _ _ _ _ _ c.make_room.new.held _ c.self.invariant (omega (arith, c.requires.1)) c.index_mut.ensures.value c.make_room.ensures.same in
    let made = c.self.invariant.numbered c.args.copy c.args.from (sym c.has-2.ensures ∙ c.if-not-has-2.false) in
    let copy = slice_get_read c.self.inside.copies.items _ (c.args.copy - 1) c.index.result.now refl (omega (arith, made.0, made.1)) c.index.ensures in
    let inside : c.args.to < length (set c.self.inside.held.items c.args.to c.make_room.new.held) = omega (arith, c.requires.1, length-set c.self.inside.held.items c.args.to c.make_room.new.held) in
    rw c.in_ok-insert.ensures.keys
    (AreHeld-pass _ _ _ _ _ _ c.join_in.new.held _ _ roomy inside made.0 copy c.index_mut-2.ensures.value c.join_in.ensures)

pub returns-clause-refused : goal.returns-clause-refused
returns-clause-refused c _ =
    rw (← c.self.view_is) (
      subst (λ (p : ℕ × ℕ). has_pair c.self.inside.linked.keys p.0 p.1 ≡ true) c.ordered.ensures (sym c.has.ensures ∙ c.if-not-has.false),
      sym c.has-2.ensures ∙ c.if-not-has-2.false,
    )
