use Rattle.std.proofs.Common.{◌≡◌, ℕ, List, ◌+◌, ◌-◌, take, drop, ap, ◌∙◌, arith}
use Rattle.isis_base.specs.Fields.{u32_at}
use Rattle.isis_tlv.specs.Items.{clear_past, octets_for, subs_at}
use Rattle.isis_tlv.proofs.PrefixLemmas.{prefix_at-long, prefix_at-short, prefix_at-item}
use Rattle.isis_tlv.proofs.prefix.PrefixItemItem.read_first.Goals as goal

-- the size that the code counts
counted : (octets : List ℕ) (control bits count subs : ℕ) → count ≡ octets_for bits → subs ≡ subs_at control (5 + count) octets → 5 + count + subs ≡ 5 + octets_for bits + subs_at control (5 + octets_for bits) octets
counted octets control bits count subs e k = ap (λ (n : ℕ). 5 + count + n) k ∙ ap (λ (n : ℕ). 5 + n + subs_at control (5 + n) octets) e

-- the octets that hold the address
held : (octets : List ℕ) (bits count : ℕ) → count ≡ octets_for bits → clear_past bits (u32_at 0 (take (5 + count - 5) (drop 5 octets))) ≡ clear_past bits (u32_at 0 (take (octets_for bits) (drop 5 octets)))
held octets bits count e = ap (λ (n : ℕ). clear_past bits (u32_at 0 (take n (drop 5 octets)))) (let all : 5 + count - 5 ≡ count = omega arith in all ∙ e)

pub returns-then-bits-gt32-clause-first : goal.returns-then-bits-gt32-clause-first
returns-then-bits-gt32-clause-first c =
    prefix_at-long c.args.octets.now c.in-Some.control.now c.length_of-bits.result (c.in-Some.ensures.lookup.3.1 0) c.length_of-bits.ensures c.if-bits-gt32.true

pub returns-then-size-octets-clause-first : goal.returns-then-size-octets-clause-first
returns-then-size-octets-clause-first c =
    let octets = c.args.octets.now in
    let bits = c.length_of-bits.result in
    let size = counted octets c.in-Some.control.now bits c.octets_for-end.result c.subs_at.result c.octets_for-end.ensures c.subs_at.ensures in
    prefix_at-short octets c.in-Some.control.now bits _ (c.in-Some.ensures.lookup.3.1 0) c.length_of-bits.ensures size c.if-size-octets.true

pub returns-clause-first : goal.returns-clause-first
returns-clause-first c =
    let octets = c.args.octets.now in
    let bits = c.length_of-bits.result in
    let size = counted octets c.in-Some.control.now bits c.octets_for-end.result c.subs_at.result c.octets_for-end.ensures c.subs_at.ensures in
    prefix_at-item octets c.in-Some.control.now bits _ _ (c.in-Some.ensures.lookup.3.1 0) c.length_of-bits.ensures size c.if-size-octets.false
    (c.prefix_of.ensures.address ∙ held octets bits c.octets_for-end.result c.octets_for-end.ensures) c.prefix_of.ensures.length c.u32_at.ensures c.is_down.ensures
