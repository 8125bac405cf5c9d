use Rattle.std.proofs.Common.{◌≡◌, ◌∙◌, ℕ, ◌+◌, ◌-◌, List, ◌++◌, length, ap, arith, length-append}
use Rattle.isis_base.specs.Fields.{u16_octets}
use Rattle.hmac_auth.specs.Pdus.{with_piece}
use Rattle.hmac_auth.proofs.SignLemmas.{piece-later}
use Rattle.router_sending.proofs.held.put_live.Goals as goal

pub returns-clause-ok : goal.returns-clause-ok
returns-clause-ok c =
    let old : List ℕ = c.args.out.now in
    let octets : List ℕ = c.args.entry.now.octets in
    let same : c.as_slice.result.now ≡ octets = c.as_slice.ensures in
    let new : c.extend.new.self ≡ old ++ octets = c.in_ok-extend.ensures.ok ∙ ap (λ (xs : List ℕ). old ++ xs) same in
    let all : length c.extend.new.self ≡ length old + length octets = ap length new ∙ length-append old octets in
    let whole = c.len.ensures in
    let part = c.len-2.ensures in
    let place : c.len.result - c.len-2.result + 10 ≡ length old + 10 = omega (arith, all, whole, part) in
    let word : c.to_be_bytes.result ≡ u16_octets c.args.entry.now.left = c.to_be_bytes.ensures in
    c.write_at.ensures
    ∙ (λ i. with_piece (place i) (word i) (new i))
    ∙ piece-later (u16_octets c.args.entry.now.left) old octets (length old + 10) 10 (omega arith)
