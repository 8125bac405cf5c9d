use Rattle.std.proofs.Common.{◌≡◌, ◌∙◌, ℕ, ◌+◌, ◌-◌, ◌*◌, List, length, drop, is_some, sym, ap, subst, arith}
use Rattle.std.specs.Prelude.{IfSome}
use Rattle.std.specs.Option.{option_copied}
use Rattle.isis_base.specs.Identifiers.{lsp_number}
use Rattle.isis_pdu.specs.Spelling.{octets_of_pdu}
use Rattle.hmac_auth.specs.Auth.{IsDigestPlace}
use Rattle.hmac_auth.specs.Pdus.{with_piece}
use Rattle.isis_base.specs.Fields.{u32_octets}
use Rattle.model_datagram.specs.CheckOctets.{checksum_with, with_checksum}
use Rattle.model_datagram.specs.Lsps.{issued_pdu, issued_checksum}
use Rattle.router_sending.specs.Drafts.{DraftView, with_digest}
use Rattle.router_sending.proofs.IssueLemmas.{number-written, digest-written, signed-size, no-sum, sum-is, octets-are, digest-place, IsCellIssued, cell-issued}
use Rattle.router_sending.proofs.draft.Draft.issue.Goals as goal

pub sign-requires-clause-place : goal.sign-requires-clause-place
sign-requires-clause-place c =
    let d = c.self.inside in
    let key = option_copied c.args.key in
    let number = c.args.number in
    let same : is_some key ≡ d.keyed = c.requires.keyed ∙ ap (λ (v : DraftView). v.keyed) (sym c.self.view_is) in
    let word : c.to_be_bytes.result ≡ u32_octets number = c.to_be_bytes.ensures in
    let numbered = c.write_at.ensures ∙ ap (λ (piece : List ℕ). with_piece 20 piece d.octets) word ∙ number-written d.level d.id d.flags d.keyed d.tlvs d.octets c.self.invariant key same number in
    subst (λ (octets : List ℕ). IfSome key (λ _. IsDigestPlace octets 30)) (sym numbered) (digest-place d.level d.id d.flags d.keyed d.tlvs d.octets c.self.invariant key number)

pub sum-checksum-requires-clause-header : goal.sum-checksum-requires-clause-header
sum-checksum-requires-clause-header c =
    let d = c.self.inside in
    let key = option_copied c.args.key in
    let number = c.args.number in
    let same : is_some key ≡ d.keyed = c.requires.keyed ∙ ap (λ (v : DraftView). v.keyed) (sym c.self.view_is) in
    let word : c.to_be_bytes.result ≡ u32_octets number = c.to_be_bytes.ensures in
    let numbered = c.write_at.ensures ∙ ap (λ (piece : List ℕ). with_piece 20 piece d.octets) word ∙ number-written d.level d.id d.flags d.keyed d.tlvs d.octets c.self.invariant key same number in
    let signed = c.sign.ensures ∙ ap (with_digest key) numbered ∙ digest-written d.level d.id d.flags d.keyed d.tlvs d.octets c.self.invariant key same number in
    let size = ap length signed ∙ signed-size d.level d.id d.flags d.keyed d.tlvs d.octets c.self.invariant key same number in
    let short = c.self.invariant.short in
    omega (arith, size)

pub sum-checksum-requires-clause-short : goal.sum-checksum-requires-clause-short
sum-checksum-requires-clause-short c =
    let d = c.self.inside in
    let key = option_copied c.args.key in
    let number = c.args.number in
    let same : is_some key ≡ d.keyed = c.requires.keyed ∙ ap (λ (v : DraftView). v.keyed) (sym c.self.view_is) in
    let word : c.to_be_bytes.result ≡ u32_octets number = c.to_be_bytes.ensures in
    let numbered = c.write_at.ensures ∙ ap (λ (piece : List ℕ). with_piece 20 piece d.octets) word ∙ number-written d.level d.id d.flags d.keyed d.tlvs d.octets c.self.invariant key same number in
    let signed = c.sign.ensures ∙ ap (with_digest key) numbered ∙ digest-written d.level d.id d.flags d.keyed d.tlvs d.octets c.self.invariant key same number in
    let size = ap length signed ∙ signed-size d.level d.id d.flags d.keyed d.tlvs d.octets c.self.invariant key same number in
    let short = c.self.invariant.short in
    omega (arith, size, short)

pub sum-checksum-requires-clause-blank : goal.sum-checksum-requires-clause-blank
sum-checksum-requires-clause-blank c =
    let d = c.self.inside in
    let key = option_copied c.args.key in
    let number = c.args.number in
    let same : is_some key ≡ d.keyed = c.requires.keyed ∙ ap (λ (v : DraftView). v.keyed) (sym c.self.view_is) in
    let word : c.to_be_bytes.result ≡ u32_octets number = c.to_be_bytes.ensures in
    let numbered = c.write_at.ensures ∙ ap (λ (piece : List ℕ). with_piece 20 piece d.octets) word ∙ number-written d.level d.id d.flags d.keyed d.tlvs d.octets c.self.invariant key same number in
    let signed = c.sign.ensures ∙ ap (with_digest key) numbered ∙ digest-written d.level d.id d.flags d.keyed d.tlvs d.octets c.self.invariant key same number in
    let size = ap length signed ∙ signed-size d.level d.id d.flags d.keyed d.tlvs d.octets c.self.invariant key same number in
    let short = c.self.invariant.short in
    subst (λ (octets : List ℕ). with_checksum 24 0 octets ≡ octets) (sym signed) (no-sum d.level d.id d.flags d.keyed d.tlvs d.octets c.self.invariant key same number)

pub returns-clause-checksum : goal.returns-clause-checksum
returns-clause-checksum c =
    let d = c.self.inside in
    let key = option_copied c.args.key in
    let number = c.args.number in
    let same : is_some key ≡ d.keyed = c.requires.keyed ∙ ap (λ (v : DraftView). v.keyed) (sym c.self.view_is) in
    let word : c.to_be_bytes.result ≡ u32_octets number = c.to_be_bytes.ensures in
    let numbered = c.write_at.ensures ∙ ap (λ (piece : List ℕ). with_piece 20 piece d.octets) word ∙ number-written d.level d.id d.flags d.keyed d.tlvs d.octets c.self.invariant key same number in
    let signed = c.sign.ensures ∙ ap (with_digest key) numbered ∙ digest-written d.level d.id d.flags d.keyed d.tlvs d.octets c.self.invariant key same number in
    let size = ap length signed ∙ signed-size d.level d.id d.flags d.keyed d.tlvs d.octets c.self.invariant key same number in
    let short = c.self.invariant.short in
    let sum =
    c.sum-checksum.ensures.sum
    ∙ ap (λ (octets : List ℕ). checksum_with (drop 12 octets) (length octets - 25)) signed
    ∙ sum-is d.level d.id d.flags d.keyed d.tlvs d.octets c.self.invariant key same number c.lsp_id_law.ensures in
    let octets =
    c.sum-checksum.ensures.octets
    ∙ ap (with_checksum 24 c.sum-checksum.result) signed
    ∙ octets-are d.level d.id d.flags d.keyed d.tlvs d.octets c.self.invariant key same number c.lsp_id_law.ensures c.sum-checksum.result sum in
    subst (λ (v : DraftView). c.sum-checksum.result ≡ issued_checksum key v.level (lsp_number v.id) number v.contents) c.self.view_is sum

pub returns-clause-octets : goal.returns-clause-octets
returns-clause-octets c =
    let d = c.self.inside in
    let key = option_copied c.args.key in
    let number = c.args.number in
    let same : is_some key ≡ d.keyed = c.requires.keyed ∙ ap (λ (v : DraftView). v.keyed) (sym c.self.view_is) in
    let word : c.to_be_bytes.result ≡ u32_octets number = c.to_be_bytes.ensures in
    let numbered = c.write_at.ensures ∙ ap (λ (piece : List ℕ). with_piece 20 piece d.octets) word ∙ number-written d.level d.id d.flags d.keyed d.tlvs d.octets c.self.invariant key same number in
    let signed = c.sign.ensures ∙ ap (with_digest key) numbered ∙ digest-written d.level d.id d.flags d.keyed d.tlvs d.octets c.self.invariant key same number in
    let size = ap length signed ∙ signed-size d.level d.id d.flags d.keyed d.tlvs d.octets c.self.invariant key same number in
    let short = c.self.invariant.short in
    let sum =
    c.sum-checksum.ensures.sum
    ∙ ap (λ (octets : List ℕ). checksum_with (drop 12 octets) (length octets - 25)) signed
    ∙ sum-is d.level d.id d.flags d.keyed d.tlvs d.octets c.self.invariant key same number c.lsp_id_law.ensures in
    let octets =
    c.sum-checksum.ensures.octets
    ∙ ap (with_checksum 24 c.sum-checksum.result) signed
    ∙ octets-are d.level d.id d.flags d.keyed d.tlvs d.octets c.self.invariant key same number c.lsp_id_law.ensures c.sum-checksum.result sum in
    subst (λ (v : DraftView). c.sum-checksum.new.octets ≡ octets_of_pdu (issued_pdu key v.level (lsp_number v.id) number v.contents)) c.self.view_is octets

pub returns-clause-cell : goal.returns-clause-cell
returns-clause-cell c =
    let d = c.self.inside in
    let key = option_copied c.args.key in
    let number = c.args.number in
    let same : is_some key ≡ d.keyed = c.requires.keyed ∙ ap (λ (v : DraftView). v.keyed) (sym c.self.view_is) in
    let word : c.to_be_bytes.result ≡ u32_octets number = c.to_be_bytes.ensures in
    let numbered = c.write_at.ensures ∙ ap (λ (piece : List ℕ). with_piece 20 piece d.octets) word ∙ number-written d.level d.id d.flags d.keyed d.tlvs d.octets c.self.invariant key same number in
    let signed = c.sign.ensures ∙ ap (with_digest key) numbered ∙ digest-written d.level d.id d.flags d.keyed d.tlvs d.octets c.self.invariant key same number in
    let size = ap length signed ∙ signed-size d.level d.id d.flags d.keyed d.tlvs d.octets c.self.invariant key same number in
    let short = c.self.invariant.short in
    let sum =
    c.sum-checksum.ensures.sum
    ∙ ap (λ (octets : List ℕ). checksum_with (drop 12 octets) (length octets - 25)) signed
    ∙ sum-is d.level d.id d.flags d.keyed d.tlvs d.octets c.self.invariant key same number c.lsp_id_law.ensures in
    let octets =
    c.sum-checksum.ensures.octets
    ∙ ap (with_checksum 24 c.sum-checksum.result) signed
    ∙ octets-are d.level d.id d.flags d.keyed d.tlvs d.octets c.self.invariant key same number c.lsp_id_law.ensures c.sum-checksum.result sum in
    let view : DraftView = record { level = d.level; id = d.id; contents = record { flags = d.flags; tlvs = d.tlvs }; keyed = d.keyed } in
    subst (λ (v : DraftView). IsCellIssued key number v (2 * number + 0) c.sum-checksum.result d.flags c.sum-checksum.new.octets) c.self.view_is
    (cell-issued key number view (2 * number + 0) c.sum-checksum.result c.sum-checksum.new.octets (omega arith) sum octets)

pub returns-clause-long : goal.returns-clause-long
returns-clause-long c =
    let d = c.self.inside in
    let key = option_copied c.args.key in
    let number = c.args.number in
    let same : is_some key ≡ d.keyed = c.requires.keyed ∙ ap (λ (v : DraftView). v.keyed) (sym c.self.view_is) in
    let word : c.to_be_bytes.result ≡ u32_octets number = c.to_be_bytes.ensures in
    let numbered = c.write_at.ensures ∙ ap (λ (piece : List ℕ). with_piece 20 piece d.octets) word ∙ number-written d.level d.id d.flags d.keyed d.tlvs d.octets c.self.invariant key same number in
    let signed = c.sign.ensures ∙ ap (with_digest key) numbered ∙ digest-written d.level d.id d.flags d.keyed d.tlvs d.octets c.self.invariant key same number in
    let size = ap length signed ∙ signed-size d.level d.id d.flags d.keyed d.tlvs d.octets c.self.invariant key same number in
    let short = c.self.invariant.short in
    let sum =
    c.sum-checksum.ensures.sum
    ∙ ap (λ (octets : List ℕ). checksum_with (drop 12 octets) (length octets - 25)) signed
    ∙ sum-is d.level d.id d.flags d.keyed d.tlvs d.octets c.self.invariant key same number c.lsp_id_law.ensures in
    let octets =
    c.sum-checksum.ensures.octets
    ∙ ap (with_checksum 24 c.sum-checksum.result) signed
    ∙ octets-are d.level d.id d.flags d.keyed d.tlvs d.octets c.self.invariant key same number c.lsp_id_law.ensures c.sum-checksum.result sum in
    let all = ap length octets in omega (arith, all)
