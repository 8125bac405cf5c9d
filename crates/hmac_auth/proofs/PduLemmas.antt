-- Headers of PDUs, and where a digest stands behind them.
use Rattle.std.proofs.Common.{◌≡◌, ℕ, ◌+◌, ◌≤◌, List, Bool, true, false, cond, eqb, ◌||◌, ⊎_elim, ◌⊎◌, inl, inr, Option, Some, None, refl, sym, ap, ◌∙◌, arith}
use Rattle.std.proofs.lemmas.Bool.{eqb-true, or_cases}
use Rattle.isis_tlv.specs.Framed.{IsPdu}
use Rattle.std.specs.Option.{option_map}
use Rattle.isis_base.specs.declared.pdu_kind.PduKind.{PduKind}
use Rattle.isis_base.specs.declared.pdu_kind.PduKind.TheVariants as kind
use Rattle.isis_base.specs.PduKinds.{header_length, kind_of_number}
use Rattle.hmac_auth.specs.Pdus.{pdu_type, is_lsp}

least-of : (found : Option PduKind) (header : ℕ) → option_map header_length found ≡ Some header → 17 ≤ header
least-of None header is = cc
least-of (Some (kind.LanHello level)) header is = let same : 27 ≡ header = cc in omega arith
least-of (Some kind.PointHello) header is = let same : 20 ≡ header = cc in omega arith
least-of (Some (kind.Lsp level)) header is = let same : 27 ≡ header = cc in omega arith
least-of (Some (kind.Csnp level)) header is = let same : 33 ≡ header = cc in omega arith
least-of (Some (kind.Psnp level)) header is = let same : 17 ≡ header = cc in omega arith

-- each header has at least 17 octets
pub header-least : (pdu : List ℕ) (header : ℕ) → IsPdu pdu header → 17 ≤ header
header-least pdu header is = least-of (kind_of_number (pdu_type pdu)) header is.kind

lsp-kind : option_map header_length (kind_of_number 18) ≡ Some 27
unfolding kind_of_number
lsp-kind = refl

other-lsp-kind : option_map header_length (kind_of_number 20) ≡ Some 27
unfolding kind_of_number
other-lsp-kind = refl

header-of_lsp : (number header : ℕ) → (number ≡ 18) ⊎ (number ≡ 20) → option_map header_length (kind_of_number number) ≡ Some header → header ≡ 27
header-of_lsp number header either is =
    let of : ℕ → Option ℕ = λ n. option_map header_length (kind_of_number n) in
    let twenty_seven : of number ≡ Some 27 = ⊎_elim (λ e. ap of e ∙ lsp-kind) (λ e. ap of e ∙ other-lsp-kind) either in
    let same : ◌≡◌ {A = Option ℕ} (Some header) (Some 27) = sym is ∙ twenty_seven in
    cc

-- the digest of an LSP stands behind its checksum
pub lsp-past_header : (pdu : List ℕ) (header place : ℕ) → IsPdu pdu header → header + 3 ≤ place → is_lsp pdu ≡ true → 26 ≤ place
lsp-past_header pdu header place is behind lsp =
    let kind = pdu_type pdu in
    let either : (kind ≡ 18) ⊎ (kind ≡ 20) = ⊎_elim (λ e. inl (eqb-true kind 18 e)) (λ e. inr (eqb-true kind 20 e)) (or_cases (eqb kind 18) (eqb kind 20) lsp) in
    let same = header-of_lsp kind header either is.kind in
    omega arith
