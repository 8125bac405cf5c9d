use Rattle.std.proofs.Common.{◌≡◌}
use Rattle.std.specs.Prelude.{find, ◌==◌}
use Rattle.std.specs.Result.{ok_prefix}
use Rattle.hmac_auth.specs.Auth.{auth_tlv}
use Rattle.tests_codec.proofs.auth.auth_tlv.Given as goal

-- the TLV is the first of the code among those that are left
abbrev pub invariant-loop-tlv : goal.invariant-loop-tlv
invariant-loop-tlv l = find (λ tlv. tlv.code == 10) (ok_prefix l.tlv-iterator) ≡ auth_tlv l.pdu l.header
