-- What is printed of faults (own).
use Rattle.std.specs.Prelude.{ℕ, List, codes}
use Rattle.hmac_auth.specs.declared.fault.AuthFault.{AuthFault}
use Rattle.hmac_auth.specs.declared.fault.AuthFault.TheVariants.{Missing, OtherType, PurgeBody, Wrong}

-- why a PDU isn't authentic, in words (own)
abbrev pub auth_fault_text : AuthFault → List ℕ
auth_fault_text Missing = codes "the PDU has no authentication"
auth_fault_text OtherType = codes "the authentication isn't HMAC-MD5"
auth_fault_text PurgeBody = codes "a purge has more than its authentication"
auth_fault_text Wrong = codes "the digest isn't that of the PDU under the key"
