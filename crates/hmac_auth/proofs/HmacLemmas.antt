-- HMAC of a message in pieces.
use Rattle.std.proofs.Common.{◌≡◌, ◌∙◌, ℕ, ◌-◌, ◌≤◌, List, ◌++◌, length, drop, replicate, Bool, cond, ap, sym}
use Rattle.std.proofs.lemmas.Bool.{le-ltb}
use Rattle.std.proofs.lemmas.List.{drop-replicate}
use Rattle.md5.specs.Md5.{md5}
use Rattle.md5.proofs.StandardFacts.{length-md5}
use Rattle.hmac_auth.specs.Hmac.{key_block, hmac}

-- a key of at most 64 octets, written over a block of zeros
pub key_block-short : (key : List ℕ) → length key ≤ 64 → key ++ drop (length key) (replicate 64 0) ≡ key_block key
key_block-short key short =
    ap (λ (zeros : List ℕ). key ++ zeros) (drop-replicate (length key) 64 0)
    ∙ sym (ap (λ (long : Bool). cond long (md5 key) key ++ replicate (64 - length (cond long (md5 key) key)) 0) (le-ltb 64 (length key) short))

-- a digest has sixteen octets
pub length-hmac : (key message : List ℕ) → length (hmac key message) ≡ 16
unfolding hmac
length-hmac key message = length-md5 _
