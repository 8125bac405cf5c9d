-- Keys of a number and a mark.
use Rattle.std.proofs.Common.{◌≡◌, ◌∙◌, ℕ, zero, suc, ◌<◌, ◌^◌, Bool, cond, Some, None, refl, ap, arith}
use Rattle.std.proofs.Math.Nat.{zero-lt-suc}
use Rattle.std.proofs.lemmas.Bool.{lt-ltb}
use Rattle.isis_base.specs.declared.key.Key.{Key}
use Rattle.isis_base.proofs.KeyLemmas.{key-same}
use Rattle.lab_script.specs.Fields.{key_from}

made : (n : ℕ) (number : ℕ) (purged : Bool) (h : 0 < number) → n ≡ number → number < 2 ^ 32 → key_from n purged ≡ Some (record { number = number; purged = purged; numbered = h })
made zero number purged h e lt = absurd (omega arith)
made (suc n) number purged h e lt =
    let one : Key = record { number = suc n; purged = purged; numbered = zero-lt-suc n } in
    let other : Key = record { number = number; purged = purged; numbered = h } in
    ap (λ (t : Bool). cond t (Some one) None) (lt-ltb (suc n) (2 ^ 32) (omega arith)) ∙ ap Some (key-same one other e refl)

-- a key of this number and mark is the one that they make
pub key_from-known : (n : ℕ) (key : Key) → n ≡ key.number → key.number < 2 ^ 32 → key_from n key.purged ≡ Some key
key_from-known n key e lt = made n key.number key.purged key.numbered e lt
