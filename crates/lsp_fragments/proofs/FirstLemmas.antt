-- Addresses in two TLVs.
use Rattle.std.proofs.Common.{◌≡◌, ℕ, List, ◌++◌, length, take, drop, min, refl}
use Rattle.std.proofs.lemmas.List.{take_min, drop_min}
use Rattle.model_router.specs.Wanted.{some_addresses}
use Rattle.lsp_fragments.specs.Entries.{address_tlvs}

parts : (n : ℕ) (xs : List ℕ) (at : ℕ) → at ≡ min n (length xs) → some_addresses (take at xs) ++ some_addresses (drop at xs) ≡ some_addresses (take n xs) ++ some_addresses (drop n xs)
parts n xs at e = rw (e, take_min n xs, drop_min n xs) refl

pub address-parts : (xs : List ℕ) (at : ℕ) → at ≡ min 63 (length xs) → some_addresses (take at xs) ++ some_addresses (drop at xs) ≡ address_tlvs xs
unfolding address_tlvs
address-parts xs at e = parts 63 xs at e
