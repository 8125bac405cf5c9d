-- LSP IDs of pairs have eight octets, also after an edit.
use Rattle.std.proofs.Common.{ℕ, List, [], ◌∷◌, ◌==◌, nat_lt, if◌then◌else◌}
use Rattle.std.specs.List.{AllByRecursion}
use Rattle.isis_base.specs.declared.identifiers.LspId.{LspId}
use Rattle.isis_base.specs.Identifiers.{IsId, lsp_number}
use Rattle.lsp_store.specs.Maps.{pair_number, put, erase, change_at, change_all}
use Rattle.lsp_store.proofs.MapLemmas.{choose}

-- each pair's LSP ID has eight octets
abbrev pub HaveIds : {T : Type 0} → List (LspId × T) → Type 0
HaveIds {T} pairs = AllByRecursion (λ (pair : LspId × T). IsId pair.0) pairs

pub put-ids : {T : Type 0} (id : LspId) (v : T) (xs : List (LspId × T)) → IsId id → HaveIds xs → HaveIds (put xs id v)
put-ids id v [] is all = (is, tt)
put-ids {T} id v (x ∷ xs) is all =
    choose (λ t. HaveIds (if t then (id, v) ∷ xs else (if nat_lt (lsp_number id) (pair_number x) then (id, v) ∷ x ∷ xs else x ∷ put xs id v))) (pair_number x == lsp_number id)
    (is, all.1)
    (choose (λ t. HaveIds (if t then (id, v) ∷ x ∷ xs else x ∷ put xs id v)) (nat_lt (lsp_number id) (pair_number x)) (is, all) (all.0, put-ids id v xs is all.1))

pub erase-ids : {T : Type 0} (n : ℕ) (xs : List (LspId × T)) → HaveIds xs → HaveIds (erase xs n)
erase-ids n [] all = tt
erase-ids {T} n (x ∷ xs) all =
    choose (λ t. HaveIds (if t then xs else x ∷ erase xs n)) (pair_number x == n) all.1 (all.0, erase-ids n xs all.1)

pub change-ids : {T : Type 0} (f : T → T) (n : ℕ) (xs : List (LspId × T)) → HaveIds xs → HaveIds (change_at f xs n)
change-ids f n [] all = tt
change-ids {T} f n (x ∷ xs) all =
    choose (λ t. HaveIds (if t then (x.0, f x.1) ∷ xs else x ∷ change_at f xs n)) (pair_number x == n) all (all.0, change-ids f n xs all.1)

pub all-ids : {T : Type 0} (f : T → T) (xs : List (LspId × T)) → HaveIds xs → HaveIds (change_all f xs)
all-ids f [] all = tt
all-ids f (x ∷ xs) all = (all.0, all-ids f xs all.1)
