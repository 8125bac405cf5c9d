-- How many entries a store has after a call.
use Rattle.std.proofs.Common.{◌≡◌, ℕ, ◌+◌, ◌<◌, ◌≤◌, ◌⊎◌, inl, inr, List, length, Option, Some, None, is_some, IsSome, if◌then◌else◌, sym, ap, subst, arith}
use Rattle.isis_base.specs.declared.identifiers.LspId.{LspId}
use Rattle.isis_base.specs.Identifiers.{lsp_number}
use Rattle.lsp_store.specs.Maps.{find, put, erase, change_at, change_all, RisesFrom}
use Rattle.lsp_store.proofs.MapLemmas.{length-put, length-erase, choose}
use Rattle.lsp_store.proofs.ChangeLemmas.{length-change_at, length-change_all}

most-some : {T : Type 0} (o : Option T) (n : ℕ) → IsSome o → n ≤ 65536 → (if is_some o then n else n + 1) ≤ 65536
most-some (Some v) n some le = le
most-some None n some le = grind (arith, some)

pub most-put : {T : Type 0} (m read : List (LspId × T)) (id : LspId) (v : T) → m ≡ read → RisesFrom 0 read → length m ≤ 65536 → (length read < 65536) ⊎ IsSome (find read (lsp_number id)) → length (put m id v) ≤ 65536
most-put {T} m read id v e r le room =
    let up = subst (RisesFrom {T = T} 0) (sym e) r in
    let len = length-put m 0 id v up in
    subst (λ (k : ℕ). k ≤ 65536) (sym len) (elim room [
      | inl lt ↦ choose (λ t. (if t then length m else length m + 1) ≤ 65536) (is_some (find m (lsp_number id))) le (let same = ap length e in omega (arith, same, lt))
      | inr some ↦ most-some (find m (lsp_number id)) (length m) (subst (λ (xs : List (LspId × T)). IsSome (find xs (lsp_number id))) (sym e) some) le
    ])

pub most-erase : {T : Type 0} (m : List (LspId × T)) (n : ℕ) → length m ≤ 65536 → length (erase m n) ≤ 65536
most-erase m n le =
    let len = length-erase m n in
    let part : length (erase m n) ≤ length (erase m n) + (if is_some (find m n) then 1 else 0) = omega arith in
    omega (arith, len, part, le)

pub most-change : {T : Type 0} (f : T → T) (m : List (LspId × T)) (n : ℕ) → length m ≤ 65536 → length (change_at f m n) ≤ 65536
most-change f m n le = let len = length-change_at f n m in omega (arith, len, le)

pub most-all : {T : Type 0} (f : T → T) (m : List (LspId × T)) → length m ≤ 65536 → length (change_all f m) ≤ 65536
most-all f m le = let len = length-change_all f m in omega (arith, len, le)
