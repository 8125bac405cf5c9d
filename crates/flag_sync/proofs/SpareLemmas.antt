-- How much room calls use up.
use Rattle.std.proofs.Common.{◌≡◌, Bool, true, false, if◌then◌else◌, ℕ, ◌+◌, ◌-◌, ◌≤◌, length, is_some, ap, ◌∙◌, arith}
use Rattle.isis_base.specs.declared.identifiers.LspId.{LspId}
use Rattle.isis_base.specs.Identifiers.{lsp_number}
use Rattle.lsp_store.specs.declared.entry.Entry.{Entry}
use Rattle.lsp_store.specs.Maps.{find, RisesFrom}
use Rattle.lsp_store.specs.Databases.{Database, with_entry, with_change}
use Rattle.lsp_store.proofs.MapLemmas.{length-put}
use Rattle.lsp_store.proofs.ChangeLemmas.{length-change_at}
use Rattle.flag_sync.specs.BookStates.{BookState, KeepsRoom}

pub room-same : (old new : BookState) → new.store ≡ old.store → KeepsRoom old new
room-same old new e =
    let spare = ap (λ (d : Database). d.spare) e in
    let held = ap (λ (d : Database). length d.entries) e in
    record { spare = omega (arith, spare); held = omega (arith, held); made = omega (arith, spare, held) }

pub room-change : (f : Entry → Entry) (n : ℕ) (old new : BookState) → new.store ≡ with_change old.store n f → KeepsRoom old new
room-change f n old new e =
    let spare = ap (λ (d : Database). d.spare) e in
    let held = ap (λ (d : Database). length d.entries) e ∙ length-change_at f n old.store.entries in
    record { spare = omega (arith, spare); held = omega (arith, held); made = omega (arith, spare, held) }

pub room-put : (id : LspId) (entry : Entry) (old new : BookState) → RisesFrom 0 old.store.entries → new.store ≡ with_entry old.store id entry → KeepsRoom old new
room-put id entry old new up e =
    let spare = ap (λ (d : Database). d.spare) e in
    let held = ap (λ (d : Database). length d.entries) e ∙ length-put old.store.entries 0 id entry up in
    record { spare = rw spare (less (is_some (find old.store.entries (lsp_number id)))); held = rw held (more (is_some (find old.store.entries (lsp_number id)))); made = rw (spare, held) (both (is_some (find old.store.entries (lsp_number id)))) }
  where
    less : (t : Bool) → old.store.spare ≤ (if t then old.store.spare else old.store.spare - 1) + 1
    less true = omega arith
    less false = omega arith

    both : (t : Bool) → old.store.spare + length old.store.entries ≤ (if t then old.store.spare else old.store.spare - 1) + (if t then length old.store.entries else length old.store.entries + 1)
    both true = omega arith
    both false = omega arith

    more : (t : Bool) → length old.store.entries ≤ (if t then length old.store.entries else length old.store.entries + 1)
    more true = omega arith
    more false = omega arith
