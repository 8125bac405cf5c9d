use Rattle.std.proofs.Common.{◌≡◌, ℕ, ◌<◌, ◌≤◌, eqb, length, false, inl, inr, Result, Ok, Err, None, IsSome, IsOk, IfErr, refl, sym, ap, ◌∙◌, subst, arith}
use Rattle.std.proofs.lemmas.Bool.Decides.{nat_tests}
use Rattle.std.proofs.lemmas.Result.{on_ok_weaker}
use Rattle.isis_base.specs.Identifiers.{lsp_number}
use Rattle.model_router.specs.Books.{cell_at, is_full}
use Rattle.lsp_store.specs.declared.entry.Entry.{Entry}
use Rattle.lsp_store.specs.declared.fault.StoreFault.{StoreFault}
use Rattle.lsp_store.specs.declared.fault.StoreFault.TheVariants.{Full, OutOfMemory}
use Rattle.lsp_store.specs.Maps.{find, RisesFrom}
use Rattle.lsp_store.specs.Databases.{Database, PutCause}
use Rattle.flag_sync.specs.BookStates.{BookState, book_of}
use Rattle.flag_sync.proofs.CellLemmas.{has-header}
use Rattle.flag_sync.proofs.BookLemmas.{held-found, held-some, full-is}
use Rattle.flag_sync.proofs.SpareLemmas.{room-put}
use Rattle.flag_sync.proofs.book.Book.install.Goals as goal

-- where no cause holds, it is put
no-cause : {X : Type 0} (r : Result X (Entry × StoreFault)) (d : Database) (n : ℕ) → IfErr r (λ back. PutCause d n back.1) → ((f : StoreFault) → PutCause d n f → ⊥) → IsOk r
no-cause (Ok x) d n cause none = refl
no-cause (Err back) d n cause none = absurd (none back.1 cause)

held-none : (d : Database) (n : ℕ) → (find d.entries n ≡ None → ⊥) → (f : StoreFault) → PutCause d n f → ⊥
held-none d n none Full h = none h.0
held-none d n none OutOfMemory h = none h.0

room-none : (d : Database) (n : ℕ) → length d.entries < 65536 → 0 < d.spare → (f : StoreFault) → PutCause d n f → ⊥
room-none d n few some Full h = let many = h.1 in absurd (omega (arith, few, many))
room-none d n few some OutOfMemory h = let none = h.2 in absurd (omega (arith, some, none))

pub keep-requires : goal.keep-requires
keep-requires c = record { headed = has-header c.args.entry.key c.args.entry.octets c.requires.octets }

pub returns-clause-held : goal.returns-clause-held
returns-clause-held c some =
    let s : BookState = record {
      store = c.self.inside.store;
      rows = c.self.inside.flags.entries;
      opened = c.self.inside.opened;
      points = c.self.inside.points;
      circuits = c.self.inside.circuits;
    } in
    let i = c.self.invariant in
    let n = lsp_number c.args.id in
    let there = subst (λ (t : BookState). IsSome (cell_at (book_of t) n)) (sym c.self.view_is) some in
    let store : s.store ≡ c.args.self.now.store = ap (λ (t : BookState). t.store) c.self.view_is in
    no-cause c.keep.result c.args.self.now.store n c.keep.ensures.cause (held-none c.args.self.now.store n (λ none. held-found s i.beside i.rises n there (subst (λ (d : Database). find d.entries n ≡ None) (sym store) none)))

pub returns-clause-fits : goal.returns-clause-fits
returns-clause-fits c few room =
    let s : BookState = record {
      store = c.self.inside.store;
      rows = c.self.inside.flags.entries;
      opened = c.self.inside.opened;
      points = c.self.inside.points;
      circuits = c.self.inside.circuits;
    } in
    let i = c.self.invariant in
    let n = lsp_number c.args.id in
    let store : s.store ≡ c.args.self.now.store = ap (λ (t : BookState). t.store) c.self.view_is in
    let not : eqb (length s.store.entries) 65536 ≡ false = sym (full-is s i.beside i.rises) ∙ subst (λ (t : BookState). is_full (book_of t) ≡ false) (sym c.self.view_is) few in
    let most : length s.store.entries ≤ 65536 = (let l = c.len-most.ensures.same in let m = c.len-most.ensures.most in omega (arith, l, m)) in
    let less : length s.store.entries < 65536 = grind (arith, nat_tests, not, most) in
    let fewer : length c.args.self.now.store.entries < 65536 = subst (λ (d : Database). length d.entries < 65536) store less in
    let some : 0 < c.args.self.now.store.spare = elim room [ inl h ↦ h | inr h ↦ absurd (omega (arith, h, fewer)) ] in
    no-cause c.keep.result c.args.self.now.store n c.keep.ensures.cause (room-none c.args.self.now.store n fewer some)

pub returns-clause-room : goal.returns-clause-room
returns-clause-room c =
    let up = subst (λ (t : BookState). RisesFrom 0 t.store.entries) c.self.view_is c.self.invariant.rises in
    on_ok_weaker c.keep.result (λ e. room-put c.args.id _ c.args.self.now c.keep.new.self up e) c.keep.ensures.store

pub returns-clause-held_room : goal.returns-clause-held_room
returns-clause-held_room c some =
    let s : BookState = record {
      store = c.self.inside.store;
      rows = c.self.inside.flags.entries;
      opened = c.self.inside.opened;
      points = c.self.inside.points;
      circuits = c.self.inside.circuits;
    } in
    let i = c.self.invariant in
    let n = lsp_number c.args.id in
    let there = subst (λ (t : BookState). IsSome (find t.store.entries n)) c.self.view_is (held-some s i.beside i.rises n ∙ subst (λ (t : BookState). IsSome (cell_at (book_of t) n)) (sym c.self.view_is) some) in
    on_ok_weaker c.keep.result (λ e. ap (λ (d : Database). d.spare) e ∙ rw there refl) c.keep.ensures.store
