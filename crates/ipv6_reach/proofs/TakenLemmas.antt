-- A capture holds the newest of what it took.

use Rattle.std.proofs.Common.{◌≡◌, ◌∙◌, ℕ, ◌<◌, ◌==◌, ◌&&◌, if◌then◌else◌, Bool, true, false, not, List, [], ◌∷◌, take, Option, Some, None, Result, Ok, Err, refl, sym, ap, subst, arith, inl, inr}
use Rattle.std.specs.Prelude.{nat_lt}
use Rattle.std.proofs.lemmas.Bool.{cases_eq, eqb-true, eq-eqb, ne_eqb, ltb-true, ltb-false}
use Rattle.isis_base.specs.declared.level.Level.{Level}
use Rattle.isis_base.specs.declared.identifiers.LspId.{LspId}
use Rattle.isis_base.specs.Identifiers.{lsp_number}
use Rattle.isis_base.specs.Keys.{rank}
use Rattle.isis_pdu.specs.declared.fault.PduFault.{PduFault}
use Rattle.isis_pdu.specs.Views.{PduView}
use Rattle.isis_pdu.specs.Decoded.{decoded}
use Rattle.lsp_store.specs.declared.entry.Entry.{Entry}
use Rattle.lsp_store.specs.Databases.{key_of}
use Rattle.lsp_store.specs.Maps.{pair_number, find, put}
use Rattle.ipv6_reach.specs.declared.head.Head.{Head}
use Rattle.ipv6_reach.specs.declared.took.Took.{Took}
use Rattle.ipv6_reach.specs.declared.took.Took.TheVariants as took
use Rattle.ipv6_reach.specs.Captured.{CapturedOf, head_of, is_same, is_whole, rank_of, held_rank, took_lsp, took_by, took_of, IsEntryOf, KeepsBy}
use Rattle.ipv6_reach.specs.Taken.{where_good, lsp_by, lsp_of, where_id, better, newest, IsHeld, IsTake, AreTaken}

abbrev pub Lsp : Type 0
Lsp = Head × List ℕ

-- ---- what is found after a put

find_same : (entries : List (LspId × Entry)) (id : LspId) (entry : Entry) → find (put entries id entry) (lsp_number id) ≡ Some entry
find_same [] id entry = rw (eq-eqb (lsp_number id) (lsp_number id) refl) refl
find_same (pair ∷ entries) id entry = go (pair_number pair == lsp_number id) refl (nat_lt (lsp_number id) (pair_number pair)) refl (find_same entries id entry)
  where
    go : (p : Bool) → (pair_number pair == lsp_number id) ≡ p → (q : Bool) → nat_lt (lsp_number id) (pair_number pair) ≡ q → find (put entries id entry) (lsp_number id) ≡ Some entry → find (put (pair ∷ entries) id entry) (lsp_number id) ≡ Some entry
    go true e q f rest = rw (e, eq-eqb (lsp_number id) (lsp_number id) refl) refl
    go false e true f rest = rw (e, f, eq-eqb (lsp_number id) (lsp_number id) refl) refl
    go false e false f rest = rw (e, f, e) rest

find_other : (entries : List (LspId × Entry)) (id : LspId) (entry : Entry) (n : ℕ) → (lsp_number id == n) ≡ false → find (put entries id entry) n ≡ find entries n
find_other [] id entry n other = rw other refl
find_other (pair ∷ entries) id entry n other = go (pair_number pair == lsp_number id) refl (nat_lt (lsp_number id) (pair_number pair)) refl (find_other entries id entry n other)
  where
    go : (p : Bool) → (pair_number pair == lsp_number id) ≡ p → (q : Bool) → nat_lt (lsp_number id) (pair_number pair) ≡ q → find (put entries id entry) n ≡ find entries n → find (put (pair ∷ entries) id entry) n ≡ find (pair ∷ entries) n
    go true e q f rest = let same : pair_number pair ≡ lsp_number id = eqb-true (pair_number pair) (lsp_number id) e in rw (e, other, same, other) refl
    go false e true f rest = rw (e, f, other) refl
    go false e false f rest = rw (e, f, rest) refl

-- ---- the better of two

better_none : (x : Option Lsp) → better x None ≡ x
better_none None = refl
better_none (Some a) = refl

better_new : (o : Option Entry) (x : Option Lsp) (head : Head) (octets : List ℕ) → IsHeld o x → nat_lt (rank (key_of o)) (rank_of head) ≡ true → better x (Some (head, octets)) ≡ Some (head, octets)
better_new o None head octets held newer = refl
better_new None (Some a) head octets held newer = absurd held
better_new (Some entry) (Some a) head octets held newer =
    let is : nat_lt (rank_of a.0) (rank_of head) ≡ true = subst (λ (k : ℕ). nat_lt k (rank_of head) ≡ true) held.key newer in
    rw is refl

better_old : (o : Option Entry) (x : Option Lsp) (head : Head) (octets : List ℕ) → IsHeld o x → nat_lt (rank (key_of o)) (rank_of head) ≡ false → 0 < rank_of head → better x (Some (head, octets)) ≡ x
better_old None None head octets held older some = let le = ltb-false 0 (rank_of head) older in absurd (omega arith)
better_old (Some entry) None head octets held older some = absurd held
better_old None (Some a) head octets held older some = absurd held
better_old (Some entry) (Some a) head octets held older some =
    let is : nat_lt (rank_of a.0) (rank_of head) ≡ false = subst (λ (k : ℕ). nat_lt k (rank_of head) ≡ false) held.key older in
    rw is refl

better_three : (x a b : Lsp) (p q r : Bool) → nat_lt (rank_of x.0) (rank_of a.0) ≡ p → nat_lt (rank_of a.0) (rank_of b.0) ≡ q → nat_lt (rank_of x.0) (rank_of b.0) ≡ r → better (better (Some x) (Some a)) (Some b) ≡ better (Some x) (better (Some a) (Some b))
better_three x a b true true true e f g = rw (e, f, g) refl
better_three x a b true true false e f g =
    let l = ltb-true (rank_of x.0) (rank_of a.0) e in
    let m = ltb-true (rank_of a.0) (rank_of b.0) f in
    let n = ltb-false (rank_of x.0) (rank_of b.0) g in
    absurd (omega arith)
better_three x a b true false r e f g = rw (e, f, e) refl
better_three x a b false true r e f g = rw (e, f) refl
better_three x a b false false false e f g = rw (e, f, g, e) refl
better_three x a b false false true e f g =
    let l = ltb-false (rank_of x.0) (rank_of a.0) e in
    let m = ltb-false (rank_of a.0) (rank_of b.0) f in
    let n = ltb-true (rank_of x.0) (rank_of b.0) g in
    absurd (omega arith)

better_assoc : (x a b : Option Lsp) → better (better x a) b ≡ better x (better a b)
better_assoc None a b = refl
better_assoc (Some x) None b = refl
better_assoc (Some x) (Some a) None = better_none (better (Some x) (Some a))
better_assoc (Some x) (Some a) (Some b) = better_three x a b _ _ _ refl refl refl

-- ---- one take

abbrev pub Keeps : CapturedOf → CapturedOf → List ℕ → Option Head → Type 0
Keeps old new octets h =
    (head : Head) × (entry : Entry) × (h ≡ Some head) × IsEntryOf entry head octets
    × (new ≡ record old { entries = put old.entries head.id entry })

-- what is held of a number after a take, of what was held before and of what it took; the level stays
abbrev pub Stays : CapturedOf → CapturedOf → ℕ → Option Lsp → Option Lsp → Type 0
Stays old new n x taken = IsHeld (find new.entries n) (better x taken) × (new.level ≡ old.level)

unchanged : (old new : CapturedOf) (n : ℕ) (x taken : Option Lsp) → new ≡ old → IsHeld (find old.entries n) x → better x taken ≡ x → Stays old new n x taken
unchanged old new n x taken same held is =
    (subst (λ (o : Option Lsp). IsHeld (find new.entries n) o) (sym is) (subst (λ (c : CapturedOf). IsHeld (find c.entries n) x) (sym same) held), ap (λ (c : CapturedOf). c.level) same)

some_is : (a b : Head) → Some a ≡ Some b → a ≡ b
some_is a b e = cc

kept : (old new : CapturedOf) (octets : List ℕ) (n : ℕ) (x : Option Lsp) (head : Head) → IsHeld (find old.entries n) x → nat_lt (held_rank old.entries head.id) (rank_of head) ≡ true → (entry : Entry) → IsEntryOf entry head octets → new ≡ record old { entries = put old.entries head.id entry } → Stays old new n x (where_id n (Some (head, octets)))
kept old new octets n x head held newer entry is same =
    elim (cases_eq (lsp_number head.id) n) [
      | inl here ↦
          let at : find new.entries n ≡ Some entry = ap (λ (c : CapturedOf). find c.entries n) same ∙ subst (λ (k : ℕ). find (put old.entries head.id entry) k ≡ Some entry) here (find_same old.entries head.id entry) in
          let of : better x (Some (head, octets)) ≡ Some (head, octets) = better_new (find old.entries n) x head octets held (subst (λ (k : ℕ). nat_lt (rank (key_of (find old.entries k))) (rank_of head) ≡ true) here newer) in
          (rw (eq-eqb (lsp_number head.id) n here, of, at) is, ap (λ (c : CapturedOf). c.level) same)
      | inr other ↦
          let test = ne_eqb (lsp_number head.id) n other in
          let at : find new.entries n ≡ find old.entries n = ap (λ (c : CapturedOf). find c.entries n) same ∙ find_other old.entries head.id entry n test in
          (rw (test, better_none x, at) held, ap (λ (c : CapturedOf). c.level) same)
    ]

left : (old new : CapturedOf) (octets : List ℕ) (n : ℕ) (x : Option Lsp) (head : Head) → IsHeld (find old.entries n) x → nat_lt (held_rank old.entries head.id) (rank_of head) ≡ false → 0 < rank_of head → new ≡ old → Stays old new n x (where_id n (Some (head, octets)))
left old new octets n x head held older some same =
    elim (cases_eq (lsp_number head.id) n) [
      | inl here ↦
          let of : better x (Some (head, octets)) ≡ x = better_old (find old.entries n) x head octets held (subst (λ (k : ℕ). nat_lt (rank (key_of (find old.entries k))) (rank_of head) ≡ false) here older) some in
          unchanged old new n x (where_id n (Some (head, octets))) same held (rw (eq-eqb (lsp_number head.id) n here) of)
      | inr other ↦ unchanged old new n x (where_id n (Some (head, octets))) same held (rw (ne_eqb (lsp_number head.id) n other) (better_none x))
    ]

abbrev pub took_if : Bool → Bool → Bool → Bool → Took
took_if same zero whole newer =
    if not same then took.NotLsp
    else (if zero then took.Zero
    else (if not whole then took.Checksum
    else (if newer then took.Kept else took.NotNewer)))

abbrev pub good_if : Bool → Bool → Bool → Lsp → Option Lsp
good_if same zero whole lsp = if same && (not zero && whole) then Some lsp else None

step_if : (old new : CapturedOf) (octets : List ℕ) (n : ℕ) (x : Option Lsp) (head : Head) (same zero whole newer : Bool) → (head.number == 0) ≡ zero → nat_lt (held_rank old.entries head.id) (rank_of head) ≡ newer → IsHeld (find old.entries n) x → (took_if same zero whole newer ≡ took.Kept → Keeps old new octets (Some head)) → ((took_if same zero whole newer ≡ took.Kept → ⊥) → new ≡ old) → Stays old new n x (where_id n (good_if same zero whole (head, octets)))
step_if old new octets n x head false zero whole newer is test held keeps stays = unchanged old new n x None (stays (λ e. cc)) held (better_none x)
step_if old new octets n x head true true whole newer is test held keeps stays = unchanged old new n x None (stays (λ e. cc)) held (better_none x)
step_if old new octets n x head true false false newer is test held keeps stays = unchanged old new n x None (stays (λ e. cc)) held (better_none x)
step_if old new octets n x head true false true true is test held keeps stays =
    let k = keeps refl in
    let e : k.0 ≡ head = sym (some_is head k.0 k.2) in
    kept old new octets n x head held test k.1 (subst (λ (h : Head). IsEntryOf k.1 h octets) e k.3) (subst (λ (h : Head). new ≡ record old { entries = put old.entries h.id k.1 }) e k.4)
step_if old new octets n x head true false true false is test held keeps stays =
    let some : 0 < head.number = elim (cases_eq head.number 0) [
      | inl none ↦ let yes = eq-eqb head.number 0 none in cc
      | inr some ↦ omega arith
    ] in
    left old new octets n x head held test (omega arith) (stays (λ e. cc))

step_lsp : (old new : CapturedOf) (octets : List ℕ) (n : ℕ) (x : Option Lsp) (h : Option Head) → IsHeld (find old.entries n) x → (took_lsp old octets h ≡ took.Kept → Keeps old new octets h) → ((took_lsp old octets h ≡ took.Kept → ⊥) → new ≡ old) → Stays old new n x (where_id n (where_good old.level octets h))
step_lsp old new octets n x None held keeps stays = unchanged old new n x None (stays (λ e. cc)) held (better_none x)
step_lsp old new octets n x (Some head) held keeps stays =
    step_if old new octets n x head (is_same old.level head.level) (head.number == 0) (is_whole head octets) (nat_lt (held_rank old.entries head.id) (rank_of head)) refl refl held keeps stays

step_by : (old new : CapturedOf) (octets : List ℕ) (n : ℕ) (x : Option Lsp) (r : Result (PduView × ℕ) PduFault) → IsHeld (find old.entries n) x → (took_by old octets r ≡ took.Kept → KeepsBy old new octets r) → ((took_by old octets r ≡ took.Kept → ⊥) → new ≡ old) → Stays old new n x (where_id n (lsp_by old.level octets r))
step_by old new octets n x (Err fault) held keeps stays = unchanged old new n x None (stays (λ e. cc)) held (better_none x)
step_by old new octets n x (Ok found) held keeps stays = step_lsp old new (take found.1 octets) n x (head_of found.0) held keeps stays

step : (old new : CapturedOf) (octets : List ℕ) (n : ℕ) (x : Option Lsp) → IsHeld (find old.entries n) x → IsTake old octets new → Stays old new n x (where_id n (lsp_of old.level octets))
unfolding took_of lsp_of
step old new octets n x held takes = step_by old new octets n x (decoded octets) held takes.0 takes.1

-- ---- all of them

held_all : (taken : List (List ℕ)) (old end : CapturedOf) (n : ℕ) (x : Option Lsp) → IsHeld (find old.entries n) x → AreTaken old taken end → IsHeld (find end.entries n) (better x (newest old.level n taken))
held_all [] old end n x held are = rw (better_none x, are) held
held_all (octets ∷ taken) old end n x held are =
    let s = step old are.0 octets n x held are.1 in
    let rest = held_all taken are.0 end n (better x (where_id n (lsp_of old.level octets))) s.0 are.2 in
    let by_level = subst (λ (level : Level). IsHeld (find end.entries n) (better (better x (where_id n (lsp_of old.level octets))) (newest level n taken))) s.1 rest in
    subst (λ (o : Option Lsp). IsHeld (find end.entries n) o) (better_assoc x (where_id n (lsp_of old.level octets)) (newest old.level n taken)) by_level

pub taken_held : (level : Level) (taken : List (List ℕ)) (end : CapturedOf) → AreTaken (record { level = level; entries = [] }) taken end → (n : ℕ) → IsHeld (find end.entries n) (newest level n taken)
taken_held level taken end are n = held_all taken (record { level = level; entries = [] }) end n None tt are
