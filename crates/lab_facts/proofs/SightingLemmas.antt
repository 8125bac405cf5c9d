-- What is seen, and what is remembered of it.
use Rattle.std.proofs.Common.{◌≡◌, ℕ, zero, suc, ◌+◌, ◌*◌, ◌<◌, nat_le, ◌==◌, ◌&&◌, ◌⊎◌, cond, Bool, true, false, List, [], ◌∷◌, ◌++◌, drop, Option, Some, None, if◌then◌else◌, ⊎_elim, refl, sym, ap, ap₂, ◌∙◌, subst, arith}
use Rattle.std.proofs.lemmas.Bool.{cases_eq, cases_order}
use Rattle.std.proofs.lemmas.Bool.Decides.{nat_tests}
use Rattle.std.proofs.lemmas.Option.{none-some, same_Some}
use Rattle.std.specs.Cmp.{nat_cmp_is}
use Rattle.std.specs.Map.{lookup}
use Rattle.std.specs.BTreeMap.{is_at}
use Rattle.std.specs.Option.{option_map}
use Rattle.std.specs.Ordering.{nat_cmp, is_eq}
use Rattle.std.specs.declared.cmp.Ordering.TheVariants.{Less, Equal, Greater}
use Rattle.isis_base.specs.declared.identifiers.LspId.{LspId}
use Rattle.isis_base.specs.Identifiers.{lsp_number}
use Rattle.isis_base.specs.Keys.{rank}
use Rattle.model_router.specs.Maps.{find}
use Rattle.model_router.specs.Ranks.{is_live, number_of}
use Rattle.model_router.specs.LetGos.{with_id}
use Rattle.model_router.specs.Routers.{Contents, Router}
use Rattle.model_router.specs.OwnLsps.{same_contents}
use Rattle.lsp_store.specs.Maps.{between}
use Rattle.lsp_store.specs.declared.entry.Entry.{Entry}
use Rattle.flag_sync.specs.declared.flag_row.FlagRow.{FlagRow}
use Rattle.flag_sync.specs.BookStates.{cells_of, AreBeside}
use Rattle.flag_sync.specs.Walks.{numbers_of}
use Rattle.ordered.specs.Keyed.{IsPlace}
use Rattle.lab_facts.specs.declared.said.Said.{Said}
use Rattle.lab_facts.specs.Sightings.{Sighting, is_own, own_lsps, after, earlier, first_of, doubled_with, doubled_of, Memory, key_of, Remembers}
use Rattle.lab_facts.specs.Entries.{contents_of, kept_of, seen_of, live_of, Left, past_after}

-- ---- entries and cells

-- the entries of the range show what the cells of one's own show
own-range : (system id : ℕ) → (nat_le (65536 * system) id && nat_le id (65536 * system + 65535)) ≡ is_own system id
own-range system id = grind (arith, nat_tests)

pub live-own : (system first last : ℕ) → first ≡ 65536 * system → last ≡ 65536 * system + 65535 → (es : List (LspId × Entry)) (rs : List (LspId × FlagRow)) → AreBeside es rs → live_of (between first last es) ≡ own_lsps system (cells_of es rs)
live-own system first last low high [] [] b = refl
live-own system first last low high [] (r ∷ rs) b = absurd b
live-own system first last low high (e ∷ es) [] b = absurd b
live-own system first last low high (e ∷ es) (r ∷ rs) b = here ∙ cases (is_own system (lsp_number e.0)) (live-own system first last low high es rs b.1)
  where
    rest : List (LspId × Entry)
    rest = between first last es

    mine : List Sighting
    mine = own_lsps system (cells_of es rs)

    here : live_of (between first last (e ∷ es)) ≡ live_of (if is_own system (lsp_number e.0) then e ∷ rest else rest)
    here = ap₂ (λ (m n : ℕ). live_of (if nat_le m (lsp_number e.0) && nat_le (lsp_number e.0) n then e ∷ rest else rest)) low high ∙ ap (λ (t : Bool). live_of (if t then e ∷ rest else rest)) (own-range system (lsp_number e.0))

    cases : (own : Bool) → live_of rest ≡ mine → live_of (if own then e ∷ rest else rest) ≡ (if own && is_live (rank e.1.key) then seen_of e ∷ mine else mine)
    cases true h = ap (λ (xs : List Sighting). if is_live (rank e.1.key) then seen_of e ∷ xs else xs) h
    cases false h = h

-- ---- keys

eq-from : (a b : ℕ) → (a == b) ≡ true → a ≡ b
eq-from a b e = grind (arith, nat_tests)

eq-to : (a b : ℕ) → a ≡ b → (a == b) ≡ true
eq-to a b e = grind (arith, nat_tests)

eq-not : (a b : ℕ) → (a ≡ b → ⊥) → (a == b) ≡ false
eq-not a b ne = grind (arith, nat_tests)

eq-back : (a b : ℕ) → (a == b) ≡ (b == a)
eq-back a b = ⊎_elim (λ (e : a ≡ b). eq-to a b e ∙ sym (eq-to b a (sym e))) (λ (ne : a ≡ b → ⊥). eq-not a b ne ∙ sym (eq-not b a (λ e. ne (sym e)))) (cases_eq a b)

pub same-key : (a m b n : ℕ) → m < 4294967296 → n < 4294967296 → key_of a m ≡ key_of b n → (a ≡ b) × (m ≡ n)
same-key a m b n h g e = (omega (arith, h, g, e), omega (arith, h, g, e))

key-eq : (a m b n : ℕ) → m < 4294967296 → n < 4294967296 → (key_of a m == key_of b n) ≡ (a == b && m == n)
key-eq a m b n h g = ⊎_elim
    (λ (e : key_of a m ≡ key_of b n). let both = same-key a m b n h g e in eq-to (key_of a m) (key_of b n) e ∙ sym (ap₂ (λ (s t : Bool). s && t) (eq-to a b both.0) (eq-to m n both.1)))
    (λ (ne : key_of a m ≡ key_of b n → ⊥). eq-not (key_of a m) (key_of b n) ne ∙ sym (either (a == b) (m == n) (λ s t. ne (ap₂ key_of (eq-from a b s) (eq-from m n t)))))
    (cases_eq (key_of a m) (key_of b n))
  where
    either : (s t : Bool) → (s ≡ true → t ≡ true → ⊥) → (s && t) ≡ false
    either true true no-both = absurd (no-both refl refl)
    either true false no-both = refl
    either false t no-both = refl

-- ---- what is remembered

earlier-none : (o : Option Contents) → earlier o None ≡ o
earlier-none None = refl
earlier-none (Some c) = refl

first-more : (s : Sighting) (seen : List Sighting) (id number : ℕ) → first_of (s ∷ seen) id number ≡ earlier (first_of seen id number) (if s.id == id && s.number == number then Some s.contents else None)
unfolding first_of
first-more s seen id number = refl

doubled-more : (s : Sighting) (seen : List Sighting) → doubled_of (s ∷ seen) ≡ doubled_with (first_of seen s.id s.number) s (doubled_of seen)
unfolding doubled_of
doubled-more s seen = refl

pub remembers-none : (memory : Memory) → memory.first ≡ [] → memory.doubled ≡ [] → Remembers memory []
unfolding first_of doubled_of
remembers-none memory first doubled = record { first = λ id number h. ap (λ (kept : List (ℕ × Contents)). find kept (key_of id number)) first; doubled = doubled }

-- where the key was seen before
first-stays : (memory new : Memory) (seen : List Sighting) (s : Sighting) (old : Contents) → s.number < 4294967296 → Remembers memory seen → find memory.first (key_of s.id s.number) ≡ Some old → ((key : ℕ) → find new.first key ≡ find memory.first key) → (id number : ℕ) → number < 4294967296 → find new.first (key_of id number) ≡ first_of (s ∷ seen) id number
first-stays memory new seen s old small h is same id number less =
    same (key_of id number) ∙ (h.first id number less ∙ sym (first-more s seen id number ∙ stays (s.id == id) (s.number == number) (λ e f. sym (h.first id number less) ∙ (ap₂ (λ (a n : ℕ). find memory.first (key_of a n)) (sym (eq-from s.id id e)) (sym (eq-from s.number number f)) ∙ is))))
  where
    held : (o : Option Contents) → o ≡ Some old → earlier o (Some s.contents) ≡ o
    held None e = absurd (none-some old e)
    held (Some c) e = refl

    stays : (a b : Bool) → (a ≡ true → b ≡ true → first_of seen id number ≡ Some old) → earlier (first_of seen id number) (if a && b then Some s.contents else None) ≡ first_of seen id number
    stays true true f = held (first_of seen id number) (f refl refl)
    stays true false f = earlier-none (first_of seen id number)
    stays false b f = earlier-none (first_of seen id number)

pub remembers-new : (memory new : Memory) (seen : List Sighting) (s : Sighting) → s.number < 4294967296 → Remembers memory seen → find memory.first (key_of s.id s.number) ≡ None → ((key : ℕ) → find new.first key ≡ (if key == key_of s.id s.number then Some s.contents else find memory.first key)) → new.doubled ≡ memory.doubled → Remembers new (s ∷ seen)
remembers-new memory new seen s small h nothing first doubled = record {
  first = λ id number less. first (key_of id number) ∙ (ap (λ (t : Bool). if t then Some s.contents else find memory.first (key_of id number)) (key-eq id number s.id s.number less small) ∙ (cases id number less (id == s.id) (number == s.number) refl refl ∙ sym (first-more s seen id number ∙ ap₂ (λ (t u : Bool). earlier (first_of seen id number) (if t && u then Some s.contents else None)) (eq-back s.id id) (eq-back s.number number))));
  doubled = doubled ∙ (h.doubled ∙ sym (doubled-more s seen ∙ ap (λ (o : Option Contents). doubled_with o s (doubled_of seen)) (sym (h.first s.id s.number small) ∙ nothing)));
}
  where
    none-first : (o : Option Contents) (c : Contents) → o ≡ None → Some c ≡ earlier o (Some c)
    none-first None c e = refl
    none-first (Some x) c e = absurd (none-some x (sym e))

    cases : (id number : ℕ) → number < 4294967296 → (a b : Bool) → (id == s.id) ≡ a → (number == s.number) ≡ b → (if a && b then Some s.contents else find memory.first (key_of id number)) ≡ earlier (first_of seen id number) (if a && b then Some s.contents else None)
    cases id number less true true e f = none-first (first_of seen id number) s.contents (sym (h.first id number less) ∙ (ap₂ (λ (a n : ℕ). find memory.first (key_of a n)) (eq-from id s.id e) (eq-from number s.number f) ∙ nothing))
    cases id number less true false e f = h.first id number less ∙ sym (earlier-none (first_of seen id number))
    cases id number less false b e f = h.first id number less ∙ sym (earlier-none (first_of seen id number))

pub remembers-same : (memory : Memory) (seen : List Sighting) (s : Sighting) (old : Contents) → s.number < 4294967296 → Remembers memory seen → find memory.first (key_of s.id s.number) ≡ Some old → same_contents old s.contents ≡ true → Remembers memory (s ∷ seen)
remembers-same memory seen s old small h is same = record {
  first = first-stays memory memory seen s old small h is (λ key. refl);
  doubled = h.doubled ∙ sym (doubled-more s seen ∙ (ap (λ (o : Option Contents). doubled_with o s (doubled_of seen)) (sym (h.first s.id s.number small) ∙ is) ∙ ap (λ (t : Bool). if t then doubled_of seen else with_id (doubled_of seen) s.id) same));
}

pub remembers-other : (memory new : Memory) (seen : List Sighting) (s : Sighting) (old : Contents) → s.number < 4294967296 → Remembers memory seen → find memory.first (key_of s.id s.number) ≡ Some old → same_contents old s.contents ≡ false → ((key : ℕ) → find new.first key ≡ find memory.first key) → new.doubled ≡ with_id memory.doubled s.id → Remembers new (s ∷ seen)
remembers-other memory new seen s old small h is other first doubled = record {
  first = first-stays memory new seen s old small h is first;
  doubled = doubled ∙ (ap (λ (ids : List ℕ). with_id ids s.id) h.doubled ∙ sym (doubled-more s seen ∙ (ap (λ (o : Option Contents). doubled_with o s (doubled_of seen)) (sym (h.first s.id s.number small) ∙ is) ∙ ap (λ (t : Bool). if t then doubled_of seen else with_id (doubled_of seen) s.id) other)));
}

-- ---- maps

is-key : (key x : ℕ) → is_eq (nat_cmp key x) ≡ (x == key)
is-key key x = ⊎_elim
    (λ (e : key ≡ x). ap is_eq (sym (nat_cmp_is key x Equal e)) ∙ sym (eq-to x key (sym e)))
    (λ (o : (key < x) ⊎ (x < key)). ⊎_elim
    (λ (l : key < x). ap is_eq (sym (nat_cmp_is key x Less l)) ∙ sym (eq-not x key (λ e. omega (arith, l, e))))
    (λ (l : x < key). ap is_eq (sym (nat_cmp_is key x Greater l)) ∙ sym (eq-not x key (λ e. omega (arith, l, e)))) o)
    (cases_order key x)

pub find-kept : (es : List (ℕ × Said)) (key : ℕ) → find (kept_of es) key ≡ option_map contents_of (lookup (is_at (nat_cmp key)) es)
find-kept [] key = refl
find-kept (e ∷ es) key = ap (λ (t : Bool). if t then Some (contents_of e.1) else find (kept_of es) key) (sym (is-key key e.0)) ∙ either (is_eq (nat_cmp key e.0)) (find-kept es key)
  where
    either : (t : Bool) → find (kept_of es) key ≡ option_map contents_of (lookup (is_at (nat_cmp key)) es) → (if t then Some (contents_of e.1) else find (kept_of es) key) ≡ option_map contents_of (cond t (Some e.1) (lookup (is_at (nat_cmp key)) es))
    either true h = refl
    either false h = h

-- a map with the value of a key
pub find-put : (old new : List (ℕ × Said)) (first : List (ℕ × Contents)) (key : ℕ) (said : Said) (contents : Contents) → contents_of said ≡ contents → kept_of old ≡ first → ((q : ℕ) → lookup (is_at (nat_cmp q)) new ≡ cond (is_at (nat_cmp key) q) (Some said) (lookup (is_at (nat_cmp q)) old)) → (other : ℕ) → find (kept_of new) other ≡ (if other == key then Some contents else find first other)
find-put old new first key said contents is first-is put other =
    find-kept new other
    ∙ (ap (option_map contents_of) (put other)
    ∙ (either (is_eq (nat_cmp key other))
    ∙ (ap₂ (λ (t : Bool) (c : Contents). if t then Some c else find (kept_of old) other) (is-key key other) is
    ∙ ap (λ (kept : List (ℕ × Contents)). if other == key then Some contents else find kept other) first-is)))
  where
    either : (t : Bool) → option_map contents_of (cond t (Some said) (lookup (is_at (nat_cmp other)) old)) ≡ (if t then Some (contents_of said) else find (kept_of old) other)
    either true = refl
    either false = sym (find-kept old other)

-- ---- what is left

pub left-live : (memory new : Memory) (s : Sighting) (more whole : List Sighting) → ((seen : List Sighting) → Remembers memory seen → Remembers new (s ∷ seen)) → Left memory (s ∷ more) whole → Left new more whole
left-live memory new s more whole f l = record { seen = s ∷ l.seen; have = f l.seen l.have; rest = l.rest }

pub left-none : (memory : Memory) (whole : List Sighting) → Left memory [] whole → Remembers memory whole
left-none memory whole l = subst (λ (xs : List Sighting). Remembers memory xs) l.rest l.have

pub left-all : (memory : Memory) (seen more : List Sighting) → Remembers memory seen → Left memory more (after more seen)
left-all memory seen more h = record { seen = seen; have = h; rest = refl }

live-some : (t : Bool) (n m : ℕ) → Some n ≡ (if t then Some m else None) → (t ≡ true) × (n ≡ m)
live-some true n m e = (refl, same_Some n m e)
live-some false n m e = absurd (none-some n (sym e))

live-none : (t : Bool) (m : ℕ) → None ≡ (if t then Some m else None) → t ≡ false
live-none true m e = absurd (none-some m e)
live-none false m e = refl

-- an entry is seen
pub note-live : (memory new : Memory) (pair : LspId × Entry) (number : ℕ) (tlvs : List ℕ) → Some number ≡ (if is_live (rank pair.1.key) then Some (number_of (rank pair.1.key)) else None) → tlvs ≡ drop 27 pair.1.octets → ((seen : List Sighting) → Remembers memory seen → Remembers new (record { id = lsp_number pair.0; number = number; contents = record { flags = pair.1.flags; tlvs = tlvs } } ∷ seen)) → (more : List (LspId × Entry)) (whole : List Sighting) → Left memory (live_of (pair ∷ more)) whole → Left new (live_of more) whole
note-live memory new pair number tlvs number-is tlvs-is f more whole l =
    let live = live-some (is_live (rank pair.1.key)) number (number_of (rank pair.1.key)) number-is in
    left-live memory new (seen_of pair) (live_of more) whole
    (λ seen h. subst (λ (n : ℕ). Remembers new (record { id = lsp_number pair.0; number = n; contents = record { flags = pair.1.flags; tlvs = drop 27 pair.1.octets } } ∷ seen)) live.1 (subst (λ (xs : List ℕ). Remembers new (record { id = lsp_number pair.0; number = number; contents = record { flags = pair.1.flags; tlvs = xs } } ∷ seen)) tlvs-is (f seen h)))
    (subst (λ (t : Bool). Left memory (if t then seen_of pair ∷ live_of more else live_of more) whole) live.0 l)

-- an entry isn't live
pub note-none : (memory : Memory) (pair : LspId × Entry) → None ≡ (if is_live (rank pair.1.key) then Some (number_of (rank pair.1.key)) else None) → (more : List (LspId × Entry)) (whole : List Sighting) → Left memory (live_of (pair ∷ more)) whole → Left memory (live_of more) whole
note-none memory pair e more whole l = subst (λ (t : Bool). Left memory (if t then seen_of pair ∷ live_of more else live_of more) whole) (live-none (is_live (rank pair.1.key)) (number_of (rank pair.1.key)) e) l

-- ---- the same, by a key

pub seen-new : (memory new : Memory) (seen : List Sighting) (s : Sighting) (key : ℕ) → s.number < 4294967296 → Remembers memory seen → key ≡ key_of s.id s.number → find memory.first key ≡ None → ((other : ℕ) → find new.first other ≡ (if other == key then Some s.contents else find memory.first other)) → new.doubled ≡ memory.doubled → Remembers new (s ∷ seen)
seen-new memory new seen s key small h is nothing put doubled =
    remembers-new memory new seen s small h (sym (ap (find memory.first) is) ∙ nothing)
    (λ other. put other ∙ ap (λ (k : ℕ). if other == k then Some s.contents else find memory.first other) is) doubled

pub seen-same : (memory : Memory) (seen : List Sighting) (s : Sighting) (key : ℕ) (old : Contents) → s.number < 4294967296 → Remembers memory seen → key ≡ key_of s.id s.number → find memory.first key ≡ Some old → same_contents old s.contents ≡ true → Remembers memory (s ∷ seen)
seen-same memory seen s key old small h is some same = remembers-same memory seen s old small h (sym (ap (find memory.first) is) ∙ some) same

pub seen-other : (memory new : Memory) (seen : List Sighting) (s : Sighting) (key : ℕ) (old : Contents) → s.number < 4294967296 → Remembers memory seen → key ≡ key_of s.id s.number → find memory.first key ≡ Some old → same_contents old s.contents ≡ false → new.first ≡ memory.first → new.doubled ≡ with_id memory.doubled s.id → Remembers new (s ∷ seen)
seen-other memory new seen s key old small h is some other first doubled =
    remembers-other memory new seen s old small h (sym (ap (find memory.first) is) ∙ some) other
    (λ k. ap (λ (kept : List (ℕ × Contents)). find kept k) first) doubled

-- ---- what is kept of a key

pub kept-some : (es : List (ℕ × Said)) (first : List (ℕ × Contents)) (key : ℕ) (said : Said) → kept_of es ≡ first → lookup (is_at (nat_cmp key)) es ≡ Some said → find first key ≡ Some (contents_of said)
kept-some es first key said e f = sym (ap (λ (kept : List (ℕ × Contents)). find kept key) e) ∙ (find-kept es key ∙ ap (option_map contents_of) f)

pub kept-none : (es : List (ℕ × Said)) (first : List (ℕ × Contents)) (key : ℕ) → kept_of es ≡ first → lookup (is_at (nat_cmp key)) es ≡ None → find first key ≡ None
kept-none es first key e f = sym (ap (λ (kept : List (ℕ × Contents)). find kept key) e) ∙ (find-kept es key ∙ ap (option_map contents_of) f)

-- ---- an LSP ID that is there already

pub with-held : (xs : List LspId) (n i : ℕ) → IsPlace lsp_number xs n i → with_id (numbers_of xs) n ≡ numbers_of xs
with-held [] n i at = absurd (let h = at.inside in omega (arith, h))
with-held (x ∷ xs) n zero at = let h = at.here x in grind (arith, nat_tests, h)
with-held (x ∷ xs) n (suc i) at =
    let rest : IsPlace lsp_number xs n i = record { inside = (let k = at.inside in omega (arith, k)); low = at.low.1; here = at.here; high = at.high } in
    let low = at.low.0 in
    grind (arith, nat_tests, low, with-held xs n i rest)

-- ---- the whole range is seen

pub note-all : (old now : Memory) (system first last : ℕ) (es left : List (LspId × Entry)) (rs : List (LspId × FlagRow)) (seen : List Sighting) → first ≡ 65536 * system → last ≡ 65536 * system + 65535 → AreBeside es rs → left ≡ [] → ((whole : List Sighting) → Left old (live_of (between first last es)) whole → Left now (live_of left) whole) → Remembers old seen → Remembers now (after (own_lsps system (cells_of es rs)) seen)
note-all old now system first last es left rs seen low high beside none f h =
    let range = live_of (between first last es) in
    let whole = after range seen in
    let l = f whole (left-all old seen range h) in
    subst (λ (xs : List Sighting). Remembers now (after xs seen)) (live-own system first last low high es rs beside)
    (left-none now whole (subst (λ (xs : List Sighting). Left now xs whole) (ap live_of none) l))

-- ---- states that were

pub past-end : (rs : List Router) (r : Router) (past : List Router) → past_after (rs ++ r ∷ []) past ≡ r ∷ past_after rs past
past-end [] r past = refl
past-end (x ∷ rs) r past = past-end rs r (x ∷ past)
