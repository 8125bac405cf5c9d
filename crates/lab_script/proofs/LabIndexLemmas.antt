-- The look-ups of a lab script with a router or a link more.
use Rattle.std.proofs.Common.{◌≡◌, ◌≢◌, ◌∙◌, ℕ, ◌+◌, ◌<◌, ◌≤◌, Bool, true, false, cond, List, [], ◌∷◌, ◌++◌, length, drop, get_or, inl, inr, refl, sym, ap, subst, arith}
use Rattle.std.specs.Prelude.{◌==◌, ◌||◌}
use Rattle.std.specs.List.{AllByRecursion, count_by, list_any}
use Rattle.std.specs.Str.{bytes_eq}
use Rattle.std.proofs.lemmas.Bool.{cases_Bool, eqb-true, eq-eqb, false≢true}
use Rattle.std.proofs.lemmas.List.{get_or-set_same, get_or-set_other, length-set, drop_more}
use Rattle.std.proofs.lemmas.List.Folds.{list_any-append}
use Rattle.std.proofs.lemmas.List.Sums.{sum_by-cons, sum_by-drop_more}
use Rattle.isis_base.specs.declared.identifiers.SystemId.{SystemId}
use Rattle.lab_script.specs.declared.setup.End.{End}
use Rattle.lab_script.specs.declared.setup.LabLink.{LabLink}
use Rattle.lab_script.specs.declared.setup.LabRouter.{LabRouter}
use Rattle.lab_script.specs.Counts.{one_more, has_twice}
use Rattle.lab_script.specs.LabScripts.{has_system, is_among, is_end, circuit_count, next_ends}
use Rattle.lab_script.proofs.LabLemmas.{count-push, none-first, none-behind}

last : (h t : Bool) → (h || (t || false)) ≡ cond t true h
last true true = refl
last true false = refl
last false true = refl
last false false = refl

-- a router more
pub has_system-push : (routers : List LabRouter) (router : LabRouter) (system : SystemId) → has_system (routers ++ router ∷ []) system ≡ cond (bytes_eq router.system.0 system.0) true (has_system routers system)
has_system-push routers router system =
    list_any-append (λ (r : LabRouter). bytes_eq r.system.0 system.0) routers (router ∷ [])
    ∙ last (has_system routers system) (bytes_eq router.system.0 system.0)

-- a count more at a place
pub raised : (counts : List ℕ) (i j : ℕ) → i < length counts → get_or (one_more counts i) j 0 ≡ get_or counts j 0 + cond {A = ℕ} (i == j) 1 0
raised counts i j less =
    elim (cases_Bool (i == j)) [
      | inl same ↦
          (let e = eqb-true i j same in
          let one : cond {A = ℕ} (i == j) 1 0 ≡ 1 = ap (λ (t : Bool). cond {A = ℕ} t 1 0) same in
          let at = ap (λ (n : ℕ). get_or (one_more counts i) n 0) (sym e) ∙ get_or-set_same counts i (get_or counts i 0 + 1) 0 less in
          let here = ap (λ (n : ℕ). get_or counts n 0) e in
          omega (arith, at, here, one))
      | inr apart ↦
          (let none : cond {A = ℕ} (i == j) 1 0 ≡ 0 = ap (λ (t : Bool). cond {A = ℕ} t 1 0) apart in
          let other : j ≢ i = λ e. false≢true (sym apart ∙ eq-eqb i j (sym e)) in
          omega (arith, get_or-set_other counts i j (get_or counts i 0 + 1) 0 other, none))
    ]

at-most : (t : Bool) → cond {A = ℕ} t 1 0 ≤ 1
at-most true = omega arith
at-most false = omega arith

-- a turn of the loop that counts a circuit more at each router
pub count-turn : (start old new routers : List ℕ) (i : ℕ) → i < length routers → new ≡ one_more old (get_or routers i 0) → AllByRecursion (λ r. r < length old) (drop i routers)
    → ((k : ℕ) → get_or old k 0 + count_by (λ (o : ℕ). o == k) (drop i routers) ≡ get_or start k 0 + count_by (λ (o : ℕ). o == k) routers)
    → (k : ℕ) → get_or new k 0 + count_by (λ (o : ℕ). o == k) (drop (i + 1) routers) ≡ get_or start k 0 + count_by (λ (o : ℕ). o == k) routers
count-turn start old new routers i less is there before k =
    let here = subst (AllByRecursion (λ r. r < length old)) (drop_more routers i 0 less) there in
    let step = sum_by-drop_more (λ (o : ℕ). cond {A = ℕ} (o == k) 1 0) routers i 0 less in
    let more = ap (λ (xs : List ℕ). get_or xs k 0) is ∙ raised old (get_or routers i 0) k here.0 in
    omega (arith, step, more, before k)

pub there-turn : (old new routers : List ℕ) (i : ℕ) → i < length routers → new ≡ one_more old (get_or routers i 0) → AllByRecursion (λ r. r < length old) (drop i routers) → AllByRecursion (λ r. r < length new) (drop (i + 1) routers)
there-turn old new routers i less is there =
    let here = subst (AllByRecursion (λ r. r < length old)) (drop_more routers i 0 less) there in
    subst (λ (n : ℕ). AllByRecursion (λ r. r < n) (drop (i + 1) routers)) (sym (ap (λ (xs : List ℕ). length xs) is ∙ length-set old (get_or routers i 0) (get_or old (get_or routers i 0) 0 + 1))) here.1

pub few-turn : (old new routers : List ℕ) (i : ℕ) → i < length routers → new ≡ one_more old (get_or routers i 0) → AllByRecursion (λ r. r < length old) (drop i routers) → ((k : ℕ) → get_or old k 0 ≤ 64 + i) → (k : ℕ) → get_or new k 0 ≤ 64 + (i + 1)
few-turn old new routers i less is there few k =
    let here = subst (AllByRecursion (λ r. r < length old)) (drop_more routers i 0 less) there in
    let more = ap (λ (xs : List ℕ). get_or xs k 0) is ∙ raised old (get_or routers i 0) k here.0 in
    omega (arith, more, few k, at-most (get_or routers i 0 == k))

-- a number that stands once is counted once
count-once : (ns : List ℕ) (n : ℕ) → has_twice ns ≡ false → count_by (λ (o : ℕ). o == n) ns ≡ cond {A = ℕ} (list_any (λ (o : ℕ). o == n) ns) 1 0
count-once [] n once = refl
count-once (m ∷ ns) n once =
    let whole = sum_by-cons (λ (o : ℕ). cond {A = ℕ} (o == n) 1 0) m ns in
    let rest = count-once ns n (none-behind (list_any (λ (o : ℕ). o == m) ns) (has_twice ns) once) in
    elim (cases_Bool (m == n)) [
      | inl same ↦
          (let none = subst (λ (k : ℕ). list_any (λ (o : ℕ). o == k) ns ≡ false) (eqb-true m n same) (none-first (list_any (λ (o : ℕ). o == m) ns) (has_twice ns) once) in
          let zero : cond {A = ℕ} (list_any (λ (o : ℕ). o == n) ns) 1 0 ≡ 0 = ap (λ (t : Bool). cond {A = ℕ} t 1 0) none in
          let one : cond {A = ℕ} (m == n) 1 0 ≡ 1 = ap (λ (t : Bool). cond {A = ℕ} t 1 0) same in
          let some : cond {A = ℕ} (m == n || list_any (λ (o : ℕ). o == n) ns) 1 0 ≡ 1 = ap (λ (t : Bool). cond {A = ℕ} (t || list_any (λ (o : ℕ). o == n) ns) 1 0) same in
          omega (arith, whole, rest, zero, one, some))
      | inr apart ↦
          (let none : cond {A = ℕ} (m == n) 1 0 ≡ 0 = ap (λ (t : Bool). cond {A = ℕ} t 1 0) apart in
          let some : cond {A = ℕ} (m == n || list_any (λ (o : ℕ). o == n) ns) 1 0 ≡ cond {A = ℕ} (list_any (λ (o : ℕ). o == n) ns) 1 0 = ap (λ (t : Bool). cond {A = ℕ} (t || list_any (λ (o : ℕ). o == n) ns) 1 0) apart in
          omega (arith, whole, rest, none, some))
    ]

-- the next ends are at their routers
is_among-next : (links : List LabLink) (ns : List ℕ) (n : ℕ) → is_among (next_ends links ns) n ≡ list_any (λ (o : ℕ). o == n) ns
is_among-next links [] n = refl
is_among-next links (m ∷ ns) n = ap (λ (t : Bool). m == n || t) (is_among-next links ns n)

-- a link more between routers, whose counts are raised
pub counted-push : (before after : List ℕ) (links : List LabLink) (link : LabLink) (ns : List ℕ) → link.ends ≡ next_ends links ns → has_twice ns ≡ false
    → ((router : ℕ) → get_or before router 0 ≡ circuit_count links router)
    → ((router : ℕ) → get_or after router 0 ≡ get_or before router 0 + count_by (λ (o : ℕ). o == router) ns)
    → (router : ℕ) → get_or after router 0 ≡ circuit_count (links ++ link ∷ []) router
counted-push before after links link ns ends once held more router =
    let is : cond {A = ℕ} (is_end link router) 1 0 ≡ cond {A = ℕ} (list_any (λ (o : ℕ). o == router) ns) 1 0 =
    ap (λ (es : List End). cond {A = ℕ} (is_among es router) 1 0) ends ∙ ap (λ (t : Bool). cond {A = ℕ} t 1 0) (is_among-next links ns router) in
    omega (arith, more router, held router, count-once ns router once, is, count-push links link router)
