-- What is kept of a moment covers what was taken then.
use Rattle.std.proofs.Common.{◌≡◌, ℕ, zero, suc, ◌<◌, ◌^◌, ◌==◌, Bool, true, false, cond, ◌&&◌, ◌||◌, List, [], ◌∷◌, ◌++◌, Option, Some, IfSome, refl, sym, ap, ◌∙◌, subst, arith}
use Rattle.std.proofs.lemmas.Bool.Decides.{nat_tests}
use Rattle.std.specs.declared.cmp.Ordering.{Ordering}
use Rattle.std.specs.declared.cmp.Ordering.TheVariants.{Less, Equal, Greater}
use Rattle.std.specs.Ordering.{is_eq, ordering_then, nat_cmp}
use Rattle.std.specs.Cmp.{unsigned_ties}
use Rattle.std.specs.BTreeMap.{BTreeMap}
use Rattle.std.specs.BTreeMap as tree
use Rattle.isis_base.specs.declared.level.Level.{Level}
use Rattle.isis_base.specs.declared.level.Level.TheVariants as level
use Rattle.isis_base.specs.contracts.level.LevelOrd.TheImpl as level_ord
use Rattle.isis_base.specs.Identifiers.{lsp_number}
use Rattle.snp_exchange.specs.Sweeps.{covers, in_range}
use Rattle.model_network.specs.Networks.{Taking}
use Rattle.lab_facts.specs.declared.key.SweepKey.{SweepKey}
use Rattle.lab_facts.specs.declared.sweeps.Streak.{Streak}
use Rattle.lab_facts.specs.declared.sweeps.Taken.{Taken}
use Rattle.lab_facts.specs.Sweeps.{taking_at, same_level, is_at, is_covered, all_below, is_whole}
use Rattle.lab_facts.specs.Keeping.{order, covers_in, HasMore, IsTold, taken_after, IsKept}

-- ---- all LSP IDs

both-true : (a b : Bool) → (a && b) ≡ true → (a ≡ true) × (b ≡ true)
both-true true b e = (refl, e)
both-true false b e = absurd (cc)

and-true : (a b : Bool) → a ≡ true → b ≡ true → (a && b) ≡ true
and-true true b e f = f
and-true false b e f = absurd (cc)

below-each : (n : ℕ) (is : ℕ → Bool) → all_below n is ≡ true → (i : ℕ) → i < n → is i ≡ true
unfolding all_below
below-each zero is e i h = absurd (omega (arith, h))
below-each (suc n) is e i h = by (i == n) refl (λ q. below-each n is (both-true (is n) (all_below n is) e).1 i q)
  where
    here : is n ≡ true
    here = (both-true (is n) (all_below n is) e).0

    by : (t : Bool) → (i == n) ≡ t → (i < n → is i ≡ true) → is i ≡ true
    by true q f = subst (λ (k : ℕ). is k ≡ true) (let same : i ≡ n = grind (arith, nat_tests, q) in sym same) here
    by false q f = f (grind (arith, nat_tests, h, q))

each-below : (n : ℕ) (is : ℕ → Bool) → ((i : ℕ) → i < n → is i ≡ true) → all_below n is ≡ true
unfolding all_below
each-below zero is f = refl
each-below (suc n) is f = and-true (is n) (all_below n is) (f n (omega arith)) (each-below n is (λ i h. f i (omega (arith, h))))

pub whole-each : (key : SweepKey) (takings : List Taking) → is_whole key takings ≡ true → (id : ℕ) → id < 2 ^ 64 → is_covered key takings id ≡ true
unfolding is_whole
whole-each key takings e = below-each (2 ^ 64) (is_covered key takings) e

pub each-whole : (key : SweepKey) (takings : List Taking) → ((id : ℕ) → id < 2 ^ 64 → is_covered key takings id ≡ true) → is_whole key takings ≡ true
unfolding is_whole
each-whole key takings f = each-below (2 ^ 64) (is_covered key takings) f

-- ---- what is told of a moment

pub whole-told : (key : SweepKey) (takings : List Taking) (s : Streak) → ((id : ℕ) → covers s.sweep.ranges id ≡ is_covered key takings id) → IsTold s → s.whole ≡ is_whole key takings
whole-told key takings s f told = by s.whole refl
  where
    left : (b : Bool) → is_whole key takings ≡ b → s.whole ≡ false → s.whole ≡ is_whole key takings
    left false e q = q ∙ sym e
    left true e q =
        let one = told.partial q in
        absurd (let a : is_covered key takings one.0 ≡ true = whole-each key takings e one.0 one.1 in let b : is_covered key takings one.0 ≡ false = sym (f one.0) ∙ one.2 in cc)

    by : (b : Bool) → s.whole ≡ b → s.whole ≡ is_whole key takings
    by true q = q ∙ sym (each-whole key takings (λ id h. sym (f id) ∙ told.whole q id h))
    by false q = left (is_whole key takings) refl q

pub none-whole : (key : SweepKey) (takings : List Taking) → ((id : ℕ) → false ≡ is_covered key takings id) → false ≡ is_whole key takings
none-whole key takings f = by (is_whole key takings) refl
  where
    by : (b : Bool) → is_whole key takings ≡ b → false ≡ is_whole key takings
    by false e = sym e
    by true e = absurd (let a : is_covered key takings 0 ≡ true = whole-each key takings e 0 (omega arith) in let b : false ≡ is_covered key takings 0 = f 0 in cc)

-- ---- a range more

then-eq : (a b : Ordering) → is_eq (ordering_then a b) ≡ (is_eq a && is_eq b)
then-eq Less b = refl
then-eq Equal b = refl
then-eq Greater b = refl

or-false : (a b : Bool) → b ≡ false → (b || a) ≡ a
or-false a true e = absurd (cc)
or-false a false e = refl

or-swap : (a b : Bool) → (a || b) ≡ (b || a)
or-swap true true = refl
or-swap true false = refl
or-swap false true = refl
or-swap false false = refl

-- one moment is another exactly where a range that is taken at the one is at the other
then-both : (a b : Ordering) (x y : Bool) → is_eq a ≡ x → is_eq b ≡ y → is_eq (ordering_then a b) ≡ (x && y)
then-both a b x y e f = then-eq a b ∙ ap (λ (t : Bool). t && is_eq b) e ∙ ap (λ (t : Bool). x && t) f

eight : (a b c d e f g h : Bool) → (a && (b && (c && (d && (e && (f && (g && h))))))) ≡ (a && b && c && d && e && f && g && h)
eight false b c d e f g h = refl
eight true false c d e f g h = refl
eight true true false d e f g h = refl
eight true true true false e f g h = refl
eight true true true true false f g h = refl
eight true true true true true false g h = refl
eight true true true true true true false h = refl
eight true true true true true true true h = refl

number-tie : (m n : ℕ) → is_eq (nat_cmp m n) ≡ (m == n)
number-tie m n = sym (unsigned_ties m n)

level-tie : (a b : Level) → is_eq ((level_ord.ghosts).cmp a b) ≡ same_level a b
level-tie level.One level.One = refl
level-tie level.One level.Two = refl
level-tie level.Two level.One = refl
level-tie level.Two level.Two = refl

tie : (key other : SweepKey) (first last : ℕ) → is_eq (order key other) ≡ is_at other (taking_at key first last)
tie key other first last =
    then-both _ _ _ _ (number-tie key.link other.link)
    (then-both _ _ _ _ (level-tie key.level other.level)
    (then-both _ _ _ _ (number-tie key.member other.member)
    (then-both _ _ _ _ (number-tie key.sender other.sender)
    (then-both _ _ _ _ (number-tie key.boot other.boot)
    (then-both _ _ _ _ (number-tie key.changes other.changes)
    (then-both _ _ _ _ (number-tie key.sent_boot other.sent_boot) (number-tie key.sent_changes other.sent_changes)))))))
    ∙ eight (key.link == other.link) (same_level key.level other.level) (key.member == other.member) (key.sender == other.sender)
    (key.boot == other.boot) (key.changes == other.changes) (key.sent_boot == other.sent_boot) (key.sent_changes == other.sent_changes)

level-same : (a b : Level) → same_level a b ≡ true → a ≡ b
level-same level.One level.One e = refl
level-same level.One level.Two e = absurd (cc)
level-same level.Two level.One e = absurd (cc)
level-same level.Two level.Two e = refl

number-same : (m n : ℕ) → (m == n) ≡ true → m ≡ n
number-same m n e = grind (arith, nat_tests, e)

key-same : (key other : SweepKey) → is_eq (order key other) ≡ true → key ≡ other
key-same key other e =
    let a = both-true (key.link == other.link && same_level key.level other.level && key.member == other.member && key.sender == other.sender && key.boot == other.boot && key.changes == other.changes && key.sent_boot == other.sent_boot) (key.sent_changes == other.sent_changes) (sym (tie key other 0 0) ∙ e) in
    let b = both-true (key.link == other.link && same_level key.level other.level && key.member == other.member && key.sender == other.sender && key.boot == other.boot && key.changes == other.changes) (key.sent_boot == other.sent_boot) a.0 in
    let c = both-true (key.link == other.link && same_level key.level other.level && key.member == other.member && key.sender == other.sender && key.boot == other.boot) (key.changes == other.changes) b.0 in
    let d = both-true (key.link == other.link && same_level key.level other.level && key.member == other.member && key.sender == other.sender) (key.boot == other.boot) c.0 in
    let f = both-true (key.link == other.link && same_level key.level other.level && key.member == other.member) (key.sender == other.sender) d.0 in
    let g = both-true (key.link == other.link && same_level key.level other.level) (key.member == other.member) f.0 in
    let h = both-true (key.link == other.link) (same_level key.level other.level) g.0 in
    λ i. record {
      link = number-same key.link other.link h.0 i;
      level = level-same key.level other.level h.1 i;
      member = number-same key.member other.member g.1 i;
      sender = number-same key.sender other.sender f.1 i;
      boot = number-same key.boot other.boot d.1 i;
      changes = number-same key.changes other.changes c.1 i;
      sent_boot = number-same key.sent_boot other.sent_boot b.1 i;
      sent_changes = number-same key.sent_changes other.sent_changes a.1 i;
    }

-- what is kept after a range more of a moment
pub kept-more : (streaks later : BTreeMap SweepKey Streak) (key : SweepKey) (first last : ℕ) (s : Streak) (old : List (ℕ × ℕ)) (takings : List Taking) → IsKept streaks takings
    → ((id : ℕ) → covers_in (tree.get order streaks key) id ≡ covers old id) → HasMore old s.sweep.ranges first last → IsTold s
    → ((q : SweepKey) → tree.get order later q ≡ cond (is_eq (order key q)) (Some s) (tree.get order streaks q)) → IsKept later (taking_at key first last ∷ takings)
kept-more streaks later key first last s old takings kept before more told updates = record {
  covered = λ q id. ap (λ (o : Option Streak). covers_in o id) (updates q) ∙ at q id (is_eq (order key q)) refl;
  told = λ q. subst (λ (o : Option Streak). IfSome o IsTold) (sym (updates q)) (told-at q (is_eq (order key q)));
}
  where
    told-at : (q : SweepKey) (b : Bool) → IfSome (cond b (Some s) (tree.get order streaks q)) IsTold
    told-at q true = told
    told-at q false = kept.told q

    -- the same moment has the same ranges before
    same : (q : SweepKey) (id : ℕ) → is_eq (order key q) ≡ true → covers_in (tree.get order streaks q) id ≡ covers old id
    same q id e = subst (λ (k : SweepKey). covers_in (tree.get order streaks k) id ≡ covers old id) (key-same key q e) (before id)

    at : (q : SweepKey) (id : ℕ) (b : Bool) → is_eq (order key q) ≡ b
        → covers_in (cond b (Some s) (tree.get order streaks q)) id ≡ ((is_at q (taking_at key first last) && in_range first last id) || is_covered q takings id)
    at q id true e =
        more id ∙ ap (λ (t : Bool). t || in_range first last id) (sym (same q id e) ∙ kept.covered q id) ∙ or-swap (is_covered q takings id) (in_range first last id)
        ∙ ap (λ (t : Bool). (t && in_range first last id) || is_covered q takings id) (sym e ∙ tie key q first last)
    at q id false e =
        kept.covered q id ∙ ap (λ (t : Bool). (t && in_range first last id) || is_covered q takings id) (sym e ∙ tie key q first last)

-- what is kept where the same is written again
pub kept-again : (streaks later : BTreeMap SweepKey Streak) (key : SweepKey) (s : Streak) (takings : List Taking) → IsKept streaks takings → tree.get order streaks key ≡ Some s
    → ((q : SweepKey) → tree.get order later q ≡ cond (is_eq (order key q)) (Some s) (tree.get order streaks q)) → IsKept later takings
kept-again streaks later key s takings kept here updates = record {
  covered = λ q id. ap (λ (o : Option Streak). covers_in o id) (same q) ∙ kept.covered q id;
  told = λ q. subst (λ (o : Option Streak). IfSome o IsTold) (sym (same q)) (kept.told q);
}
  where
    at : (q : SweepKey) (b : Bool) → is_eq (order key q) ≡ b → cond b (Some s) (tree.get order streaks q) ≡ tree.get order streaks q
    at q true e = sym (subst (λ (k : SweepKey). tree.get order streaks k ≡ Some s) (key-same key q e) here)
    at q false e = refl

    same : (q : SweepKey) → tree.get order later q ≡ tree.get order streaks q
    same q = updates q ∙ at q (is_eq (order key q)) refl

-- ---- the list

pub taken-end : (taken : List Taken) (t : Taken) (takings : List Taking) → taken_after (taken ++ t ∷ []) takings ≡ taking_at t.key (lsp_number t.first) (lsp_number t.last) ∷ taken_after taken takings
taken-end [] t takings = refl
taken-end (x ∷ taken) t takings = taken-end taken t (taking_at x.key (lsp_number x.first) (lsp_number x.last) ∷ takings)
