-- Labels of routers: chains, and one pair more.
use Rattle.std.proofs.Common.{◌≡◌, ℕ, ◌<◌, ◌≤◌, ◌⊎◌, ⊎_elim, inl, inr, Bool, true, false, List, [], ◌∷◌, ◌++◌, length, max, min, slice_get, slice_index, Option, Some, None, refl, sym, ap, ◌∙◌, subst, arith}
use Rattle.std.proofs.lemmas.Bool.{cases_eq, cases_lt, false≢true}
use Rattle.std.proofs.lemmas.Bool.Decides.{nat_tests}
use Rattle.std.proofs.lemmas.Option.{slice_get_within}
use Rattle.std.proofs.lemmas.List.{length-map, get_or-map}
use Rattle.lab_facts.specs.Joined.{In, TakesPart, AreJoined, IsChain, Leads}
use Rattle.lab_facts.specs.Parents.{AreOwn, HaveRoots, AreLabels, AreRooted, replaced, merged}
use Rattle.lab_facts.specs.Tags.{is_on}
use Rattle.lab_facts.proofs.ParentLemmas.{replaced-old, replaced-other}

-- ---- lists

pub in-left : {X : Type 0} (x : X) (xs ys : List X) → In x xs → In x (xs ++ ys)
in-left x [] ys h = absurd h
in-left x (y ∷ xs) ys h = ⊎_elim (λ (e : x ≡ y). inl e) (λ (i : In x xs). inr (in-left x xs ys i)) h

pub in-right : {X : Type 0} (x : X) (xs ys : List X) → In x ys → In x (xs ++ ys)
in-right x [] ys h = h
in-right x (y ∷ xs) ys h = inr (in-right x xs ys h)

pub in-either : {X : Type 0} (x : X) (xs ys : List X) → In x (xs ++ ys) → In x xs ⊎ In x ys
in-either x [] ys h = inr h
in-either x (y ∷ xs) ys h = ⊎_elim (λ (e : x ≡ y). inl (inl e)) (λ (i : In x (xs ++ ys)). ⊎_elim (λ (j : In x xs). inl (inr j)) (λ (j : In x ys). inr j) (in-either x xs ys i)) h

pub in-last : {X : Type 0} (x y : X) (xs : List X) → In x (xs ++ y ∷ []) → In x xs ⊎ (x ≡ y)
in-last x y xs h = ⊎_elim (λ (i : In x xs). inl i) (λ (i : In x (y ∷ [])). ⊎_elim (λ (e : x ≡ y). inr e) (λ (no : ⊥). absurd no) i) (in-either x xs (y ∷ []) h)

-- ---- chains

pub joined-back : (runs : List Bool) (ps : List (ℕ × ℕ)) (a b : ℕ) → AreJoined runs ps a b → AreJoined runs ps b a
joined-back runs ps a b j = record {
  near = j.far;
  far = j.near;
  pair = ⊎_elim (λ (i : In (a, b) ps). inr i) (λ (i : In (b, a) ps). inl i) j.pair;
}

chain-on : (runs : List Bool) (ps : List (ℕ × ℕ)) (a : ℕ) (over : List ℕ) (b : ℕ) (more : List ℕ) (c : ℕ) → IsChain runs ps a over b → IsChain runs ps b more c → Leads runs ps a c
chain-on runs ps a [] b more c h g = (more, subst (λ (x : ℕ). IsChain runs ps x more c) (sym h) g)
chain-on runs ps a (next ∷ over) b more c h g = let rest = chain-on runs ps next over b more c h.1 g in (next ∷ rest.0, (h.0, rest.1))

pub leads-on : (runs : List Bool) (ps : List (ℕ × ℕ)) (a b c : ℕ) → Leads runs ps a b → Leads runs ps b c → Leads runs ps a c
leads-on runs ps a b c h g = chain-on runs ps a h.0 b g.0 c h.1 g.1

pub leads-here : (runs : List Bool) (ps : List (ℕ × ℕ)) (a : ℕ) → Leads runs ps a a
leads-here runs ps a = ([], refl)

pub leads-one : (runs : List Bool) (ps : List (ℕ × ℕ)) (a b : ℕ) → AreJoined runs ps a b → Leads runs ps a b
leads-one runs ps a b j = (b ∷ [], (j, refl))

chain-back : (runs : List Bool) (ps : List (ℕ × ℕ)) (a : ℕ) (over : List ℕ) (b : ℕ) → IsChain runs ps a over b → Leads runs ps b a
chain-back runs ps a [] b h = ([], sym h)
chain-back runs ps a (next ∷ over) b h = leads-on runs ps b next a (chain-back runs ps next over b h.1) (leads-one runs ps next a (joined-back runs ps a next h.0))

pub leads-back : (runs : List Bool) (ps : List (ℕ × ℕ)) (a b : ℕ) → Leads runs ps a b → Leads runs ps b a
leads-back runs ps a b h = chain-back runs ps a h.0 b h.1

pub joined-more : (runs : List Bool) (ps : List (ℕ × ℕ)) (p : ℕ × ℕ) (a b : ℕ) → AreJoined runs ps a b → AreJoined runs (ps ++ p ∷ []) a b
joined-more runs ps p a b j = record {
  near = j.near;
  far = j.far;
  pair = ⊎_elim (λ (i : In (a, b) ps). inl (in-left (a, b) ps (p ∷ []) i)) (λ (i : In (b, a) ps). inr (in-left (b, a) ps (p ∷ []) i)) j.pair;
}

chain-more : (runs : List Bool) (ps : List (ℕ × ℕ)) (p : ℕ × ℕ) (a : ℕ) (over : List ℕ) (b : ℕ) → IsChain runs ps a over b → IsChain runs (ps ++ p ∷ []) a over b
chain-more runs ps p a [] b h = h
chain-more runs ps p a (next ∷ over) b h = (joined-more runs ps p a next h.0, chain-more runs ps p next over b h.1)

pub leads-more : (runs : List Bool) (ps : List (ℕ × ℕ)) (p : ℕ × ℕ) (a b : ℕ) → Leads runs ps a b → Leads runs (ps ++ p ∷ []) a b
leads-more runs ps p a b h = (h.0, chain-more runs ps p a h.0 b h.1)

-- a chain from a router that takes part ends at one
chain-part : (runs : List Bool) (ps : List (ℕ × ℕ)) (a : ℕ) (over : List ℕ) (b : ℕ) → IsChain runs ps a over b → TakesPart runs a → TakesPart runs b
chain-part runs ps a [] b h t = subst (λ (x : ℕ). TakesPart runs x) h t
chain-part runs ps a (next ∷ over) b h t = chain-part runs ps next over b h.1 h.0.far

pub leads-part : (runs : List Bool) (ps : List (ℕ × ℕ)) (a b : ℕ) → Leads runs ps a b → TakesPart runs a → TakesPart runs b
leads-part runs ps a b h t = chain-part runs ps a h.0 b h.1 t

-- ---- labels

chain-same : (runs : List Bool) (ps : List (ℕ × ℕ)) (labels : List ℕ) (a : ℕ) (over : List ℕ) (b : ℕ) → AreLabels runs ps labels → IsChain runs ps a over b → slice_index labels a ≡ slice_index labels b
chain-same runs ps labels a [] b l h = ap (slice_index labels) h
chain-same runs ps labels a (next ∷ over) b l h = l.same a next h.0 ∙ chain-same runs ps labels next over b l h.1

-- a chain keeps the label
pub leads-same : (runs : List Bool) (ps : List (ℕ × ℕ)) (labels : List ℕ) (a b : ℕ) → AreLabels runs ps labels → Leads runs ps a b → slice_index labels a ≡ slice_index labels b
leads-same runs ps labels a b l h = chain-same runs ps labels a h.0 b l h.1

-- whoever takes part is there
pub part-within : (runs : List Bool) (r : ℕ) → TakesPart runs r → r < length runs
part-within runs r t = slice_get_within runs r true t

replaced-first : (a b : ℕ) → replaced (max a b) (min a b) a ≡ min a b
replaced-first a b = grind (arith, nat_tests)

replaced-second : (a b : ℕ) → replaced (max a b) (min a b) b ≡ min a b
replaced-second a b = grind (arith, nat_tests)

replaced-le : (a b r : ℕ) → replaced (max a b) (min a b) r ≤ r
replaced-le a b r = grind (arith, nat_tests)

-- a label that is replaced is led to
leads-replaced : (runs : List Bool) (ps : List (ℕ × ℕ)) (a b r x : ℕ) → Leads runs ps a b → Leads runs ps r x → Leads runs ps r (replaced (max a b) (min a b) x)
leads-replaced runs ps a b r x ab rx =
    ⊎_elim
    (λ (e : x ≡ max a b). subst (λ (z : ℕ). Leads runs ps r z) (sym (ap (replaced (max a b) (min a b)) e ∙ replaced-old (max a b) (min a b))) (leads-on runs ps r x (min a b) rx (subst (λ (z : ℕ). Leads runs ps z (min a b)) (sym e) down)))
    (λ (ne : x ≡ max a b → ⊥). subst (λ (z : ℕ). Leads runs ps r z) (sym (replaced-other (max a b) (min a b) x ne)) rx)
    (cases_eq x (max a b))
  where
    first : (hi lo : ℕ) → hi ≡ a → lo ≡ b → Leads runs ps hi lo
    first hi lo e f = subst (λ (z : ℕ). Leads runs ps z lo) (sym e) (subst (λ (z : ℕ). Leads runs ps a z) (sym f) ab)

    second : (hi lo : ℕ) → hi ≡ b → lo ≡ a → Leads runs ps hi lo
    second hi lo e f = subst (λ (z : ℕ). Leads runs ps z lo) (sym e) (subst (λ (z : ℕ). Leads runs ps b z) (sym f) (leads-back runs ps a b ab))

    down : Leads runs ps (max a b) (min a b)
    down = ⊎_elim (λ (l : a < b). second (max a b) (min a b) (omega (arith, l)) (omega (arith, l))) (λ (l : b ≤ a). first (max a b) (min a b) (omega (arith, l)) (omega (arith, l))) (cases_lt a b)

-- one pair more, of two routers that take part
pub labels-merge : (runs : List Bool) (ps : List (ℕ × ℕ)) (p : ℕ × ℕ) (labels : List ℕ) → AreLabels runs ps labels → TakesPart runs p.0 → TakesPart runs p.1 → AreLabels runs (ps ++ p ∷ []) (merged labels p.0 p.1)
labels-merge runs ps p labels l near far = record {
  size = length-map labels (replaced (max a b) (min a b)) ∙ l.size;
  below = λ r h. subst (λ (z : ℕ). z ≤ r) (sym (new r h)) (omega (arith, replaced-le a b (slice_index labels r), l.below r h));
  leads = λ r h. subst (λ (z : ℕ). Leads runs (ps ++ p ∷ []) r z) (sym (new r h)) (leads-replaced runs (ps ++ p ∷ []) a b r (slice_index labels r) across (leads-more runs ps p r (slice_index labels r) (l.leads r h)));
  same = λ x y j. new x (part-within runs x j.near) ∙ (one x y j ∙ sym (new y (part-within runs y j.far)));
}
  where
    a : ℕ
    a = slice_index labels p.0

    b : ℕ
    b = slice_index labels p.1

    new : (r : ℕ) → r < length runs → slice_index (merged labels p.0 p.1) r ≡ replaced (max a b) (min a b) (slice_index labels r)
    new r h = get_or-map (replaced (max a b) (min a b)) labels r 0 0 (subst (λ (n : ℕ). r < n) (sym l.size) h)

    joined : AreJoined runs (ps ++ p ∷ []) p.0 p.1
    joined = record { near = near; far = far; pair = inl (in-right (p.0, p.1) ps (p ∷ []) (inl refl)) }

    across : Leads runs (ps ++ p ∷ []) a b
    across =
        leads-on runs (ps ++ p ∷ []) a p.0 b
        (leads-back runs (ps ++ p ∷ []) p.0 a (leads-more runs ps p p.0 a (l.leads p.0 (part-within runs p.0 near))))
        (leads-on runs (ps ++ p ∷ []) p.0 p.1 b (leads-one runs (ps ++ p ∷ []) p.0 p.1 joined) (leads-more runs ps p p.1 b (l.leads p.1 (part-within runs p.1 far))))

    ends : (x y : ℕ) → (x, y) ≡ p → replaced (max a b) (min a b) (slice_index labels x) ≡ replaced (max a b) (min a b) (slice_index labels y)
    ends x y e = ap (λ (q : ℕ × ℕ). replaced (max a b) (min a b) (slice_index labels q.0)) e ∙ (replaced-first a b ∙ sym (ap (λ (q : ℕ × ℕ). replaced (max a b) (min a b) (slice_index labels q.1)) e ∙ replaced-second a b))

    kept : (x y : ℕ) → AreJoined runs ps x y → replaced (max a b) (min a b) (slice_index labels x) ≡ replaced (max a b) (min a b) (slice_index labels y)
    kept x y j = ap (replaced (max a b) (min a b)) (l.same x y j)

    one : (x y : ℕ) → AreJoined runs (ps ++ p ∷ []) x y → replaced (max a b) (min a b) (slice_index labels x) ≡ replaced (max a b) (min a b) (slice_index labels y)
    one x y j =
        ⊎_elim
        (λ (i : In (x, y) (ps ++ p ∷ [])). ⊎_elim (λ (o : In (x, y) ps). kept x y (record { near = j.near; far = j.far; pair = inl o })) (ends x y) (in-last (x, y) p ps i))
        (λ (i : In (y, x) (ps ++ p ∷ [])). ⊎_elim (λ (o : In (y, x) ps). kept x y (record { near = j.near; far = j.far; pair = inr o })) (λ (e : (y, x) ≡ p). sym (ends y x e)) (in-last (y, x) p ps i))
        j.pair

-- one pair more, of which one doesn't take part
pub labels-skip : (runs : List Bool) (ps : List (ℕ × ℕ)) (p : ℕ × ℕ) (labels : List ℕ) → AreLabels runs ps labels → (TakesPart runs p.0 → TakesPart runs p.1 → ⊥) → AreLabels runs (ps ++ p ∷ []) labels
labels-skip runs ps p labels l apart = record {
  size = l.size;
  below = l.below;
  leads = λ r h. leads-more runs ps p r (slice_index labels r) (l.leads r h);
  same = λ x y j. ⊎_elim
      (λ (i : In (x, y) (ps ++ p ∷ [])). ⊎_elim (λ (o : In (x, y) ps). l.same x y (record { near = j.near; far = j.far; pair = inl o })) (λ (e : (x, y) ≡ p). absurd (apart (subst (λ (q : ℕ × ℕ). TakesPart runs q.0) e j.near) (subst (λ (q : ℕ × ℕ). TakesPart runs q.1) e j.far))) (in-last (x, y) p ps i))
      (λ (i : In (y, x) (ps ++ p ∷ [])). ⊎_elim (λ (o : In (y, x) ps). l.same x y (record { near = j.near; far = j.far; pair = inr o })) (λ (e : (y, x) ≡ p). absurd (apart (subst (λ (q : ℕ × ℕ). TakesPart runs q.0) e j.far) (subst (λ (q : ℕ × ℕ). TakesPart runs q.1) e j.near))) (in-last (y, x) p ps i))
      j.pair;
}

-- no pair yet
pub labels-none : (runs : List Bool) (labels : List ℕ) → AreOwn labels (length runs) → AreLabels runs [] labels
labels-none runs labels o = record {
  size = o.size;
  below = λ r h. omega (arith, o.own r h);
  leads = λ r h. ([], sym (o.own r h));
  same = λ x y j. absurd (⊎_elim (λ (i : ⊥). i) (λ (i : ⊥). i) j.pair);
}

-- other labels that are the same by place
pub labels-same : (runs : List Bool) (ps : List (ℕ × ℕ)) (labels others : List ℕ) → AreLabels runs ps labels → length others ≡ length runs → ((r : ℕ) → r < length runs → slice_index others r ≡ slice_index labels r) → AreLabels runs ps others
labels-same runs ps labels others l size e = record {
  size = size;
  below = λ r h. subst (λ (z : ℕ). z ≤ r) (sym (e r h)) (l.below r h);
  leads = λ r h. subst (λ (z : ℕ). Leads runs ps r z) (sym (e r h)) (l.leads r h);
  same = λ x y j. e x (part-within runs x j.near) ∙ (l.same x y j ∙ sym (e y (part-within runs y j.far)));
}

-- whether a router takes part, as a test
pub part-from : (runs : List Bool) (r : ℕ) → is_on (slice_get runs r) ≡ true → TakesPart runs r
part-from runs r e = on (slice_get runs r) e
  where
    on : (o : Option Bool) → is_on o ≡ true → o ≡ Some true
    on None e = absurd (false≢true e)
    on (Some b) e = ap Some e

pub part-not : (runs : List Bool) (r : ℕ) → is_on (slice_get runs r) ≡ false → TakesPart runs r → ⊥
part-not runs r e t = false≢true (sym e ∙ ap is_on t)

-- one pair more
pub rooted-merge : (runs : List Bool) (ps : List (ℕ × ℕ)) (near far : ℕ) (parents new : List ℕ) → AreRooted runs ps parents → TakesPart runs near → TakesPart runs far → ((roots : List ℕ) → HaveRoots parents roots (length runs) → HaveRoots new (merged roots near far) (length runs)) → AreRooted runs (ps ++ (near, far) ∷ []) new
rooted-merge runs ps near far parents new r t u f = record {
  roots = merged r.roots near far;
  have = f r.roots r.have;
  labels = labels-merge runs ps (near, far) r.roots r.labels t u;
}

pub rooted-skip : (runs : List Bool) (ps : List (ℕ × ℕ)) (near far : ℕ) (parents : List ℕ) → AreRooted runs ps parents → (TakesPart runs near → TakesPart runs far → ⊥) → AreRooted runs (ps ++ (near, far) ∷ []) parents
rooted-skip runs ps near far parents r apart = record {
  roots = r.roots;
  have = r.have;
  labels = labels-skip runs ps (near, far) r.roots r.labels apart;
}

pub rooted-none : (runs : List Bool) (parents : List ℕ) → AreOwn parents (length runs) → AreRooted runs [] parents
rooted-none runs parents o = record {
  roots = parents;
  have = record { size = o.size; same = λ r h. ap (slice_index parents) (o.own r h); own = λ r h e. e };
  labels = labels-none runs parents o;
}

-- where each router's parent is its root
pub rooted-flat : (runs : List Bool) (ps : List (ℕ × ℕ)) (parents new : List ℕ) → AreRooted runs ps parents → length new ≡ length runs → ((roots : List ℕ) (r : ℕ) → HaveRoots parents roots (length runs) → r < length runs → slice_index new r ≡ slice_index roots r) → AreLabels runs ps new
rooted-flat runs ps parents new r size e = labels-same runs ps r.roots new r.labels size (λ k h. e r.roots k r.have h)
