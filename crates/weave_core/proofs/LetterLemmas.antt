-- Letters' numbers tell links and octets.
use Rattle.std.proofs.Common.{◌≡◌, ◌≢◌, ℕ, suc, ◌+◌, ◌<◌, ◌≤◌, ◌==◌, ◌&&◌, ◌⊎◌, inl, inr, Bool, true, false, cond, List, [], ◌∷◌, ◌++◌, map, length, is_some, Option, Some, None, refl, sym, ap, ◌∙◌, subst, arith}
use Rattle.std.specs.List.{position_from}
use Rattle.std.specs.Str.{bytes_eq}
use Rattle.std.specs.Borrow.{Bor}
use Rattle.std.proofs.lemmas.Bool.Decides.{eqb_tells}
use Rattle.std.proofs.lemmas.Slice.Eq.{bytes_eq-Decides}
use Rattle.weave_core.specs.Index.{lent}
use Rattle.weave_core.specs.Codes.{is_wire, wire_place, or_else, code_of, IsCode}

both-true : (a b : Bool) → (a && b) ≡ true → (a ≡ true) × (b ≡ true)
both-true true b e = (refl, e)
both-true false b e = absurd (cc)

wire-tells : (link : ℕ) (x : List ℕ) (w : ℕ × List ℕ) → is_wire link x w ≡ true → (link ≡ w.0) × (x ≡ w.1)
wire-tells link x w e = (by (eqb_tells w.0 link), sym ((bytes_eq-Decides w.1 x).0 (both-true (w.0 == link) (bytes_eq w.1 x) e).1))
  where
    by : (((w.0 == link) ≡ true) × (w.0 ≡ link)) ⊎ (((w.0 == link) ≡ false) × (w.0 ≢ link)) → link ≡ w.0
    by (inl h) = sym h.1
    by (inr h) = absurd (contra (sym h.0 ∙ (both-true (w.0 == link) (bytes_eq w.1 x) e).0))
      where
        contra : false ≡ true → ⊥
        contra c = cc

some-number : (a b : ℕ) → Some a ≡ Some b → a ≡ b
some-number a b e = ap (λ (o : Option ℕ). or_else a o) e

-- a place isn't before where the search began
from-on : {X : Type 0} → (t : X → Bool) (i : ℕ) (xs : List X) (p : ℕ) → position_from t i xs ≡ Some p → i ≤ p
from-on t i [] p e = absurd (cc)
from-on t i (x ∷ xs) p e = by (t x) e (λ h. from-on t (i + 1) xs p h)
  where
    by : (b : Bool) → cond b (Some i) (position_from t (i + 1) xs) ≡ Some p → (position_from t (i + 1) xs ≡ Some p → i + 1 ≤ p) → i ≤ p
    by true e h = omega (arith, some-number i p e)
    by false e h = omega (arith, h e)

-- it is below where the search ends
from-within : {X : Type 0} → (t : X → Bool) (i : ℕ) (xs : List X) (p : ℕ) → position_from t i xs ≡ Some p → p < i + length xs
from-within t i [] p e = absurd (cc)
from-within t i (x ∷ xs) p e = by (t x) e (λ h. from-within t (i + 1) xs p h)
  where
    by : (b : Bool) → cond b (Some i) (position_from t (i + 1) xs) ≡ Some p → (position_from t (i + 1) xs ≡ Some p → p < i + 1 + length xs) → p < i + suc (length xs)
    by true e h = omega (arith, some-number i p e)
    by false e h = omega (arith, h e)

place-tells : (i : ℕ) (wires : List (ℕ × List ℕ)) (link other : ℕ) (x y : List ℕ) (p : ℕ) → position_from (is_wire link x) i wires ≡ Some p → position_from (is_wire other y) i wires ≡ Some p → (link ≡ other) × (x ≡ y)
place-tells i [] link other x y p e f = absurd (cc)
place-tells i (w ∷ wires) link other x y p e f =
    by (is_wire link x w) (is_wire other y w) refl refl e f (λ g h. place-tells (i + 1) wires link other x y p g h)
  where
    by : (a b : Bool) → is_wire link x w ≡ a → is_wire other y w ≡ b → cond a (Some i) (position_from (is_wire link x) (i + 1) wires) ≡ Some p → cond b (Some i) (position_from (is_wire other y) (i + 1) wires) ≡ Some p → (position_from (is_wire link x) (i + 1) wires ≡ Some p → position_from (is_wire other y) (i + 1) wires ≡ Some p → (link ≡ other) × (x ≡ y)) → (link ≡ other) × (x ≡ y)
    by true true g h e f more =
        let one = wire-tells link x w g in
        let two = wire-tells other y w h in
        (one.0 ∙ sym two.0, one.1 ∙ sym two.1)
    by true false g h e f more = absurd (omega (arith, some-number i p e, from-on (is_wire other y) (i + 1) wires p f))
    by false true g h e f more = absurd (omega (arith, some-number i p f, from-on (is_wire link x) (i + 1) wires p e))
    by false false g h e f more = more e f

code-tells : (wires : List (ℕ × List ℕ)) (link other : ℕ) (x y : List ℕ) → code_of wires link x < length wires → code_of wires link x ≡ code_of wires other y → (link ≡ other) × (x ≡ y)
code-tells wires link other x y below same = by (wire_place wires link x) (wire_place wires other y) refl refl below same
  where
    by : (a b : Option ℕ) → wire_place wires link x ≡ a → wire_place wires other y ≡ b → or_else (length wires) a < length wires → or_else (length wires) a ≡ or_else (length wires) b → (link ≡ other) × (x ≡ y)
    by None b e f below same = absurd (omega (arith, below))
    by (Some p) None e f below same = absurd (omega (arith, below, same))
    by (Some p) (Some q) e f below same = place-tells 0 wires link other x y p e (f ∙ ap Some (sym same))

pub code-law : (wires : List (ℕ × List ℕ)) → IsCode (code_of wires) (length wires)
code-law wires = record { tells = λ link other x y below same. code-tells wires link other x y below same }

-- ---- one more

passed : {X : Type 0} → (t : X → Bool) (i : ℕ) (xs : List X) (x : X) → t x ≡ false → position_from t i (xs ++ x ∷ []) ≡ position_from t i xs
passed t i [] x e = ap (λ (b : Bool). cond b (Some i) None) e
passed t i (y ∷ xs) x e = ap (λ (o : Option ℕ). cond (t y) (Some i) o) (passed t (i + 1) xs x e)

cond-is_none : (b : Bool) (i : ℕ) (o : Option ℕ) → cond b (Some i) o ≡ None → (b ≡ false) × (o ≡ None)
cond-is_none true i o e = cc
cond-is_none false i o e = (refl, e)

taken : {X : Type 0} → (t : X → Bool) (i : ℕ) (xs : List X) (x : X) → position_from t i xs ≡ None → t x ≡ true → position_from t i (xs ++ x ∷ []) ≡ Some (i + length xs)
taken t i [] x none e = ap (λ (b : Bool). cond b (Some i) None) e ∙ ap Some (omega arith)
taken t i (y ∷ xs) x none e =
    let before = cond-is_none (t y) i (position_from t (i + 1) xs) none in
    ap (λ (b : Bool). cond b (Some i) (position_from t (i + 1) (xs ++ x ∷ []))) before.0 ∙ taken t (i + 1) xs x before.1 e ∙ ap Some (omega arith)

-- a new one is found at the end, all others as before
pub place-push : (wires : List (ℕ × List ℕ)) (link other : ℕ) (x y : List ℕ) → wire_place wires other y ≡ None → wire_place (wires ++ (other, y) ∷ []) link x ≡ cond (is_wire link x (other, y)) (Some (length wires)) (wire_place wires link x)
place-push wires link other x y none = by (is_wire link x (other, y)) refl
  where
    by : (b : Bool) → is_wire link x (other, y) ≡ b → wire_place (wires ++ (other, y) ∷ []) link x ≡ cond b (Some (length wires)) (wire_place wires link x)
    by true e =
        let same = wire-tells link x (other, y) e in
        taken (is_wire link x) 0 wires (other, y)
        (subst (λ (l : ℕ). position_from (is_wire l x) 0 wires ≡ None) (sym same.0) (subst (λ (o : List ℕ). position_from (is_wire other o) 0 wires ≡ None) (sym same.1) none)) e
        ∙ ap Some (omega arith)
    by false e = passed (is_wire link x) 0 wires (other, y) e

pub wires-push : (wires : List (ℕ × Bor (List ℕ))) (wire : ℕ × Bor (List ℕ)) → map lent (wires ++ wire ∷ []) ≡ map lent wires ++ lent wire ∷ []
wires-push [] wire = refl
wires-push (w ∷ wires) wire = ap (λ (xs : List (ℕ × List ℕ)). lent w ∷ xs) (wires-push wires wire)

pub length-wires : (wires : List (ℕ × Bor (List ℕ))) → length (map lent wires) ≡ length wires
length-wires [] = refl
length-wires (w ∷ wires) = ap suc (length-wires wires)

pub not-some : {X : Type 0} → (o : Option X) → false ≡ is_some o → o ≡ None
not-some None e = refl
not-some (Some x) e = absurd (cc)
