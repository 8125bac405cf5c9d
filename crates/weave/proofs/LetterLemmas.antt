-- Letters of a list of wires that grows.
use Rattle.std.proofs.Common.{◌≡◌, ℕ, zero, suc, ◌+◌, ◌-◌, ◌<◌, ◌&&◌, Bool, true, false, cond, List, [], ◌∷◌, ◌++◌, length, map, take, slice_get, is_some, Option, Some, None, Result, Ok, Err, OnOk, OnErr, IfSome, refl, sym, ap, ◌∙◌, subst, arith}
use Rattle.std.specs.List.{position_from}
use Rattle.std.specs.Str.{bytes_eq}
use Rattle.std.proofs.lemmas.Bool.{eq-eqb}
use Rattle.std.proofs.lemmas.Slice.Eq.{bytes_eq-Decides}
use Rattle.weave_core.specs.Codes.{is_wire, wire_place, or_else, code_of, with_wire}
use Rattle.model_router.specs.Places.{nth}
use Rattle.weave_model.specs.Entries.{Deed, Second, Take, Pull, Metric, Overload, Prefix, Entry}
use Rattle.weave_replay.specs.declared.journal.WovenJournal.{WovenJournal}
use Rattle.weave_replay.specs.Entries.{entries_of}
use Rattle.weave.specs.Coded.{HasLetter, IsLettered, AreLettered, AreLetteredAll, AreKept}

-- what is found is found in a longer list
found-longer : {X : Type 0} → (t : X → Bool) (i : ℕ) (xs ys : List X) → is_some (position_from t i xs) ≡ true → is_some (position_from t i (xs ++ ys)) ≡ true
found-longer t i [] ys e = absurd (cc)
found-longer t i (x ∷ xs) ys e = by (t x) e (found-longer t (i + 1) xs ys)
  where
    by : (b : Bool) → is_some (cond b (Some i) (position_from t (i + 1) xs)) ≡ true → (is_some (position_from t (i + 1) xs) ≡ true → is_some (position_from t (i + 1) (xs ++ ys)) ≡ true) → is_some (cond b (Some i) (position_from t (i + 1) (xs ++ ys))) ≡ true
    by true e more = refl
    by false e more = more e

found-last : {X : Type 0} → (t : X → Bool) (i : ℕ) (xs : List X) (x : X) → t x ≡ true → is_some (position_from t i (xs ++ x ∷ [])) ≡ true
found-last t i [] x e = ap (λ (b : Bool). is_some (cond b (Some i) None)) e
found-last t i (y ∷ xs) x e = by (t y) (found-last t (i + 1) xs x e)
  where
    by : (b : Bool) → is_some (position_from t (i + 1) (xs ++ x ∷ [])) ≡ true → is_some (cond b (Some i) (position_from t (i + 1) (xs ++ x ∷ []))) ≡ true
    by true h = refl
    by false h = h

found-within : {X : Type 0} → (t : X → Bool) (i n : ℕ) (xs : List X) → is_some (position_from t i xs) ≡ true → or_else n (position_from t i xs) < i + length xs
found-within t i n [] e = absurd (cc)
found-within t i n (x ∷ xs) e = by (t x) e (found-within t (i + 1) n xs)
  where
    by : (b : Bool) → is_some (cond b (Some i) (position_from t (i + 1) xs)) ≡ true → (is_some (position_from t (i + 1) xs) ≡ true → or_else n (position_from t (i + 1) xs) < i + 1 + length xs) → or_else n (cond b (Some i) (position_from t (i + 1) xs)) < i + suc (length xs)
    by true e more = omega arith
    by false e more = let h = more e in omega (arith, h)

wire-itself : (link : ℕ) (octets : List ℕ) → is_wire link octets (link, octets) ≡ true
wire-itself link octets =
    ap (λ (b : Bool). b && bytes_eq octets octets) (eq-eqb link link refl) ∙ (bytes_eq-Decides octets octets).1 refl

-- a letter's number is below the count
pub letter-below : (wires : List (ℕ × List ℕ)) (link : ℕ) (octets : List ℕ) → HasLetter wires link octets → code_of wires link octets < length wires
letter-below wires link octets e = let h = found-within (is_wire link octets) 0 (length wires) wires e in omega (arith, h)

pub kept-by : (wires : List (ℕ × List ℕ)) (link : ℕ) (octets : List ℕ) → AreKept wires (with_wire wires link octets)
kept-by wires link octets other x e = by (is_some (wire_place wires link octets))
  where
    by : (b : Bool) → HasLetter (cond b wires (wires ++ (link, octets) ∷ [])) other x
    by true = e
    by false = found-longer (is_wire other x) 0 wires ((link, octets) ∷ []) e

pub lettered-by : (wires : List (ℕ × List ℕ)) (link : ℕ) (octets : List ℕ) → HasLetter (with_wire wires link octets) link octets
lettered-by wires link octets = by (is_some (wire_place wires link octets)) refl
  where
    by : (b : Bool) → is_some (wire_place wires link octets) ≡ b → HasLetter (cond b wires (wires ++ (link, octets) ∷ [])) link octets
    by true e = e
    by false e = found-last (is_wire link octets) 0 wires (link, octets) (wire-itself link octets)

-- ---- what is lettered stays so

pub kept-on : (a b c : List (ℕ × List ℕ)) → AreKept a b → AreKept b c → AreKept a c
kept-on a b c f g link octets e = g link octets (f link octets e)

pub kept-either : {T E : Type 0} → (result : Result T E) (old new : List (ℕ × List ℕ)) (link : ℕ) (octets : List ℕ) → OnOk result (new ≡ with_wire old link octets) → OnErr result (new ≡ old) → AreKept old new
kept-either (Ok x) old new link octets ok err other y e = subst (λ (ws : List (ℕ × List ℕ)). HasLetter ws other y) (sym ok) (kept-by old link octets other y e)
kept-either (Err x) old new link octets ok err other y e = subst (λ (ws : List (ℕ × List ℕ)). HasLetter ws other y) (sym err) e

pub lettered-kept : (old new : List (ℕ × List ℕ)) (ports : List ℕ) (deed : Deed) → AreKept old new → IsLettered old ports deed → IsLettered new ports deed
lettered-kept old new ports Second kept h = tt
lettered-kept old new ports (Take circuit octets) kept h = by (nth ports (circuit - 1)) h
  where
    by : (o : Option ℕ) → IfSome o (λ (l : ℕ). HasLetter old l octets) → IfSome o (λ (l : ℕ). HasLetter new l octets)
    by None h = tt
    by (Some link) h = kept link octets h
lettered-kept old new ports (Pull circuit) kept h = tt
lettered-kept old new ports (Metric circuit metric) kept h = tt
lettered-kept old new ports (Overload on) kept h = tt
lettered-kept old new ports (Prefix prefix metric) kept h = tt

pub all-lettered-kept : (old new : List (ℕ × List ℕ)) (ports : List ℕ) (es : List Entry) → AreKept old new → AreLettered old ports es → AreLettered new ports es
all-lettered-kept old new ports [] kept all = tt
all-lettered-kept old new ports (e ∷ es) kept all = (lettered-kept old new ports e.deed kept all.0, all-lettered-kept old new ports es kept all.1)

pub lettered-more : (wires : List (ℕ × List ℕ)) (ports : List ℕ) (es : List Entry) (e : Entry) → AreLettered wires ports es → IsLettered wires ports e.deed → AreLettered wires ports (es ++ e ∷ [])
lettered-more wires ports [] e all one = (one, tt)
lettered-more wires ports (x ∷ es) e all one = (all.0, lettered-more wires ports es e all.1 one)

pub journals-kept : (old new : List (ℕ × List ℕ)) (rows : List (List ℕ)) (js : List WovenJournal) → AreKept old new → AreLetteredAll old rows js → AreLetteredAll new rows js
journals-kept old new rows [] kept all = tt
journals-kept old new rows (j ∷ js) kept all = (by (nth rows j.router) all.0, journals-kept old new rows js kept all.1)
  where
    by : (o : Option (List ℕ)) → IfSome o (λ (ports : List ℕ). AreLettered old ports (entries_of j)) → IfSome o (λ (ports : List ℕ). AreLettered new ports (entries_of j))
    by None h = tt
    by (Some ports) h = all-lettered-kept old new ports (entries_of j) kept h

-- ---- letters of datagrams

pub letters-more : (f : List ℕ → ℕ) (ds : List (List ℕ)) (i letter : ℕ) → i < length ds → IfSome (slice_get ds i) (λ (octets : List ℕ). letter ≡ f octets) → map f (take i ds) ++ letter ∷ [] ≡ map f (take (i + 1) ds)
letters-more f ds i letter within e = let n : suc i ≡ i + 1 = omega arith in subst (λ (k : ℕ). map f (take i ds) ++ letter ∷ [] ≡ map f (take k ds)) n (by ds i within e)
  where
    by : (ds : List (List ℕ)) (i : ℕ) → i < length ds → IfSome (slice_get ds i) (λ (octets : List ℕ). letter ≡ f octets) → map f (take i ds) ++ letter ∷ [] ≡ map f (take (suc i) ds)
    by [] i within e = absurd (omega (arith, within))
    by (d ∷ ds) zero within e = ap (λ (l : ℕ). l ∷ []) e
    by (d ∷ ds) (suc i) within e = ap (λ (ls : List ℕ). f d ∷ ls) (by ds i (omega (arith, within)) e)
