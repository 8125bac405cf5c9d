-- What holds of each item, and of one at a place.
use Rattle.std.proofs.Common.{◌≡◌, ℕ, zero, suc, ◌+◌, ◌<◌, ◌⊎◌, inl, inr, List, [], ◌∷◌, ◌++◌, length, take, get_or, Option, Some, refl, sym, ap, ◌∙◌, subst, arith}
use Rattle.std.specs.Prelude.{IfSome}
use Rattle.std.specs.List.{AllByRecursion}
use Rattle.model_router.specs.Places.{nth}
use Rattle.weave_replay.specs.declared.journal.WovenJournal.{WovenJournal}
use Rattle.weave_replay.proofs.PlaceLemmas.{some-is, in-more}
use Rattle.std.proofs.lemmas.List.{length-append}
use Rattle.weave_core.specs.declared.moves.Move.{Move as CoreMove}
use Rattle.weave_replay.specs.Replays.{journals_of}
use Rattle.weave.specs.Coded.{AreCoded, AreAllCoded}

pub all-at : {X : Type 0} → (P : X → Type 0) (xs : List X) (i : ℕ) (x : X) → AllByRecursion P xs → nth xs i ≡ Some x → P x
all-at P [] i x all at = absurd (cc)
all-at P (y ∷ xs) zero x all at = subst P (some-is y x at) all.0
all-at P (y ∷ xs) (suc i) x all at = all-at P xs i x all.1 at

pub if-some : {X : Type 0} → (P : X → Type 0) (o : Option X) (x : X) → IfSome o P → o ≡ Some x → P x
if-some P o x h e = subst (λ (a : Option _). IfSome a P) e h

pub some-if : {X : Type 0} → (P : X → Type 0) (o : Option X) (x : X) → P x → o ≡ Some x → IfSome o P
some-if P o x h e = subst (λ (a : Option _). IfSome a P) (sym e) h

-- what holds of each journal by its router's row holds of those of one router
pub of-router : (P : List ℕ → WovenJournal → Type 0) (rows : List (List ℕ)) (ports : List ℕ) (router : ℕ) (js : List WovenJournal) → nth rows router ≡ Some ports → AllByRecursion (λ (j : WovenJournal). IfSome (nth rows j.router) (λ (row : List ℕ). P row j)) js → AllByRecursion (λ (j : WovenJournal). j.router ≡ router → P ports j) js
of-router P rows ports router [] at all = tt
of-router P rows ports router (j ∷ js) at all = (
  λ same. if-some (λ (row : List ℕ). P row j) (nth rows j.router) ports all.0 (ap (nth rows) same ∙ at),
  of-router P rows ports router js at all.1,
)

-- the item at a place, as an index gives it
pub nth-or : {X : Type 0} → (xs : List X) (i : ℕ) (d : X) → i < length xs → nth xs i ≡ Some (get_or xs i d)
nth-or [] i d within = absurd (omega (arith, within))
nth-or (x ∷ xs) zero d within = refl
nth-or (x ∷ xs) (suc i) d within = nth-or xs i d (omega (arith, within))

-- a router more
pub all-coded-more : (wires : List (ℕ × List ℕ)) (rows : List (List ℕ)) (ports : List ℕ) (js : List WovenJournal) (tracks : List (List CoreMove)) (track : List CoreMove) → AreAllCoded wires rows js tracks → AreCoded wires ports (length rows) (journals_of (length rows) js) track → AreAllCoded wires (rows ++ ports ∷ []) js (tracks ++ track ∷ [])
all-coded-more wires rows ports js tracks track all one = record {
  size = length-append tracks (track ∷ []) ∙ ap (λ (n : ℕ). n + 1) all.size ∙ sym (length-append rows (ports ∷ []));
  coded = λ router row moves at at-track. by router row moves (in-more rows ports router row at) (in-more tracks track router moves at-track);
}
  where
    by : (router : ℕ) (row : List ℕ) (moves : List CoreMove) → ((router < length rows) × (nth rows router ≡ Some row)) ⊎ ((router ≡ length rows) × (ports ≡ row)) → ((router < length tracks) × (nth tracks router ≡ Some moves)) ⊎ ((router ≡ length tracks) × (track ≡ moves)) → AreCoded wires row router (journals_of router js) moves
    by router row moves (inl a) (inl b) = all.coded router row moves a.1 b.1
    by router row moves (inl a) (inr b) = let lt = a.0 in let e = b.0 in let s = all.size in absurd (omega (arith, lt, e, s))
    by router row moves (inr a) (inl b) = let lt = b.0 in let e = a.0 in let s = all.size in absurd (omega (arith, lt, e, s))
    by router row moves (inr a) (inr b) =
        subst (λ (n : ℕ). AreCoded wires row n (journals_of n js) moves) (sym a.0)
        (subst (λ (r : List ℕ). AreCoded wires r (length rows) (journals_of (length rows) js) moves) a.1
        (subst (λ (m : List CoreMove). AreCoded wires ports (length rows) (journals_of (length rows) js) m) b.1 one))

-- so many, where there is one behind them
pub length-part : {X : Type 0} → (i : ℕ) (xs : List X) (x : X) → nth xs i ≡ Some x → length (take i xs) ≡ i
length-part zero xs x at = refl
length-part (suc i) [] x at = absurd (cc)
length-part (suc i) (y ∷ xs) x at = ap suc (length-part i xs x at)
