-- What is wanted of an LSP ID, in a list and as a draft.
use Rattle.std.proofs.Common.{◌≡◌, ℕ, ◌==◌, ◌≤◌, ◌<◌, ◌-◌, ◌++◌, get_or, take, drop, append-nil, Bool, true, false, ◌⊎◌, inl, inr, ◌≢◌, if◌then◌else◌, List, [], ◌∷◌, length, map, Option, Some, IfSome, refl, sym, ap, ◌∙◌, subst, arith}
use Rattle.std.proofs.lemmas.Bool.Decides.{eqb_tells}
use Rattle.std.specs.List.{AllByRecursion}
use Rattle.std.proofs.Math.Seq.{take-length}
use Rattle.isis_base.specs.declared.entry.LspEntry.{LspEntry}
use Rattle.isis_base.specs.Identifiers.{lsp_number}
use Rattle.model_router.specs.Routers.{Issued}
use Rattle.model_router.specs.Takes.{Scene}
use Rattle.router_sending.specs.Drafts.{DraftView}
use Rattle.router_levels.specs.Drafts.{AreAnswers, AreReady, IsAnswer, IsReady}
use Rattle.isis_tlv.specs.Walks as walks
use Rattle.isis_tlv.specs.Tlvs.{AreTlvs}
use Rattle.model_router.specs.Good.{IsIssuable}
use Rattle.model_router.specs.Maps.{find}
use Rattle.router_wanted.specs.declared.wanted.Wanted.{Wanted}
use Rattle.router_wanted.specs.Views.{contents_of, wanted_of}
use Rattle.model_router.specs.Wanted.{room_for}

pub find-next : {V : Type 0} (p : ℕ × V) (ps : List (ℕ × V)) (n : ℕ) → (p.0 == n) ≡ false → find (p ∷ ps) n ≡ find ps n
find-next p ps n e = ap (λ (b : Bool). if b then Some p.1 else find ps n) e

-- no TLV may be issued
pub none-issuable : (key : Option (List ℕ)) (flags : ℕ) → IsIssuable key (record { flags = flags; tlvs = [] })
unfolding walks.items_of
none-issuable key flags = record { tlvs = refl; short = omega arith }

pub eq-other : (a b : ℕ) → (a ≡ b → ⊥) → (a == b) ≡ false
eq-other a b h = of (eqb_tells a b)
  where
    of : (((a == b) ≡ true) × (a ≡ b)) ⊎ (((a == b) ≡ false) × (a ≢ b)) → (a == b) ≡ false
    of (inl p) = absurd (h p.1)
    of (inr p) = p.0

-- what was found among those that are wanted may be issued
pub found-issuable : (key : Option (List ℕ)) (w : Wanted) (f : ℕ × List ℕ) → IsIssuable key (contents_of w) → f.0 ≡ w.flags → f.1 ≡ w.tlvs → IsIssuable key (record { flags = f.0; tlvs = f.1 })
found-issuable key w f h a b = record { tlvs = subst AreTlvs (sym b) h.tlvs; short = subst (λ (ts : List ℕ). length ts ≤ room_for key) (sym b) h.short }

-- ---- lists that are walked

pub opens : {X : Type 0} (xs : List X) (d : X) → 1 ≤ length xs → xs ≡ get_or xs 0 d ∷ take (length xs - 1) (drop 1 xs)
opens [] d h = absurd (omega (arith, h))
opens {X} (x ∷ xs) d h =
    let less : length (x ∷ xs) - 1 ≡ length xs = omega arith in
    ap (λ (ys : List X). x ∷ ys) (sym (rw less (take-length xs)))

pub opens-at : {X : Type 0} (xs : List X) (x d : X) → 1 ≤ length xs → x ≡ get_or xs 0 d → xs ≡ x ∷ take (length xs - 1) (drop 1 xs)
opens-at {X} xs x d h e = subst (λ (y : X). xs ≡ y ∷ take (length xs - 1) (drop 1 xs)) (sym e) (opens xs d h)

-- of a list that opens so, what holds of all holds of the first and of the rest
pub all-first : {A : Type 0} (P : A → Type 0) (left rest : List A) (x : A) → left ≡ x ∷ rest → AllByRecursion P left → P x
all-first P left rest x e h = (subst (AllByRecursion P) e h).0

pub all-rest : {A : Type 0} (P : A → Type 0) (left rest : List A) (x : A) → left ≡ x ∷ rest → AllByRecursion P left → AllByRecursion P rest
all-rest P left rest x e h = (subst (AllByRecursion P) e h).1

pub find-rest : (left rest : List Wanted) (x : Wanted) (n : ℕ) → left ≡ x ∷ rest → (lsp_number x.id == n) ≡ false → find (map wanted_of rest) n ≡ find (map wanted_of left) n
find-rest left rest x n e h = sym (ap (λ (xs : List Wanted). find (map wanted_of xs) n) e ∙ find-next (wanted_of x) (map wanted_of rest) n h)

-- drafts of what is left, with one more behind those that are made
pub ready-turn : (keyed : Bool) (own : List (ℕ × Issued)) (left rest all : List LspEntry) (e : LspEntry) (d : Option DraftView) (done : List (Option DraftView)) → left ≡ e ∷ rest → IsReady keyed own e d → ((more : List (Option DraftView)) → AreReady keyed own left more → AreReady keyed own all (done ++ more)) → (more : List (Option DraftView)) → AreReady keyed own rest more → AreReady keyed own all ((done ++ d ∷ []) ++ more)
ready-turn keyed own left rest all e d done is r f more a = subst (AreReady keyed own all) (sym (assoc done (d ∷ []) more)) (f (d ∷ more) (subst (λ (xs : List LspEntry). AreReady keyed own xs (d ∷ more)) (sym is) (r, a)))
  where
    assoc : {A : Type 0} (xs ys zs : List A) → (xs ++ ys) ++ zs ≡ xs ++ (ys ++ zs)
    assoc [] ys zs = refl
    assoc (x ∷ xs) ys zs = ap (λ (l : List _). x ∷ l) (assoc xs ys zs)

pub said-turn : (key : Option (List ℕ)) (scene : Scene) (left rest all : List LspEntry) (e : LspEntry) (d : Option DraftView) (done : List (Option DraftView)) → left ≡ e ∷ rest → IfSome d (IsAnswer key scene (lsp_number e.id)) → ((more : List (Option DraftView)) → AreAnswers key scene left more → AreAnswers key scene all (done ++ more)) → (more : List (Option DraftView)) → AreAnswers key scene rest more → AreAnswers key scene all ((done ++ d ∷ []) ++ more)
said-turn key scene left rest all e d done is r f more a = subst (AreAnswers key scene all) (sym (assoc done (d ∷ []) more)) (f (d ∷ more) (subst (λ (xs : List LspEntry). AreAnswers key scene xs (d ∷ more)) (sym is) (r, a)))
  where
    assoc : {A : Type 0} (xs ys zs : List A) → (xs ++ ys) ++ zs ≡ xs ++ (ys ++ zs)
    assoc [] ys zs = refl
    assoc (x ∷ xs) ys zs = ap (λ (l : List _). x ∷ l) (assoc xs ys zs)

-- nothing is left
pub ready-end : (keyed : Bool) (own : List (ℕ × Issued)) (left all : List LspEntry) (done : List (Option DraftView)) → length left < 1 → ((more : List (Option DraftView)) → AreReady keyed own left more → AreReady keyed own all (done ++ more)) → AreReady keyed own all done
ready-end keyed own [] all done h f = subst (AreReady keyed own all) (append-nil done) (f [] tt)
ready-end keyed own (x ∷ left) all done h f = absurd (omega (arith, h))

pub said-end : (key : Option (List ℕ)) (scene : Scene) (left all : List LspEntry) (done : List (Option DraftView)) → length left < 1 → ((more : List (Option DraftView)) → AreAnswers key scene left more → AreAnswers key scene all (done ++ more)) → AreAnswers key scene all done
said-end key scene [] all done h f = subst (AreAnswers key scene all) (append-nil done) (f [] tt)
said-end key scene (x ∷ left) all done h f = absurd (omega (arith, h))
