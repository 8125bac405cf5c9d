-- The name and the value of an option.
use Rattle.std.proofs.Common.{◌≡◌, ◌∙◌, ℕ, zero, suc, ◌+◌, ◌<◌, ◌≤◌, ◌==◌, map, Bool, true, false, if◌then◌else◌, List, [], ◌∷◌, length, get_or, take, drop, Option, Some, None, IfSome, codes, refl, sym, ap, subst, arith}
use Rattle.std.specs.Str.{bytes_eq}
use Rattle.std.proofs.lemmas.Slice.Eq.{bytes_eq-Decides}
use Rattle.isis_daemon.specs.Commands.{command_of, two_of, three_of, grid_size_of, size_of, walk_of, trace_of, weave_of}
use Rattle.isis_daemon.specs.Options.{name_in, value_in, pieces_of, options_of, daemon_of, state_of}

fails : (b : Bool) → ¬ (b ≡ true) → b ≡ false
fails true h = absurd (h refl)
fails false h = refl

module _ (x : ℕ) (word : List ℕ) where
  name_here : (x == 61) ≡ true → name_in (x ∷ word) ≡ []
  name_here hit = ap (λ (b : Bool). if b then [] else x ∷ name_in word) hit

  name_later : (x == 61) ≡ false → name_in (x ∷ word) ≡ x ∷ name_in word
  name_later miss = ap (λ (b : Bool). if b then [] else x ∷ name_in word) miss

  value_here : (x == 61) ≡ true → value_in (x ∷ word) ≡ Some word
  value_here hit = ap (λ (b : Bool). if b then Some word else value_in word) hit

  value_later : (x == 61) ≡ false → value_in (x ∷ word) ≡ value_in word
  value_later miss = ap (λ (b : Bool). if b then Some word else value_in word) miss

-- nothing is asked of what isn't there
pub unless : {A : Type 0} (o : Option A) (P : A → Type 0) → o ≡ None → IfSome o P
unless None P e = tt
unless (Some x) P e = absurd (cc)

-- what stands before the first mark is the name
pub name_at : (word : List ℕ) (place : ℕ) → place < length word → ((k : ℕ) → k < place → ¬ ((get_or word k 0 == 61) ≡ true)) → (get_or word place 0 == 61) ≡ true → take place word ≡ name_in word
name_at [] place lt none hit = absurd (omega (arith, lt))
name_at (x ∷ word) zero lt none hit = sym (name_here x word hit)
name_at (x ∷ word) (suc place) lt none hit =
    ap (λ z. x ∷ z) (name_at word place (omega (arith, lt)) (λ k below. none (suc k) (omega (arith, below))) hit) ∙ sym (name_later x word (fails (x == 61) (none 0 (omega arith))))

-- what stands behind it is the value
pub value_at : (word : List ℕ) (place : ℕ) → place < length word → ((k : ℕ) → k < place → ¬ ((get_or word k 0 == 61) ≡ true)) → (get_or word place 0 == 61) ≡ true → Some (drop (place + 1) word) ≡ value_in word
value_at [] place lt none hit = absurd (omega (arith, lt))
value_at (x ∷ word) zero lt none hit = sym (value_here x word hit)
value_at (x ∷ word) (suc place) lt none hit =
    let step : suc place + 1 ≡ suc (place + 1) = omega arith in
    ap (λ (n : ℕ). Some (drop n (x ∷ word))) step
    ∙ (value_at word place (omega (arith, lt)) (λ k below. none (suc k) (omega (arith, below))) hit ∙ sym (value_later x word (fails (x == 61) (none 0 (omega arith)))))

-- without a mark all is the name
pub name_none : (word : List ℕ) → ((k : ℕ) → k < length word → ¬ ((get_or word k 0 == 61) ≡ true)) → word ≡ name_in word
name_none [] none = refl
name_none (x ∷ word) none =
    ap (λ z. x ∷ z) (name_none word (λ k below. none (suc k) (omega (arith, below)))) ∙ sym (name_later x word (fails (x == 61) (none 0 (omega arith))))

pub value_none : (word : List ℕ) → ((k : ℕ) → k < length word → ¬ ((get_or word k 0 == 61) ≡ true)) → None ≡ value_in word
value_none [] none = refl
value_none (x ∷ word) none =
    value_none word (λ k below. none (suc k) (omega (arith, below))) ∙ sym (value_later x word (fails (x == 61) (none 0 (omega arith))))

-- ---- words that ask for a daemon ask for no text of an input

named : (word : List ℕ) (words : List (List ℕ)) (x : ℕ × ℕ) → daemon_of (word ∷ words) ≡ Some x → word ≡ codes "daemon"
named word words x is = (bytes_eq-Decides word (codes "daemon")).0 (hit (bytes_eq word (codes "daemon")) is)
  where
    hit : (b : Bool) → (if b then options_of (codes "--turns") 86400 (pieces_of words) else None) ≡ Some x → b ≡ true
    hit true e = refl
    hit false e = absurd (cc e)

pub alone : (words : List (List ℕ)) (x : ℕ × ℕ) → daemon_of words ≡ Some x → command_of words ≡ None
alone [] x is = refl
alone (word ∷ []) x is = absurd (none (bytes_eq word (codes "daemon")) is)
  where
    none : (b : Bool) → (if b then options_of (codes "--turns") 86400 [] else None) ≡ Some x → ⊥
    none true e = cc e
    none false e = cc e
alone (word ∷ l ∷ []) x is = subst (λ (w : List ℕ). two_of w l ≡ None) (sym (named word (l ∷ []) x is)) refl
alone (word ∷ l ∷ s ∷ []) x is = subst (λ (w : List ℕ). three_of w l s ≡ None) (sym (named word (l ∷ s ∷ []) x is)) refl
alone (word ∷ l ∷ s ∷ next ∷ words) x is = refl

-- what is asked for isn't none
pub clash : {A : Type 0} (x : A) (o : Option A) → Some x ≡ o → o ≡ None → ⊥
clash x o some none = cc (some ∙ none)

-- what is asked for is this
pub told : {A : Type 0} (x : A) (o : Option A) (P : A → Type 0) → Some x ≡ o → P x → IfSome o P
told x o P some is = subst (λ z. IfSome z P) some is

-- ---- nor do they ask for a grid, a walk, a trace or a weaving

pub no_grid : (words : List (List ℕ)) (x : ℕ × ℕ) → daemon_of words ≡ Some x → grid_size_of words ≡ None
no_grid [] x is = refl
no_grid (word ∷ []) x is = refl
no_grid (word ∷ number ∷ []) x is = subst (λ (w : List ℕ). grid_size_of (w ∷ number ∷ []) ≡ None) (sym (named word (number ∷ []) x is)) refl
no_grid (word ∷ number ∷ next ∷ words) x is = refl

pub no_walk : (words : List (List ℕ)) (x : ℕ × ℕ) → daemon_of words ≡ Some x → walk_of words ≡ None
no_walk [] x is = refl
no_walk (word ∷ []) x is = refl
no_walk (word ∷ name ∷ []) x is = refl
no_walk (word ∷ name ∷ prefix ∷ []) x is = subst (λ (w : List ℕ). walk_of (w ∷ name ∷ prefix ∷ []) ≡ None) (sym (named word (name ∷ prefix ∷ []) x is)) refl
no_walk (word ∷ name ∷ prefix ∷ next ∷ words) x is = refl

pub no_trace : (words : List (List ℕ)) (x : ℕ × ℕ) → daemon_of words ≡ Some x → trace_of words ≡ None
no_trace [] x is = refl
no_trace (word ∷ []) x is = refl
no_trace (word ∷ name ∷ []) x is = refl
no_trace (word ∷ name ∷ address ∷ []) x is = subst (λ (w : List ℕ). trace_of (w ∷ name ∷ address ∷ []) ≡ None) (sym (named word (name ∷ address ∷ []) x is)) refl
no_trace (word ∷ name ∷ address ∷ next ∷ words) x is = refl

pub no_weave : (words : List (List ℕ)) (x : ℕ × ℕ) → daemon_of words ≡ Some x → weave_of words ≡ None
no_weave [] x is = refl
no_weave (word ∷ []) x is = subst (λ (w : List ℕ). weave_of (w ∷ []) ≡ None) (sym (named word [] x is)) refl
no_weave (word ∷ next ∷ words) x is = refl

pub no_state : (words : List (List ℕ)) (x : ℕ × ℕ) → daemon_of words ≡ Some x → state_of words ≡ None
no_state [] x is = refl
no_state (word ∷ words) x is = subst (λ (w : List ℕ). state_of (w ∷ words) ≡ None) (sym (named word words x is)) refl

-- ---- words that ask for a grid ask for no text of an input

pub grid_alone : (asked : Option ℕ) (words : List (List ℕ)) → asked ≡ grid_size_of words → IfSome asked (λ _. command_of words ≡ None)
grid_alone None words is = tt
grid_alone (Some size) [] is = absurd (cc is)
grid_alone (Some size) (word ∷ []) is = absurd (cc is)
grid_alone (Some size) (word ∷ number ∷ []) is =
    subst (λ (w : List ℕ). two_of w number ≡ None) (sym ((bytes_eq-Decides word (codes "grid")).0 (hit (bytes_eq word (codes "grid")) is))) refl
  where
    hit : (b : Bool) → Some size ≡ (if b then size_of number else None) → b ≡ true
    hit true e = refl
    hit false e = absurd (cc e)
grid_alone (Some size) (word ∷ number ∷ next ∷ words) is = absurd (cc is)

-- ---- more than three words ask for no text of an input

pub no_command : {X : Type 0} (f : X → List ℕ) (words : List X) → 4 ≤ length words → command_of (map f words) ≡ None
no_command f [] le = absurd (omega arith)
no_command f (w ∷ []) le = absurd (omega arith)
no_command f (w ∷ x ∷ []) le = absurd (omega arith)
no_command f (w ∷ x ∷ y ∷ []) le = absurd (omega arith)
no_command f (w ∷ x ∷ y ∷ z ∷ words) le = refl
