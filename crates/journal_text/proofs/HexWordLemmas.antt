-- Words that write octets.
use Rattle.std.proofs.Common.{◌≡◌, ◌∙◌, ℕ, Bool, true, false, cond, List, [], ◌∷◌, map, length, Option, Some, None, refl, sym, ap}
use Rattle.std.specs.Borrow.{Bor}
use Rattle.std.specs.Prelude.{option_and_then, ◌==◌, ◌%◌, ◌&&◌, MatchOption}
use Rattle.std.specs.Char.{is_ascii_hexdigit}
use Rattle.std.specs.List.{list_all}
use Rattle.std.specs.Option.{option_map}
use Rattle.std.proofs.lemmas.Bool.{and_parts}
use Rattle.line_cuts.specs.Forms.{each}
use Rattle.line_cuts.specs.HexTexts.{AreDigits, is_octets, octets_in, octets_of}
use Rattle.journal_text.specs.HexWords.{are_octets}

-- what words write, if each does
pub each-octets : (words : List (List ℕ)) → each octets_of words ≡ cond {A = Option (List (List ℕ))} (are_octets words) (Some (map octets_in words)) None
each-octets [] = refl
each-octets (word ∷ words) =
    ap (λ (o : Option (List (List ℕ))). option_and_then (λ x. option_map (λ xs. x ∷ xs) o) (octets_of word)) (each-octets words) ∙ by (is_octets word) (are_octets words)
  where
    by : (s t : Bool) → option_and_then (λ (x : List ℕ). option_map (λ (xs : List (List ℕ)). x ∷ xs) (cond {A = Option (List (List ℕ))} t (Some (map octets_in words)) None)) (cond {A = Option (List ℕ)} s (Some (octets_in word)) None) ≡ cond {A = Option (List (List ℕ))} (s && t) (Some (octets_in word ∷ map octets_in words)) None
    by true true = refl
    by true false = refl
    by false t = refl

-- what was tested of the words, taken again
pub read-some : (words again : List (List ℕ)) (test : Bool) → test ≡ are_octets again → again ≡ words → test ≡ true → Some (map octets_in words) ≡ each octets_of words
read-some words again test is same h = sym (each-octets words ∙ ap (λ (t : Bool). cond {A = Option (List (List ℕ))} t (Some (map octets_in words)) None) (sym (ap are_octets same) ∙ sym is ∙ h))

pub read-none : (words again : List (List ℕ)) (test : Bool) → test ≡ are_octets again → again ≡ words → test ≡ false → None ≡ each octets_of words
read-none words again test is same h = sym (each-octets words ∙ ap (λ (t : Bool). cond {A = Option (List (List ℕ))} t (Some (map octets_in words)) None) (sym (ap are_octets same) ∙ sym is ∙ h))

-- what is left of words that write octets are such words
pub words-left : (word : Option (Bor (List ℕ))) (old new : List (List ℕ)) → MatchOption word ((old ≡ []) × (new ≡ [])) (λ w. old ≡ w.now ∷ new) → are_octets old ≡ true → are_octets new ≡ true
words-left None old new h octets = ap are_octets h.1
words-left (Some w) old new h octets = (and_parts (is_octets w.now) (are_octets new) (sym (ap are_octets h) ∙ octets)).1

-- and the next one writes octets
pub next-digits : (word : List ℕ) (old new : List (List ℕ)) → old ≡ word ∷ new → are_octets old ≡ true → AreDigits word
next-digits word old new h octets = (and_parts (length word % 2 == 0) (list_all is_ascii_hexdigit word) (and_parts (is_octets word) (are_octets new) (sym (ap are_octets h) ∙ octets)).0).1
