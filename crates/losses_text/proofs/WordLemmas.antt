-- A word with two slashes is no part.
use Rattle.std.proofs.Common.{◌≡◌, ℕ, ◌<◌, ◌==◌, List, [], ◌∷◌, length, Option, Some, None, refl, sym, ap, ◌∙◌, arith}
use Rattle.std.specs.Borrow.{Bor}
use Rattle.std.specs.List.{slice_split}
use Rattle.std.proofs.lemmas.List.Splits.{length-slice_split}
use Rattle.line_cuts.specs.Cuts.{parts_behind}
use Rattle.losses_text.specs.Words.{part_of_words, part_in}

three : (a b : List ℕ) (words : List (List ℕ)) → 0 < length words → part_of_words (a ∷ b ∷ words) ≡ None
three a b [] h = absurd (omega (arith, h))
three a b (c ∷ words) h = refl

pub two-slashes : (word number : List ℕ) (behind : Option (Bor (List ℕ))) (rest : Bor (List ℕ)) (of : List ℕ) (more : Option (Bor (List ℕ))) (last : Bor (List ℕ))
    → slice_split (λ byte. byte == 47) word ≡ number ∷ parts_behind 47 behind → behind ≡ Some rest
    → slice_split (λ byte. byte == 47) rest.now ≡ of ∷ parts_behind 47 more → more ≡ Some last → None ≡ part_in word
two-slashes word number behind rest of more last e b f m =
    sym (ap part_of_words (e ∙ ap (λ (o : Option (Bor (List ℕ))). number ∷ parts_behind 47 o) b
    ∙ ap (λ (parts : List (List ℕ)). number ∷ parts) f
    ∙ ap (λ (o : Option (Bor (List ℕ))). number ∷ of ∷ parts_behind 47 o) m)
    ∙ three number of (slice_split (λ byte. byte == 47) last.now) (omega (arith, length-slice_split (λ (byte : ℕ). byte == 47) last.now)))
