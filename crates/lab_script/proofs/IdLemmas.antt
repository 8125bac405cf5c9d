-- LSP IDs in words that may be no text.
use Rattle.std.proofs.Common.{◌≡◌, ℕ, zero, suc, ◌<◌, Bool, true, false, cond, eqb, ltb, List, [], ◌∷◌, get_or, Option, Some, None, Ok, Err, refl, ap, arith, rules}
use Rattle.isis_base.specs.Identifiers.{lsp_from}
use Rattle.std.specs.Char.{digit_value}
use Rattle.std.specs.Option.{option_map}
use Rattle.std.specs.Str.{IsUtf8}
use Rattle.std.proofs.lemmas.Bool.{eqb-true}
use Rattle.std.proofs.lemmas.Bool.Decides.{nat_tests}
use Rattle.std.proofs.lemmas.Str.{IsUtf8-from_ascii}
use Rattle.isis_base.specs.declared.parts.Part.{Part}
use Rattle.isis_base.specs.declared.parts.Part.TheVariants.{Octet, Mark}
use Rattle.isis_base.specs.declared.texts.TheConstants.{LSP_TEXT}
use Rattle.isis_base.specs.Misfit.{later, after_pair, misfit_of, octets_of, unless_misfit, text_octets}
use Rattle.isis_base.proofs.MisfitLemmas.{later-none}
use Rattle.isis_base.proofs.SpellingLemmas.{HasPlainMarks}
use Rattle.lab_script.specs.Fields.{id_of}

digit-ascii : (c : ℕ) → ltb (digit_value c) 16 ≡ true → c < 128
digit-ascii c h = grind (arith, nat_tests)

abbrev IsShort : List ℕ → Type 0
IsShort text = (i : ℕ) → get_or text i 0 < 128

short-one : (c : ℕ) (text : List ℕ) → c < 128 → IsShort text → IsShort (c ∷ text)
short-one c text h s zero = h
short-one c text h s (suc i) = s i

mark-short : (one : Option ℕ) (b m : ℕ) (text : List ℕ) → m < 65 → (one ≡ None → IsShort text) → (t : Bool) → eqb b m ≡ t → cond t (later 1 one) (Some 0) ≡ None → IsShort (b ∷ text)
mark-short one b m text h rec true t e = let same = eqb-true b m t in short-one b text (omega arith) (rec (later-none 1 one e))
mark-short one b m text h rec false t e = cc

pair-short : (one : Option ℕ) (c l a : ℕ) (text : List ℕ) → (one ≡ None → IsShort text) → (t u : Bool) → ltb (digit_value c) 16 ≡ t → ltb (digit_value l) 16 ≡ u → after_pair (cond t (cond u (Ok a) (Err 1)) (Err 0)) one ≡ None → IsShort (c ∷ l ∷ text)
pair-short one c l a text rec true true t u e = short-one c (l ∷ text) (digit-ascii c t) (short-one l text (digit-ascii l u) (rec (later-none 2 one e)))
pair-short one c l a text rec true false t u e = cc
pair-short one c l a text rec false v t u e = cc

never : (t : Bool) → cond {A = Option ℕ} t (Some 1) (Some 0) ≡ None → ⊥
never true e = cc
never false e = cc

-- a text that fits a form has only octets below 128
misfit-short : (parts : List Part) (text : List ℕ) → HasPlainMarks parts → misfit_of parts text ≡ None → IsShort text
unfolding misfit_of
misfit-short [] [] h e = λ i. omega arith
misfit-short [] (b ∷ text) h e = cc
misfit-short (Mark m ∷ parts) [] h e = cc
misfit-short (Mark m ∷ parts) (b ∷ text) h e = mark-short (misfit_of parts text) b m text h.0 (misfit-short parts text h.1) (eqb b m) refl e
misfit-short (Octet ∷ parts) [] h e = cc
misfit-short (Octet ∷ parts) (c ∷ []) h e = absurd (never (ltb (digit_value c) 16) e)
misfit-short (Octet ∷ parts) (c ∷ l ∷ text) h e = pair-short (misfit_of parts text) c l _ text (misfit-short parts text h) (ltb (digit_value c) 16) (ltb (digit_value l) 16) refl refl e

pub octets-none : (parts : List Part) (text : List ℕ) → HasPlainMarks parts → (IsUtf8 text → ⊥) → (o : Option ℕ) → misfit_of parts text ≡ o → unless_misfit o (octets_of parts text) ≡ None
octets-none parts text h bad None e = absurd (bad (IsUtf8-from_ascii text (misfit-short parts text h e)))
octets-none parts text h bad (Some place) e = refl

-- what isn't text is no LSP ID
pub id_of-text : (word : List ℕ) → (IsUtf8 word → ⊥) → id_of word ≡ None
unfolding text_octets
id_of-text word bad = ap (option_map lsp_from) (octets-none LSP_TEXT word (search rules) bad (misfit_of LSP_TEXT word) refl)
