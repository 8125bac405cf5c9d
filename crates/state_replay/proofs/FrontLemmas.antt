-- The lines before a journal's head, as they are read.
use Rattle.std.proofs.Common.{◌≡◌, ◌∙◌, ℕ, ◌+◌, ◌<◌, ◌||◌, Bool, true, false, List, [], ◌∷◌, ◌++◌, length, inl, inr, refl, sym, ap, subst, arith}
use Rattle.std.specs.List.{list_any}
use Rattle.std.proofs.lemmas.Grind.{flat_map-append}
use Rattle.std.proofs.lemmas.List.{append-nil, length-append}
use Rattle.std.proofs.lemmas.List.Folds.{list_any-append}
use Rattle.std.proofs.lemmas.Slice.Eq.{bytes_eq-Decides}
use Rattle.line_cuts.specs.Words.{lines_of}
use Rattle.line_source.specs.Lines.{IsTooLong}
use Rattle.state_replay.specs.declared.front.Front.{Front}
use Rattle.state_replay.specs.Ends.{IsHeadless, IsLongFront}
use Rattle.state_replay.specs.Fronts.{IsSoFar, IsFront}
use Rattle.state_replay.specs.Inputs.{head, is_head, with_ends, Begins}
use Rattle.state_replay.proofs.LineLemmas.{begins-more, begins-line, begins-rest}

pub so-far-none : (front : Front) (pending : List ℕ) → front.text ≡ [] → front.lines ≡ 0 → pending ≡ [] → IsSoFar [] front pending
so-far-none front pending text lines none = record {
  lines = [];
  before = record { begins = ap lines_of (sym none); none = refl };
  text_is = text;
  counted = lines;
}

none-more : (front : List (List ℕ)) (line : List ℕ) → list_any is_head front ≡ false → is_head line ≡ false → list_any is_head (front ++ line ∷ []) ≡ false
none-more front line none other =
    list_any-append is_head front (line ∷ []) ∙ (ap (λ (b : Bool). b || list_any is_head (line ∷ [])) none ∙ ap (λ (b : Bool). b || false) other)

pub so-far-more : (input pending more line behind : List ℕ) (front front' : Front) → IsSoFar input front pending → lines_of (pending ++ more) ≡ line ∷ lines_of behind
    → is_head line ≡ false → front'.text ≡ front.text ++ (line ++ 10 ∷ []) → front'.lines ≡ front.lines + 1 → IsSoFar (input ++ more) front' behind
so-far-more input pending more line behind front front' h e other text count =
    let counted = h.counted in
    let long = length-append h.lines (line ∷ []) in
    record {
      lines = h.lines ++ line ∷ [];
      before = record { begins = begins-line input pending more line behind h.lines h.before.begins e; none = none-more h.lines line h.before.none other };
      text_is = text ∙ (ap (λ (t : List ℕ). t ++ (line ++ 10 ∷ [])) h.text_is
          ∙ sym (flat_map-append (λ (l : List ℕ). l ++ 10 ∷ []) h.lines (line ∷ []) ∙ ap (λ (t : List ℕ). with_ends h.lines ++ t) (append-nil (line ++ 10 ∷ []))));
      counted = omega (arith, count, counted, long);
    }

is-head : (line : List ℕ) → is_head line ≡ true → line ≡ head
is-head line hit = grind (arith, bytes_eq-Decides line head, hit)

pub front-whole : (input pending more line behind : List ℕ) (front : Front) → IsSoFar input front pending → lines_of (pending ++ more) ≡ line ∷ lines_of behind
    → is_head line ≡ true → IsFront (input ++ more) front behind
front-whole input pending more line behind front h e hit = record {
  lines = h.lines;
  at = record {
    begins = subst (λ (l : List ℕ). Begins (input ++ more) (h.lines ++ l ∷ []) behind) (is-head line hit)
        (begins-line input pending more line behind h.lines h.before.begins e);
    none = h.before.none;
  };
  text_is = h.text_is;
  counted = h.counted;
}

pub front-none : (input pending more line : List ℕ) (front : Front) (ended : Bool) → IsSoFar input front pending → lines_of (pending ++ more) ≡ line ∷ [] → ended ≡ true
    → IsHeadless (input ++ more) ended (front.lines + 1)
front-none input pending more line front ended h e end =
    let last = begins-rest input pending more line h.lines h.before.begins e in
    record {
      front = h.lines;
      rest = line;
      before = record { begins = last.0; none = h.before.none };
      last = last.1;
      end = end;
      counted = ap (λ (n : ℕ). n + 1) h.counted;
    }

pub front-long-line : (input pending more : List ℕ) (front : Front) → IsSoFar input front pending → IsTooLong (pending ++ more) → IsLongFront (input ++ more)
front-long-line input pending more front h long = record {
  front = h.lines;
  rest = pending ++ more;
  before = record { begins = begins-more input pending more h.lines h.before.begins; none = h.before.none };
  long = inl long;
}

pub front-long : (input pending : List ℕ) (front : Front) → IsSoFar input front pending → 16777216 < length front.text → IsLongFront input
front-long input pending front h long = record {
  front = h.lines;
  rest = pending;
  before = h.before;
  long = inr (subst (λ (t : List ℕ). 16777216 < length t) h.text_is long);
}
