-- The lines before a journal's head, as they are read (own).
use Rattle.std.specs.Prelude.{◌≡◌, ℕ, List, length}
use Rattle.state_replay.specs.declared.front.Front.{Front}
use Rattle.state_replay.specs.Inputs.{IsBeforeHead, IsAtHead, with_ends}

-- what was kept of the lines that begin an input, none of which is a head (own)
pub record IsSoFar (input : List ℕ) (front : Front) (rest : List ℕ) : Type 0 where
  pub lines : List (List ℕ)
  pub before : IsBeforeHead input lines rest
  pub text_is : front.text ≡ with_ends lines
  pub counted : front.lines ≡ length lines

-- the same, where the head was read too (own)
pub record IsFront (input : List ℕ) (front : Front) (journal : List ℕ) : Type 0 where
  pub lines : List (List ℕ)
  pub at : IsAtHead input lines journal
  pub text_is : front.text ≡ with_ends lines
  pub counted : front.lines ≡ length lines
