-- What a submit does to a pass (own).
use Rattle.std.specs.Prelude.{◌≡◌, ℕ, ◌+◌, List, [], ◌∷◌, ◌++◌, length}
use Rattle.turn_lock.specs.declared.noted.Noted.{Ghosts}
use Rattle.turn_lock.specs.declared.pass.Pass.{Pass}
use Rattle.turn_lock.specs.Passes.{turns_left, label, splits, own, seen}

module _ {T N B : Type 0} {noted : Ghosts T N B} where
  -- one turn less is left, and its number, the place of the last note seen, is one more of the
  -- pass's own (own)
  abbrev pub TookTurn : Pass T N B noted → Pass T N B noted → Type 0
  TookTurn p q =
      (turns_left q + 1 ≡ turns_left p)
      × (label q ≡ label p)
      × (splits q ≡ splits p)
      × ((n : ℕ) × (own q ≡ own p ++ n ∷ []) × (length (seen q) ≡ n + 1))

-- a list that was seen, what others left since, and this note (own)
abbrev pub EndsWith : {N : Type 0} → List N → N → List N → Type 0
EndsWith {N} old note new = (between : List N) × (new ≡ (old ++ between) ++ note ∷ [])
