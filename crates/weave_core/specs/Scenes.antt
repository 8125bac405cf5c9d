-- Scenes, and the rounds by which they change (own).
use Rattle.std.specs.Prelude.{◌≡◌, ℕ, zero, suc, ◌+◌, List, [], ◌∷◌, ◌++◌, is_some, Option, Some, None, if◌then◌else◌}
use Rattle.weave_core.specs.declared.moves.Move.{Move}
use Rattle.weave_core.specs.declared.moves.Sent.{Sent}
use Rattle.weave_core.specs.declared.moves.Turn.{Turn}
use Rattle.weave_core.specs.Fits.{turn_of, sent_by}

-- what was sent so far, and the turns so far (own)
pub record Told : Type 0 where
  pub sent : List Sent
  pub turns : List Turn

-- what is left of each party's track, and what was told (own)
pub record Scene : Type 0 where
  pub tracks : List (List Move)
  pub told : Told

-- what is left of one party's track, and what was told (own)
pub record Walk : Type 0 where
  pub left : List Move
  pub told : Told

-- own
abbrev pub with_turn : Option Turn → List Turn → List Turn
with_turn None turns = turns
with_turn (Some turn) turns = turns ++ (turn ∷ [])

-- what is told after a party's move (own)
abbrev pub after : ℕ → Move → Told → Told
after party m told = record {
  sent = told.sent ++ sent_by party m.sends;
  turns = with_turn (turn_of party m.needs told.sent) told.turns;
}

-- a party goes as far as it can (own)
abbrev pub as_far : ℕ → List Move → Told → Walk
as_far party [] told = record { left = []; told = told }
as_far party (m ∷ left) told =
    if is_some (turn_of party m.needs told.sent) then as_far party left (after party m told)
    else record { left = m ∷ left; told = told }

-- the parties from one on, in order, each as far as it can (own)
abbrev pub round_from : ℕ → List (List Move) → Told → Scene
round_from party [] told = record { tracks = []; told = told }
round_from party (track ∷ tracks) told =
    let walk = as_far party track told in
    let rest = round_from (party + 1) tracks walk.told in
    record { tracks = walk.left ∷ rest.tracks; told = rest.told }

-- a round over all parties (own)
abbrev pub round_of : Scene → Scene
round_of scene = round_from 0 scene.tracks scene.told

-- so many rounds (own)
abbrev pub rounds : ℕ → Scene → Scene
rounds zero scene = scene
rounds (suc count) scene = rounds count (round_of scene)

-- rounds lead from one scene to the other (own)
pub record AreRounds (start end : Scene) : Type 0 where
  pub count : ℕ
  pub reached : rounds count start ≡ end

-- rounds lead from one scene to the other, in which a round goes nowhere (own)
pub record IsEnd (start end : Scene) : Type 0 where
  pub led : AreRounds start end
  pub still : round_of end ≡ end

-- nothing was sent yet (own)
abbrev pub start : List (List Move) → Scene
start tracks = record { tracks = tracks; told = record { sent = []; turns = [] } }
