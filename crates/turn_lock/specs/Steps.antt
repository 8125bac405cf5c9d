-- What each step on a lock's table tells the seat that makes it, and how views are cut and joined. Own.
use Rattle.std.specs.Prelude.{◌≡◌, ◌≢◌, ℕ, ◌+◌, ◌-◌, ◌==◌, ◌^◌, ◌<◌, List, [], ◌∷◌, ◌++◌, length, if◌then◌else◌, Option, Some}
use mathlib.Core.List.{IsPrefix}
use Rattle.atomic_table.specs.Table.{Me, Step}
use Rattle.turn_lock.specs.declared.view.Start.{Start}
use Rattle.turn_lock.specs.declared.view.Stage.TheVariants.{Idle, Waiting, Inside}
use Rattle.turn_lock.specs.declared.view.View.{View}
use Rattle.turn_lock.specs.Views.{times, once_below, longer, shorter}

-- the n-th pass split from one of label 0 has label n; one split from another has that one's label
abbrev pub label_of_split : ℕ → ℕ → ℕ
label_of_split label splits = if label == 0 then splits + 1 else label

-- a seat at the table: its view, and the value where its turn has begun
abbrev SeatState : Type 0 → Type 0 → Type 0 → Type 0
SeatState T N B = Me (Option T) (View N B)

module _ {N B : Type 0} where
  -- where all turns given are left or the view's own, each place of what it has seen is its own, once
  abbrev pub WholeSees : View N B → Type 0
  WholeSees v = (g : Start B) → v.start ≡ Some g → v.left + length v.own ≡ g.turns
      → (length v.own ≡ length v.seen) × ((x : ℕ) → times x v.own ≡ once_below x (length v.seen))

  -- after a split: the view that keeps the rest, and the one that is given some turns
  abbrev pub rest_view : View N B → View N B
  rest_view v = record v { left = v.left - v.giving; splits = v.splits + 1 }

  abbrev pub given_view : View N B → View N B
  given_view v = record {
    stage = Idle;
    left = v.giving;
    label = label_of_split v.label v.splits;
    splits = 0;
    own = [];
    seen = v.seen;
    shorter_seen = [];
    giving = 0;
    start = v.start;
  }

  -- two views made one
  abbrev pub joined_view : View N B → View N B → View N B
  joined_view v w = record v {
    left = v.left + w.left;
    own = v.own ++ w.own;
    seen = longer v.seen w.seen;
    shorter_seen = shorter v.seen w.seen;
  }

  module _ {T : Type 0} where
    -- the ticket is the number found, and one turn less is left
    abbrev pub Draws : Step (Option T) → SeatState T N B → ℕ → SeatState T N B → Type 0
    Draws st m n m' = (m'.1 ≡ m.1) × (m'.0 ≡ record m.0 { stage = Waiting n; left = m.0.left - 1 })

    -- the view has the number of turns that the next split gives
    abbrev pub Measures : Step (Option T) → SeatState T N B → ℕ → SeatState T N B → Type 0
    Measures st m n m' = (m'.1 ≡ m.1) × (m'.0 ≡ record m.0 { giving = st.first })

    -- of the two lists seen that were joined, the shorter is a beginning of the longer
    abbrev pub Compares : Step (Option T) → SeatState T N B → ℕ → SeatState T N B → Type 0
    Compares st m n m' = (m' ≡ m) × IsPrefix m.0.shorter_seen m.0.seen × WholeSees m.0
        × (m.0.left < 2 ^ 64)

  module _ {T : Type 0} (notes : T → List N) (begins : T → B) where
    -- where the ticket is served, the seat takes the value, whose notes begin with what was seen
    abbrev pub Looks : Step (Option T) → SeatState T N B → ℕ → SeatState T N B → Type 0
    Looks st m n m' = (t : ℕ) → m.0.stage ≡ Waiting t
        → (n ≢ t → m' ≡ m)
        × (n ≡ t → (x : T) × (m'.0 ≡ record m.0 { stage = Inside (notes x) })
        × (m'.1 ≡ (0, Some x) ∷ m.1)
        × IsPrefix m.0.seen (notes x)
        × ((g : Start B) → m.0.start ≡ Some g
        → (begins x ≡ g.beginning) × (length (notes x) < g.turns) × (g.turns < 2 ^ 64)))

    -- the value is back, and its notes are seen
    abbrev pub Advances : Step (Option T) → SeatState T N B → ℕ → SeatState T N B → Type 0
    Advances st m n m' = (k : List N) (y : T) → m.0.stage ≡ Inside k → m.1 ≡ (0, Some y) ∷ []
        → (m'.1 ≡ [])
        × (m'.0 ≡ record m.0 { stage = Idle; own = m.0.own ++ length k ∷ []; seen = notes y })
        × WholeSees m'.0
