-- What workers are after they ran (own).
use Rattle.std.specs.Prelude.{◌≡◌, ℕ, ◌<◌, ◌≤◌, Bool, true, false, List, length, Contains, slice_get, slice_index_or, Option, None, Some}
use Rattle.isis_edge.specs.Faults.{Rose}
use Rattle.daemon_edge.specs.Ports.{Adds}
use Rattle.daemon_edge.specs.declared.spawning.Started.{Started}
use Rattle.daemon_edge.specs.declared.spawning.Started.TheVariants as started

-- the one fact of a worker whose start was refused, the other of each other worker (own)
abbrev pub UnlessRefused : Option Bool → (worked same : Type 0) → Type 0
UnlessRefused (Some true) worked same = same
UnlessRefused (Some false) worked same = worked
UnlessRefused None worked same = worked

-- of the starts that were asked for meanwhile one was refused (own)
abbrev pub WasRefused : (answers answers' : List Bool) → Type 0
WasRefused answers answers' =
    (refused : List Bool) × Adds answers answers' refused × Contains refused true

module _ {W : Type 0} (works : W → W → Type 0) where
  -- each worked (own)
  abbrev pub Works : List W → List W → Type 0
  Works ws ws' = (length ws' ≡ length ws) × ((i : ℕ) (d : W) → i < length ws
      → works (slice_index_or ws i d) (slice_index_or ws' i d))

  -- each worked but those whose starts were refused, which are as they were (own)
  abbrev pub WorksUnlessRefused : List Bool → List W → List W → Type 0
  WorksUnlessRefused refused ws ws' = (length ws' ≡ length ws) × ((i : ℕ) (d : W) → i < length ws
      → UnlessRefused (slice_get refused i) (works (slice_index_or ws i d) (slice_index_or ws' i d))
      (slice_index_or ws' i d ≡ slice_index_or ws i d))

  -- what each worker is afterwards, where the spawner's faults and answers were and are these: a start was refused, or none
  -- was, or none was asked for (own)
  abbrev pub EachWorks : (faults faults' : ℕ) → (answers answers' : List Bool) → List W → List W
      → Started → Type 0
  EachWorks faults faults' answers answers' ws ws' started.All = (faults ≤ faults')
      × ((refused : List Bool) × Adds answers answers' refused × (Contains refused true → ⊥)) × Works ws ws'
  EachWorks faults faults' answers answers' ws ws' started.Refused =
      (faults ≤ faults') × Rose faults faults' × ((refused : List Bool) × Adds answers answers' refused
      × Contains refused true × WorksUnlessRefused refused ws ws')
  EachWorks faults faults' answers answers' ws ws' started.OutOfMemory =
      (faults ≤ faults') × (answers' ≡ answers) × (ws' ≡ ws)
