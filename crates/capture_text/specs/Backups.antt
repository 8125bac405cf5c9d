-- The alternates for each target and each of its next hops (RFC 5286 3; the form: own).

use Rattle.std.specs.Prelude.{◌≡◌, ◌≢◌, ◌⊎◌, ℕ, ◌<◌, true, List}
use Rattle.std.specs.List.{Contains, AllPairs}
use Rattle.spf_tree.specs.declared.row.Row.{Row}
use Rattle.spf_tree.specs.Nodes.{is_system, system_node}
use Rattle.spf_tree.specs.NextHops.{IsNextHop}
use Rattle.alternates.specs.Alternates.{AreAlternates}
use Rattle.capture_text.specs.declared.backup.Backup.{Backup}

-- the numbers of the target and of the hop
abbrev pub target_of : Backup → ℕ
target_of backup = system_node backup.target

abbrev pub hop_of : Backup → ℕ
hop_of backup = system_node backup.hop

-- one stands before another: by target, and then by hop
abbrev pub IsBefore : Backup → Backup → Type 0
IsBefore one other =
    (target_of one < target_of other)
    ⊎ ((target_of one ≡ target_of other) × (hop_of one < hop_of other))

-- the alternates for a target other than the root and one of its next hops (RFC 5286 3)
pub record IsBackup (rows : List Row) (root : ℕ) (backup : Backup) : Type 0 where
  pub other : target_of backup ≢ root
  pub hop : IsNextHop rows root (target_of backup) (hop_of backup)
  pub list : AreAlternates rows root (target_of backup) (hop_of backup) backup.alternates.items

-- a target and a hop are among them
abbrev pub HasBackup : List Backup → (target hop : ℕ) → Type 0
HasBackup list target hop =
    (backup : Backup) × Contains list backup × (target_of backup ≡ target) × (hop_of backup ≡ hop)

-- those of each system other than the root that a way leads to, and of each of its next hops, once and in order
pub record AreBackups (rows : List Row) (root : ℕ) (list : List Backup) : Type 0 where
  pub order : AllPairs IsBefore list
  pub each : (backup : Backup) → Contains list backup → IsBackup rows root backup
  pub all : (target hop : ℕ) → is_system target ≡ true → IsNextHop rows root target hop
      → HasBackup list target hop
