-- The alternates for some targets, while those of more are added. All of it own.

use Rattle.std.specs.Prelude.{◌≡◌, ◌↔◌, ℕ, true, List, map, ◌++◌}
use Rattle.std.specs.List.{All, AllPairs, Contains}
use Rattle.spf_tree.specs.Graphs.{GraphOf}
use Rattle.spf_tree.specs.Nodes.{is_system, node_number}
use Rattle.spf_tree.specs.NextHops.{IsNextHop}
use Rattle.alternates.specs.Alternates.{AreAlternates}
use Rattle.capture_text.specs.declared.backup.Backup.{Backup}
use Rattle.capture_text.specs.Backups.{target_of, hop_of, IsBefore, IsBackup, HasBackup}

-- a table has each target of a graph's root beside each of its next hops
abbrev pub AreHops : GraphOf → List (ℕ × ℕ) → Type 0
AreHops graph table = (target hop : ℕ) → Contains table (target, hop)
    ↔ IsNextHop graph.rows (node_number graph.root) target hop

-- the alternates for this target and one of its hops
pub record IsFor (graph : GraphOf) (target : ℕ) (backup : Backup) : Type 0 where
  pub target_is : target_of backup ≡ target
  pub list : AreAlternates graph.rows (node_number graph.root) target (hop_of backup)
      backup.alternates.items

-- those for a target and these hops stand behind others
pub record AreAdded (graph : GraphOf) (target : ℕ) (hops : List ℕ)
    (old new : List Backup) : Type 0 where
  pub added : List Backup
  pub grown : new ≡ old ++ added
  pub hops_are : map hop_of added ≡ hops
  pub each : All (IsFor graph target) added

-- those for the targets among these nodes, once and in order
pub record AreSoFar (graph : GraphOf) (nodes : List ℕ) (list : List Backup) : Type 0 where
  pub order : AllPairs IsBefore list
  pub each : (backup : Backup) → Contains list backup
      → IsBackup graph.rows (node_number graph.root) backup × Contains nodes (target_of backup)
  pub all : (target hop : ℕ) → Contains nodes target → is_system target ≡ true
      → IsNextHop graph.rows (node_number graph.root) target hop → HasBackup list target hop
