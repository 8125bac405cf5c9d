-- The text of the alternates of a system in captured LSPs (own).

use Rattle.std.specs.Prelude.{◌≡◌, ℕ, Bool, true, false, List, [], ◌∷◌, ◌++◌, codes, decimal, Option}
use Rattle.std.specs.List.{flat_map}
use Rattle.isis_base.specs.declared.level.Level.{Level}
use Rattle.isis_base.specs.declared.identifiers.SystemId.{SystemId}
use Rattle.isis_base.specs.Texts.{system_text}
use Rattle.line_cuts.specs.Words.{lines_of}
use Rattle.spf_tree.specs.Graphs.{GraphOf, AreUsable}
use Rattle.spf_tree.specs.Nodes.{system_node}
use Rattle.lsp_view.specs.Views.{own_node, rows_in, overloaded_in}
use Rattle.alternates.specs.declared.alternate.Alternate.{Alternate}
use Rattle.capture_text.specs.declared.read.Read.{Read}
use Rattle.capture_text.specs.declared.backup.Backup.{Backup}
use Rattle.capture_text.specs.Reading.{nothing_read, AreRead}
use Rattle.capture_text.specs.Backups.{AreBackups}
use Rattle.capture_text.specs.declared.absence.Absence.{Absence}
use Rattle.capture_text.specs.Absences.{absence_of}
use Rattle.capture_text.specs.HeadText.{head_text}

-- `alternate TARGET hop E`
unfoldable pub start_text : SystemId → SystemId → List ℕ
start_text target hop =
    codes "alternate " ++ system_text target ++ (codes " hop " ++ system_text hop)

-- ` link`, or ` node` of an alternate that protects against the hop's own failure too, and LF (RFC 5286 3.2)
abbrev pub guard_text : Bool → List ℕ
guard_text true = codes " node\n"
guard_text false = codes " link\n"

-- `alternate TARGET hop E via N cost C link`
unfoldable pub alternate_line : SystemId → SystemId → Alternate → List ℕ
alternate_line target hop told =
    start_text target hop ++ (codes " via " ++ system_text told.via)
    ++ (codes " cost " ++ decimal told.cost) ++ guard_text told.node

-- `alternate TARGET hop E none`
unfoldable pub none_line : SystemId → SystemId → List ℕ
none_line target hop = start_text target hop ++ codes " none\n"

-- a line for each alternate, or one where there is none
abbrev pub lines_by : SystemId → SystemId → List Alternate → List ℕ
lines_by target hop [] = none_line target hop
lines_by target hop (told ∷ list) = flat_map (alternate_line target hop) (told ∷ list)

unfoldable pub backup_lines : Backup → List ℕ
backup_lines backup = lines_by backup.target backup.hop backup.alternates.items

-- the head, and the lines of each target and hop
abbrev pub alternates_text : Read → List Backup → List ℕ
alternates_text read backups =
    head_text (codes "isis-alternates 1") read.kept read.skipped ++ flat_map backup_lines backups

-- a text has the alternates of a system in the LSPs of a level that an input has, by the rows that may be
-- walked from it (ISO 10589 7.2.8), and these LSPs lack what is said
pub record IsAlternatesText (level : Level) (system : SystemId) (input : List ℕ)
    (absence : Option Absence) (text : List ℕ) : Type 0 where
  pub read : Read
  pub reads : AreRead (nothing_read level) (lines_of input) read
  pub lacks : absence ≡ absence_of system read.capture.entries
  pub graph : GraphOf
  pub usable : AreUsable (rows_in read.capture.entries) (overloaded_in read.capture.entries)
      (own_node system) graph
  pub backups : List Backup
  pub all : AreBackups graph.rows (system_node system) backups
  pub text_is : text ≡ alternates_text read backups
