-- What captured LSPs lack of a system that is asked for (own).

use Rattle.std.specs.Prelude.{ℕ, ◌==◌, List, length, Option, Some, None, codes, if◌then◌else◌}
use Rattle.isis_base.specs.declared.identifiers.SystemId.{SystemId}
use Rattle.isis_base.specs.declared.identifiers.LspId.{LspId}
use Rattle.lsp_store.specs.declared.entry.Entry.{Entry}
use Rattle.lsp_view.specs.Views.{own_node, lead_of}
use Rattle.capture_text.specs.declared.absence.Absence.{Absence}
use Rattle.capture_text.specs.declared.absence.Absence.TheVariants as absence

-- the words of it
abbrev pub absence_text : Absence → List ℕ
absence_text absence.Level = codes "no LSPs of this level"
absence_text absence.System = codes "no such system"

-- a system says something only by a live LSP of number 0 (ISO 10589 7.2.5)
abbrev pub unless_led : Option Entry → Option Absence
unless_led None = Some absence.System
unless_led (Some lead) = None

-- what LSPs lack of a system: there is none at all, or none by which the system says anything
abbrev pub absence_of : SystemId → List (LspId × Entry) → Option Absence
absence_of system entries =
    if length entries == 0 then Some absence.Level
    else unless_led (lead_of entries (own_node system))
