-- What a text says that is to be woven, or the first line that is refused (own).
use Rattle.std.specs.Prelude.{ℕ, ◌-◌, List, take, Option, Some, None, Result, Ok, Err}
use Rattle.lab_keys.specs.declared.faults.LimitName.{LimitName}
use Rattle.model_network.specs.Networks.{Network}
use Rattle.lab_script.specs.declared.reason.Reason.{Reason}
use Rattle.lab_script.specs.declared.reason.Reason.TheVariants.{Head}
use Rattle.lab_script.specs.declared.reason.ScriptFault.{ScriptFault}
use Rattle.lab_script.specs.declared.reason.ScriptFault.TheVariants.{Refused, Limit, OutOfMemory}
use Rattle.lab_script.specs.declared.script.Script.{Script}
use Rattle.lab_script.specs.declared.script.Script.TheVariants.{Keys, Lab}
use Rattle.lab_script.specs.Scripts.{◌>>=◌, script_of, names_in}
use Rattle.lab_text.specs.LabRuns.{end_of}
use Rattle.weave_text.specs.Ahead.{behind_head, ahead_count, behind_many, script_text, told_in}
use Rattle.weave_text.specs.Blocks.{Block, blocks_in}
use Rattle.weave_text.specs.Lines.{Left, lines_in, all_of}

-- ---- the part ahead of the blocks

-- a lab script, and the network at its end
pub record Laid : Type 0 where
  pub script : Script
  pub net : Network

-- the network at a script's end; no other script than a lab script is played
abbrev pub end_in : Script → Result Network ScriptFault
end_in (Keys script) = Err (Refused 1 Head)
end_in (Lab script) = end_of script

-- the lab script that lines are
abbrev pub script_in : List (List ℕ) → Result Script ScriptFault
script_in lines = script_of (script_text lines)

-- the limit that ends a reading or a run, if one does
abbrev pub limit_in : {X : Type 0} → Result X ScriptFault → Option LimitName
limit_in (Ok x) = None
limit_in (Err (Refused line reason)) = None
limit_in (Err (Limit which)) = Some which
limit_in (Err OutOfMemory) = None

-- the limit that a script passes, where it is read or at its end
abbrev pub limit_of : Result Script ScriptFault → Option LimitName
limit_of script = limit_in (script >>= end_in)

-- the limit that the lines before this one pass
abbrev pub limit_before : ℕ → List (List ℕ) → Option LimitName
limit_before line lines = limit_of (script_in (take (line - 2) lines))

-- a line is refused, unless a limit was passed before it
abbrev pub unless_limited : Option LimitName → ℕ → Reason → ScriptFault
unless_limited None line reason = Refused line reason
unless_limited (Some which) line reason = Limit which

abbrev pub laid_by : List (List ℕ) → Result Script ScriptFault → Result Laid ScriptFault
laid_by lines (Ok script) = end_in script >>= λ net. Ok (record { script = script; net = net })
laid_by lines (Err (Refused line reason)) =
    Err (unless_limited (limit_before line lines) line reason)
laid_by lines (Err (Limit which)) = Err (Limit which)
laid_by lines (Err OutOfMemory) = Err OutOfMemory

-- setup and change lines, read as a lab script and played: the first line that is refused, or passes a
-- limit, is told
abbrev pub laid_out : List (List ℕ) → Result Laid ScriptFault
laid_out lines = laid_by lines (script_in lines)

-- ---- the whole text

-- the script and the network of the part ahead, its lines that aren't skipped, and the blocks
pub record Weaving : Type 0 where
  pub script : Script
  pub net : Network
  pub told : List (List ℕ)
  pub blocks : List Block

abbrev pub with_blocks : Laid → List (List ℕ) → Result (List Block) ScriptFault
    → Result Weaving ScriptFault
with_blocks laid ahead blocks = blocks >>= λ blocks. Ok (record {
  script = laid.script;
  net = laid.net;
  told = told_in ahead;
  blocks = blocks;
})

-- so many lines stand ahead of the blocks
abbrev pub said_by : ℕ → Left → Result Weaving ScriptFault
said_by count left = laid_out (take count left.lines) >>= λ laid.
    with_blocks laid (take count left.lines)
    (blocks_in (names_in laid.script) (behind_many count left))

-- what the lines behind a head say
unfoldable pub said_in : Left → Result Weaving ScriptFault
said_in left = said_by (ahead_count left.lines) left

abbrev pub said_behind : Option Left → Result Weaving ScriptFault
said_behind None = Err (Refused 1 Head)
said_behind (Some left) = said_in left

-- what a text says
abbrev pub weaving_of : List ℕ → Result Weaving ScriptFault
weaving_of text = said_behind (behind_head (all_of text) (lines_in text))
