-- What `timeline` makes of an input, or why it doesn't (own).
use Rattle.std.specs.Prelude.{ℕ, List, IsOkAnd}
use Rattle.lab_script.specs.Scripts.{script_of}
use Rattle.timeline_text.specs.Timelines.{IsNoTimeline, IsTimelineText}
use Rattle.walk_text.specs.declared.reason.WalkReason.{WalkReason}

-- a text is the timeline of an address over the script that an input is read as
abbrev pub TellsTimeline : ℕ → List ℕ → List ℕ → Type 0
TellsTimeline address input text =
    IsOkAnd (script_of input) (λ script. IsTimelineText script address text)

-- the script has none
abbrev pub HasNoTimeline : List ℕ → WalkReason → Type 0
HasNoTimeline input reason = IsOkAnd (script_of input) (λ script. IsNoTimeline script reason)
