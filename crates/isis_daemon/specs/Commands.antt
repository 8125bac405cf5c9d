-- What the words after the program's name ask for (own).
use Rattle.std.specs.Prelude.{◌≡◌, ℕ, ◌-◌, nat_le, ◌&&◌, List, [], ◌∷◌, true, false, Option, Some, None, codes, IfSome, option_and_then, if◌then◌else◌}
use Rattle.std.specs.Option.{option_map}
use Rattle.isis_base.specs.declared.identifiers.SystemId.{SystemId}
use Rattle.isis_base.specs.declared.level.Level.{Level}
use Rattle.isis_base.specs.declared.level.Level.TheVariants.{One, Two}
use Rattle.isis_base.specs.declared.prefix.Prefix.{Prefix}
use Rattle.isis_base.specs.declared.texts.TheConstants.{SYSTEM_TEXT}
use Rattle.isis_base.specs.Identifiers.{system_from}
use Rattle.isis_base.specs.Misfit.{text_octets}
use Rattle.std.specs.Str.{bytes_eq}
use Rattle.daemon_config.specs.Fields.{host_of}
use Rattle.line_cuts.specs.Fields.{prefix_of}
use Rattle.lab_script.specs.Fields.{name_of}
use Rattle.isis_daemon.specs.declared.command.Command.{Command}
use Rattle.isis_daemon.specs.declared.command.Command.TheVariants.{Lab, Show, Merge, Captured, Timeline, Losses}
use Rattle.isis_daemon.specs.declared.command.CapturedText.{CapturedText}
use Rattle.isis_daemon.specs.declared.command.CapturedText.TheVariants.{Routes, Routes6, Alternates}
use Rattle.losses_text.specs.Words.{most_in, part_in}
use Rattle.lab_losses.specs.ScriptLosses.{IsAskedPart}
use Rattle.isis_daemon.specs.Options.{daemon_of, state_of}

-- a level, `L1` or `L2`
abbrev pub level_in : List ℕ → Option Level
level_in word =
    if bytes_eq word (codes "L1") then Some One else if bytes_eq word (codes "L2")
    then Some Two else None

-- the text of a system ID
abbrev pub system_in : List ℕ → Option SystemId
system_in word = option_map system_from (text_octets SYSTEM_TEXT word)

-- a text of captured LSPs, by its word
abbrev pub captured_text_of : List ℕ → Option CapturedText
captured_text_of word =
    if bytes_eq word (codes "routes") then Some Routes
    else if bytes_eq word (codes "routes6") then Some Routes6
    else if bytes_eq word (codes "alternates") then Some Alternates else None

-- such a text, of a level and a system
abbrev pub captured_of : List ℕ → List ℕ → List ℕ → Option Command
captured_of word level system =
    option_and_then (λ what. option_and_then (λ level.
    option_map (λ system. Captured what level system) (system_in system)) (level_in level))
    (captured_text_of word)

-- `show long`
abbrev pub long_of : List ℕ → Option Command
long_of word = if bytes_eq word (codes "long") then Some (Show true) else None

-- `timeline` of packets to an address
abbrev pub timeline_of : List ℕ → Option Command
timeline_of address = option_map (λ address. Timeline address) (host_of address)

-- `losses` of at most so many lost deliveries, in all schedules
abbrev pub losses_of : List ℕ → Option Command
losses_of most = option_map (λ most. Losses most None) (most_in most)

-- a word and one behind it
abbrev pub two_of : List ℕ → List ℕ → Option Command
two_of word second =
    if bytes_eq word (codes "losses") then losses_of second
    else if bytes_eq word (codes "show") then long_of second
    else if bytes_eq word (codes "timeline") then timeline_of second else None

-- the same in a part of all schedules
abbrev pub losses_in : List ℕ → List ℕ → Option Command
losses_in most part =
    option_and_then (λ most. option_map (λ part. Losses most (Some part)) (part_in part)) (most_in most)

-- a word and two behind it
abbrev pub three_of : List ℕ → List ℕ → List ℕ → Option Command
three_of word first second =
    if bytes_eq word (codes "losses") then losses_in first second
    else captured_of word first second

-- a command's part is one of so many
abbrev pub IsAskedCommand : Command → Type 0
IsAskedCommand Lab = Unit {0}
IsAskedCommand (Show long) = Unit {0}
IsAskedCommand Merge = Unit {0}
IsAskedCommand (Captured what level system) = Unit {0}
IsAskedCommand (Timeline address) = Unit {0}
IsAskedCommand (Losses most part) = IfSome part IsAskedPart

-- one word, `lab`, `show` or `merge`; `show long`; `timeline` with an address; `losses` with how many and a part; or a word of captured LSPs, a level and a system
abbrev pub command_of : List (List ℕ) → Option Command
command_of [] = None
command_of (word ∷ []) =
    if bytes_eq word (codes "lab") then Some Lab
    else if bytes_eq word (codes "show") then Some (Show false)
    else if bytes_eq word (codes "merge") then Some Merge else None
command_of (word ∷ first ∷ []) = two_of word first
command_of (word ∷ first ∷ second ∷ []) = three_of word first second
command_of (word ∷ first ∷ second ∷ next ∷ words) = None

-- a number from 1 to 8, in its one digit
abbrev pub size_of : List ℕ → Option ℕ
size_of [] = None
size_of (digit ∷ []) = if nat_le 49 digit && nat_le digit 56 then Some (digit - 48) else None
size_of (digit ∷ next ∷ digits) = None

-- how many rows and columns the grid has that the words ask for: `grid` and a number
abbrev pub grid_size_of : List (List ℕ) → Option ℕ
grid_size_of [] = None
grid_size_of (word ∷ []) = None
grid_size_of (word ∷ number ∷ []) =
    if bytes_eq word (codes "grid") then size_of number else None
grid_size_of (word ∷ number ∷ next ∷ words) = None

-- a name and a prefix
abbrev pub asked_of : List ℕ → List ℕ → Option (List ℕ × Prefix)
asked_of name prefix =
    option_and_then (λ n. option_map (λ p. (n, p)) (prefix_of prefix)) (name_of name)

-- the name of a router and the prefix that the words ask to walk between: `walk` and these two
abbrev pub walk_of : List (List ℕ) → Option (List ℕ × Prefix)
walk_of [] = None
walk_of (word ∷ []) = None
walk_of (word ∷ name ∷ []) = None
walk_of (word ∷ name ∷ prefix ∷ []) =
    if bytes_eq word (codes "walk") then asked_of name prefix else None
walk_of (word ∷ name ∷ prefix ∷ next ∷ words) = None

-- a name and an IPv4 address
abbrev pub tracing_of : List ℕ → List ℕ → Option (List ℕ × ℕ)
tracing_of name address =
    option_and_then (λ n. option_map (λ a. (n, a)) (host_of address)) (name_of name)

-- the name of a router and the address that the words ask to follow a packet between: `trace` and
-- these two
abbrev pub trace_of : List (List ℕ) → Option (List ℕ × ℕ)
trace_of [] = None
trace_of (word ∷ []) = None
trace_of (word ∷ name ∷ []) = None
trace_of (word ∷ name ∷ address ∷ []) =
    if bytes_eq word (codes "trace") then tracing_of name address else None
trace_of (word ∷ name ∷ address ∷ next ∷ words) = None

-- whether the words ask for a weaving: `weave` alone
abbrev pub weave_of : List (List ℕ) → Option (Unit {0})
weave_of [] = None
weave_of (word ∷ []) = if bytes_eq word (codes "weave") then Some tt else None
weave_of (word ∷ next ∷ words) = None

-- words that ask for no text of an input, and for no grid
abbrev pub AreNoText : List (List ℕ) → Type 0
AreNoText words = (command_of words ≡ None) × (grid_size_of words ≡ None)

-- words that ask for no text of an input, for no grid, no walk, no trace and no weaving
abbrev pub AreNoInput : List (List ℕ) → Type 0
AreNoInput words =
    AreNoText words × (walk_of words ≡ None) × (trace_of words ≡ None) × (weave_of words ≡ None)

-- words that ask for nothing
abbrev pub AreNone : List (List ℕ) → Type 0
AreNone words =
    AreNoText words × (daemon_of words ≡ None) × (walk_of words ≡ None) × (trace_of words ≡ None)
    × (weave_of words ≡ None) × (state_of words ≡ None)
