-- The text of a journal: a head line, and for each entry a line `ENTRY PASS EVENT -> REPLY` (own).
use Rattle.std.specs.Prelude.{ℕ, Bool, true, false, List, ◌++◌, Option, Some, None, codes, decimal, flat_map}
use Rattle.isis_base.specs.PrefixTexts.{prefix_text}
use Rattle.isis_base.specs.Texts.{hex_pair}
use Rattle.model_router.specs.Drops.{drop_word}
use Rattle.router_desk.specs.declared.config.Change.{Change}
use Rattle.router_desk.specs.declared.config.Change.TheVariants as change
use Rattle.router_core.specs.declared.event.NodeEvent.{NodeEvent}
use Rattle.router_core.specs.declared.event.NodeEvent.TheVariants as event
use Rattle.circuit_threads.specs.declared.entry.JournalEntry.{JournalEntry}
use Rattle.circuit_threads.specs.History.{ReplyView, Done, Dropped, Sent, Line, line_of}

-- octets, each as two lower-case hex digits (own)
abbrev pub hex_text : List ℕ → List ℕ
hex_text octets = flat_map hex_pair octets

-- ---- events

-- own
abbrev pub metric_text : Option ℕ → List ℕ
metric_text None = codes "none"
metric_text (Some metric) = decimal metric

-- own
abbrev pub switch_text : Bool → List ℕ
switch_text true = codes "on"
switch_text false = codes "off"

-- own
abbrev pub change_text : Change → List ℕ
change_text (change.Metric circuit metric) =
    codes "change metric " ++ (decimal circuit ++ (codes " " ++ decimal metric))
change_text (change.Prefix prefix metric) =
    codes "change prefix "
    ++ (prefix_text prefix.address prefix.length ++ (codes " " ++ metric_text metric))
change_text (change.Overload on) = codes "change overload " ++ switch_text on

-- own
abbrev pub event_text : NodeEvent → List ℕ
event_text event.Second = codes "second"
event_text (event.Take opened) =
    codes "take " ++ (decimal opened.circuit ++ (codes " " ++ hex_text opened.octets))
event_text (event.Pull circuit) = codes "pull " ++ decimal circuit
event_text (event.Change changed) = change_text changed

-- ---- replies

-- own
abbrev pub datagram_text : List ℕ → List ℕ
datagram_text datagram = codes " " ++ hex_text datagram

-- own
abbrev pub reply_text : ReplyView → List ℕ
reply_text Done = codes "done"
reply_text (Dropped name) = codes "drop " ++ drop_word name
reply_text (Sent datagrams) = codes "send" ++ flat_map datagram_text datagrams

-- ---- lines

-- own
unfoldable pub line_text : Line → List ℕ
line_text line =
    decimal line.number ++ (codes " " ++ (decimal line.pass ++ (codes " "
    ++ (event_text line.event ++ (codes " -> " ++ (reply_text line.reply ++ codes "\n"))))))

-- own
abbrev pub entry_text : JournalEntry → List ℕ
entry_text e = line_text (line_of e)

-- own
abbrev pub entries_text : List JournalEntry → List ℕ
entries_text es = flat_map entry_text es

-- own
abbrev pub head_text : List ℕ
head_text = codes "isis-journal 1\n"

-- the whole text of a journal with these entries (own)
abbrev pub journal_text : List JournalEntry → List ℕ
journal_text es = head_text ++ entries_text es
