-- The lines of a journal, `ENTRY PASS EVENT -> REPLY`, a table of forms (own).
use Rattle.std.specs.Prelude.{ℕ, List, [], ◌∷◌, codes}
use Rattle.router_desk.specs.declared.config.Change.TheVariants as change
use Rattle.journal_text.specs.declared.entry.WovenEntry.{WovenEntry}
use Rattle.journal_text.specs.declared.entry.WovenEvent.{WovenEvent}
use Rattle.journal_text.specs.declared.entry.WovenEvent.TheVariants as event
use Rattle.journal_text.specs.declared.entry.WovenReply.{WovenReply}
use Rattle.journal_text.specs.declared.entry.WovenReply.TheVariants as reply
use Rattle.journal_text.specs.Fields.{this_number, pass_of, circuit_of, metric_of, prefix_metric_of, drop_of}
use Rattle.line_cuts.specs.Fields.{prefix_of, on_of}
use Rattle.line_cuts.specs.Forms.{Form, field, done, last, each, of_forms}
use Rattle.line_cuts.specs.HexTexts.{octets_of}

-- ---- replies

-- `done` (own)
abbrev pub done_form : Form WovenReply
done_form = done reply.Done

-- `drop WORD` (own)
abbrev pub drop_form : Form WovenReply
drop_form = field drop_of λ name. done (reply.Dropped name)

-- `send`, and for each datagram its octets (own)
abbrev pub send_form : Form WovenReply
send_form = last (each octets_of) λ datagrams. reply.Send datagrams

abbrev pub reply_forms : List (List ℕ × Form WovenReply)
reply_forms =
    (codes "done", done_form) ∷
    (codes "drop", drop_form) ∷
    (codes "send", send_form) ∷
    []

abbrev pub behind_arrow : Form WovenReply
behind_arrow = of_forms reply_forms

-- `-> REPLY` (own)
abbrev pub reply_form : Form WovenReply
reply_form = of_forms ((codes "->", behind_arrow) ∷ [])

-- ---- events

-- an event with the reply that follows
abbrev pub answered : WovenEvent → Form WovenEntry
answered event = last reply_form λ reply. record { event = event; reply = reply }

-- `second` (own)
abbrev pub second_form : Form WovenEntry
second_form = answered event.Second

-- `take C HEX` (own)
abbrev pub take_form : Form WovenEntry
take_form = field circuit_of λ circuit. field octets_of λ octets.
    answered (event.Take circuit octets)

-- `pull C` (own)
abbrev pub pull_form : Form WovenEntry
pull_form = field circuit_of λ circuit. answered (event.Pull circuit)

-- `change metric C METRIC` (own)
abbrev pub metric_form : Form WovenEntry
metric_form = field circuit_of λ circuit. field metric_of λ metric.
    answered (event.Change (change.Metric circuit metric))

-- `change prefix PREFIX METRIC|none` (own)
abbrev pub prefix_form : Form WovenEntry
prefix_form = field prefix_of λ prefix. field prefix_metric_of λ metric.
    answered (event.Change (change.Prefix prefix metric))

-- `change overload on|off` (own)
abbrev pub overload_form : Form WovenEntry
overload_form = field on_of λ on. answered (event.Change (change.Overload on))

abbrev pub change_forms : List (List ℕ × Form WovenEntry)
change_forms =
    (codes "metric", metric_form) ∷
    (codes "prefix", prefix_form) ∷
    (codes "overload", overload_form) ∷
    []

abbrev pub change_form : Form WovenEntry
change_form = of_forms change_forms

abbrev pub event_forms : List (List ℕ × Form WovenEntry)
event_forms =
    (codes "second", second_form) ∷
    (codes "take", take_form) ∷
    (codes "pull", pull_form) ∷
    (codes "change", change_form) ∷
    []

-- `EVENT -> REPLY` (own)
abbrev pub event_form : Form WovenEntry
event_form = of_forms event_forms

-- ---- entries

-- the entry of this number that these words say; none where they say none
abbrev pub entry_of : ℕ → Form WovenEntry
entry_of number = field (this_number number) λ n. field pass_of λ pass. event_form
