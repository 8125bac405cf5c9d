-- The entries that a shared router's journal tells, as they are read; and their ranges (own).
use Rattle.std.specs.Prelude.{◌≡◌, ℕ, ◌+◌, ◌<◌, ◌^◌, List, [], ◌∷◌, IfSome}
use Rattle.std.specs.List.{AllByRecursion}
use Rattle.router_desk.specs.declared.config.Change.{Change}
use Rattle.router_desk.specs.declared.config.Change.TheVariants as change
use Rattle.router_core.specs.declared.event.NodeEvent.{NodeEvent}
use Rattle.router_core.specs.declared.event.NodeEvent.TheVariants as node
use Rattle.circuit_threads.specs.declared.entry.JournalEntry.{JournalEntry}
use Rattle.circuit_threads.specs.History.{ReplyView, Done, Dropped, Sent, reply_view}
use Rattle.journal_text.specs.declared.entry.WovenEntry.{WovenEntry}
use Rattle.journal_text.specs.declared.entry.WovenEvent.{WovenEvent}
use Rattle.journal_text.specs.declared.entry.WovenEvent.TheVariants as event
use Rattle.journal_text.specs.declared.entry.WovenReply.{WovenReply}
use Rattle.journal_text.specs.declared.entry.WovenReply.TheVariants as reply
use Rattle.line_cuts.specs.HexTexts.{AreOctets}

-- of a datagram that was taken its circuit and its octets are told
abbrev pub event_read : NodeEvent → WovenEvent
event_read node.Second = event.Second
event_read (node.Take opened) = event.Take opened.circuit opened.octets
event_read (node.Pull circuit) = event.Pull circuit
event_read (node.Change changed) = event.Change changed

abbrev pub reply_read : ReplyView → WovenReply
reply_read Done = reply.Done
reply_read (Dropped name) = reply.Dropped name
reply_read (Sent datagrams) = reply.Send datagrams

-- neither the number nor the label of the pass is kept
abbrev pub entry_read : JournalEntry → WovenEntry
entry_read e = record { event = event_read e.event; reply = reply_read (reply_view e.reply) }

-- ---- ranges

abbrev pub IsChangeInRange : Change → Type 0
IsChangeInRange (change.Metric circuit metric) = (circuit < 256) × (metric < 2 ^ 32)
IsChangeInRange (change.Prefix prefix metric) =
    (prefix.address < 2 ^ 32) × IfSome metric (λ m. m < 2 ^ 32)
IsChangeInRange (change.Overload on) = Unit {0}

abbrev pub IsEventInRange : NodeEvent → Type 0
IsEventInRange node.Second = Unit {0}
IsEventInRange (node.Take opened) = (opened.circuit < 256) × AreOctets opened.octets
IsEventInRange (node.Pull circuit) = circuit < 256
IsEventInRange (node.Change changed) = IsChangeInRange changed

abbrev pub IsReplyInRange : ReplyView → Type 0
IsReplyInRange Done = Unit {0}
IsReplyInRange (Dropped name) = Unit {0}
IsReplyInRange (Sent datagrams) = AllByRecursion AreOctets datagrams

-- the numbers of an entry are those of its fields' types
pub record IsInRange (e : JournalEntry) : Type 0 where
  pub number : e.number < 2 ^ 64
  pub pass : e.pass < 2 ^ 64
  pub event : IsEventInRange e.event
  pub reply : IsReplyInRange (reply_view e.reply)

-- the entries are numbered from here on
abbrev pub AreNumbered : ℕ → List JournalEntry → Type 0
AreNumbered number [] = Unit {0}
AreNumbered number (e ∷ es) = (e.number ≡ number) × AreNumbered (number + 1) es
