-- A line of a journal while it is made: what of its text is still to come (own).
use Rattle.std.specs.Prelude.{ℕ, List, [], ◌++◌, drop, codes, decimal, flat_map}
use Rattle.model_router.specs.Drops.{drop_word}
use Rattle.router_desk.specs.Causes.{name_of}
use Rattle.router_core.specs.declared.event.NodeEvent.{NodeEvent}
use Rattle.router_core.specs.declared.event.NodeEvent.TheVariants as event
use Rattle.router_core.specs.declared.reply.Reply.{Reply}
use Rattle.router_core.specs.declared.reply.Reply.TheVariants as reply
use Rattle.circuit_threads.specs.declared.entry.JournalEntry.{JournalEntry}
use Rattle.circuit_threads.specs.declared.line.Stage.{Stage}
use Rattle.circuit_threads.specs.declared.line.Stage.TheVariants.{Front, Middle, Datagrams, Over}
use Rattle.circuit_threads.specs.declared.line.LineRest.{LineRest}
use Rattle.circuit_threads.specs.JournalText.{hex_text, change_text, datagram_text}

-- an event's text up to the octets of a datagram that is taken (own)
abbrev pub event_front : NodeEvent → List ℕ
event_front event.Second = codes "second"
event_front (event.Take opened) = codes "take " ++ (decimal opened.circuit ++ codes " ")
event_front (event.Pull circuit) = codes "pull " ++ decimal circuit
event_front (event.Change changed) = change_text changed

-- the octets that an event says in hex (own)
abbrev pub taken_octets : NodeEvent → List ℕ
taken_octets event.Second = []
taken_octets (event.Take opened) = opened.octets
taken_octets (event.Pull circuit) = []
taken_octets (event.Change changed) = []

-- own
abbrev pub reply_front : Reply → List ℕ
reply_front reply.Done = codes " -> done\n"
reply_front (reply.Dropped cause) = codes " -> drop " ++ (drop_word (name_of cause) ++ codes "\n")
reply_front (reply.Send datagrams) = codes " -> send"

-- what follows the first so many datagrams (own)
abbrev pub datagrams_from : Reply → ℕ → List ℕ
datagrams_from reply.Done count = []
datagrams_from (reply.Dropped cause) count = []
datagrams_from (reply.Send datagrams) count =
    flat_map datagram_text (drop count datagrams) ++ codes "\n"

-- own
unfoldable pub front_text : JournalEntry → List ℕ
front_text e =
    decimal e.number ++ (codes " " ++ (decimal e.pass ++ (codes " " ++ event_front e.event)))

-- own
abbrev pub middle_on : JournalEntry → List ℕ
middle_on e = reply_front e.reply ++ datagrams_from e.reply 0

-- own
abbrev pub text_from : JournalEntry → Stage → List ℕ
text_from e Front = front_text e ++ (hex_text (taken_octets e.event) ++ middle_on e)
text_from e Middle = middle_on e
text_from e (Datagrams count) = datagrams_from e.reply count
text_from e Over = []

-- own
abbrev pub rest_of : LineRest → List ℕ
rest_of l = hex_text l.octets.now ++ text_from l.entry.now l.stage
