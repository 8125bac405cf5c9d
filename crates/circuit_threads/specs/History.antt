-- The history of a router that threads share: what each turn leaves, and the replay of its entries
-- by the router's model (own).
use Rattle.std.specs.Prelude.{◌≡◌, ℕ, ◌+◌, List, [], ◌∷◌, ◌++◌, map, length, Option, Some, None}
use Rattle.model_router.specs.declared.drop_name.DropName.{DropName}
use Rattle.model_router.specs.Routers.{Router}
use Rattle.model_router.specs.Events as model
use Rattle.model_router.specs.Events.{Outcome}
use Rattle.model_router.specs.AdjacencyLaws.{place_of}
use Rattle.model_router.specs.Steps.{step}
use Rattle.router_desk.specs.Causes.{name_of}
use Rattle.router_core.specs.declared.event.NodeEvent.{NodeEvent}
use Rattle.router_core.specs.declared.reply.Reply.{Reply}
use Rattle.router_core.specs.declared.reply.Reply.TheVariants as reply
use Rattle.router_core.specs.Events.{event_of}
use Rattle.router_core.specs.Givens.{given}
use Rattle.router_core.specs.Replies.{datagrams_of}
use Rattle.circuit_threads.specs.declared.entry.JournalEntry.{JournalEntry}
use Rattle.circuit_threads.specs.declared.entry.Note.{Note}
use Rattle.circuit_threads.specs.declared.entry.Note.TheVariants.{Nothing, Made, Marked}

-- ---- what a journal says of an entry

-- a reply as a journal says it: a drop by its cause's name, what is sent as octets (own)
pub data ReplyView : Type 0 where
  Done : ReplyView
  Dropped : (name : DropName) → ReplyView
  Sent : (datagrams : List (List ℕ)) → ReplyView

-- own
abbrev pub reply_view : Reply → ReplyView
reply_view reply.Done = Done
reply_view (reply.Dropped cause) = Dropped (name_of cause)
reply_view (reply.Send datagrams) = Sent datagrams

-- the reply of the model's router, after an event on the circuit at a place (own)
abbrev pub model_view : Router → ℕ → model.Reply → ReplyView
model_view r place model.Done = Done
model_view r place (model.Dropped name) = Dropped name
model_view r place (model.Send out) = Sent (datagrams_of r place out)

-- an entry: its number, the label of its pass, the event and the reply (own)
pub record Line : Type 0 where
  pub number : ℕ
  pub pass : ℕ
  pub event : NodeEvent
  pub reply : ReplyView

-- own
abbrev pub line_of : JournalEntry → Line
line_of e = record {
  number = e.number;
  pass = e.pass;
  event = e.event;
  reply = reply_view e.reply;
}

-- ---- the entries of notes

-- the history: the entries of all turns, in order (own)
abbrev pub entries : List Note → List JournalEntry
entries [] = []
entries (Nothing ∷ notes) = entries notes
entries (Made e ∷ notes) = e ∷ entries notes
entries (Marked e ∷ notes) = e ∷ entries notes

-- the entries whose append went well (own)
abbrev pub appended : List Note → List JournalEntry
appended [] = []
appended (Nothing ∷ notes) = appended notes
appended (Made e ∷ notes) = e ∷ appended notes
appended (Marked e ∷ notes) = appended notes

-- the entry whose append failed, if one's did (own)
abbrev pub marked : List Note → Option JournalEntry
marked [] = None
marked (Nothing ∷ notes) = marked notes
marked (Made e ∷ notes) = marked notes
marked (Marked e ∷ notes) = Some e

-- ---- the replay

-- what a replay has come to: the router, the lines of its entries, numbered from 1, and the number
-- of the entry that is marked, after which there is none (own)
pub record Replay : Type 0 where
  pub router : Router
  pub lines : List Line
  pub stop : Option ℕ

-- own
abbrev pub opening : Router → Replay
opening r = record { router = r; lines = []; stop = None }

-- the line of an event of a pass, whose outcome is this (own)
abbrev pub line_in : Replay → JournalEntry → Outcome → Line
line_in p e o = record {
  number = length p.lines + 1;
  pass = e.pass;
  event = e.event;
  reply = model_view o.router (place_of (event_of p.router e.event)) o.reply;
}

-- own
abbrev pub with_line : Replay → JournalEntry → Outcome → Option ℕ → Replay
with_line p e o stop = record {
  router = o.router;
  lines = p.lines ++ line_in p e o ∷ [];
  stop = stop;
}

-- one entry more: the machine's step of its event (own)
abbrev pub made : Replay → JournalEntry → Option ℕ → Replay
made p e stop = with_line p e (step given p.router (event_of p.router e.event)) stop

-- own
abbrev pub unless_stopped : Option ℕ → Replay → Replay → Replay
unless_stopped None p after = after
unless_stopped (Some entry) p after = p

-- own
abbrev pub next : Replay → Note → Replay
next p Nothing = p
next p (Made e) = unless_stopped p.stop p (made p e None)
next p (Marked e) = unless_stopped p.stop p (made p e (Some (length p.lines + 1)))

-- own
abbrev pub replay : Replay → List Note → Replay
replay p [] = p
replay p (note ∷ notes) = replay (next p note) notes

-- ---- the history of a router

-- own
abbrev pub reached : Router → List Note → Option ℕ → Replay
reached now notes stop = record { router = now; lines = map line_of (entries notes); stop = stop }

-- Notes of turns at a router: their entries are numbered from 1, each has the reply that the model
-- gives to its event there, a mark stands on the last alone, and the router is what the model comes
-- to (own).
abbrev pub IsHistory : Router → Router → List Note → Option ℕ → Type 0
IsHistory start now notes stop = replay (opening start) notes ≡ reached now notes stop
