-- What became of an entry and of a journal that were replayed, and how routers stand behind
-- journals (own).
use Rattle.std.specs.Prelude.{◌≡◌, ℕ, ◌+◌, ◌≤◌, List, [], ◌∷◌, ◌++◌, length, Some}
use Rattle.model_router.specs.Places.{nth, with_nth}
use Rattle.model_router.specs.Routers.{Router}
use Rattle.model_router.specs.Starts.{start}
use Rattle.router_desk.specs.Causes.{name_of}
use Rattle.router_core.specs.declared.reply.Reply.{Reply}
use Rattle.router_core.specs.declared.reply.Reply.TheVariants as reply
use Rattle.router_core.specs.Givens.{given}
use Rattle.weave_model.specs.Entries.{Answer, Done, Dropped, Sends, Entry, next, replay}
use Rattle.weave_model.specs.Faults.{IsGood, AreGood, OfEvent, OfReply, IsFaulty, opening}
use Rattle.weave_replay.specs.declared.entries.Outcome.{Outcome}
use Rattle.weave_replay.specs.declared.entries.Outcome.TheVariants as outcome
use Rattle.weave_replay.specs.declared.entries.Replayed.{Replayed}
use Rattle.weave_replay.specs.declared.entries.Replayed.TheVariants as replayed
use Rattle.weave_replay.specs.declared.journal.WovenJournal.{WovenJournal}
use Rattle.weave_replay.specs.Replays.{journals_of, in_first_boot, IsFaultAt, IsFaultless, HasFault}

-- a router's reply as an answer
abbrev pub answer_in : Reply → Answer
answer_in reply.Done = Done
answer_in (reply.Dropped cause) = Dropped (name_of cause)
answer_in (reply.Send datagrams) = Sends datagrams

-- an entry is good and its router is behind it, or it has a fault
abbrev pub IsOutcome : Router → Router → Entry → Outcome → Type 0
IsOutcome old new e outcome.Good = IsGood given old e × (new ≡ next given old e.deed)
IsOutcome old new e outcome.OfEvent = IsFaulty given old e OfEvent
IsOutcome old new e outcome.OfReply = IsFaulty given old e OfReply

-- all entries of a journal are good and its router is behind them, or the first fault
abbrev pub IsReplayed : Router → Router → List Entry → Replayed → Type 0
IsReplayed old new es replayed.Good = AreGood given old es × (new ≡ replay given old es)
IsReplayed old new es (replayed.OfEvent entry) = IsFaultAt old es entry OfEvent
IsReplayed old new es (replayed.OfReply entry) = IsFaultAt old es entry OfReply

-- a journal was replayed from a state of the router at a place, where its router stands now
pub record IsReplayedIn (old new : List Router) (place : ℕ) (opening : Router) (es : List Entry)
    (replayed : Replayed) : Type 0 where
  pub behind : Router
  pub routers : new ≡ with_nth old place behind
  pub replayed_is : IsReplayed opening behind es replayed

-- ---- behind journals

-- so many journals each router has among these
abbrev pub AreCounts : List ℕ → List WovenJournal → Type 0
AreCounts counts before =
    (router count : ℕ) → nth counts router ≡ Some count
    → count ≡ length (journals_of router before)

-- each router, restarted, is where its next journal opens
abbrev pub AreBehind : List Router → List Router → List WovenJournal → Type 0
AreBehind firsts routers before =
    (router : ℕ) (first r : Router) → nth firsts router ≡ Some first → nth routers router ≡ Some r
    → length (journals_of router before) ≤ 16777215
    → start r.config (length (journals_of router before) + 1) r.circuits
    ≡ opening given (in_first_boot first) (journals_of router before)

-- one journal more was replayed: its routers are behind it, or it has a fault
abbrev pub IsReplayedNext : List Router → List Router → List WovenJournal → WovenJournal → Replayed
    → Type 0
IsReplayedNext firsts routers before j replayed.Good =
    AreBehind firsts routers (before ++ j ∷ []) × IsFaultless firsts before j
IsReplayedNext firsts routers before j (replayed.OfEvent entry) =
    HasFault firsts before j entry OfEvent
IsReplayedNext firsts routers before j (replayed.OfReply entry) =
    HasFault firsts before j entry OfReply
