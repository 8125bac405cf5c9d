-- The events of a router, what it answers, and the state and answer after one (own).
use Rattle.std.specs.Prelude.{ℕ, Bool, List, Option}
use Rattle.isis_base.specs.declared.level.Level.{Level}
use Rattle.model_router.specs.declared.drop_name.DropName.{DropName}
use Rattle.model_router.specs.Cells.{Heard}
use Rattle.model_router.specs.SnpTable.{SnpEntry}
use Rattle.model_router.specs.Adjacencies.{Hello}
use Rattle.model_router.specs.Routers.{Router}
use Rattle.model_router.specs.Elections.{idle_all}
use Rattle.model_router.specs.Datagrams.{Sent}

-- what a datagram's frame says of its sender: its SNPA and its boot number (own)
pub record Envelope : Type 0 where
  pub snpa : ℕ
  pub boot : ℕ

-- What a datagram says that passed the tests that need no state (a hello of the circuit's kind, a
-- level that is run, and so on): a hello, an LSP with its envelope, or an SNP with its envelope, its
-- source's system ID, a CSNP's range and its entries. Or why the first of these tests that fails
-- refuses it (own).
pub data Message : Type 0 where
  Refused : (cause : DropName) → Message
  PointHelloHeard : (h : Hello) → Message
  LanHelloHeard : (level : Level) (h : Hello) → Message
  LspHeard : (level : Level) (from : Envelope) (h : Heard) → Message
  SnpHeard : (level : Level) (from : Envelope) (source : ℕ) (range : Option (ℕ × ℕ))
      (entries : List SnpEntry) → Message

-- A second; a datagram that is taken, and a pull, on the circuit at a place; or a change of the
-- configuration (own).
pub data Event : Type 0 where
  Second : Event
  Take : (place : ℕ) (message : Message) → Event
  Pull : (place : ℕ) → Event
  Metric : (place metric : ℕ) → Event
  Overload : (on : Bool) → Event
  Prefix : (prefix : ℕ) (metric : Option ℕ) → Event

-- own
pub data Reply : Type 0 where
  Done : Reply
  Dropped : (cause : DropName) → Reply
  Send : (out : List Sent) → Reply

-- own
pub record Outcome : Type 0 where
  pub router : Router
  pub reply : Reply

-- the end of each event that isn't dropped: CSNP counters stand at 0 where the router isn't
-- designated (own)
abbrev pub settled : Outcome → Outcome
settled o =
    record o {
      router = record o.router { circuits = idle_all o.router.config 0 o.router.circuits };
    }
