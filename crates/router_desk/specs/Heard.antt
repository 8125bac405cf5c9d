-- What is heard as the message of the router's model (own).
use Rattle.std.specs.Prelude.{ℕ, ◌<◌, false, List, Option, None}
use Rattle.std.specs.Option.{option_map}
use Rattle.std.specs.Result.{ok_prefix}
use Rattle.isis_base.specs.declared.identifiers.SystemId.{SystemId}
use Rattle.isis_base.specs.declared.level.LevelSet.{LevelSet}
use Rattle.isis_base.specs.declared.identifiers.LspId.{LspId}
use Rattle.isis_base.specs.Identifiers.{lsp_number}
use Rattle.model_router.specs.Adjacencies as model
use Rattle.model_router.specs.Events as event
use Rattle.model_router.specs.Numbers.{system_number, snpa_number, node_number}
use Rattle.model_router.specs.Both.{runs_of}
use Rattle.model_datagram.specs.Values.{areas_in}
use Rattle.adjacency.specs.Views as adjacency
use Rattle.router_desk.specs.Opening.{envelope_of}
use Rattle.flag_sync.specs.Heard.{heard_of, entries_of}
use Rattle.router_desk.specs.declared.heard.HelloHeard.{HelloHeard}
use Rattle.router_desk.specs.declared.heard.Heard.{Heard}
use Rattle.router_desk.specs.declared.heard.Heard.TheVariants as heard

-- a hello, in the words of the adjacencies that take it (own)
abbrev pub hello_heard : HelloHeard → model.Hello
hello_heard h = record {
  source = system_number h.source;
  snpa = snpa_number h.snpa;
  boot = h.boot;
  runs = runs_of h.levels;
  holding = h.holding;
  priority = h.priority;
  lan = node_number h.lan;
  areas = h.areas.items;
  handshake = adjacency.shakes_of h.three_way;
  names_me = h.names_me;
}

-- a hello in an envelope with these fields and areas, and nothing else (own)
abbrev pub hello_without : event.Envelope → LevelSet → SystemId → ℕ → List ℕ → model.Hello
hello_without from levels source holding tlvs = record {
  source = system_number source;
  snpa = from.snpa;
  boot = from.boot;
  runs = runs_of levels;
  holding = holding;
  priority = 0;
  lan = 0;
  areas = ok_prefix (areas_in tlvs);
  handshake = None;
  names_me = false;
}

-- the range of a CSNP (ISO 10589 9.10)
abbrev pub range_of : Option (LspId × LspId) → Option (ℕ × ℕ)
range_of range = option_map (λ (r : LspId × LspId). (lsp_number r.0, lsp_number r.1)) range

abbrev pub message_of : Heard → event.Message
message_of (heard.PointHello h) = event.PointHelloHeard (hello_heard h)
message_of (heard.LanHello level h) = event.LanHelloHeard level (hello_heard h)
message_of (heard.Lsp level from lsp) = event.LspHeard level (envelope_of from) (heard_of lsp)
message_of (heard.Snp level from source range entries) =
    event.SnpHeard level (envelope_of from) (system_number source) (range_of range)
    (entries_of entries.items)

-- an LSP has a number (ISO 10589 7.3.16.1)
abbrev pub IsNumbered : Heard → Type 0
IsNumbered (heard.PointHello h) = Unit {0}
IsNumbered (heard.LanHello level h) = Unit {0}
IsNumbered (heard.Lsp level from lsp) = 0 < lsp.entry.number
IsNumbered (heard.Snp level from source range entries) = Unit {0}
