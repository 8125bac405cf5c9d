-- Small books, and a router of two circuits with its neighbour on the first, for rows that are
-- worked out (own).
use Rattle.std.specs.Prelude.{ℕ, ◌*◌, zero, suc, Bool, true, false, List, [], ◌∷◌, replicate, Option, Some, None}
use Rattle.isis_base.specs.declared.level.Level.{Level}
use Rattle.isis_base.specs.declared.level.Level.TheVariants.{Two}
use Rattle.model_router.specs.declared.drop_name.DropName.{DropName}
use Rattle.isis_tlv.specs.declared.three_way.Adj.{Adj}
use Rattle.isis_tlv.specs.declared.three_way.Adj.TheVariants.{Up, Down}
use Rattle.model_router.specs.Waits.{no_waits}
use Rattle.model_router.specs.Configs.{Config}
use Rattle.model_router.specs.Cells.{Cell, Heard}
use Rattle.model_router.specs.Books.{Book, cell_at}
use Rattle.model_router.specs.SnpTable.{SnpEntry}
use Rattle.model_router.specs.Adjacencies.{Handshake, Hello}
use Rattle.model_router.specs.Routers.{LanNeighbour, LevelState, Circuit, Contents, Issued, Router, book_of}
use Rattle.model_router.specs.Elections.{Candidate}
use Rattle.model_router.specs.Splits.{Draft}
use Rattle.model_router.specs.LspPrefixes.{Reach}
use Rattle.model_router.specs.Givens.{Given}
use Rattle.model_router.specs.Events.{Envelope, Event, Second, Take, Prefix, PointHelloHeard, LanHelloHeard, LspHeard, Outcome}
use Rattle.model_router.specs.Both.{Both}
use Rattle.model_router.specs.HelloTests.{point_drop}
use Rattle.model_router.specs.Steps.{step}
use Rattle.model_router.specs.Starts.{quiet, start}

-- ---- a cell on three open circuits, of which the third is a LAN

-- number 2 is held live, with SRM on circuit 2 and SSN on circuits 2 and 3 (own)
abbrev pub held : Cell
held =
    record {
      rank = 4;
      checksum = 5;
      flags = 3;
      left = 900;
      octets = replicate 27 1;
      srm = 2;
      ssn = 6;
      waits = no_waits;
    }

-- the cell with another key, other seconds, octets and flags (own)
abbrev pub cell_of : ℕ → ℕ → ℕ → List ℕ → ℕ → ℕ → Cell
cell_of rank checksum left octets srm ssn = record {
  rank = rank;
  checksum = checksum;
  flags = 3;
  left = left;
  octets = octets;
  srm = srm;
  ssn = ssn;
  waits = no_waits;
}

-- a purge's header: octets 8 to 11 and 24 and 25 are written anew (own)
abbrev pub header : List ℕ
header =
    1 ∷ 1 ∷ 1 ∷ 1 ∷ 1 ∷ 1 ∷ 1 ∷ 1 ∷ 0 ∷ 27 ∷ 0 ∷ 0 ∷ 1 ∷ 1 ∷ 1 ∷ 1 ∷ 1 ∷ 1 ∷ 1 ∷ 1 ∷ 1 ∷ 1 ∷ 1 ∷ 1
    ∷ 0 ∷ 0 ∷ 1 ∷ []

-- an LSP that is heard, and an entry, of LSP ID 7 (own)
abbrev pub lsp : ℕ → ℕ → Heard
lsp rank checksum =
    record {
      id = 7;
      rank = rank;
      checksum = checksum;
      flags = 3;
      left = 1100;
      octets = replicate 30 1;
    }

-- own
abbrev pub entry : ℕ → ℕ → SnpEntry
entry rank checksum = record { id = 7; rank = rank; lifetime = 600; checksum = checksum }

-- the entry of its purge (own)
abbrev pub purge_entry : SnpEntry
purge_entry = record { id = 7; rank = 5; lifetime = 0; checksum = 0 }

-- an empty entry that is asked for on circuit 1 (own)
abbrev pub asked_for : Cell
asked_for =
    record {
      rank = 0;
      checksum = 0;
      flags = 0;
      left = 60;
      octets = [];
      srm = 0;
      ssn = 1;
      waits = no_waits;
    }

-- own
abbrev pub book_with : List (ℕ × Cell) → ℕ → Book
book_with cells changes = record { cells = cells; opened = 7; p2p = 3; changes = changes }

-- own
abbrev pub before : Book
before = book_with ((7, held) ∷ []) 4

-- ---- a router of L2 with a point-to-point circuit and a LAN

-- own
abbrev pub config : Config
config = record {
  system = 1;
  areas = (73 ∷ 0 ∷ 1 ∷ []) ∷ [];
  runs = record { one = false; two = true };
  leak = false;
  overload = false;
  prefixes = (10737434648, 5) ∷ [];
  keys = record { one = None; two = None };
}

-- own
abbrev pub circuit : Bool → Circuit
circuit lan = record {
  lan = lan;
  metric = 10;
  priority = 64;
  address = None;
  key = None;
  point = record { state = Down; neighbour = None };
  levels = record { one = quiet; two = quiet };
  hello = 0;
  boots = [];
}

-- octets are what they say, and each checksum is the sequence number (own)
abbrev pub given : Given
given = record {
  leaks = λ (r : Router) (level : Level). [];
  attached = λ (r : Router). false;
  octets = λ (r : Router) (level : Level) (id number : ℕ) (contents : Contents). contents.tlvs;
  checksum = λ (r : Router) (level : Level) (id number : ℕ) (contents : Contents). number;
}

-- own
abbrev pub router : Router
router = start config 1 (circuit false ∷ circuit true ∷ [])

-- what a hello of a system with holding time 30 says, in a state, naming a system and a circuit
-- (own)
abbrev pub hello_from : ℕ → Adj → Option (ℕ × ℕ) → Hello
hello_from system state names = record {
  source = system;
  snpa = system;
  boot = 2;
  runs = record { one = false; two = true };
  holding = 30;
  priority = 0;
  lan = 0;
  areas = [];
  handshake = Some (record { state = state; extended = 513; names = names });
  names_me = false;
}

-- it is taken on circuit 1 (own)
abbrev pub hello_by : ℕ → Adj → Option (ℕ × ℕ) → Event
hello_by system state names = Take 0 (PointHelloHeard (hello_from system state names))

-- own
abbrev pub hello : Adj → Option (ℕ × ℕ) → Event
hello state names = hello_by 2 state names

-- a LAN hello of system 2 with LAN ID 513, which lists the router, of a priority and holding time
-- (own)
abbrev pub lan_hello_of : ℕ → ℕ → Event
lan_hello_of priority holding = Take 1 (LanHelloHeard Two (record {
  source = 2;
  snpa = 2;
  boot = 2;
  runs = record { one = false; two = true };
  holding = holding;
  priority = priority;
  lan = 513;
  areas = [];
  handshake = None;
  names_me = true;
}))

-- one of the router's priority, and one of a lower one (own)
abbrev pub lan_hello : Event
lan_hello = lan_hello_of 64 30

-- own
abbrev pub low_hello : Event
low_hello = lan_hello_of 1 30

-- a point-to-point hello's tests: of a source from an SNPA, of these levels and areas, with a
-- handshake (own)
abbrev pub tested : Config → ℕ → ℕ → Both Bool → List (List ℕ) → Option Handshake → Option DropName
tested by source snpa runs areas shake = point_drop by 257 [] (record {
  source = source;
  snpa = snpa;
  boot = 2;
  runs = runs;
  holding = 30;
  priority = 0;
  lan = 0;
  areas = areas;
  handshake = shake;
  names_me = false;
})

-- own
abbrev pub shake : Option (ℕ × ℕ) → Option Handshake
shake names = Some (record { state = Down; extended = 513; names = names })

-- own
abbrev pub level_one : Both Bool
level_one = record { one = true; two = false }

-- own
abbrev pub level_two : Both Bool
level_two = record { one = false; two = true }

-- contents that were issued so many seconds ago, beside the same and other ones (own)
abbrev pub contents_of : ℕ → Contents
contents_of flags = record { flags = flags; tlvs = 1 ∷ 2 ∷ [] }

-- own
abbrev pub issued_at : ℕ → Option Issued
issued_at age = Some (record { contents = contents_of 1; age = age })

-- the handshake with system 2, the last event first (own)
abbrev pub events_up : List Event
events_up = hello Up (Some (1, 257)) ∷ hello Down None ∷ []

-- seconds more (own)
abbrev pub seconds : ℕ → List Event → List Event
seconds zero events = events
seconds (suc count) events = Second ∷ seconds count events

-- its own LSP with these seconds left and SRM on these circuits: an area address, IPv4, a node of
-- system 2 at metric 10, and 10.0.1.0/24 at metric 5 (own)
abbrev pub own_lsp : ℕ → ℕ → ℕ → Cell
own_lsp left pseudonode srm = record {
  rank = 2;
  checksum = 1;
  flags = 3;
  left = left;
  octets = 1 ∷ 4 ∷ 3 ∷ 73 ∷ 0 ∷ 1 ∷ 129 ∷ 1 ∷ 204 ∷ 22 ∷ 11 ∷ 0 ∷ 0 ∷ 0 ∷ 0 ∷ 0 ∷ 2 ∷ pseudonode ∷ 0
      ∷ 0 ∷ 10 ∷ 0 ∷ 135 ∷ 8 ∷ 0 ∷ 0 ∷ 0 ∷ 5 ∷ 24 ∷ 10 ∷ 0 ∷ 1 ∷ [];
  srm = srm;
  ssn = 0;
  waits = no_waits;
}

-- the router after some events, the last one first (own)
abbrev pub run : List Event → Router
run [] = router
run (event ∷ events) = (step given (run events) event).router

-- what it answers to a further one (own)
abbrev pub answer_to : Event → List Event → Outcome
answer_to event events = step given (run events) event

-- ---- own LSPs

-- a router of these levels, in overload or not, whose routes are attached (own)
abbrev pub running : Both Bool → Bool → Router
running runs overload =
    record router { config = record config { runs = runs; overload = overload } }

-- own
abbrev pub attached : Given
attached = record given { attached = λ (r : Router). true }

-- routes that leak a prefix of metric 8 into either level (own)
abbrev pub leaking : Given
leaking = record given { leaks = λ (r : Router) (level : Level). (96, 8) ∷ [] }

-- the router's own prefix, and that one (own)
abbrev pub own_prefix : ℕ × Reach
own_prefix = (10737434648, record { metric = 5; down = false })

-- own
abbrev pub leaked_prefix : Bool → ℕ × Reach
leaked_prefix down = (96, record { metric = 8; down = down })

-- both levels (own)
abbrev pub both_levels : Both Bool
both_levels = record { one = true; two = true }

-- a router of both levels that leaks into L1 (own)
abbrev pub leaker : Router
leaker =
    record router { config = record config { runs = both_levels; leak = true } }

-- a designated system with its LAN ID (own)
abbrev pub elected : ℕ → ℕ → Option Candidate
elected system lan = Some (record { priority = 64; snpa = system; system = system; lan = lan })

-- what the router and its pseudonode say where it is designated on the LAN with system 2: an area
-- address, IPv4, the pseudonode at metric 10 and 10.0.1.0/24 at metric 5; both systems at metric 0
-- (own)
abbrev pub lan_lsps : List (ℕ × Contents)
lan_lsps = (
  65536,
  record {
    flags = 3;
    tlvs = 1 ∷ 4 ∷ 3 ∷ 73 ∷ 0 ∷ 1 ∷ 129 ∷ 1 ∷ 204 ∷ 22 ∷ 11 ∷ 0 ∷ 0 ∷ 0 ∷ 0 ∷ 0 ∷ 1 ∷ 2 ∷ 0 ∷ 0
        ∷ 10 ∷ 0 ∷ 135 ∷ 8 ∷ 0 ∷ 0 ∷ 0 ∷ 5 ∷ 24 ∷ 10 ∷ 0 ∷ 1 ∷ [];
  },
)
    ∷ (
      66048,
      record {
        flags = 3;
        tlvs = 22 ∷ 22 ∷ 0 ∷ 0 ∷ 0 ∷ 0 ∷ 0 ∷ 1 ∷ 0 ∷ 0 ∷ 0 ∷ 0 ∷ 0 ∷ 0 ∷ 0 ∷ 0 ∷ 0 ∷ 0 ∷ 2 ∷ 0 ∷ 0
            ∷ 0 ∷ 0 ∷ 0 ∷ [];
      },
    )
    ∷ []

-- what comes from an SNPA in boot 2 (own)
abbrev pub from_snpa : ℕ → Envelope
from_snpa snpa = record { snpa = snpa; boot = 2 }

-- a live LSP of an LSP ID that is heard from system 2, of a sequence number (own)
abbrev pub heard_of : ℕ → ℕ → Event
heard_of id number = Take 0 (LspHeard Two (from_snpa 2) (record {
  id = id;
  rank = 2 * number;
  checksum = 7;
  flags = 3;
  left = 1100;
  octets = replicate 30 1;
}))

-- its entry with so many seconds left, where its number is 1 (own)
abbrev pub entry_heard : ℕ → SnpEntry
entry_heard left = record { id = 131072; rank = 2; lifetime = left; checksum = 7 }

-- the router's prefix with another metric (own)
abbrev pub changed_prefix : Event
changed_prefix = Prefix 10737434648 (Some 6)

-- what is held of an LSP ID after some events, and of the router's own LSP (own)
abbrev pub held_after : ℕ → List Event → Option Cell
held_after id events = cell_at (book_of (run events) Two) id

-- own
abbrev pub own_after : List Event → Option Cell
own_after events = held_after 65536 events

-- a level with so many entries, all of one LSP ID (own)
abbrev pub full_of : ℕ → LevelState
full_of count = record {
  book = book_with (replicate count (7, cell_of 4 5 9 [] 0 0)) 0;
  own = [];
  gone = Some [];
}

-- so many finished fragments, and an open one without room for 8 octets more of 9 (own)
abbrev pub filled_up : ℕ → Draft
filled_up count = record { done = replicate count []; closed = 0 ∷ 0 ∷ []; code = 0; value = [] }

-- a neighbour that is Up (own)
abbrev pub up_from : ℕ → LanNeighbour
up_from snpa = record {
  up = true;
  neighbour = record {
    system = snpa;
    snpa = snpa;
    extended = 0;
    boot = 2;
    levels = level_two;
    priority = 1;
    lan = 0;
    left = 30;
  };
}

-- so many neighbours heard, from an SNPA on (own)
abbrev pub heard_from : ℕ → ℕ → List (ℕ × LanNeighbour)
heard_from snpa zero = []
heard_from snpa (suc count) = (snpa, up_from snpa) ∷ heard_from (suc snpa) count

-- so many systems remembered in boot 1, from one on (own)
abbrev pub boots_from : ℕ → ℕ → List (ℕ × ℕ)
boots_from system zero = []
boots_from system (suc count) = (system, 1) ∷ boots_from (suc system) count
