-- A datagram taken: the tests that need the state, in their order, and then what the datagram's
-- kind does (ISO 10589 7.3.15.1, 7.3.15.2, 8.2.4, 8.4.2; the order of the tests: own).
use Rattle.std.specs.Prelude.{ℕ, ◌==◌, Bool, true, false, ◌&&◌, not, [], ◌∷◌, Option, Some, None, is_some, is_none, if◌then◌else◌}
use Rattle.isis_base.specs.declared.level.Level.{Level}
use Rattle.model_router.specs.declared.lsp_case.LspCase.{LspCase}
use Rattle.model_router.specs.declared.lsp_case.LspCase.TheVariants as lsp
use Rattle.model_router.specs.declared.drop_name.DropName.{DropName}
use Rattle.model_router.specs.declared.drop_name.DropName.TheVariants.{NoAdjacency, NotDesignated, StoreFull}
use Rattle.model_router.specs.Maps.{find}
use Rattle.model_router.specs.Both.{at}
use Rattle.model_router.specs.Sets.{has}
use Rattle.model_router.specs.Cells.{Heard}
use Rattle.model_router.specs.Books.{cell_at, is_full}
use Rattle.model_router.specs.LspTable.{met}
use Rattle.model_router.specs.Drops.{count_drop}
use Rattle.model_router.specs.Adjacencies.{Neighbour, Handshake, Hello}
use Rattle.model_router.specs.Routers.{LanNeighbour, Circuit, LevelState, Router, level_of, book_of, with_level, extended_of}
use Rattle.model_router.specs.HelloTests.{point_drop, lan_drop}
use Rattle.model_router.specs.Hellos.{take_point, take_lan}
use Rattle.model_router.specs.Elections.{is_designated}
use Rattle.model_router.specs.Givens.{Given}
use Rattle.model_router.specs.Takes.{Scene, whose_of, take_lsp, take_snp}
use Rattle.model_router.specs.Datagrams.{Psnp}
use Rattle.model_router.specs.Events.{Envelope, Message, Refused, PointHelloHeard, LanHelloHeard, LspHeard, SnpHeard, Reply, Done, Dropped, Send, Outcome, settled}

-- ---- the tests

-- the system of a LAN neighbour that is Up in this boot (7.3.15.1; the boot: own)
abbrev pub up_system : Option LanNeighbour → ℕ → Option ℕ
up_system None boot = None
up_system (Some n) boot =
    if n.up && n.neighbour.boot == boot then Some n.neighbour.system else None

-- the system of the neighbour that is kept, in this boot (7.3.15.1; the boot: own)
abbrev pub kept_system : Option Neighbour → ℕ → Option ℕ
kept_system None boot = None
kept_system (Some n) boot = if n.boot == boot then Some n.system else None

-- the system of the neighbour from whom a datagram of a level may come: on a LAN the up neighbour
-- of its SNPA; its boot is the one that is kept (7.3.15.1, 7.3.15.2; the boot: own)
abbrev pub sender_of : Circuit → Level → Envelope → Option ℕ
sender_of c l from =
    if c.lan then up_system (find (at c.levels l).heard from.snpa) from.boot
    else kept_system c.point.neighbour from.boot

-- 7.3.15.2
abbrev pub is_from : Option ℕ → ℕ → Bool
is_from None source = false
is_from (Some system) source = system == source

-- whether a row of the LSP table keeps an entry of what it heard (own)
abbrev pub makes_entry : LspCase → Bool
makes_entry lsp.Outbid = false
makes_entry lsp.PurgedOwn = true
makes_entry lsp.AckPurge = false
makes_entry lsp.Confused = false
makes_entry lsp.Stored = true
makes_entry lsp.Same = false
makes_entry lsp.Older = false

-- whether an LSP would make one entry more in a full book (own)
abbrev pub no_room : LevelState → ℕ → Heard → Bool
no_room state system h =
    is_full state.book && is_none (cell_at state.book h.id)
    && makes_entry (met state.book (whose_of system state h.id) h)

-- 7.3.15.1
abbrev pub lsp_drop : Router → ℕ → Circuit → Level → Envelope → Heard → Option DropName
lsp_drop r place c l from h =
    if not (has (book_of r l).opened place && is_some (sender_of c l from)) then Some NoAdjacency
    else (if no_room (level_of r l) r.config.system h then Some StoreFull else None)

-- a PSNP, which is `partial`, is taken on a LAN by the designated system alone (7.3.15.2)
abbrev pub snp_drop : Router → ℕ → Circuit → Level → Envelope → ℕ → Bool → Option DropName
snp_drop r place c l from source partial =
    if not (has (book_of r l).opened place && is_from (sender_of c l from) source)
    then Some NoAdjacency
    else (if partial && c.lan && not (is_designated r.config place c l) then Some NotDesignated
    else None)

-- why a message is dropped, if it is (own)
abbrev pub drop_of : Router → ℕ → Circuit → Message → Option DropName
drop_of r place c (Refused cause) = Some cause
drop_of r place c (PointHelloHeard h) = point_drop r.config (extended_of r.boot place) c.boots h
drop_of r place c (LanHelloHeard l h) = lan_drop r.config l c.boots (at c.levels l).heard h
drop_of r place c (LspHeard l from h) = lsp_drop r place c l from h
drop_of r place c (SnpHeard l from source range entries) =
    snp_drop r place c l from source (is_none range)

-- ---- what is taken

-- a purge that isn't held is acknowledged at once on a point-to-point circuit (ISO 10589 7.3.16.4)
abbrev pub acks : Circuit → Level → Heard → LspCase → Reply
acks c l h lsp.AckPurge =
    if c.lan then Done
    else Send (Psnp l (record { id = h.id; rank = h.rank; lifetime = 0; checksum = 0 } ∷ []) ∷ [])
acks c l h lsp.Outbid = Done
acks c l h lsp.PurgedOwn = Done
acks c l h lsp.Confused = Done
acks c l h lsp.Stored = Done
acks c l h lsp.Same = Done
acks c l h lsp.Older = Done

-- own
abbrev pub scene_of : Given → Router → Level → Scene
scene_of given r l = record { given = given; router = r; level = l }

-- own
abbrev pub greeted : Router → ℕ → Circuit → Hello → Option Handshake → Router
greeted r place c h None = r
greeted r place c h (Some shake) = take_point r place c h shake

-- own
abbrev pub taken : Given → Router → ℕ → Circuit → Message → Outcome
taken given r place c (Refused cause) = record { router = r; reply = Done }
taken given r place c (PointHelloHeard h) =
    record { router = greeted r place c h h.handshake; reply = Done }
taken given r place c (LanHelloHeard l h) = record { router = take_lan r place c l h; reply = Done }
taken given r place c (LspHeard l from h) =
    let state = level_of r l in
    let whose = whose_of r.config.system state h.id in
    record {
      router = with_level r l (take_lsp (scene_of given r l) state place whose h);
      reply = acks c l h (met state.book whose h);
    }
taken given r place c (SnpHeard l from source range entries) =
    record {
      router = with_level r l
          (take_snp (scene_of given r l) (level_of r l) r.config.system place range entries);
      reply = Done;
    }

-- ---- either

-- own
abbrev pub take_or_drop : Given → Router → ℕ → Circuit → Message → Option DropName → Outcome
take_or_drop given r place c m (Some cause) =
    record { router = record r { drops = count_drop r.drops cause }; reply = Dropped cause }
take_or_drop given r place c m None = settled (taken given r place c m)

-- a datagram is taken on a circuit, where that is there (own)
abbrev pub take : Given → Router → ℕ → Message → Option Circuit → Outcome
take given r place m None = record { router = r; reply = Done }
take given r place m (Some c) = take_or_drop given r place c m (drop_of r place c m)
