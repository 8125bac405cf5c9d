-- What committing a plan makes of a router, what nodes tell then, and when a plan is an event's (own).
use Rattle.std.specs.Prelude.{◌≡◌, ℕ, ◌+◌, ◌-◌, ◌<◌, ◌≤◌, ◌⊎◌, Bool, true, false, List, length, map, Option, None, IfSome, IsSome, is_some}
use Rattle.isis_base.specs.declared.entry.LspEntry.{LspEntry}
use Rattle.isis_base.specs.declared.identifiers.LspId.{LspId}
use Rattle.isis_base.specs.declared.identifiers.NodeId.{NodeId}
use Rattle.isis_base.specs.declared.level.Level.{Level}
use Rattle.isis_base.specs.declared.level.Level.TheVariants as level
use Rattle.isis_base.specs.Identifiers.{lsp_number}
use Rattle.isis_base.specs.Keys.{entry_rank, rank}
use Rattle.lsp_store.specs.declared.entry.Entry.{Entry}
use Rattle.model_router.specs.declared.lsp_case.LspCase.{LspCase}
use Rattle.model_router.specs.declared.lsp_case.LspCase.TheVariants as case
use Rattle.model_router.specs.AdjacencyLaws.{place_of}
use Rattle.model_router.specs.Both.{at}
use Rattle.model_router.specs.Drops.{count_drop}
use Rattle.model_router.specs.Events as model
use Rattle.model_router.specs.LspTable.{met}
use Rattle.model_router.specs.OwnLsps.{issue_cell, last_number, renew}
use Rattle.model_router.specs.Places.{nth}
use Rattle.model_router.specs.Receiving.{drop_of, no_room, scene_of}
use Rattle.model_router.specs.Routers.{Circuit, Router, level_of, with_level}
use Rattle.model_router.specs.Steps.{step}
use Rattle.model_router.specs.Takes.{answer_of, whose_of, take_lsp, take_snp}
use Rattle.model_router.specs.Wanted.{wanted}
use Rattle.flag_sync.specs.declared.flag_row.FlagRow.{FlagRow}
use Rattle.flag_sync.specs.Entries.{with_row}
use Rattle.flag_sync.specs.FlagRows.{cell_of}
use Rattle.flag_sync.specs.Heard.{entries_of, heard_of}
use Rattle.flag_sync.specs.declared.heard.LspAnswer.{LspAnswer}
use Rattle.flag_sync.specs.declared.heard.LspAnswer.TheVariants as answer
use Rattle.flag_sync.specs.declared.heard.LspHeard.{LspHeard}
use Rattle.router_sending.specs.Drafts.{DraftView}
use Rattle.router_levels.specs.Drafts.{AreAnswers, AreReady, IsAnswer, range_of}
use Rattle.router_desk.specs.declared.envelope.Envelope.{Envelope}
use Rattle.router_desk.specs.Causes.{name_of}
use Rattle.router_desk.specs.declared.heard.HelloHeard.{HelloHeard}
use Rattle.router_desk.specs.Heard.{hello_heard}
use Rattle.router_desk.specs.Opening.{envelope_of}
use Rattle.router_routes.specs.Moved.{AreMovedTo, IsPutAt, NodesRise, beside}
use Rattle.router_routes.specs.Outlooks.{Outlook, outlook_of, prefixes_by}
use Rattle.router_core.specs.declared.plan.Deed.{Deed}
use Rattle.router_core.specs.declared.plan.Deed.TheVariants as deed
use Rattle.router_core.specs.declared.plan.Plan.{Plan}
use Rattle.router_core.specs.declared.told.Told.{Told}
use Rattle.router_core.specs.declared.told.Told.TheVariants as told
use Rattle.router_core.specs.Due.{IsDue}
use Rattle.router_core.specs.Events.{change_of, FitsChange, IsThere}
use Rattle.router_core.specs.Givens.{given}
use Rattle.router_core.specs.Machines.{FitsKind}
use Rattle.router_core.specs.Reached.{IsReached}
use Rattle.router_core.specs.Replies.{Answers}
use Rattle.router_core.specs.Seconds.{AreMade, followed, later, level_later, seen_then}
use Rattle.router_core.specs.Settled.{AreTrue, faces}
use Rattle.router_core.specs.Shifts.{AreMovedOn, AreRising}

-- the row that an LSP meets (ISO 10589 7.3.15.1)
abbrev pub row_met : Router → Level → LspHeard → LspCase
row_met r level lsp =
    met (level_of r level).book (whose_of r.config.system (level_of r level) (lsp_number lsp.entry.id))
    (heard_of lsp)

-- an LSP comes on a circuit (own)
abbrev pub lsp_event : ℕ → Level → Envelope → LspHeard → model.Event
lsp_event circuit level from lsp =
    model.Take (circuit - 1) (model.LspHeard level (envelope_of from) (heard_of lsp))

-- the rows by which other LSPs are held live, and no own one is issued (ISO 10589 7.3.15.1, 7.3.16)
abbrev pub is_moving : LspAnswer → Bool
is_moving answer.Stored = true
is_moving answer.Same = false
is_moving answer.Older = false
is_moving answer.Confused = true
is_moving (answer.Outbid above) = false
is_moving answer.PurgedOwn = true
is_moving answer.AckPurge = false

-- an entry tells routes what an LSP does that met a row: itself where it is stored, and nothing where what is kept is
-- purged (own)
abbrev pub IsTeller : LspAnswer → LspHeard → Entry → Type 0
IsTeller answer.Stored lsp e =
    (rank e.key ≡ entry_rank lsp.entry) × (e.flags ≡ lsp.flags) × (e.octets ≡ lsp.octets.now)
IsTeller answer.Same lsp e = e.key ≡ None
IsTeller answer.Older lsp e = e.key ≡ None
IsTeller answer.Confused lsp e = e.key ≡ None
IsTeller (answer.Outbid above) lsp e = e.key ≡ None
IsTeller answer.PurgedOwn lsp e = e.key ≡ None
IsTeller answer.AckPurge lsp e = e.key ≡ None

-- beside whichever row of flags, an entry is an own LSP that is issued at a number with what is wanted of it (7.3.16.1)
abbrev pub IsIssuedAt : Router → Level → LspId → ℕ → Entry → Type 0
IsIssuedAt r level id number e = (row : FlagRow) → cell_of e row
    ≡ with_row (issue_cell given r level (lsp_number id) number
    (answer_of (scene_of given r level) (lsp_number id))) row

-- an entry tells routes what an own LSP does that is outbid at a number: the one that is issued above it, and nothing at the
-- last number, since what is kept then is purged (7.3.16.1; the form: own)
abbrev pub IsAbove : Router → Level → LspId → ℕ → Entry → Type 0
IsAbove r level id above e = ((above ≡ last_number) × (e.key ≡ None))
    ⊎ ((above ≡ last_number → ⊥) × IsIssuedAt r level id (above + 1) e)

-- a point-to-point hello comes on a circuit (own)
abbrev pub point_event : ℕ → HelloHeard → model.Event
point_event circuit h = model.Take (circuit - 1) (model.PointHelloHeard (hello_heard h))

-- a hello of a level comes on a circuit (own)
abbrev pub lan_event : ℕ → Level → HelloHeard → model.Event
lan_event circuit level h = model.Take (circuit - 1) (model.LanHelloHeard level (hello_heard h))

-- what a deed makes of a router (own)
abbrev pub committed : Router → Deed → Router
committed r (deed.Dropped cause) = record r { drops = count_drop r.drops (name_of cause) }
committed r (deed.Change change) = (step given r (change_of change)).router
committed r (deed.PointHello circuit hello) = (step given r (point_event circuit hello.now)).router
committed r (deed.LanHello circuit level hello) = (step given r (lan_event circuit level hello.now)).router
committed r (deed.Lsp circuit level lsp answer) =
    with_level r level (take_lsp (scene_of given r level) (level_of r level) (circuit - 1)
    (whose_of r.config.system (level_of r level) (lsp_number lsp.entry.id)) (heard_of lsp))
committed r (deed.Snp circuit level range entries drafts) =
    with_level r level (take_snp (scene_of given r level) (level_of r level) r.config.system
    (circuit - 1) (range_of range) (entries_of entries.now))
committed r (deed.Pull circuit due) = (step given r (model.Pull (circuit - 1))).router
committed r (deed.Second copies one two) = (step given r model.Second).router

-- a hello came on a circuit of its kind, and passes its tests (ISO 10589 6.3, 8.2.4.2, 8.4.2.1)
pub record IsHelloReady (r : Router) (circuit : ℕ) (m : model.Message) : Type 0 where
  pub there : IsThere r circuit
  pub kind : IfSome (nth r.circuits (circuit - 1)) (λ c. FitsKind c m)
  pub passes : IfSome (nth r.circuits (circuit - 1)) (λ c. drop_of r (circuit - 1) c m ≡ None)
  pub reached : IsReached r

-- an LSP has room, and where it outbids one's own a draft of the answer is there (own)
pub record IsLspReady (r : Router) (circuit : ℕ) (level : Level) (lsp : LspHeard)
    (draft : Option DraftView) : Type 0 where
  pub there : IsThere r circuit
  pub number : 0 < lsp.entry.number
  pub octets : 27 ≤ length lsp.octets.now
  pub room : no_room (level_of r level) r.config.system (heard_of lsp) ≡ false
  pub answer : row_met r level lsp ≡ case.Outbid → IsSome draft
  pub named : IfSome draft (λ d. d.id ≡ lsp.entry.id)
  pub said : IfSome draft
      (IsAnswer (at r.config.keys level) (scene_of given r level) (lsp_number lsp.entry.id))
  pub keyed : IfSome draft (λ d. is_some (at r.config.keys level) ≡ d.keyed)

-- drafts of own LSPs are there for the entries of a sequence number PDU (own)
pub record IsSnpReady (r : Router) (circuit : ℕ) (level : Level) (entries : List LspEntry)
    (drafts : List (Option DraftView)) : Type 0 where
  pub there : IsThere r circuit
  pub ready : AreReady (is_some (at r.config.keys level)) (level_of r level).own entries drafts
  pub said : AreAnswers (at r.config.keys level) (scene_of given r level) entries drafts

-- a level that had its second in place, and was followed by these drafts where there are some, has issued and purged its own LSPs
-- as they are wanted, where these circuits say what the router's then do (own)
abbrev pub IsLaterAt : Router → Level → Option (List DraftView) → List Circuit → Type 0
IsLaterAt r level wants circuits =
    (q : Router) → q.config ≡ r.config → faces q.circuits ≡ faces circuits
    → followed r level wants (level_later (level_of r level) level circuits)
    ≡ renew given q level (level_later (level_of r level) level circuits) (wanted given r q level)

-- drafts of a level are made under its key, of LSP IDs in order (own)
abbrev pub AreDrafted : Router → Level → Option (List DraftView) → Type 0
AreDrafted r level wants = IfSome wants (AreMade (is_some (at r.config.keys level)) level)

-- these circuits say what the router's do a second later, and these are drafts of what each level that is followed then wants (own)
pub record IsSecondReady (r : Router) (circuits : List Circuit) (ones twos : Option (List DraftView)) : Type 0 where
  pub later : faces circuits ≡ faces (map later r.circuits)
  pub count : length circuits ≡ length r.circuits
  pub one : IsLaterAt r level.One ones circuits
  pub two : IsLaterAt r level.Two twos circuits
  pub made_one : AreDrafted r level.One ones
  pub made_two : AreDrafted r level.Two twos

-- what a deed has is what it needs (own)
abbrev pub IsReady : Router → Deed → Type 0
IsReady r (deed.Dropped cause) = Unit {0}
IsReady r (deed.Change change) = FitsChange r change × IsReached r
IsReady r (deed.PointHello circuit hello) =
    IsHelloReady r circuit (model.PointHelloHeard (hello_heard hello.now))
IsReady r (deed.LanHello circuit level hello) =
    IsHelloReady r circuit (model.LanHelloHeard level (hello_heard hello.now))
IsReady r (deed.Lsp circuit level lsp answer) = IsLspReady r circuit level lsp answer
IsReady r (deed.Snp circuit level range entries drafts) =
    IsSnpReady r circuit level entries.now drafts.items
IsReady r (deed.Pull circuit due) = IsThere r circuit × IsReached r × IsDue r (circuit - 1) due
IsReady r (deed.Second copies one two) = IsSecondReady r (seen_then copies r.circuits) one two

-- in one level, which is run, these nodes tell this, all others what they told, and all else stays (own)
pub record AreMovedIn (old new : Outlook) (level : Level) (nodes : List NodeId)
    (told : List (LspId × Entry)) : Type 0 where
  pub root : new.root ≡ old.root
  pub areas : new.areas ≡ old.areas
  pub runs : new.runs ≡ old.runs
  pub prefixes : new.prefixes ≡ old.prefixes
  pub run : at old.runs level ≡ true
  pub other : at new.told (beside level) ≡ at old.told (beside level)
  pub each : NodesRise 0 nodes
  pub moved : AreMovedTo nodes told (at old.told level) (at new.told level)

-- nothing changes; or an LSP ID of one level tells this entry, or some nodes of both levels tell these LSPs, or own prefixes
-- are these, and all else stays; nothing is said where it wasn't asked (own)
abbrev pub AreTold : Outlook → Outlook → Told → Type 0
AreTold old new told.Nothing = new ≡ old
AreTold old new (told.Entry m) = IsPutAt old new m.level m.id m.entry
AreTold old new (told.Levels one two) = AreMovedOn old new one two
AreTold old new (told.Prefixes own) = new ≡ record old { prefixes = prefixes_by own }
AreTold old new told.Unasked = ⊥

-- nodes that are told stand in order, each once (own)
abbrev pub AreInOrder : Told → Type 0
AreInOrder told.Nothing = Unit {0}
AreInOrder (told.Entry m) = Unit {0}
AreInOrder (told.Levels one two) = AreRising one × AreRising two
AreInOrder (told.Prefixes own) = Unit {0}
AreInOrder told.Unasked = Unit {0}

-- what a plan says is the machine's step, and what routes look at then where that is asked for (own)
pub record IsPlan (asked : Bool) (r : Router) (event : model.Event) (plan : Plan) : Type 0 where
  pub ready : IsReady r plan.deed
  pub state : committed r plan.deed ≡ (step given r event).router
  pub reply : Answers (step given r event).router (place_of event) (step given r event).reply
      plan.reply
  pub told : asked ≡ true → AreTold (outlook_of r) (outlook_of (step given r event).router) plan.told
  pub marks : AreTrue plan.marks (step given r event).router

-- a deed is ready, and the plan marks, and tells where that is asked for, what it makes of the router, which can be reached (own)
pub record IsSound (asked : Bool) (r : Router) (plan : Plan) : Type 0 where
  pub ready : IsReady r plan.deed
  pub told : asked ≡ true → AreTold (outlook_of r) (outlook_of (committed r plan.deed)) plan.told
  pub marks : AreTrue plan.marks (committed r plan.deed)
  pub reached : IsReached (committed r plan.deed)
