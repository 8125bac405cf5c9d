-- What a step hears, which LSP IDs it names, and where new LSPs come from (own).
use Rattle.std.specs.Prelude.{◌≡◌, ℕ, ◌/◌, ◌==◌, max, Bool, true, false, ◌&&◌, ◌⊎◌, List, [], ◌∷◌, if◌then◌else◌}
use Rattle.isis_base.specs.declared.level.Level.{Level}
use Rattle.model_router.specs.Both.{at, is_level}
use Rattle.model_router.specs.Ranks.{live_rank}
use Rattle.model_router.specs.Cells.{Heard, kept}
use Rattle.model_router.specs.SnpTable.{SnpEntry, lists}
use Rattle.model_router.specs.Routers.{Contents, Router}
use Rattle.model_router.specs.Givens.{Given}
use Rattle.model_router.specs.OwnLsps.{issue_cell}
use Rattle.model_router.specs.Events.{Envelope, Message, Refused, PointHelloHeard, LanHelloHeard, LspHeard, SnpHeard, Event, Second, Take, Pull, Metric, Overload, Prefix}
use Rattle.model_router.specs.Deeds.{Content, content_of, Hearing}
use Rattle.model_router.specs.Good.{IsGoodEvent, IsGoodConfig, IsGoodGiven, IsTelling, IsIssuable}

-- the greatest rank of an LSP ID among entries (own)
abbrev pub greatest : List SnpEntry → ℕ → ℕ
greatest [] id = 0
greatest (h ∷ entries) id = max (if h.id == id then h.rank else 0) (greatest entries id)

-- the greatest rank of an LSP ID that a message says on a level (own)
abbrev pub says : Message → Level → ℕ → ℕ
says (Refused cause) level id = 0
says (PointHelloHeard h) level id = 0
says (LanHelloHeard l h) level id = 0
says (LspHeard l from h) level id = if is_level l level && h.id == id then h.rank else 0
says (SnpHeard l from source range entries) level id =
    if is_level l level then greatest entries id else 0

-- the greatest rank of an LSP ID that an event says on a level and circuit (own)
abbrev pub heard_in : Event → Level → ℕ → ℕ → ℕ
heard_in Second level place id = 0
heard_in (Take p m) level place id = if p == place then says m level id else 0
heard_in (Pull p) level place id = 0
heard_in (Metric p metric) level place id = 0
heard_in (Overload on) level place id = 0
heard_in (Prefix prefix metric) level place id = 0

-- whether a message names an LSP ID on a level: it is an LSP's, or an SNP lists it (own)
abbrev pub says_of : Message → Level → ℕ → Bool
says_of (Refused cause) level id = false
says_of (PointHelloHeard h) level id = false
says_of (LanHelloHeard l h) level id = false
says_of (LspHeard l from h) level id = is_level l level && h.id == id
says_of (SnpHeard l from source range entries) level id = is_level l level && lists entries id

-- whether an event names an LSP ID on a level and circuit (own)
abbrev pub named_in : Event → Level → ℕ → ℕ → Bool
named_in Second level place id = false
named_in (Take p m) level place id = p == place && says_of m level id
named_in (Pull p) level place id = false
named_in (Metric p metric) level place id = false
named_in (Overload on) level place id = false
named_in (Prefix prefix metric) level place id = false

-- whether a message is a hello (own)
abbrev pub is_greeting : Message → Bool
is_greeting (Refused cause) = false
is_greeting (PointHelloHeard h) = true
is_greeting (LanHelloHeard l h) = true
is_greeting (LspHeard l from h) = false
is_greeting (SnpHeard l from source range entries) = false

-- whether an event is a pull of a circuit, or a hello that is taken there (own)
abbrev pub stirs : Event → ℕ → Bool
stirs Second place = false
stirs (Take p m) place = p == place && is_greeting m
stirs (Pull p) place = p == place
stirs (Metric p metric) place = false
stirs (Overload on) place = false
stirs (Prefix prefix metric) place = false

-- an LSP of a router's own: it has its system ID, and says what may be issued (own)
pub record IsOwnLsp (r : Router) (level : Level) (id : ℕ) (contents : Contents) : Type 0 where
  pub own : IsGoodConfig r → id / 65536 ≡ r.config.system
  pub fits : IsGoodConfig r → IsTelling r → IsIssuable (at r.config.keys level) contents

-- where a new LSP comes from: it was taken in the event, or it is of the router's own system and
-- was made by what is given (own)
pub data Source (given : Given) (old : Router) (event : Event) (level : Level) (id rank : ℕ)
    (content : Content) : Type 0 where
  Taken : (place : ℕ) (from : Envelope) (h : Heard) → event ≡ Take place (LspHeard level from h) → id ≡ h.id
      → rank ≡ h.rank
      → content ≡ content_of (kept h) → Source given old event level id rank content
  Made : (r : Router) (number : ℕ) (contents : Contents) → r.config ≡ old.config
      → IsOwnLsp old level id contents → rank ≡ live_rank number
      → content ≡ content_of (issue_cell given r level id number contents)
      → Source given old event level id rank content

-- what a step hears on a level (own)
abbrev pub hearing : Given → Router → Event → Level → Hearing
hearing given old event level = record {
  rank = heard_in event level;
  source = Source given old event level;
  sane = IsGoodGiven given × IsGoodEvent event × IsGoodConfig old;
  mine = λ id contents. IsOwnLsp old level id contents;
  names = λ place id. named_in event level place id ≡ true;
  stirs = λ place. (event ≡ Second) ⊎ (stirs event place ≡ true);
}
