-- The prefixes of the system's LSP: its own, and those that are leaked from the other level (RFC
-- 5302 3), with their TLVs (RFC 5305 4). A prefix is 64 times its address plus its length, so that
-- prefixes are in order.
use Rattle.std.specs.Prelude.{ℕ, ◌+◌, ◌/◌, ◌%◌, Bool, true, false, ◌&&◌, List, [], ◌∷◌, ◌++◌, take, is_some, if◌then◌else◌}
use Rattle.isis_base.specs.declared.level.Level.{Level}
use Rattle.isis_base.specs.declared.level.Level.TheVariants as level
use Rattle.isis_base.specs.Fields.{u32_octets}
use Rattle.isis_tlv.specs.Items.{octets_for}
use Rattle.model_router.specs.Maps.{find, put}
use Rattle.model_router.specs.Configs.{Config}
use Rattle.model_router.specs.Routers.{Router}
use Rattle.model_router.specs.Givens.{Given}
use Rattle.model_router.specs.Splits.{Item}

-- a prefix of an LSP: its metric, and the up/down bit (RFC 5305 4)
pub record Reach : Type 0 where
  pub metric : ℕ
  pub down : Bool

-- RFC 5305 4
abbrev pub own_reach : List (ℕ × ℕ) → List (ℕ × Reach)
own_reach [] = []
own_reach (p ∷ prefixes) = (p.0, record { metric = p.1; down = false }) ∷ own_reach prefixes

-- prefixes with those that are leaked; a prefix of one's own isn't leaked (RFC 5302 3)
abbrev pub with_leaks : Bool → List (ℕ × Reach) → List (ℕ × ℕ) → List (ℕ × Reach)
with_leaks down prefixes [] = prefixes
with_leaks down prefixes (p ∷ leaks) =
    with_leaks down
    (if is_some (find prefixes p.0) then prefixes
    else put prefixes p.0 (record { metric = p.1; down = down })) leaks

-- their entries of TLV 135 (RFC 5305 4)
abbrev pub reach_items : List (ℕ × Reach) → List Item
reach_items [] = []
reach_items (p ∷ prefixes) =
    let control = (if p.1.down then 128 else 0) + p.0 % 64 in
    let address = take (octets_for (p.0 % 64)) (u32_octets (p.0 / 64)) in
    record { code = 135; octets = u32_octets p.1.metric ++ control ∷ address }
    ∷ reach_items prefixes

-- own
abbrev pub leaks_down : Config → Bool
leaks_down config = config.runs.one && config.runs.two && config.leak

-- the prefixes of a level's system LSP: leaks are those of the state before the event (RFC 5302 3)
abbrev pub prefixes_of : Given → Router → Router → Level → List (ℕ × Reach)
prefixes_of given before r level.One =
    if leaks_down r.config
    then with_leaks true (own_reach r.config.prefixes) (given.leaks before level.One)
    else own_reach r.config.prefixes
prefixes_of given before r level.Two =
    if r.config.runs.one
    then with_leaks false (own_reach r.config.prefixes) (given.leaks before level.Two)
    else own_reach r.config.prefixes
