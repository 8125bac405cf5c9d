-- Faults of journals (own).
use Rattle.std.specs.Prelude.{◌≡◌, ◌≢◌, ℕ, ◌&&◌, ◌||◌, nat_le, nat_lt, Bool, true, false, List, [], ◌∷◌, length, take, is_some, Some, None}
use Rattle.model_router.specs.Places.{nth}
use Rattle.model_router.specs.Maps.{find}
use Rattle.model_router.specs.Givens.{Given}
use Rattle.model_router.specs.Routers.{Router}
use Rattle.model_network.specs.Networks.{restarted}
use Rattle.weave_model.specs.Entries.{Deed, Second, Take, Pull, Metric, Overload, Prefix, Entry, next, answer_to, replay}

-- the circuit of a number is there (own)
abbrev pub is_there : Router → ℕ → Bool
is_there r circuit = nat_le 1 circuit && nat_le circuit (length r.circuits)

-- a deed's circuit is there, and its values are within the limits: those of metrics are RFC 5305's
-- (3, 4); there are at most 4,096 prefixes (own)
abbrev pub fits : Router → Deed → Bool
fits r Second = true
fits r (Take circuit octets) = is_there r circuit
fits r (Pull circuit) = is_there r circuit
fits r (Metric circuit metric) = is_there r circuit && nat_le metric 16777215
fits r (Overload on) = true
fits r (Prefix prefix None) = true
fits r (Prefix prefix (Some metric)) = nat_le metric 4261412864
    && (is_some (find r.config.prefixes prefix) || nat_lt (length r.config.prefixes) 4096)

-- an entry without a fault: its deed fits, and the machine answers what it says (own)
pub record IsGood (given : Given) (r : Router) (e : Entry) : Type 0 where
  pub fitting : fits r e.deed ≡ true
  pub answered : answer_to given r e.deed ≡ e.answer

-- each entry of a journal is without a fault, from a state on (own)
abbrev pub AreGood : Given → Router → List Entry → Type 0
AreGood given r [] = Unit {0}
AreGood given r (e ∷ es) = IsGood given r e × AreGood given (next given r e.deed) es

-- what is wrong with an entry: its deed doesn't fit; or it does, and the machine answers otherwise
-- (own)
pub data Fault : Type 0 where
  OfEvent : Fault
  OfReply : Fault

-- own
abbrev pub IsFaulty : Given → Router → Entry → Fault → Type 0
IsFaulty given r e OfEvent = fits r e.deed ≡ false
IsFaulty given r e OfReply = (fits r e.deed ≡ true) × (answer_to given r e.deed ≢ e.answer)

-- the first entry of a journal that has a fault, with so many before it (own)
pub record IsFirstFault (given : Given) (r : Router) (es : List Entry) (before : ℕ)
    (fault : Fault) : Type 0 where
  pub entry : Entry
  pub good : AreGood given r (take before es)
  pub at : nth es before ≡ Some entry
  pub faulty : IsFaulty given (replay given r (take before es)) entry fault

-- ---- several journals of one router

-- the state in which the journal behind these begins (own)
abbrev pub opening : Given → Router → List (List Entry) → Router
opening given r [] = r
opening given r (j ∷ js) = opening given (restarted (replay given r j)) js

-- a router's journals, in order, are without a fault (own)
abbrev pub AreGoodAll : Given → Router → List (List Entry) → Type 0
AreGoodAll given r [] = Unit {0}
AreGoodAll given r (j ∷ js) = AreGood given r j × AreGoodAll given (restarted (replay given r j)) js
