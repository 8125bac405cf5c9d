-- Why a walk isn't promised: the first thing that is tested and doesn't hold. All of it own.
use Rattle.std.specs.Prelude.{◌≡◌, ◌≢◌, ℕ, List, Some}
use Rattle.model_router.specs.Places.{nth}
use Rattle.route_table.specs.declared.route.Route.{Route}
use Rattle.forward_views.specs.Walked.{IsRouteOf}
use Rattle.forward_views.specs.Looks.{Look, IsSettled, AreKnown}
use Rattle.forward_views.specs.Forwarded.{router_in}
use Rattle.walk_text.specs.declared.forward_fault.ForwardFault.{ForwardFault}
use Rattle.walk_text.specs.declared.forward_fault.ForwardFault.TheVariants.{Levels, Stranger, Views, Unsettled, Zero, Owners, NoRoute, OutOfMemory}
use Rattle.walk_text.specs.Firsts.{AllHave, IsFirstWithout}
use Rattle.walk_text.specs.Tests.{IsAlone, IsLeastStranger, HasView, ListsNoZero, AreTested, owner_count}

abbrev pub no_memory : ForwardFault
no_memory = OutOfMemory

-- a router has no route of the prefix
abbrev pub HasNoRoute : List Look → ℕ → ℕ → Type 0
HasNoRoute looks place prefix =
    (look : Look) (route : Route) → nth looks place ≡ Some look
    → IsRouteOf (router_in look) prefix route → ⊥

-- the tests in their order, each of routers that passed those before it
abbrev pub IsRefused : List Look → ℕ → ℕ → ForwardFault → Type 0
IsRefused looks from prefix (Levels router) = IsFirstWithout IsAlone looks router
IsRefused looks from prefix (Stranger system) =
    AllHave IsAlone looks × IsLeastStranger looks system
IsRefused looks from prefix (Views router) =
    AllHave IsAlone looks × AreKnown looks × IsFirstWithout (HasView looks) looks router
IsRefused looks from prefix (Unsettled router) =
    AllHave IsAlone looks × AreKnown looks × AllHave (HasView looks) looks
    × IsFirstWithout IsSettled looks router
IsRefused looks from prefix (Zero router) =
    AllHave IsAlone looks × AreKnown looks × AllHave (HasView looks) looks
    × AllHave IsSettled looks × IsFirstWithout ListsNoZero looks router
IsRefused looks from prefix (Owners count) =
    AreTested looks × (count ≡ owner_count prefix looks) × (count ≢ 1)
IsRefused looks from prefix NoRoute =
    AreTested looks × (owner_count prefix looks ≡ 1) × HasNoRoute looks from prefix
IsRefused looks from prefix OutOfMemory = Unit {0}
