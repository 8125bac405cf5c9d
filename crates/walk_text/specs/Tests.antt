-- What is tested of the routers of a network before a walk is promised. All of it own.
use Rattle.std.specs.Prelude.{◌≡◌, ◌≢◌, ◌≤◌, ℕ, ◌==◌, ◌&&◌, Bool, false, List, map, Some}
use Rattle.std.specs.List.{Contains, list_any, count_by}
use Rattle.isis_base.specs.declared.identifiers.SystemId.{SystemId}
use Rattle.isis_base.specs.declared.identifiers.LspId.{LspId}
use Rattle.model_router.specs.Places.{nth}
use Rattle.model_router.specs.Routers.{Router}
use Rattle.lsp_store.specs.declared.entry.Entry.{Entry}
use Rattle.spf_tree.specs.Nodes.{system_node}
use Rattle.route_table.specs.declared.route.Route.{Route}
use Rattle.route_table.specs.Ranks.{prefix_number}
use Rattle.router_routes.specs.Candidates.{AreRoutesOf}
use Rattle.forward_views.specs.Looks.{Look, outlook, told_of, is_own, IsSettled, ListsZero, AreKnown}
use Rattle.walk_text.specs.Firsts.{AllHave}
use Rattle.walk_text.specs.Views.{view_of}

-- the routers of a network, each with its routes
pub record AreLooks (routers : List Router) (looks : List Look) : Type 0 where
  pub routers_are : map (λ (look : Look). look.router) looks ≡ routers
  pub routes_are : (look : Look) → Contains looks look → AreRoutesOf (outlook look) look.routes

-- a router doesn't run level 2 (ISO 10589 6.2)
abbrev pub IsAlone : Look → Type 0
IsAlone look = look.router.config.runs.two ≡ false

-- a live LSP of level 1 is of a system that is none of the routers
pub record IsStranger (looks : List Look) (system : SystemId) : Type 0 where
  pub look : Look
  pub there : Contains looks look
  pub pair : LspId × Entry
  pub told : Contains (told_of look) pair
  pub is : pair.0.node.system ≡ system
  pub none : (other : Look) → Contains looks other → (outlook other).root.system ≢ system

-- the one of the least system ID
pub record IsLeastStranger (looks : List Look) (system : SystemId) : Type 0 where
  pub stranger : IsStranger looks system
  pub least : (other : SystemId) → IsStranger looks other → system_node system ≤ system_node other

-- a router has the live view of the first one
abbrev pub HasView : List Look → Look → Type 0
HasView looks look =
    (first : Look) → nth looks 0 ≡ Some first → view_of look.router ≡ view_of first.router

-- its own LSPs list no neighbour at metric 0 (RFC 5305 3)
abbrev pub ListsNoZero : Look → Type 0
ListsNoZero look = ListsZero look → ⊥

-- all of them hold
pub record AreTested (looks : List Look) : Type 0 where
  pub alone : AllHave IsAlone looks
  pub known : AreKnown looks
  pub same : AllHave (HasView looks) looks
  pub settled : AllHave IsSettled looks
  pub none_zero : AllHave ListsNoZero looks

-- ---- who owns a prefix

abbrev pub owns : ℕ → Look → Bool
owns prefix look =
    list_any (λ (route : Route). prefix_number route.prefix == prefix && is_own route) look.routes

-- how many routers have a route of their own for it
abbrev pub owner_count : ℕ → List Look → ℕ
owner_count prefix looks = count_by (owns prefix) looks
