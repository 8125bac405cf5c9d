-- Routers as packets meet them.
use Rattle.std.proofs.Common.{◌≡◌, ℕ, zero, suc, List, [], ◌∷◌, map, Some, refl, sym, ap, ◌∙◌, arith}
use Rattle.std.specs.Prelude.{slice_get}
use Rattle.std.specs.List.{Contains}
use Rattle.std.proofs.lemmas.List.Elements.{Contains-append_right}
use Rattle.model_router.specs.Places.{nth}
use Rattle.model_router.specs.Routers.{Router}
use Rattle.spf_tree.specs.Graphs.{GraphOf}
use Rattle.route_table.specs.declared.candidate.Candidate.{Candidate}
use Rattle.route_table.specs.declared.route.Route.{Route}
use Rattle.route_table.specs.Routes.{IsHopTo, AreRoutes}
use Rattle.router_routes.specs.Outlooks.{outlook_of, graph_in}
use Rattle.router_routes.specs.Candidates.{AreRoutesOf, candidates_of}
use Rattle.forward_views.specs.Looks.{Look, outlook, root_of}
use Rattle.packet_trace.specs.declared.forwarder.Forwarder.{Forwarder}
use Rattle.packet_trace.specs.Steps.{node_of}
use Rattle.trace_text.specs.Forwarders.{IsForwarder, AreForwarders, forwarder_of}

some-same : {A : Type 0} (a b : A) → Some a ≡ Some b → a ≡ b
some-same a b e = cc

pub get-map : {X Y : Type 0} (f : X → Y) (xs : List X) (place : ℕ) (x : X) → nth xs place ≡ Some x → slice_get (map f xs) place ≡ Some (f x)
get-map f [] place x e = absurd (cc)
get-map f (y ∷ xs) zero x e = ap (λ z. Some (f z)) (some-same y x e)
get-map f (y ∷ xs) (suc place) x e = get-map f xs place x e

root-node : (look : Look) → node_of (forwarder_of look) ≡ root_of look
unfolding outlook_of
root-node look = refl

pub nodes-are : (looks : List Look) → map node_of (map forwarder_of looks) ≡ map root_of looks
nodes-are [] = refl
nodes-are (look ∷ looks) = ap (λ (n : ℕ). n ∷ map node_of (map forwarder_of looks)) (root-node look) ∙ ap (λ (ns : List ℕ). root_of look ∷ ns) (nodes-are looks)

-- the routes of a router are one list
one : ((one two : GraphOf) (candidates : List Candidate) (a b : List Route) → AreRoutes (IsHopTo one two) candidates a → AreRoutes (IsHopTo one two) candidates b → a ≡ b)
    → (r : Router) (a b : Forwarder) → IsForwarder r a → IsForwarder r b → a ≡ b
one law r a b p q =
    let o = outlook_of r in
    ap (λ s. record { system = s; routes = a.routes }) (p.system ∙ sym q.system)
    ∙ ap (λ rs. record { system = b.system; routes = rs }) (law (graph_in o.told.one o.root) (graph_in o.told.two o.root) (candidates_of o) a.routes b.routes p.routes q.routes)

pub one-list : ((one two : GraphOf) (candidates : List Candidate) (a b : List Route) → AreRoutes (IsHopTo one two) candidates a → AreRoutes (IsHopTo one two) candidates b → a ≡ b)
    → (rs : List Router) (a b : List Forwarder) → AreForwarders rs a → AreForwarders rs b → a ≡ b
one-list law [] [] [] p q = refl
one-list law [] [] (y ∷ b) p q = absurd q
one-list law [] (x ∷ a) b p q = absurd p
one-list law (r ∷ rs) [] b p q = absurd p
one-list law (r ∷ rs) (x ∷ a) [] p q = absurd q
one-list law (r ∷ rs) (x ∷ a) (y ∷ b) p q =
    ap (λ (f : Forwarder). f ∷ a) (one law r x y p.0 q.0) ∙ ap (λ (fs : List Forwarder). y ∷ fs) (one-list law rs a b p.1 q.1)

pub looks-are : (looks : List Look) → ((look : Look) → Contains looks look → AreRoutesOf (outlook look) look.routes) → AreForwarders (map (λ (look : Look). look.router) looks) (map forwarder_of looks)
looks-are [] routes = tt
looks-are (look ∷ looks) routes = (
  record { system = refl; routes = routes look (0, omega arith, refl) },
  looks-are looks (λ other h. routes other (Contains-append_right (look ∷ []) looks other h)),
)
