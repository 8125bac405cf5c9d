-- Hellos that are sent.
use Rattle.std.proofs.Common.{◌≡◌, ℕ, suc, ◌≤◌, Bool, true, if◌then◌else◌, List, [], ◌∷◌, ◌++◌, length, map, Option, Result, Ok, Err, OnOk, refl, sym, ap, ◌∙◌, arith}
use Rattle.isis_base.specs.declared.level.Level.{Level}
use Rattle.isis_base.specs.declared.level.Level.TheVariants as level
use Rattle.isis_tlv.specs.declared.three_way.Adj.{Adj}
use Rattle.model_router.specs.Routers.{LanNeighbour, Circuit, Router, extended_of}
use Rattle.model_router.specs.Datagrams.{PointHello, LanHello}
use Rattle.model_router.specs.Pulls.{hellos, lan_hello, names_of, snpas_of}
use Rattle.adjacency.specs.declared.neighbour.Neighbour.{Neighbour}
use Rattle.adjacency.specs.Views.{snpa_of}
use Rattle.router_sending.specs.declared.sender.Sender.{Sender}
use Rattle.router_core.specs.Sending.{all_octets}
use Rattle.router_core.proofs.SendingLemmas.{two-lists}

length-map : {A B : Type 0} (f : A → B) (xs : List A) → length (map f xs) ≡ length xs
length-map f [] = refl
length-map f (x ∷ xs) = ap suc (length-map f xs)

length-snpas : (heard : List (ℕ × LanNeighbour)) → length (snpas_of heard) ≡ length heard
length-snpas [] = refl
length-snpas (pair ∷ heard) = ap suc (length-snpas heard)

-- as many as are heard
pub heard-few : (k : ℕ) (xs : List Neighbour) (heard : List (ℕ × LanNeighbour)) → map snpa_of xs ≡ snpas_of heard → length heard ≤ k → length xs ≤ k
heard-few k xs heard e h =
    let same : length xs ≡ length heard = sym (length-map snpa_of xs) ∙ (ap length e ∙ length-snpas heard) in
    omega (arith, h, same)

pub point-says : (s t : Adj) (m n : ℕ) (x y : Option (ℕ × ℕ)) → s ≡ t → m ≡ n → x ≡ y → PointHello s m x ≡ PointHello t n y
point-says s t m n x y e f g = rw (e, f, g) refl

pub lan-says : (l : Level) (m n : ℕ) (x y : List ℕ) → m ≡ n → x ≡ y → LanHello l m x ≡ LanHello l n y
lan-says l m n x y f g = rw (f, g) refl

-- those of both levels on a LAN
pub hellos-lan : {A E : Type 0} (res : Result A E) (sender : Sender) (r : Router) (place : ℕ) (c : Circuit) (old mid new : List (List ℕ)) → c.lan ≡ true → mid ≡ old ++ all_octets sender (lan_hello r place c level.One) → OnOk res (new ≡ mid ++ all_octets sender (lan_hello r place c level.Two)) → OnOk res (new ≡ old ++ all_octets sender (hellos r place c))
hellos-lan (Err b) sender r place c old mid new t e f = tt
hellos-lan (Ok v) sender r place c old mid new t e f =
    two-lists sender old mid new (lan_hello r place c level.One) (lan_hello r place c level.Two) e f
    ∙ ap (λ (k : Bool). old ++ all_octets sender (if k then lan_hello r place c level.One ++ lan_hello r place c level.Two else PointHello c.point.state (extended_of r.boot place) (names_of c.point.neighbour) ∷ [])) (sym t)
