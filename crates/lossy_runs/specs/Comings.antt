-- What comes up after the first so many datagrams of a network (own).
use Rattle.std.specs.Prelude.{◌≡◌, ℕ, true, false, List, map, Option, Some, None}
use Rattle.model_router.specs.Places.{nth}
use Rattle.model_network.specs.declared.word.PduWord.{PduWord}
use Rattle.model_network.specs.declared.end.End.{End}
use Rattle.model_network.specs.Networks.{Datagram, octets_of, Network}
use Rattle.model_network.specs.RunLines.{is_left_out, by_router, ends_of}
use Rattle.lossy_runs.specs.declared.lab.Coming.{Coming}
use Rattle.lossy_runs.specs.declared.lab.Coming.TheVariants.{Nothing, LeftOut, To}

-- the routers of ends (own)
abbrev pub routers_of : List End → List ℕ
routers_of ends = map (λ (e : End). e.router) ends

-- a datagram of this place is left out (own)
pub record IsOut (net : Network) (count : ℕ) (without : Option PduWord) : Type 0 where
  pub d : Datagram
  pub there : nth net.datagrams count ≡ Some d
  pub out : is_left_out without (octets_of d) ≡ true

-- a datagram of this place is to go to these routers (own)
pub record IsTo (net : Network) (count : ℕ) (without : Option PduWord) (sender : ℕ) (routers : List ℕ)
    : Type 0 where
  pub d : Datagram
  pub there : nth net.datagrams count ≡ Some d
  pub goes : is_left_out without (octets_of d) ≡ false
  pub from : sender ≡ d.sender
  pub ends : routers ≡ routers_of (by_router (ends_of (nth net.links d.link)))

-- own
abbrev pub IsComing : Network → ℕ → Option PduWord → Coming → Type 0
IsComing net count without Nothing = nth net.datagrams count ≡ None
IsComing net count without LeftOut = IsOut net count without
IsComing net count without (To c) = IsTo net count without c.sender c.routers.items
