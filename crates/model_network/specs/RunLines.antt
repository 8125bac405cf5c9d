-- A line `run` of a script: seconds in which all that is sent is delivered at once (own).
use Rattle.std.specs.Prelude.{ℕ, zero, suc, ◌+◌, ◌%◌, ◌==◌, nat_le, nat_lt, Bool, false, ◌&&◌, ◌||◌, List, [], ◌∷◌, length, Option, Some, None, if◌then◌else◌}
use Rattle.std.specs.Prelude.{slice_index}
use Rattle.model_router.specs.Places.{nth}
use Rattle.model_router.specs.Givens.{Given}
use Rattle.model_router.specs.Routers.{Router}
use Rattle.model_network.specs.declared.word.PduWord.{PduWord}
use Rattle.model_network.specs.declared.word.PduWord.TheVariants as word
use Rattle.model_network.specs.declared.end.End.{End}
use Rattle.model_network.specs.Networks.{Datagram, octets_of, Network}
use Rattle.model_network.specs.Runs.{Tick, PullOn, Deliver, apply}

-- ---- what isn't delivered, and to whom

-- the type of a datagram's PDU: the low five bits of the PDU's fifth octet (ISO 10589 9.5), behind
-- the frame's 14 (own)
abbrev pub type_of : List ℕ → ℕ
type_of octets = slice_index octets 18 % 32

-- whether a type of PDU is of a kind (ISO 10589 9.5 to 9.13)
abbrev pub is_of : PduWord → ℕ → Bool
is_of word.Hello type = nat_le 15 type && nat_le type 17
is_of word.Lsp type = type == 18 || type == 20
is_of word.Csnp type = type == 24 || type == 25
is_of word.Psnp type = type == 26 || type == 27

-- own
abbrev pub is_left_out : Option PduWord → List ℕ → Bool
is_left_out None octets = false
is_left_out (Some kind) octets = is_of kind (type_of octets)

-- own
abbrev pub is_excepted : Option ℕ → ℕ → Bool
is_excepted None router = false
is_excepted (Some other) router = other == router

-- an end is put behind those of no greater router (own)
abbrev pub put_end : List End → End → List End
put_end [] e = e ∷ []
put_end (x ∷ ends) e = if nat_lt e.router x.router then e ∷ x ∷ ends else x ∷ put_end ends e

-- ends in order of their routers (own)
abbrev pub by_router : List End → List End
by_router [] = []
by_router (e ∷ ends) = put_end (by_router ends) e

-- ---- a datagram goes to each other end

-- own
abbrev pub deliver_each : Given → Option ℕ → ℕ → ℕ → List End → Network → Network
deliver_each given except number sender [] net = net
deliver_each given except number sender (e ∷ ends) net =
    deliver_each given except number sender ends
    (if e.router == sender || is_excepted except e.router then net
    else apply given net (Deliver number e.router))

-- own
abbrev pub ends_of : Option (List End) → List End
ends_of None = []
ends_of (Some ends) = ends

-- a datagram of this number is delivered to each other end, in order of routers (own)
abbrev pub deliver_one : Given → Option PduWord → Option ℕ → ℕ → Datagram → Network → Network
deliver_one given without except number d net =
    if is_left_out without (octets_of d) then net
    else deliver_each given except number d.sender
    (by_router (ends_of (nth net.links d.link))) net

-- the most datagrams that a network sends (own)
unfoldable pub datagram_limit : ℕ
datagram_limit = 262144

-- own
abbrev pub where_found : Option Datagram → Network → (Datagram → Network) → Network
where_found None net next = net
where_found (Some d) net next = next d

-- the datagrams behind the first so many, in order, and those that are sent by their delivery; of
-- so many at most (own)
abbrev pub deliver_behind : Given → Option PduWord → Option ℕ → ℕ → ℕ → Network → Network
deliver_behind given without except zero count net = net
deliver_behind given without except (suc most) count net =
    where_found (nth net.datagrams count) net
    (λ d. deliver_behind given without except most (count + 1)
    (deliver_one given without except (count + 1) d net))

-- ---- a second of a run

-- the seconds of routers from one on (own)
abbrev pub tick_each : Given → Option ℕ → ℕ → ℕ → Network → Network
tick_each given except router zero net = net
tick_each given except router (suc count) net =
    tick_each given except (router + 1) count
    (if is_excepted except router then net else apply given net (Tick router))

-- a pull, and directly after it all that it sent is delivered (own)
abbrev pub pull_one : Given → Option PduWord → Option ℕ → ℕ → ℕ → Network → Network
pull_one given without except router link net =
    deliver_behind given without except datagram_limit (length net.datagrams)
    (apply given net (PullOn router link))

-- the pulls of a router's circuits, by their links (own)
abbrev pub pull_links : Given → Option PduWord → Option ℕ → ℕ → List ℕ → Network → Network
pull_links given without except router [] net = net
pull_links given without except router (link ∷ links) net =
    pull_links given without except router links
    (pull_one given without except router link net)

-- the link of a router's circuit at a place, counted from a link on (own)
abbrev pub is_end : ℕ → ℕ → List End → Bool
is_end router place [] = false
is_end router place (e ∷ ends) =
    (e.router == router && e.place == place) || is_end router place ends

-- own
abbrev pub link_of : ℕ → ℕ → ℕ → List (List End) → Option ℕ
link_of router place link [] = None
link_of router place link (ends ∷ links) =
    if is_end router place ends then Some link else link_of router place (link + 1) links

-- own
abbrev pub with_some : Option ℕ → List ℕ → List ℕ
with_some None list = list
with_some (Some n) list = n ∷ list

-- the links of a router's circuits, so many from a place on (own)
abbrev pub links_from : Network → ℕ → ℕ → ℕ → List ℕ
links_from net router place zero = []
links_from net router place (suc count) =
    with_some (link_of router place 0 net.links) (links_from net router (place + 1) count)

-- own
abbrev pub circuit_count : Option Router → ℕ
circuit_count None = 0
circuit_count (Some r) = length r.circuits

-- the links of a router, in order of its circuits (own)
abbrev pub links_at : Network → ℕ → List ℕ
links_at net router = links_from net router 0 (circuit_count (nth net.routers router))

-- the pulls of routers from one on (own)
abbrev pub pull_each : Given → Option PduWord → Option ℕ → ℕ → ℕ → Network → Network
pull_each given without except router zero net = net
pull_each given without except router (suc count) net =
    pull_each given without except (router + 1) count
    (if is_excepted except router then net
    else pull_links given without except router (links_at net router) net)

-- one second: each router's, and then each router's pulls (own)
abbrev pub run_second : Given → Option PduWord → Option ℕ → Network → Network
run_second given without except net =
    let routers = length net.routers in
    pull_each given without except 0 routers (tick_each given except 0 routers net)

-- a line `run` of so many seconds (own)
abbrev pub run_line : Given → Option PduWord → Option ℕ → ℕ → Network → Network
run_line given without except zero net = net
run_line given without except (suc seconds) net =
    run_line given without except seconds (run_second given without except net)
