use Rattle.std.proofs.Common.{◌≡◌, ◌∙◌, ◌^◌, ◌<◌, ap, ℕ, Some, arith}
use Rattle.std.specs.Int.{from_be_bytes, w32}
use Rattle.std.specs.declared.net.ipv4_addr.Ipv4Addr.{Ipv4Addr}
use Rattle.std.specs.Net.Addr.{ipv4_bits, ipv4_octets, IsIpv4OfBits}
use Rattle.std.specs.Net.Socket.{v4_ip}
use Rattle.std.proofs.lemmas.Nat.{from_be_bytes-to_be_bytes_4}
use Rattle.daemon_edge.proofs.place.Address.socket.Goals as goal

-- an address that is made of a number has that number
pub returns : goal.returns
unfolding ipv4_bits IsIpv4OfBits
returns c =
    let same : from_be_bytes w32 (ipv4_octets c.from.result) ≡ c.args.self.host =
    ap (from_be_bytes w32) c.from.ensures ∙ from_be_bytes-to_be_bytes_4 c.args.self.host (omega arith) in
    let host : from_be_bytes w32 (ipv4_octets (v4_ip c.new.result)) ≡ c.args.self.host =
    ap (λ (a : Ipv4Addr). from_be_bytes w32 (ipv4_octets a)) c.new.ensures.ip ∙ same in
    λ i. Some (record { host = host i; port = c.new.ensures.port i })
