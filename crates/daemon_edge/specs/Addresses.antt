-- Addresses of UDP over IPv4 (RFC 768, RFC 791).
use Rattle.std.specs.Prelude.{Option, Some, None}
use Rattle.std.specs.declared.net.socket_addr.SocketAddr.{SocketAddr}
use Rattle.std.specs.declared.net.socket_addr.SocketAddr.TheVariants.{V4, V6}
use Rattle.std.specs.Net.Addr.{ipv4_bits}
use Rattle.std.specs.Net.Socket.{v4_ip, v4_port}
use Rattle.daemon_edge.specs.declared.place.Address.{Address}

-- the address and the port of a socket, where they are of IPv4 (own)
abbrev pub address_of : SocketAddr → Option Address
address_of (V4 at) = Some (record { host = ipv4_bits (v4_ip at); port = v4_port at })
address_of (V6 at) = None
