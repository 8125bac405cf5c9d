-- What is taken is octets (own).
use Rattle.std.specs.Prelude.{◌<◌}
use Rattle.std.specs.List.{AllByRecursion}
use Rattle.router_core.specs.declared.event.NodeEvent.{NodeEvent}
use Rattle.router_core.specs.declared.event.NodeEvent.TheVariants as event

-- the octets of what is taken are octets (own)
abbrev pub HasOctets : NodeEvent → Type 0
HasOctets event.Second = Unit {0}
HasOctets (event.Take opened) = AllByRecursion (λ octet. octet < 256) opened.octets
HasOctets (event.Pull circuit) = Unit {0}
HasOctets (event.Change change) = Unit {0}
