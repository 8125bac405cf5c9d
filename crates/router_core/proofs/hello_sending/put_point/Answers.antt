use Rattle.std.proofs.Common.{◌≡◌, ◌-◌, ◌+◌, ◌*◌, ◌∙◌, ap, arith}
use Rattle.model_router.specs.Datagrams.{Sent}
use Rattle.model_router.specs.Routers.{extended_of}
use Rattle.model_datagram.specs.Datagrams.{datagram}
use Rattle.router_core.specs.Sending.{config_of, circuit_of}
use Rattle.router_core.proofs.SendingLemmas.{sends-here, put-one}
use Rattle.router_core.proofs.GreetingLemmas.{point-says}
use Rattle.router_core.proofs.hello_sending.put_point.Goals as goal

-- src/hello_sending.rt
pub returns : goal.returns
returns c =
    put-one c.push.result c.push.new.self c.args.out.now c.args.sender.now _ c.in_ok-octets.octets
    (c.in_ok-octets.ensures (config_of c.args.sender.now) c.args.sender.now.boot (c.args.sender.now.circuit - 1) (circuit_of c.args.sender.now) (sends-here c.args.sender.now c.requires.here)
    ∙ ap (λ (says : Sent). datagram (config_of c.args.sender.now) c.args.sender.now.boot (c.args.sender.now.circuit - 1) (circuit_of c.args.sender.now) says)
    (point-says _ _ _ _ _ _ c.state.ensures (c.extended-extended.ensures ∙ number) c.named.ensures))
    c.push.ensures.ok
  where
    number : 256 * c.args.sender.now.boot + c.args.sender.now.circuit ≡ extended_of c.args.sender.now.boot (c.args.sender.now.circuit - 1)
    number = omega (arith, c.requires.here)
