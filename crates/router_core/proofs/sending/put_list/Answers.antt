use Rattle.std.proofs.Common.{◌-◌}
use Rattle.router_core.specs.Sending.{config_of, circuit_of}
use Rattle.router_core.proofs.SendingLemmas.{sends-here, put-one}
use Rattle.router_core.proofs.sending.put_list.Goals as goal

-- src/sending.rt
pub returns : goal.returns
returns c =
    put-one c.push.result c.push.new.self c.args.out.now c.args.sender.now _ c.in_ok-octets.octets
    (c.in_ok-octets.ensures (config_of c.args.sender.now) c.args.sender.now.boot (c.args.sender.now.circuit - 1) (circuit_of c.args.sender.now) (sends-here c.args.sender.now c.requires.here))
    c.push.ensures.ok
