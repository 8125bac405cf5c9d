use Rattle.std.proofs.Common.{◌-◌, ◌∙◌, ap}
use Rattle.model_router.specs.Both.{at}
use Rattle.model_router.specs.Datagrams.{Sent}
use Rattle.model_datagram.specs.Datagrams.{datagram}
use Rattle.router_core.specs.Sending.{config_of, circuit_of}
use Rattle.router_core.proofs.SendingLemmas.{sends-here, put-one}
use Rattle.router_core.proofs.GreetingLemmas.{lan-says, heard-few}
use Rattle.router_core.proofs.hello_sending.put_run.Goals as goal

-- src/hello_sending.rt
pub lan_hello-requires-clause-few : goal.lan_hello-requires-clause-few
lan_hello-requires-clause-few c =
    heard-few 200 c.heard-heard.result.now (at c.args.on.now.levels c.args.level).heard c.heard-heard.ensures.snpas c.heard-heard.ensures.heard.few

-- src/hello_sending.rt
pub returns : goal.returns
returns c r sends =
    put-one c.push.result c.push.new.self c.args.out.now c.args.sender.now _ c.in_ok-octets.octets
    (c.in_ok-octets.ensures (config_of c.args.sender.now) c.args.sender.now.boot (c.args.sender.now.circuit - 1) (circuit_of c.args.sender.now) (sends-here c.args.sender.now c.requires.here)
    ∙ ap (λ (says : Sent). datagram (config_of c.args.sender.now) c.args.sender.now.boot (c.args.sender.now.circuit - 1) (circuit_of c.args.sender.now) says)
    (lan-says c.args.level _ _ _ _
    (c.lan_id-lan.ensures r (c.args.sender.now.circuit - 1) (record { system = sends.system; circuit = sends.circuit }))
    c.heard-heard.ensures.snpas))
    c.push.ensures.ok
