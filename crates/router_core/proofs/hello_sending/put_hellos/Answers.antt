use Rattle.std.proofs.Common.{◌-◌}
use Rattle.router_core.proofs.GreetingLemmas.{hellos-lan}
use Rattle.router_core.proofs.hello_sending.put_hellos.Goals as goal

-- src/hello_sending.rt
pub returns-in_ok-put_lan-in-None : goal.returns-in_ok-put_lan-in-None
returns-in_ok-put_lan-in-None c r sends =
    hellos-lan c.put_lan-in-None.result c.args.sender.now r (c.args.sender.now.circuit - 1) c.args.on.now c.args.out.now c.put_lan.new.out c.put_lan-in-None.new.out
    c.in-None.ensures (c.in_ok-put_lan-in-None.ensures r sends) (c.put_lan-in-None.ensures r sends)
