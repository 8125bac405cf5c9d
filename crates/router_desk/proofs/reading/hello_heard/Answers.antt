use Rattle.std.proofs.Common.{None, false}
use Rattle.model_router.specs.Numbers.{system_number, snpa_number}
use Rattle.model_router.specs.Both.{runs_of}
use Rattle.router_desk.proofs.reading.hello_heard.Goals as goal

pub returns : goal.returns
returns c =
    let areas = c.in_ok-areas.ensures in
    (λ i. record {
      source = system_number c.args.source;
      snpa = snpa_number c.args.from.snpa;
      boot = c.args.from.boot;
      runs = runs_of c.args.levels;
      holding = c.args.holding;
      priority = 0;
      lan = 0;
      areas = areas i;
      handshake = None;
      names_me = false;
    })
