use Rattle.router_circuits.proofs.sizes.hello_sizes.Goals as goal

pub returns-clause-sized : goal.returns-clause-sized
returns-clause-sized c common extended fits =
    let source = c.system_to_number.ensures in
    let snpa = c.snpa_to_number.ensures in
    let lan = c.node_to_number.ensures in
    record {
      system = rw (← source.value) source.size;
      snpa = rw (← snpa.value) snpa.size;
      extended = fits;
      priority = c.number_sizes.ensures.priority;
      lan = rw (← lan.value) lan.size;
      left = c.number_sizes.ensures.holding;
    }
