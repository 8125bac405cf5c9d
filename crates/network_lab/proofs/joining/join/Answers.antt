use Rattle.network_lab.proofs.joining.join.Goals as goal

-- src/joining.rt
pub returns : goal.returns
returns g c = record {
  joined = c.in_ok-joined.joined;
  holds = c.in_ok-joined.ensures.joined;
  router = c.in_ok-joined.ensures.router;
  added = c.in-Ok.ensures.items;
}
