use Rattle.std.proofs.Common.{◌≡◌, ◌+◌, ◌<◌, ◌≤◌, ℕ, length, drop, get_or}
use Rattle.std.specs.Prelude.{◌==◌}
use Rattle.std.specs.List.{AllByRecursion, count_by}
use Rattle.lab_script.proofs.lab_links.count_all.Given as goal

-- the counts so far, and the routers that are left
abbrev pub invariant-loop-router : goal.invariant-loop-router
invariant-loop-router l = record {
  counted : (router : ℕ) → get_or l.counts.items router 0 + count_by (λ other. other == router) (drop l.router-index l.routers) ≡ get_or l.fn.counts.items router 0 + count_by (λ other. other == router) l.routers;
  there : AllByRecursion (λ router. router < length l.counts.items) (drop l.router-index l.routers);
  few : (router : ℕ) → get_or l.counts.items router 0 ≤ 64 + l.router-index;
}
