use Rattle.std.proofs.Common.{◌≡◌, ℕ, ◌+◌, ◌∷◌, [], ◌++◌, List, Vec, Global, map, take, length, sym, ap, ◌∙◌, subst, arith}
use Rattle.std.proofs.lemmas.List.{map-append}
use Rattle.model_router.specs.Places.{nth}
use Rattle.model_router.specs.Routers.{Router}
use Rattle.model_network.specs.RunLines.{circuit_count}
use Rattle.weave_replay.proofs.PlaceLemmas.{There, there, take-more}
use Rattle.weave.specs.Coded.{ArePorts}
use Rattle.weave.proofs.ItemLemmas.{length-part}
use Rattle.weave.specs.Woven.{AreRows}
use Rattle.weave.proofs.RowLemmas.{rows-more}
use Rattle.weave.proofs.rows.rows_of.Goals as goal
use Rattle.weave.proofs.rows.rows_of.Goals.{In_ok-push-in-Ok}

with-router : (c : In_ok-push-in-Ok) → There (nth c.args.network.now.seen.routers c.loop-router.router) → AreRows (take (c.loop-router.router + 1) c.args.network.now.seen.routers) c.args.network.now.seen.links (map (λ (row : Vec ℕ Global). row.items) c.push.new.self.items)
with-router c x =
    let routers = c.args.network.now.seen.routers in
    let links = c.args.network.now.seen.links in
    let router = c.loop-router.router in
    let size : router ≡ length (take router routers) = sym (length-part router routers x.item x.there) in
    let row : ArePorts links (length (take router routers)) c.in-Ok.row.items =
    subst (λ (k : ℕ). ArePorts links k c.in-Ok.row.items) size (subst (λ (list : List ℕ). ArePorts links router list) (sym c.in-Ok.ensures.items) c.ports.ensures.on) in
    let more : AreRows (take router routers ++ (x.item ∷ [])) links (map (λ (row : Vec ℕ Global). row.items) c.loop-router.rows.items ++ (c.in-Ok.row.items ∷ [])) =
    rows-more (take router routers) links (map (λ (row : Vec ℕ Global). row.items) c.loop-router.rows.items) x.item c.in-Ok.row.items c.loop-router.invariant
    (ap length c.in-Ok.ensures.items ∙ (c.ports.ensures.size ∙ ap circuit_count x.there)) row in
    subst (λ (rows : List (List ℕ)). AreRows (take (router + 1) routers) links rows)
    (sym (ap (map (λ (row : Vec ℕ Global). row.items)) c.in_ok-push-in-Ok.ensures.items ∙ map-append (λ (row : Vec ℕ Global). row.items) c.loop-router.rows.items (c.in-Ok.row ∷ [])))
    (subst (λ (rs : List Router). AreRows rs links (map (λ (row : Vec ℕ Global). row.items) c.loop-router.rows.items ++ (c.in-Ok.row.items ∷ []))) (sym (take-more routers router x.item x.there)) more)

pub loop-router-preserved : goal.loop-router-preserved
loop-router-preserved c =
    let n = c.routers-router-end.ensures in
    with-router c (there c.args.network.now.seen.routers c.loop-router.router (omega (arith, c.loop-router-test.true, n)))
