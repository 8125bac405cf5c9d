use Rattle.std.proofs.Common.{false, ap, ◌≡◌, ◌∙◌, ◌<◌, ℕ, List, get_or, length, subst, sym, arith}
use Rattle.std.proofs.lemmas.List.{length-map}
use Rattle.std.proofs.lemmas.List.Elements.{Contains-get_or}
use Rattle.std.specs.List.{Contains}
use Rattle.spf_tree.specs.Exploring.{goes_on}
use Rattle.spf_tree.specs.Places.{node_at, nodes_at}
use Rattle.spf_tree.proofs.ExploreLemmas.{visited, passed}
use Rattle.spf_tree.proofs.ReachLemmas.{found_within, found_node}
use Rattle.spf_tree.proofs.reach.visit.Goals as goal

pub offset_bounds-nodes-place : goal.offset_bounds-nodes-place
offset_bounds-nodes-place c =
    let place = c.index-place.result.now in
    let is = c.index-place.ensures in
    let nodes = c.args.indexed.now.nodes in
    let within : place < length nodes = subst (λ (n : ℕ). n < length nodes) (sym is) (found_within nodes c.args.found.now.items c.args.many place c.requires.places c.requires.in_list) in
    let in' : place < length c.nodes-nodes.result.now = subst (λ (ns : List ℕ). place < length ns) (sym c.nodes-nodes.ensures) within in
    search (arith, in')

pub bounds-nodes-place : goal.bounds-nodes-place
bounds-nodes-place c =
    let place = c.index-place.result.now in
    let is = c.index-place.ensures in
    let nodes = c.args.indexed.now.nodes in
    let within : place < length nodes = subst (λ (n : ℕ). n < length nodes) (sym is) (found_within nodes c.args.found.now.items c.args.many place c.requires.places c.requires.in_list) in
    subst (λ (ns : List ℕ). place < length ns) (sym c.nodes-nodes.ensures) within

pub returns-then-not-goes_on-clause-visited : goal.returns-then-not-goes_on-clause-visited
returns-then-not-goes_on-clause-visited c =
    let nodes = c.args.indexed.now.nodes in
    let found = c.args.found.now.items in
    let place = c.index-place.result.now in
    let node_is : get_or (nodes_at nodes found) c.args.many 0 ≡ node_at nodes place = found_node nodes found c.args.many place 0 c.requires.in_list c.index-place.ensures in
    let stops : goes_on c.args.all (node_at nodes c.args.root) (node_at nodes place) ≡ false =
    subst (λ (ns : List ℕ). goes_on c.args.all (node_at ns c.args.root) (node_at ns place) ≡ false) c.nodes-nodes.ensures (sym c.goes_on.ensures ∙ c.if-not-goes_on.true) in
    passed c.args.indexed.now.rows (node_at nodes c.args.root) c.args.labels.now c.args.all c.args.from c.args.marks.now (nodes_at nodes found) c.args.many 0
    (subst (λ (n : ℕ). c.args.many < n) (sym (length-map found (node_at nodes))) c.requires.in_list) (ap (goes_on c.args.all (node_at nodes c.args.root)) node_is ∙ stops) c.requires.so_far

pub offset_bounds-spans-place : goal.offset_bounds-spans-place
offset_bounds-spans-place c =
    let place = c.index-place.result.now in
    let is = c.index-place.ensures in
    let nodes = c.args.indexed.now.nodes in
    let within : place < length nodes = subst (λ (n : ℕ). n < length nodes) (sym is) (found_within nodes c.args.found.now.items c.args.many place c.requires.places c.requires.in_list) in
    let long = c.requires.spans.long in
    search (arith, within, long)

pub bounds-spans-place : goal.bounds-spans-place
bounds-spans-place c =
    let place = c.index-place.result.now in
    let is = c.index-place.ensures in
    let nodes = c.args.indexed.now.nodes in
    let within : place < length nodes = subst (λ (n : ℕ). n < length nodes) (sym is) (found_within nodes c.args.found.now.items c.args.many place c.requires.places c.requires.in_list) in
    let long = c.requires.spans.long in
    omega (arith, within, long)

pub spread-requires-clause-span : goal.spread-requires-clause-span
spread-requires-clause-span c =
    let place = c.index-place.result.now in
    let nodes = c.args.indexed.now.nodes in
    let within : place < length nodes = subst (λ (n : ℕ). n < length nodes) (sym c.index-place.ensures) (found_within nodes c.args.found.now.items c.args.many place c.requires.places c.requires.in_list) in
    c.requires.spans.each place _ within

pub spread-requires-clause-place : goal.spread-requires-clause-place
spread-requires-clause-place c =
    let place = c.index-place.result.now in
    let nodes = c.args.indexed.now.nodes in
    subst (λ (n : ℕ). n < length nodes) (sym c.index-place.ensures) (found_within nodes c.args.found.now.items c.args.many place c.requires.places c.requires.in_list)

pub spread-requires-clause-at_node : goal.spread-requires-clause-at_node
spread-requires-clause-at_node c =
    let nodes = c.args.indexed.now.nodes in
    let found = c.args.found.now.items in
    let place = c.index-place.result.now in
    let node_is : get_or (nodes_at nodes found) c.args.many 0 ≡ node_at nodes place = found_node nodes found c.args.many place 0 c.requires.in_list c.index-place.ensures in
    subst (λ (n : ℕ). Contains (nodes_at nodes found) n) node_is
    (Contains-get_or (nodes_at nodes found) c.args.many 0 (subst (λ (n : ℕ). c.args.many < n) (sym (length-map found (node_at nodes))) c.requires.in_list))

pub returns-in-Ok-clause-visited : goal.returns-in-Ok-clause-visited
returns-in-Ok-clause-visited c =
    let nodes = c.args.indexed.now.nodes in
    let old = nodes_at nodes c.args.found.now.items in
    let new = nodes_at nodes c.spread.new.found.items in
    let many = c.args.many in
    let place = c.index-place.result.now in
    let front = c.in-Ok.ensures.front in
    let longer = front.longer in
    let within : many < length old = subst (λ (n : ℕ). many < n) (sym (length-map c.args.found.now.items (node_at nodes))) c.requires.in_list in
    let node_is : get_or old many 0 ≡ node_at nodes place = found_node nodes c.args.found.now.items many place 0 c.requires.in_list c.index-place.ensures in
    visited c.args.indexed.now.rows (node_at nodes c.args.root) c.args.labels.now c.args.all c.args.from (node_at nodes place) c.spread.new.marks new many 0 (omega (arith, within, longer)) (sym node_is ∙ sym (front.same many 0 within)) c.in-Ok.ensures.spread
