use Rattle.spf_tree.proofs.PlaceLemmas.{no_place}
use Rattle.spf_tree.proofs.edges.place_of.Goals as goal

pub returns-in-Err-clause-within : goal.returns-in-Err-clause-within
returns-in-Err-clause-within c = absurd (no_place c.args.nodes.now c.args.node c.in-Err.place c.requires.rising c.requires.there c.in-Err.ensures.position)

pub returns-in-Err-clause-node : goal.returns-in-Err-clause-node
returns-in-Err-clause-node c = absurd (no_place c.args.nodes.now c.args.node c.in-Err.place c.requires.rising c.requires.there c.in-Err.ensures.position)
