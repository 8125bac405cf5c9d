use Rattle.std.proofs.Common.{arith}
use Rattle.spf_tree.proofs.SearchLemmas.{no_row}
use Rattle.spf_tree.proofs.edges.find.Goals as goal

pub place_by-requires : goal.place_by-requires
place_by-requires c = λ k d h. let long = c.requires.known.long in (c.requires.known.each k no_row d (omega arith)).within

pub place_by-requires-2 : goal.place_by-requires-2
place_by-requires-2 c = λ k d h. let long = c.requires.known.long in (c.requires.known.each k no_row d (omega arith)).within
