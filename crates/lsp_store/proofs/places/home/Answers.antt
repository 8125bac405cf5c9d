use Rattle.std.proofs.Common.{rules, leb}
use Rattle.std.proofs.lemmas.List.Sorted.{IsPartitionPoint-from_clause, IsPartitionedBy-leb}
use Rattle.lsp_store.specs.PageFacts.{first_number}
use Rattle.lsp_store.proofs.PageLemmas.{home-found, firsts-sorted}
use Rattle.lsp_store.proofs.places.home.Goals as goal

pub returns : goal.returns
returns g c =
    let parted = IsPartitionPoint-from_clause (λ page. leb (first_number page) c.args.n) c.args.pages.now c.partition_point-above.result c.partition_point-above.ensures.partitioned (IsPartitionedBy-leb first_number c.args.pages.now c.args.n (firsts-sorted c.args.pages.now c.requires.filled c.requires.rises)) (λ a r f h. search rules) in
    let found = home-found c.args.pages.now c.args.n c.partition_point-above.result c.requires.filled c.requires.rises c.requires.some c.partition_point-above.ensures.bound parted in
    search (rules, found)
