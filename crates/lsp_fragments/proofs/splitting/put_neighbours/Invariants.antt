use Rattle.std.proofs.Common.{◌≡◌, ◌+◌, drop, map}
use Rattle.lsp_fragments.specs.Entries.{neighbour_entry}
use Rattle.lsp_fragments.specs.Fits.{put_all, count_put}
use Rattle.lsp_fragments.proofs.splitting.put_neighbours.Given as goal

-- what was put in, and what is left, give the whole
abbrev pub invariant-loop-item : goal.invariant-loop-item
invariant-loop-item l = record {
  place : l.fit ≡ l.item-index;
  put : put_all l.room l.filling (map neighbour_entry (drop l.item-index l.list))
      ≡ put_all l.room l.fn.filling (map neighbour_entry l.list);
  count : l.fit + count_put l.room l.filling (map neighbour_entry (drop l.item-index l.list))
      ≡ count_put l.room l.fn.filling (map neighbour_entry l.list);
}
