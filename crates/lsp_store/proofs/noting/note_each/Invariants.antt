use Rattle.std.proofs.Common.{◌≡◌, ◌++◌, ◌-◌, ◌≤◌, length, take, drop}
use Rattle.std.specs.Prelude.{vec_capacity, vec_len}
use Rattle.lsp_store.specs.Maps.{first_where}
use Rattle.lsp_store.specs.Places.{flatten}
use Rattle.lsp_store.specs.PageFacts.{change_pages}
use Rattle.lsp_store.proofs.noting.note_each.Given as goal

abbrev pub invariant-loop-place : goal.invariant-loop-place
invariant-loop-place g l = record {
  items : l.pages.items ≡ change_pages (g.C.Noting.changed l.change) (take l.place l.fn.pages.items) ++ drop l.place l.fn.pages.items;
  first : l.first ≡ first_where (g.C.Noting.noted l.change) (flatten (change_pages (g.C.Noting.changed l.change) (take l.place l.fn.pages.items)));
  bound : l.place ≤ length l.fn.pages.items;
  len : vec_len l.pages ≡ vec_len l.fn.pages;
  capacity : vec_capacity l.pages ≡ vec_capacity l.fn.pages;
}

abbrev pub decreases-loop-place : goal.decreases-loop-place
decreases-loop-place g l = length l.fn.pages.items - l.place
