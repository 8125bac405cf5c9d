use Rattle.std.proofs.Common.{map, nat_cmp, IsPermutation, IsSorted, sym, ◌∙◌, subst}
use Rattle.std.proofs.lemmas.Bool.Decides.{Decides-eqb}
use Rattle.std.proofs.lemmas.Slice.Eq.{slice_eq-Decides}
use Rattle.forward_views.specs.Looks.{item_way}
use Rattle.walk_text.proofs.SettledLemmas.{ways-same}
use Rattle.walk_text.proofs.settled.lists_own.Goals as goal

pub returns : goal.returns
returns c =
    ways-same c.eq.result c.in_ok-listed.listed.items c.as_slice.result.now c.as_slice-2.result.now (map item_way c.args.items.now) c.args.routes.now c.requires
    c.in_ok-listed.ensures.0 c.in_ok-listed.ensures.1
    (subst (IsPermutation c.in_ok-listed.listed.items) (sym c.as_slice.ensures.value) c.sort_unstable.ensures.permutation)
    (subst (IsSorted nat_cmp) (sym c.as_slice.ensures.value) c.sort_unstable.ensures.sorted)
    (c.as_slice-2.ensures.value ∙ c.in_ok-own.ensures.0) c.in_ok-own.ensures.1 (slice_eq-Decides Decides-eqb c.as_slice.result.now c.as_slice-2.result.now c.eq.result c.eq.ensures)
