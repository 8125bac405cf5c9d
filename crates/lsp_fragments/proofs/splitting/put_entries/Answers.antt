use Rattle.std.proofs.Common.{◌≡◌, ◌++◌, ℕ, List, map, length, arith, ◌∙◌, sym, ap, subst, Err}
use Rattle.std.proofs.lemmas.List.{length-map}
use Rattle.isis_tlv.specs.declared.neighbour.NeighbourItem.{NeighbourItem}
use Rattle.isis_tlv.specs.declared.prefix.PrefixItem.{PrefixItem}
use Rattle.lsp_fragments.specs.declared.fault.SplitFault.{SplitFault}
use Rattle.lsp_fragments.specs.Entries.{neighbour_entry, prefix_entry}
use Rattle.lsp_fragments.specs.Fits.{IsPut, fault_behind}
use Rattle.lsp_fragments.proofs.FitLemmas.{first-fault, second-fault, fit-less, put_all-append}
use Rattle.lsp_fragments.proofs.splitting.put_entries.Goals as goal

pub returns-in-Err : goal.returns-in-Err
returns-in-Err c =
    first-fault c.args.room c.args.filling (map neighbour_entry c.args.content.now.neighbours.items) (map prefix_entry c.args.content.now.prefixes.items) c.in-Err.fault
    (subst (λ (xs : List NeighbourItem). IsPut c.args.room c.args.filling (map neighbour_entry xs) (Err c.in-Err.fault)) c.deref.ensures.value c.in-Err.ensures)

pub behind-requires : goal.behind-requires
behind-requires c =
    let less = fit-less c.args.room c.in-Ok.filling (map prefix_entry c.deref-2.result.now) c.in-Err-put_prefixes.fault c.in-Err-put_prefixes.ensures in
    let count : length (map prefix_entry c.deref-2.result.now) ≡ length c.deref-2.result.now = length-map c.deref-2.result.now prefix_entry in
    let bound = c.args.content.now.prefixes.small in
    let bounds = c.args.content.now.neighbours.small in
    let fits = c.args.content.now.prefixes.ok in
    let fit = c.args.content.now.neighbours.ok in
    omega (arith, less, count)

pub returns-in-Ok-put_prefixes : goal.returns-in-Ok-put_prefixes
returns-in-Ok-put_prefixes c =
    put_all-append c.args.room c.args.filling c.in-Ok.filling (map neighbour_entry c.args.content.now.neighbours.items) (map prefix_entry c.args.content.now.prefixes.items) (rw c.deref.ensures.value at c.in-Ok.ensures)
    ∙ rw c.deref-2.ensures.value at c.in-Ok-put_prefixes.ensures

pub returns-in-Err-put_prefixes : goal.returns-in-Err-put_prefixes
returns-in-Err-put_prefixes c =
    let items = map neighbour_entry c.args.content.now.neighbours.items in
    let rest = map prefix_entry c.args.content.now.prefixes.items in
    let fault = c.in-Err-put_prefixes.fault in
    let count : length items ≡ c.len.result = length-map c.args.content.now.neighbours.items neighbour_entry ∙ sym c.args.content.now.neighbours.ok.0 ∙ sym c.len.ensures in
    let second = subst (λ (xs : List PrefixItem). IsPut c.args.room c.in-Ok.filling (map prefix_entry xs) (Err fault)) c.deref-2.ensures.value c.in-Err-put_prefixes.ensures in
    let both = second-fault c.args.room c.args.filling c.in-Ok.filling items rest fault (rw c.deref.ensures.value at c.in-Ok.ensures) second in
    subst (λ (f : SplitFault). IsPut c.args.room c.args.filling (items ++ rest) (Err f)) (ap (λ (n : ℕ). fault_behind n fault) count ∙ sym c.behind.ensures) both
