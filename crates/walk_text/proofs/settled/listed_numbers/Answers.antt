use Rattle.std.proofs.Common.{ℕ, map, drop, ◌+◌, ◌∷◌, ap, sym, ◌∙◌}
use Rattle.std.proofs.lemmas.List.{drop_more, drop_all}
use Rattle.isis_tlv.specs.declared.prefix.PrefixItem.{PrefixItem}
use Rattle.route_table.specs.Ranks.{prefix_number}
use Rattle.forward_views.specs.Looks.{item_way}
use Rattle.walk_text.proofs.SettledLemmas.{one-more, none-left}
use Rattle.walk_text.proofs.settled.listed_numbers.Goals as goal

pub loop-item-preserved : goal.loop-item-preserved
loop-item-preserved c =
    let items = c.args.items.now in
    let i = c.loop-item.item-index in
    let item = c.item-item.result in
    let rest = drop (i + 1) items in
    let opens = (drop_more items i item c.loop-item-test.true) ∙ ap (λ (x : PrefixItem). x ∷ rest) (sym c.item-item.is) in
    let ways = ap (map item_way) opens ∙ ap (λ (m : ℕ). (prefix_number item.prefix, m) ∷ map item_way rest) (sym c.from.ensures) in
    one-more c.push.new.self.items c.loop-item.numbers.items (map item_way (drop i items)) (map item_way rest) (map item_way items) (prefix_number item.prefix, c.from.result) c.number_of.result
    ways c.in_ok-push.ensures.items c.number_of.ensures.is c.number_of.ensures.small c.loop-item.invariant

pub returns : goal.returns
returns c =
    none-left c.loop-item.numbers.items (map item_way (drop c.loop-item.item-index c.args.items.now)) (map item_way c.args.items.now)
    (ap (map item_way) (drop_all c.loop-item.item-index c.args.items.now c.loop-item-test.false)) c.loop-item.invariant
