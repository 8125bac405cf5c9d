use Rattle.std.proofs.Common.{false, true, sym, ap}
use Rattle.isis_tlv.specs.declared.prefix.PrefixItem.{PrefixItem}
use Rattle.route_table.specs.declared.rank.Rank.TheVariants.{One, Two}
use Rattle.route_leaking.proofs.LeakLemmas.{leaks-of, rank-one, rank-two}
use Rattle.route_leaking.proofs.laws.leak_laws.Goals as goal

pub returns-clause-up : goal.returns-clause-up
returns-clause-up c = λ routes item there.
    let of = leaks-of One false routes item there in
    (ap (λ (i : PrefixItem). i.down) of.3, (of.0, of.1, rank-one of.0.rank of.2, sym (ap (λ (i : PrefixItem). i.prefix) of.3), ap (λ (i : PrefixItem). i.metric) of.3))

pub returns-clause-down : goal.returns-clause-down
returns-clause-down c = λ routes item there.
    let of = leaks-of Two true routes item there in
    (ap (λ (i : PrefixItem). i.down) of.3, (of.0, of.1, rank-two of.0.rank of.2, sym (ap (λ (i : PrefixItem). i.prefix) of.3), ap (λ (i : PrefixItem). i.metric) of.3))
