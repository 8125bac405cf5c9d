use Rattle.std.proofs.Common.{◌<◌, length, arith}
use Rattle.std.proofs.lemmas.Bool.Decides.{nat_tests}
use Rattle.snp_exchange.proofs.PieceLemmas.{list-end}
use Rattle.snp_exchange.proofs.psnp.finish.Goals as goal

pub returns : goal.returns
returns c =
    let test = c.if-is_empty.false in
    let empty = c.is_empty.ensures in
    let whole = c.args.entries.ok.0 in
    let some : 0 < length c.args.entries.items = grind (arith, nat_tests, test, empty, whole) in
    list-end c.args.lists.items c.push.new.self.items c.args.entries c.in_ok-push.ensures.items some
