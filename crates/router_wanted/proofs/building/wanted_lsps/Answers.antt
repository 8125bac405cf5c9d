use Rattle.std.proofs.Common.{◌≤◌, length, arith}
use Rattle.std.proofs.lemmas.Result.{IfOk-weaker}
use Rattle.isis_tlv.specs.Spelling.{area_value}
use Rattle.router_wanted.proofs.WantedLemmas.{lent-wanted, lent-issuable, lent-own, lent-rises, lent-count}
use Rattle.router_wanted.proofs.building.wanted_lsps.Goals as goal

pub returns-clause-wanted : goal.returns-clause-wanted
returns-clause-wanted c given before r lent =
    IfOk-weaker c.build.result _ _ (λ list e. lent-wanted c.args.base.now c.args.circuits.now c.args.leaks.now c.args.attached c.args.level list.items e given before r lent) c.build.ensures

pub returns-clause-issuable : goal.returns-clause-issuable
returns-clause-issuable c key signed =
    let most = c.area_sizes.ensures in
    let three = c.requires.areas in
    let areas : length (area_value c.args.base.now.areas.now) ≤ 255 = omega (arith, most, three) in
    let count = c.requires.circuits in
    let few : length c.args.circuits.now ≤ 126 = omega (arith, count) in
    IfOk-weaker c.build.result _ _ (λ list e. lent-issuable c.args.base.now c.args.circuits.now c.args.leaks.now c.args.attached c.args.level list.items e key areas few signed) c.build.ensures

pub returns-clause-own : goal.returns-clause-own
returns-clause-own c =
    let count = c.requires.circuits in
    let few : length c.args.circuits.now ≤ 255 = omega (arith, count) in
    IfOk-weaker c.build.result _ _ (λ list e. lent-own c.args.base.now c.args.circuits.now c.args.leaks.now c.args.attached c.args.level list.items e few) c.build.ensures

pub returns-clause-rises : goal.returns-clause-rises
returns-clause-rises c = IfOk-weaker c.build.result _ _ (λ list e. lent-rises c.args.base.now c.args.circuits.now c.args.leaks.now c.args.attached c.args.level list.items e) c.build.ensures

pub returns-clause-count : goal.returns-clause-count
returns-clause-count c = IfOk-weaker c.build.result _ _ (λ list e. lent-count c.args.base.now c.args.circuits.now c.args.leaks.now c.args.attached c.args.level list.items e) c.build.ensures
