use Rattle.std.proofs.Common.{◌+◌, length, drop, sym, ap, ◌∙◌, subst}
use Rattle.network_lab.specs.LabNets.{LabNet}
use Rattle.lab_script.specs.declared.setup.LabKey.{LabKey}
use Rattle.lab_script.specs.LabSound.{IsLabKey}
use Rattle.lab_text.specs.Layouts as layout
use Rattle.lab_text.specs.Setups.{HasLinks}
use Rattle.lab_text.proofs.TurnLemmas.{keys-at, keys-turn, key-left, scope-there}
use Rattle.lab_text.proofs.lay_out.set_keys.Goals as goal

pub set_key-requires-clause-there : goal.set_key-requires-clause-there
set_key-requires-clause-there c =
    let script = c.args.script.now in
    let told = c.key-item.result in
    let left = key-left (λ (key : LabKey). IsLabKey (length script.routers) script.links key) c.keys-keys.result.now c.loop-key.key-index told c.loop-key-test.true c.key-item.is c.loop-key.invariant.sound in
    scope-there script c.loop-key.net told.router told.scope c.keys-keys.ensures.sound c.loop-key.invariant.has left.0.scope

pub loop-key-preserved : goal.loop-key-preserved
loop-key-preserved c =
    let script = c.args.script.now in
    let keys = c.keys-keys.result.now in
    let told = c.key-item.result in
    let i = c.loop-key.key-index in
    let net = c.loop-key.net in
    let left = key-left (λ (key : LabKey). IsLabKey (length script.routers) script.links key) keys i told c.loop-key-test.true c.key-item.is c.loop-key.invariant.sound in
    record {
      left = ap (λ (a : LabNet). layout.with_keys (drop (i + 1) keys) a) c.in-Ok.ensures ∙ sym (keys-at keys net i told c.loop-key-test.true c.key-item.is) ∙ c.loop-key.invariant.left;
      has = subst (λ (a : LabNet). HasLinks (length script.routers) script.links a) (sym c.in-Ok.ensures)
          (keys-turn (length script.routers) script.links net told.router told.scope told.key c.loop-key.invariant.has);
      sound = left.1;
    }
