use Rattle.std.proofs.Common.{◌∙◌, length, sym, ap, subst}
use Rattle.lab_keys.specs.KeysNet.{Net}
use Rattle.lab_text.specs.KeysRuns.{routers_only, with_links}
use Rattle.lab_text.specs.KeysInNet.{AreInNet}
use Rattle.lab_text.proofs.LayLemmas.{laid_out-sound, with_links-routers, laid-as}
use Rattle.lab_text.proofs.run.lay_out.Goals as goal

pub returns-clause-sound : goal.returns-clause-sound
returns-clause-sound c =
    let laid = laid-as c.args.script.now c.names.result.now c.links.result.now c.names.ensures.names c.links.ensures.links in
    subst (λ (n : Net). AreInNet n c.args.script.now.events) (sym (c.in_ok-add_links.ensures ∙ ap (λ (n : Net). with_links n c.links.result.now) c.in_ok-add_routers.ensures ∙ laid)) (laid_out-sound c.args.script.now c.links.ensures.sound)

pub returns-clause-named : goal.returns-clause-named
returns-clause-named c =
    let laid = laid-as c.args.script.now c.names.result.now c.links.result.now c.names.ensures.names c.links.ensures.links in
    ap (λ (n : Net). n.routers) (c.in_ok-add_links.ensures ∙ ap (λ (n : Net). with_links n c.links.result.now) c.in_ok-add_routers.ensures ∙ laid)
    ∙ with_links-routers (routers_only (length c.args.script.now.routers)) c.args.script.now.links
