-- A system is that of its node's number.
use Rattle.std.proofs.Common.{◌≡◌, ◌++◌, ◌∷◌, OnOk, sym, subst}
use Rattle.isis_base.specs.declared.identifiers.SystemId.{SystemId}
use Rattle.isis_base.specs.Texts.{system_text}
use Rattle.route_text.specs.ViaText.{hop_text}
use Rattle.route_text.proofs.HopLemmas.{system-again}
use Rattle.route_text.proofs.via.add_hop.Goals as goal

pub returns : goal.returns
unfolding hop_text
returns c =
    subst (λ (s : SystemId). OnOk c.add_system_id.result (c.add_system_id.new.text ≡ c.args.page.now ++ 32 ∷ system_text s))
    (sym (system-again c.args.system c.lsp_id_law.ensures)) c.add_system_id.ensures
