-- A system is that of its node's number.
use Rattle.std.proofs.Common.{◌≡◌, ◌++◌, ◌∷◌, OnOk, sym, ap, subst}
use Rattle.isis_base.specs.declared.identifiers.LspId.{LspId}
use Rattle.isis_base.specs.declared.identifiers.SystemId.{SystemId}
use Rattle.isis_base.specs.Texts.{system_text}
use Rattle.lab_report.specs.RouteLines.{hop_text}
use Rattle.spf_tree.specs.Nodes.{node_number}
use Rattle.trace_text.proofs.lines.add_system.Goals as goal

pub returns : goal.returns
unfolding hop_text node_number
returns c =
    subst (λ (s : SystemId). OnOk c.add_system_id.result (c.add_system_id.new.text ≡ c.args.text.now ++ 32 ∷ system_text s))
    (sym (ap (λ (id : LspId). id.node.system) c.id_law.ensures.same)) c.add_system_id.ensures
