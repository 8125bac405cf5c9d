use Rattle.std.proofs.Common.{◌∙◌, ap, subst, sym}
use Rattle.std.specs.Option.{IsSome}
use Rattle.std.proofs.lemmas.Result.{on_ok_weaker}
use Rattle.isis_base.specs.Identifiers.{lsp_number}
use Rattle.model_router.specs.Maps.{find, put}
use Rattle.lsp_fragments.specs.Kept.{OwnState, by_id, issued_pairs}
use Rattle.lsp_fragments.proofs.ShownLemmas.{put-shown, find-some}
use Rattle.lsp_fragments.proofs.own_lsps.OwnLsps.issued.Goals as goal

pub returns-clause-ok : goal.returns-clause-ok
returns-clause-ok c =
    on_ok_weaker c.insert_at.result (λ e. ap issued_pairs e ∙ put-shown (by_id c.self.inside.list.items) (lsp_number c.args.id) _
    ∙ ap (λ (s : OwnState). put s.issued (lsp_number c.args.id) (record { contents = record { flags = c.args.flags; tlvs = c.args.tlvs }; age = 0 })) c.self.view_is) c.insert_at.ensures.ok

pub returns-clause-held : goal.returns-clause-held
returns-clause-held c some =
    c.insert_at.ensures.held (find-some (by_id c.self.inside.list.items) (lsp_number c.args.id) (subst (λ (s : OwnState). IsSome (find s.issued (lsp_number c.args.id))) (sym c.self.view_is) some))
