use Rattle.std.proofs.Common.{ℕ, ◌-◌, sym, ap, ap₂, ◌∙◌}
use Rattle.model_router.specs.declared.whose.Whose.{Whose}
use Rattle.model_router.specs.LetGos.{let_go}
use Rattle.model_router.specs.Books.{cell_at}
use Rattle.model_router.specs.LspTable.{met, hear_lsp}
use Rattle.model_router.specs.Routers.{Contents, LevelState}
use Rattle.model_router.specs.OwnLsps.{outbid}
use Rattle.model_router.specs.Takes.{whose_of, last_purge}
use Rattle.model_router.specs.Numbers.{system_number}
use Rattle.model_datagram.specs.Lsps.{given_octets}
use Rattle.flag_sync.specs.Heard.{heard_of, answer_of}
use Rattle.router_levels.specs.Views.{LevelView, state_of}
use Rattle.router_levels.specs.Drafts.{scene_with, IsAnswer}
use Rattle.router_levels.proofs.TakeLemmas.{outbid-case, outbid-above, ack-case, taken-outbid, taken-ack, taken-else, outbid-issued, heard-number}
use Rattle.router_levels.proofs.level_parts.LevelParts.take_lsp.Goals as goal

pub outbid_by-requires-clause-own : goal.outbid_by-requires-clause-own
outbid_by-requires-clause-own c =
    let h = heard_of c.args.lsp.now in
    let s = state_of c.args.self.now in
    let w = whose_of (system_number c.args.system) s h.id in
    let same = c.met-whose.ensures.row in
    outbid-issued (system_number c.args.system) s h (outbid-case (met s.book w h) c.args.lsp.now c.in-Outbid.above (sym same ∙ c.in-Outbid.is))

pub returns-in_ok-outbid_by-in-Some-clause-state : goal.returns-in_ok-outbid_by-in-Some-clause-state
returns-in_ok-outbid_by-in-Some-clause-state c leaks attached r level are =
    let h = heard_of c.args.lsp.now in
    let s = state_of c.args.self.now in
    let w = whose_of (system_number c.args.system) s h.id in
    let scene = scene_with leaks attached r level in
    let same = c.met-whose.ensures.row in
    let told = sym same ∙ c.in-Outbid.is in
    let above = sym (outbid-above (met s.book w h) c.args.lsp.now c.in-Outbid.above told) ∙ sym (heard-number c.args.lsp.now.entry) in
    let says : IsAnswer _ scene h.id c.in-Some.draft = rw c.in-Some.is at are in
    let last = last_purge (cell_at s.book h.id) h in
    c.in_ok-outbid_by-in-Some.ensures.state leaks attached r level says.under
    ∙ ap₂ (λ (k : ℕ) (contents : Contents). outbid (given_octets leaks attached) r level s h.id k contents last) above says.says
    ∙ sym (taken-outbid scene s (c.args.circuit - 1) w h (outbid-case (met s.book w h) c.args.lsp.now c.in-Outbid.above told))

pub returns-in_ok-acknowledge-in-AckPurge-clause-state : goal.returns-in_ok-acknowledge-in-AckPurge-clause-state
returns-in_ok-acknowledge-in-AckPurge-clause-state c leaks attached r level are =
    let h = heard_of c.args.lsp.now in
    let s = state_of c.args.self.now in
    let w = whose_of (system_number c.args.system) s h.id in
    let same = c.met-whose.ensures.row in
    c.in_ok-acknowledge-in-AckPurge.ensures.state
    ∙ ap (λ (x : Whose). let t : LevelState = record s { book = hear_lsp s.book (c.args.circuit - 1) x h; gone = let_go s.gone h.id } in t) c.met-whose.ensures.whose
    ∙ sym (taken-ack (scene_with leaks attached r level) s (c.args.circuit - 1) w h (ack-case (met s.book w h) c.args.lsp.now (sym same ∙ c.in-AckPurge.is)))

pub returns-in_ok-hear-in_default-clause-state : goal.returns-in_ok-hear-in_default-clause-state
returns-in_ok-hear-in_default-clause-state c leaks attached r level are =
    let h = heard_of c.args.lsp.now in
    let s = state_of c.args.self.now in
    let w = whose_of (system_number c.args.system) s h.id in
    let same = c.met-whose.ensures.row in
    c.in_ok-hear-in_default.ensures.state
    ∙ ap (λ (x : Whose). let t : LevelState = record s { book = hear_lsp s.book (c.args.circuit - 1) x h } in t) c.met-whose.ensures.whose
    ∙ sym (taken-else (scene_with leaks attached r level) s (c.args.circuit - 1) w c.args.lsp.now (λ above e. c.in_default.not-Outbid above (same ∙ e)) (λ e. c.in_default.not-AckPurge (same ∙ e)))
