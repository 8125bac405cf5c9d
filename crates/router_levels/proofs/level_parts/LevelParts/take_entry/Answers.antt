use Rattle.std.proofs.Common.{◌≡◌, ◌-◌, ◌<◌, ℕ, Option, Some, None, IsSome, is_some, subst, sym, ap, ap₂, ◌∙◌, refl, arith}
use Rattle.std.specs.Option.{option_copied}
use Rattle.isis_base.specs.declared.identifiers.LspId.{LspId}
use Rattle.isis_base.specs.Identifiers.{lsp_number}
use Rattle.model_router.specs.Maps.{find}
use Rattle.model_router.specs.declared.snp_case.SnpCase.{SnpCase}
use Rattle.model_router.specs.Ranks.{number_of}
use Rattle.model_router.specs.Books.{cell_at, rank_at}
use Rattle.model_router.specs.SnpTable.{snp_case}
use Rattle.model_router.specs.Routers.{Contents, Issued, LevelState}
use Rattle.model_router.specs.OwnLsps.{outbid}
use Rattle.model_router.specs.Takes.{whose_of, held_purge}
use Rattle.model_router.specs.Numbers.{system_number}
use Rattle.model_datagram.specs.Lsps.{given_octets}
use Rattle.flag_sync.specs.Heard.{entry_of, outbid_of}
use Rattle.router_levels.specs.Views.{state_of}
use Rattle.router_levels.specs.Drafts.{IsReady, IsAnswer, scene_with}
use Rattle.router_levels.proofs.EntryLemmas.{some-outbid, entry-outbid, entry-issued, entry-held}
use Rattle.router_levels.proofs.TakeLemmas.{heard-number}
use Rattle.router_levels.proofs.level_parts.LevelParts.take_entry.Goals as goal

some-above : {a b : ℕ} {o : Option ℕ} → Some a ≡ o → o ≡ Some b → a ≡ b
some-above e f = let h = e ∙ f in grind (arith, h)

pub outbid_entry-requires-clause-held : goal.outbid_entry-requires-clause-held
outbid_entry-requires-clause-held c =
    let e = c.args.entry.now in
    let h = entry_of e in
    let s = state_of c.args.self.now in
    let w = whose_of (system_number c.args.system) s h.id in
    let out = some-outbid (snp_case w (cell_at s.book h.id) h) e (subst (λ (o : Option ℕ). IsSome o) (sym c.in-Some.is ∙ c.hear_entry.ensures.row) refl) in
    let ready : IsReady _ c.args.self.now.own.issued e (Some c.in-Some-draft.draft) = rw c.in-Some-draft.is at c.requires.ready in
    let same : state_of c.hear_entry.new.self ≡ s = c.hear_entry.ensures.same (subst (λ (o : Option ℕ). IsSome o) (sym c.in-Some.is) refl) in
    let held : 0 < rank_at s.book h.id = entry-held w (cell_at s.book h.id) h out in
    let mid : 0 < rank_at (state_of c.hear_entry.new.self).book h.id = subst (λ (x : LevelState). 0 < rank_at x.book h.id) (sym same) held in
    subst (λ (id : LspId). 0 < rank_at (state_of c.hear_entry.new.self).book (lsp_number id)) (sym ready.0) mid

pub outbid_entry-requires-clause-own : goal.outbid_entry-requires-clause-own
outbid_entry-requires-clause-own c =
    let e = c.args.entry.now in
    let h = entry_of e in
    let s = state_of c.args.self.now in
    let w = whose_of (system_number c.args.system) s h.id in
    let out = some-outbid (snp_case w (cell_at s.book h.id) h) e (subst (λ (o : Option ℕ). IsSome o) (sym c.in-Some.is ∙ c.hear_entry.ensures.row) refl) in
    let ready : IsReady _ c.args.self.now.own.issued e (Some c.in-Some-draft.draft) = rw c.in-Some-draft.is at c.requires.ready in
    let same : state_of c.hear_entry.new.self ≡ s = c.hear_entry.ensures.same (subst (λ (o : Option ℕ). IsSome o) (sym c.in-Some.is) refl) in
    let mid : IsSome (find (state_of c.hear_entry.new.self).own h.id) = subst (λ (x : LevelState). IsSome (find x.own h.id)) (sym same) (entry-issued (system_number c.args.system) s h out) in
    subst (λ (id : LspId). IsSome (find (state_of c.hear_entry.new.self).own (lsp_number id))) (sym ready.0) mid

pub returns-in-Some-draft-clause-state : goal.returns-in-Some-draft-clause-state
returns-in-Some-draft-clause-state c leaks attached r level are =
    let e = c.args.entry.now in
    let h = entry_of e in
    let s = state_of c.args.self.now in
    let w = whose_of (system_number c.args.system) s h.id in
    let scene = scene_with leaks attached r level in
    let given = given_octets leaks attached in
    let row = sym c.in-Some.is ∙ c.hear_entry.ensures.row in
    let out = some-outbid (snp_case w (cell_at s.book h.id) h) e (subst (λ (o : Option ℕ). IsSome o) row refl) in
    let above : c.in-Some.above ≡ number_of h.rank = some-above row (ap (λ (x : SnpCase). outbid_of x e) out) ∙ sym (heard-number e) in
    let ready : IsReady _ c.args.self.now.own.issued e (Some c.in-Some-draft.draft) = rw c.in-Some-draft.is at c.requires.ready in
    let says : IsAnswer _ scene h.id c.in-Some-draft.draft = rw c.in-Some-draft.is at are in
    let same : state_of c.hear_entry.new.self ≡ s = c.hear_entry.ensures.same (subst (λ (o : Option ℕ). IsSome o) (sym c.in-Some.is) refl) in
    c.outbid_entry.ensures.state leaks attached r level says.under
    ∙ ap₂ (λ (x : LevelState) (id : LspId). outbid given r level x (lsp_number id) c.in-Some.above c.in-Some-draft.draft.contents (held_purge (cell_at x.book (lsp_number id)))) same ready.0
    ∙ ap₂ (λ (k : ℕ) (contents : Contents). outbid given r level s h.id k contents (held_purge (cell_at s.book h.id))) above says.says
    ∙ sym (entry-outbid scene s (system_number c.args.system) (c.args.circuit - 1) h out)

pub returns-in-None-draft-clause-state : goal.returns-in-None-draft-clause-state
returns-in-None-draft-clause-state c leaks attached r level are =
    let e = c.args.entry.now in
    let h = entry_of e in
    let s = state_of c.args.self.now in
    let w = whose_of (system_number c.args.system) s h.id in
    let out = some-outbid (snp_case w (cell_at s.book h.id) h) e (subst (λ (o : Option ℕ). IsSome o) (sym c.in-Some.is ∙ c.hear_entry.ensures.row) refl) in
    let ready : IsReady (is_some (option_copied c.args.key)) c.args.self.now.own.issued e None = rw c.in-None-draft.is at c.requires.ready in
    let there = subst (λ (o : Option Issued). IsSome o) ready (entry-issued (system_number c.args.system) s h out) in
    absurd (grind (arith, there))
