use Rattle.std.proofs.Common.{◌≡◌, ◌<◌, ◌+◌, ℕ, List, Option, Some, length, sym, ap, ap₂, subst, ◌∙◌, refl}
use Rattle.std.specs.Option.{option_map}
use Rattle.isis_base.specs.declared.identifiers.LspId.{LspId}
use Rattle.isis_base.specs.Identifiers.{lsp_number}
use Rattle.model_router.specs.Sorted.{RisesFrom}
use Rattle.model_router.specs.Routers.{Issued, LevelState}
use Rattle.model_router.specs.OwnLsps.{withdraw_all}
use Rattle.lsp_fragments.specs.Kept.{issued_from, first_id}
use Rattle.router_levels.specs.Views.{LevelView, state_of}
use Rattle.router_levels.proofs.RenewLemmas.{behind, behind-is, from-zero, left-rises, turn-withdraws, turn-shorter}
use Rattle.router_levels.proofs.level_parts.LevelParts.withdraw_all.Goals as goal

pub loop-next-init : goal.loop-next-init
loop-next-init c =
    let own = c.args.self.now.own.issued in
    let s = state_of c.args.self.now in
    let next = c.next_from-next.result in
    let up = subst (λ (v : LevelView). RisesFrom 0 v.own.issued) c.self.view_is c.next_from-next.ensures.rises in
    let first : option_map lsp_number next ≡ first_id (issued_from 0 own) =
    c.next_from-next.ensures.first ∙ ap₂ (λ (n : ℕ) (v : LevelView). first_id (issued_from n v.own.issued)) c.from_number.ensures c.self.view_is in
    let same = behind-is own 0 next up first in
    record {
      head = first ∙ ap first_id (sym same);
      state = λ wants e. ap (withdraw_all s wants) (same ∙ from-zero own);
      circuits = refl;
    }

pub loop-next-smaller : goal.loop-next-smaller
loop-next-smaller c =
    let own = c.loop-next.self.own.issued in
    let new = c.withdraw.new.self.own.issued in
    let n = lsp_number c.in-Some.id in
    let head : Some n ≡ first_id (issued_from n own) = subst (λ (o : Option LspId). option_map lsp_number o ≡ first_id (behind o own)) c.in-Some.is c.loop-next.invariant.head in
    let up = c.withdraw.ensures.rises in
    let next = c.next_above-next.ensures ∙ ap (λ (v : LevelView). first_id (issued_from (n + 1) v.own.issued)) c.self-in-Some.view_is in
    let same = behind-is new (n + 1) c.next_above-next.result (left-rises own new n up c.withdraw.ensures.own) next in
    let less : length (issued_from (n + 1) new) < length (issued_from n own) = turn-shorter own new n up head c.withdraw.ensures.own in
    subst (λ (o : Option LspId). length (behind c.next_above-next.result new) < length (behind o own)) (sym c.in-Some.is)
    (subst (λ (xs : List (ℕ × Issued)). length xs < length (issued_from n own)) (sym same) less)

pub loop-next-preserved : goal.loop-next-preserved
loop-next-preserved c =
    let own = c.loop-next.self.own.issued in
    let new = c.withdraw.new.self.own.issued in
    let n = lsp_number c.in-Some.id in
    let head : Some n ≡ first_id (issued_from n own) = subst (λ (o : Option LspId). option_map lsp_number o ≡ first_id (behind o own)) c.in-Some.is c.loop-next.invariant.head in
    let up = c.withdraw.ensures.rises in
    let next = c.next_above-next.ensures ∙ ap (λ (v : LevelView). first_id (issued_from (n + 1) v.own.issued)) c.self-in-Some.view_is in
    let same = behind-is new (n + 1) c.next_above-next.result (left-rises own new n up c.withdraw.ensures.own) next in
    record {
      head = next ∙ ap first_id (sym same);
      state = λ wants e.
          ap₂ (λ (s : LevelState) (xs : List (ℕ × Issued)). withdraw_all s wants xs) (c.withdraw.ensures.state wants e) same
          ∙ turn-withdraws (state_of c.loop-next.self) wants own new n up head c.withdraw.ensures.own
          ∙ ap (λ (o : Option LspId). withdraw_all (state_of c.loop-next.self) wants (behind o own)) (sym c.in-Some.is)
          ∙ c.loop-next.invariant.state wants e;
      circuits = c.withdraw.ensures.circuits ∙ c.loop-next.invariant.circuits;
    }
