use Rattle.std.proofs.Common.{◌≡◌, ◌∙◌, ◌+◌, ◌<◌, ◌∷◌, ℕ, List, Option, Some, length, map, sym, ap, subst, arith}
use Rattle.std.specs.Option.{option_map}
use Rattle.isis_base.specs.declared.identifiers.LspId.{LspId}
use Rattle.isis_base.specs.Identifiers.{lsp_number}
use Rattle.model_router.specs.Routers.{Issued}
use Rattle.lsp_fragments.specs.Kept.{first_id, issued_from}
use Rattle.router_wanted.specs.Views.{wanted_of}
use Rattle.router_core.proofs.QuietLemmas.{behind, behind-is, from-zero, turn-left}
use Rattle.router_core.proofs.RenewalLemmas.{withdraw-end, withdraw-first, withdraw-turn}
use Rattle.router_core.proofs.renewing.tell_withdrawn.Goals as goal

-- src/renewing.rt
pub loop-next-init : goal.loop-next-init
loop-next-init c =
    let own = c.args.later.now.issued in
    let next = c.next_from-next.result in
    let first : option_map lsp_number next ≡ first_id (issued_from 0 own) = c.next_from-next.ensures.first ∙ ap (λ (n : ℕ). first_id (issued_from n own)) c.from_number.ensures in
    let same = behind-is own 0 next c.next_from-next.ensures.rises first in
    record {
      head = first ∙ ap first_id (sym same);
      told = withdraw-first own (map wanted_of c.args.wanted.now) (behind next own) c.args.store.now.entries c.args.movers.now.nodes.items c.args.movers.now.aside.entries (same ∙ from-zero own);
    }

-- src/renewing.rt
pub loop-next-smaller : goal.loop-next-smaller
loop-next-smaller c =
    let own = c.args.later.now.issued in
    let n = lsp_number c.in-Some.id in
    let head : Some n ≡ first_id (issued_from n own) = subst (λ (o : Option LspId). option_map lsp_number o ≡ first_id (behind o own)) c.in-Some.is c.loop-next.invariant.head in
    let t = turn-left own n c.next_from-next.ensures.rises head in
    let same = behind-is own (n + 1) c.next_above-next.result c.next_from-next.ensures.rises c.next_above-next.ensures in
    let all = ap length t.1 in
    let rest = ap length same in
    let less : length (behind c.next_above-next.result own) < length (issued_from n own) = omega (arith, all, rest) in
    subst (λ (o : Option LspId). length (behind c.next_above-next.result own) < length (behind o own)) (sym c.in-Some.is) less

-- src/renewing.rt
pub loop-next-preserved : goal.loop-next-preserved
loop-next-preserved c =
    let own = c.args.later.now.issued in
    let n = lsp_number c.in-Some.id in
    let head : Some n ≡ first_id (issued_from n own) = subst (λ (o : Option LspId). option_map lsp_number o ≡ first_id (behind o own)) c.in-Some.is c.loop-next.invariant.head in
    let t = turn-left own n c.next_from-next.ensures.rises head in
    let same = behind-is own (n + 1) c.next_above-next.result c.next_from-next.ensures.rises c.next_above-next.ensures in
    let opened : behind c.loop-next.next own ≡ t.0 ∷ behind c.next_above-next.result own =
    ap (λ (o : Option LspId). behind o own) c.in-Some.is ∙ t.1 ∙ ap (λ (xs : List (ℕ × Issued)). t.0 ∷ xs) (sym same) in
    record {
      head = c.next_above-next.ensures ∙ ap first_id (sym same);
      told = withdraw-turn own (map wanted_of c.args.wanted.now) (behind c.loop-next.next own) (behind c.next_above-next.result own) t.0 n c.args.store.now.entries c.args.movers.now.nodes.items c.loop-next.movers.nodes.items c.tell_withdraw.new.movers.nodes.items
          c.args.movers.now.aside.entries c.loop-next.movers.aside.entries c.tell_withdraw.new.movers.aside.entries opened t.2 c.in-Ok.ensures c.loop-next.invariant.told;
    }

-- src/renewing.rt
pub returns : goal.returns
returns c =
    let own = c.args.later.now.issued in
    withdraw-end own (map wanted_of c.args.wanted.now) (behind c.loop-next.next own) c.args.store.now.entries c.args.movers.now.nodes.items c.loop-next.movers.nodes.items c.args.movers.now.aside.entries c.loop-next.movers.aside.entries
    (ap (λ (o : Option LspId). behind o own) c.in_default.is) c.loop-next.invariant.told
