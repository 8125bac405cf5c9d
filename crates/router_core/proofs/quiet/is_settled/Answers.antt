use Rattle.std.proofs.Common.{◌≡◌, ℕ, List, ◌-◌, ◌∷◌, map, length, take, drop, sym, ap, ◌∙◌}
use Rattle.model_router.specs.Routers.{Issued}
use Rattle.lsp_fragments.specs.Kept.{first_id, issued_from}
use Rattle.router_wanted.specs.Views.{wanted_of}
use Rattle.router_core.specs.Seconds.{numbers}
use Rattle.router_core.specs.Settled.{Says}
use Rattle.router_core.proofs.WantedLemmas.{opens-at}
use Rattle.router_core.proofs.QuietLemmas.{from-zero, same-turn, waits-turn}
use Rattle.router_core.proofs.quiet.is_settled.Goals as goal

-- src/quiet.rt
pub loop-left-init : goal.loop-left-init
loop-left-init c =
    let own = c.args.own.now.issued in
    record {
      same = (0, c.next_from-next.ensures.first ∙ ap (λ (n : ℕ). first_id (issued_from n own)) c.from_number.ensures, λ h. ap (λ (xs : List (ℕ × Issued)). numbers xs) (sym (from-zero own)) ∙ h);
      said = λ a. a;
    }

-- src/quiet.rt
pub loop-left-preserved : goal.loop-left-preserved
loop-left-preserved c =
    let left = c.loop-left.left.now in
    let x = c.want-item.result in
    let own = c.args.own.now.issued in
    let rest = take (length left - 1) (drop 1 left) in
    let is : left ≡ x ∷ rest = opens-at left x _ c.in-len1-up.len_at_least c.want-item.is in
    let same = c.loop-left.invariant.same in
    record {
      same = same-turn (numbers own ≡ numbers (map wanted_of c.args.wanted.now)) own same.0 c.loop-left.next c.next_above-next.result left rest x c.next_from-next.ensures.rises is
          same.1 (c.is_next.ensures c.if-not-is_next.false) c.next_above-next.ensures same.2;
      said = waits-turn (Says own) left c.args.wanted.now rest x is (c.is_said.ensures c.if-not-is_said.false) c.loop-left.invariant.said;
    }
