use Rattle.std.proofs.Common.{◌∙◌, ◌≤◌, ℕ, suc, List, [], ◌∷◌, ◌++◌, length, refl, sym, ap, subst, append_assoc}
use Rattle.std.specs.List.{AllByRecursion}
use Rattle.isis_base.specs.Identifiers.{lsp_number}
use Rattle.model_router.specs.Datagrams as sent
use Rattle.model_router.specs.SnpLists.{pieces}
use Rattle.flag_sync.specs.Heard.{entries_of}
use Rattle.flag_sync.specs.Said.{said_keys}
use Rattle.snp_exchange.specs.PieceLists.{PieceSaid, said_sent}
use Rattle.router_core.specs.Sending.{octets_of, all_octets}
use Rattle.router_core.proofs.SendingLemmas.{few-said, few-pieces}
use Rattle.router_core.proofs.sending.put_csnps.Goals as goal

-- src/sending.rt
pub loop-piece-init : goal.loop-piece-init
loop-piece-init c =
    let keys = said_keys c.args.book.now.store.entries in
    record {
      out = refl;
      few = few-said c.args.level c.csnp_pieces-pieces.result 0 (pieces (suc (length keys)) (entries_of keys)) (c.csnp_pieces-pieces.ensures.set c.args.level) (few-pieces (suc (length keys)) (entries_of keys));
    }

-- src/sending.rt
pub loop-piece-preserved : goal.loop-piece-preserved
loop-piece-preserved c =
    let sender = c.args.sender.now in
    let level = c.args.level in
    let piece = c.in-Some.piece in
    let before = c.loop-piece.out in
    let rest = all_octets sender (said_sent level c.next.new.self) in
    let octets = octets_of sender (sent.Csnp level (lsp_number piece.start) (lsp_number piece.end) (entries_of piece.entries)) in
    let step = c.in-Some.ensures.steps in
    record {
      out = ap (λ (l : List (List ℕ)). l ++ rest) c.in-Ok-put_piece.ensures
          ∙ (append_assoc before (octets ∷ []) rest
          ∙ (ap (λ (ps : List PieceSaid). before ++ all_octets sender (said_sent level ps)) (sym step) ∙ c.loop-piece.invariant.out));
      few = (subst (AllByRecursion (λ (p : PieceSaid). length p.entries ≤ 75)) step c.loop-piece.invariant.few).1;
    }
