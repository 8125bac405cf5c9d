use Rattle.std.proofs.Common.{rules, ℕ, ◌++◌, Bool, [], ◌∷◌, List, length, take, sym, subst, ap, ◌∙◌, arith}
use Rattle.isis_base.specs.declared.entry.LspEntry.{LspEntry}
use Rattle.isis_base.specs.Identifiers.{lsp_number}
use Rattle.flag_sync.specs.Said.{SaidRise}
use Rattle.snp_exchange.specs.PieceLists.{PieceSaid, left_pieces}
use Rattle.snp_exchange.proofs.WalkLemmas.{some-first, none-left, piece-more, piece-last, rise-behind, last-below}
use Rattle.snp_exchange.proofs.pieces.CsnpPiecesIterator.next.Goals as goal

pub behind-self-inside-requires : goal.behind-self-inside-requires
behind-self-inside-requires c =
    let p = c.pass_piece-passed in
    let f = some-first p.new.keys c.in-Some.next c.in-Some.ensures in
    let front = take p.result.count c.self.inside.keys in
    let some = ap length f.is in
    let full = p.ensures.full (omega (arith, some)) in
    let len = p.ensures.count in
    let rise = subst (SaidRise 0) (sym p.ensures.split ∙ ap (λ (xs : List LspEntry). front ++ xs) f.is) c.self.invariant in
    let below = last-below 0 front f.said f.more rise (omega (arith, full, len)) in
    let last = p.ensures.last (omega (arith, full)) in
    let same = ap lsp_number f.same in
    omega (arith, below, last, same)

pub invariant_of-self : goal.invariant_of-self
invariant_of-self c =
    let p = c.pass_piece-passed in
    rise-behind 0 (take p.result.count c.self.inside.keys) p.new.keys (subst (SaidRise 0) (sym p.ensures.split) c.self.invariant)

pub returns-in-Some-clause-steps : goal.returns-in-Some-clause-steps
returns-in-Some-clause-steps c =
    let p = c.pass_piece-passed in
    let keys = c.self.inside.keys in
    let f = some-first p.new.keys c.in-Some.next c.in-Some.ensures in
    let front = take p.result.count keys in
    let some = ap length f.is in
    let full = p.ensures.full (omega (arith, some)) in
    let start = lsp_number c.self.inside.start in
    let end = lsp_number p.result.last in
    let next = lsp_number c.behind-self-inside.result in
    let more = piece-more keys front p.new.keys f.said f.more start end next p.ensures.split (p.ensures.count ∙ full) f.is (p.ensures.last (omega (arith, full))) c.behind-self-inside.ensures in
    sym c.self.view_is ∙ ap (λ (t : Bool). left_pieces t start keys) c.if-self.false ∙ more
    ∙ ap (λ (t : Bool). (let s : PieceSaid = record { start = start; end = end; entries = front } in s) ∷ left_pieces t next p.new.keys) (sym c.if-self.false)
    ∙ ap (λ (ks : List LspEntry). (let s : PieceSaid = record { start = start; end = end; entries = take p.result.count ks } in s) ∷ left_pieces c.self.inside.done next p.new.keys) (sym c.again-keys.ensures)

pub returns-in-Some-clause-goes : goal.returns-in-Some-clause-goes
returns-in-Some-clause-goes c = let steps = returns-in-Some-clause-steps c in search rules

pub returns-in-None-clause-steps : goal.returns-in-None-clause-steps
returns-in-None-clause-steps c =
    let p = c.pass_piece-passed in
    let keys = c.self.inside.keys in
    let front = take p.result.count keys in
    let start = lsp_number c.self.inside.start in
    let len = p.ensures.count in
    let few = p.ensures.few in
    let last = piece-last keys front p.new.keys start p.ensures.split (omega (arith, len, few)) (none-left p.new.keys c.in-None.ensures) in
    sym c.self.view_is ∙ ap (λ (t : Bool). left_pieces t start keys) c.if-self.false ∙ last
    ∙ ap (λ (n : ℕ). (let s : PieceSaid = record { start = start; end = n; entries = front } in s) ∷ []) (sym c.from_number-end.ensures)
    ∙ ap (λ (ks : List LspEntry). (let s : PieceSaid = record { start = start; end = lsp_number c.from_number-end.result; entries = take p.result.count ks } in s) ∷ []) (sym c.again-keys.ensures)

pub returns-in-None-clause-goes : goal.returns-in-None-clause-goes
returns-in-None-clause-goes c = let steps = returns-in-None-clause-steps c in search rules
