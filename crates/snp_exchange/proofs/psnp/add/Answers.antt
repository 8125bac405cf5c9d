use Rattle.std.proofs.Common.{◌≡◌, ◌∙◌, ◌++◌, [], ◌∷◌, List, Vec, ap, arith}
use Rattle.std.specs.declared.alloc.Global.{Global}
use Rattle.isis_base.specs.declared.entry.LspEntry.{LspEntry}
use Rattle.model_router.specs.SnpTable.{SnpEntry}
use Rattle.flag_sync.specs.Heard.{entries_of}
use Rattle.snp_exchange.specs.Pieces.{lists_of, listed}
use Rattle.snp_exchange.proofs.PieceLemmas.{list-more, list-full}
use Rattle.snp_exchange.proofs.psnp.add.Goals as goal

pub returns-then-len-lt-SNP_ENTRIES-clause-more : goal.returns-then-len-lt-SNP_ENTRIES-clause-more
returns-then-len-lt-SNP_ENTRIES-clause-more c =
    let test = c.if-len-lt-SNP_ENTRIES.true in
    let len = c.len.ensures in
    let whole = c.args.entries.now.ok.0 in
    λ rest. ap (λ (xs : List (List SnpEntry)). lists_of c.args.lists.now.items ++ xs) (list-more c.args.entries.now.items c.push.new.self.items c.args.said rest c.in_ok-push.ensures.items (omega (arith, test, len, whole)))

pub returns-clause-more : goal.returns-clause-more
returns-clause-more c =
    let test = c.if-len-lt-SNP_ENTRIES.false in
    let len = c.len.ensures in
    let whole = c.args.entries.now.ok.0 in
    let few = c.requires.few in
    let none : c.replace-full.new.dest.items ≡ [] = ap (λ (v : Vec LspEntry Global). v.items) c.replace-full.ensures.after ∙ c.new.ensures.items in
    let lists = c.in_ok-push-2.ensures.items ∙ ap (λ (v : Vec LspEntry Global). c.args.lists.now.items ++ v ∷ []) c.replace-full.ensures.value in
    λ rest.
    ap (λ (xs : List LspEntry). lists_of c.push-2.new.self.items ++ listed (entries_of xs) rest) (c.in_ok-push-3.ensures.items ∙ ap (λ (xs : List LspEntry). xs ++ c.args.said ∷ []) none)
    ∙ list-full c.args.lists.now.items c.push-2.new.self.items c.args.entries.now c.args.said rest lists (omega (arith, test, len, whole, few))
