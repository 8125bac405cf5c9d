use Rattle.std.proofs.Common.{◌≡◌, ◌++◌, ℕ, List, take, length, ap, ◌∙◌, arith}
use Rattle.std.proofs.lemmas.List.{length-take-le}
use Rattle.model_router.specs.Cells.{header_of}
use Rattle.flag_sync.proofs.HeaderLemmas.{header-front}
use Rattle.flag_sync.proofs.headers.header.Goals as goal

pub make_header-requires : goal.make_header-requires
make_header-requires c =
    let new : c.extend.new.self ≡ take 27 c.args.lsp.now = c.in-Ok.ensures.ok ∙ ap (λ (xs : List ℕ). xs ++ take 27 c.args.lsp.now) c.new-octets.ensures in
    let size = ap length new ∙ length-take-le 27 c.args.lsp.now c.requires in
    omega (arith, size)

pub returns-clause-header : goal.returns-clause-header
returns-clause-header c =
    let new : c.extend.new.self ≡ take 27 c.args.lsp.now = c.in-Ok.ensures.ok ∙ ap (λ (xs : List ℕ). xs ++ take 27 c.args.lsp.now) c.new-octets.ensures in
    c.make_header.ensures.header ∙ ap header_of new ∙ header-front c.args.lsp.now c.requires
