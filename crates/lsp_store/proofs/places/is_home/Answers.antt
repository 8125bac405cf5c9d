use Rattle.std.proofs.Common.{◌<◌, ◌+◌, [], length, ap, ◌∙◌, arith}
use Rattle.std.proofs.lemmas.Bool.Decides.{nat_tests}
use Rattle.std.proofs.lemmas.List.{get_or_default}
use Rattle.lsp_store.specs.PageFacts.{first_number}
use Rattle.lsp_store.proofs.PageLemmas.{home-at}
use Rattle.lsp_store.proofs.places.is_home.Goals as goal

pub returns-then-page-pages-2 : goal.returns-then-page-pages-2
returns-then-page-pages-2 g c _ =
    let pages = c.args.pages.now in
    let ge = c.if-page-pages.false in
    let end = c.if-page-pages-2.true in
    let inside : c.args.page < length pages = omega (arith, ge) in
    let first = c.first.ensures in
    let read = ap first_number (c.index-pages-page.is ∙ get_or_default pages c.args.page _ [] inside) in
    let low = c.if-first-n.false in
    home-at pages c.args.n c.args.page c.requires.filled c.requires.rises inside (λ _. omega (arith, first, read, low)) (λ lt. absurd (omega (arith, end, lt)))

pub returns : goal.returns
returns g c e =
    let pages = c.args.pages.now in
    let ge = c.if-page-pages.false in
    let inside : c.args.page < length pages = omega (arith, ge) in
    let first = c.first.ensures in
    let read = ap first_number (c.index-pages-page.is ∙ get_or_default pages c.args.page _ [] inside) in
    let low = c.if-first-n.false in
    let above : c.args.n < c.first-2.result = grind (arith, nat_tests, e) in
    let next = c.first-2.ensures in
    home-at pages c.args.n c.args.page c.requires.filled c.requires.rises inside (λ _. omega (arith, first, read, low))
    (λ lt. let behind = ap first_number (c.index-pages-page-2.is ∙ get_or_default pages (c.args.page + 1) _ [] lt) in omega (arith, above, next, behind))
