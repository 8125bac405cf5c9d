use Rattle.std.proofs.Common.{sym, subst}
use Rattle.lsp_store.specs.Maps.{RisesFrom}
use Rattle.lsp_store.proofs.PageLemmas.{page-rises}
use Rattle.lsp_store.proofs.places.search_page.Goals as goal

pub search-requires : goal.search-requires
search-requires g c = subst (RisesFrom 0) (sym c.index-pages-page.is) (page-rises c.args.pages.now c.args.page _ c.requires.rises c.requires.home.inside)
