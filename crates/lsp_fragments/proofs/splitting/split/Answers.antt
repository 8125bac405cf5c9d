use Rattle.std.proofs.Common.{◌≡◌, ℕ, List, [], Some, Err, true, ◌∙◌, sym, ap, subst}
use Rattle.model_router.specs.Splits.{Draft}
use Rattle.lsp_fragments.specs.Entries.{content_first, content_entries}
use Rattle.lsp_fragments.specs.Fits.{IsPut, put_all}
use Rattle.lsp_fragments.proofs.FitLemmas.{split-all, split-fault}
use Rattle.lsp_fragments.proofs.splitting.split.Goals as goal

pub returns-in-Ok-finish-clause-ok : goal.returns-in-Ok-finish-clause-ok
returns-in-Ok-finish-clause-ok c =
    let room = c.args.room in
    let items = content_entries c.args.content.now in
    let start : c.new.result ≡ record { done = []; closed = content_first c.args.content.now; code = 0; value = [] } =
    c.new.ensures ∙ ap (λ (first : List ℕ). record { done = []; closed = first; code = 0; value = [] }) c.in-Ok.ensures.value in
    split-all (content_first c.args.content.now) room c.in-Ok-put_entries.filling items (subst (λ (d : Draft). put_all room d items ≡ Some c.in-Ok-put_entries.filling) start c.in-Ok-put_entries.ensures)
    ∙ ap (λ (all : List (List ℕ)). record { fragments = all; whole = true }) (sym c.in-Ok-finish.ensures)

pub returns-in-Err-put_entries-clause-too_much : goal.returns-in-Err-put_entries-clause-too_much
returns-in-Err-put_entries-clause-too_much c =
    let room = c.args.room in
    let items = content_entries c.args.content.now in
    let start : c.new.result ≡ record { done = []; closed = content_first c.args.content.now; code = 0; value = [] } =
    c.new.ensures ∙ ap (λ (first : List ℕ). record { done = []; closed = first; code = 0; value = [] }) c.in-Ok.ensures.value in
    split-fault (content_first c.args.content.now) room items c.in-Err-put_entries.fault
    (subst (λ (d : Draft). IsPut room d items (Err c.in-Err-put_entries.fault)) start c.in-Err-put_entries.ensures)
