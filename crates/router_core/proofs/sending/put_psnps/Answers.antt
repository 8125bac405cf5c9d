use Rattle.std.proofs.Common.{◌≤◌, ◌-◌, List, Vec, length, sym, subst}
use Rattle.std.specs.List.{AllByRecursion}
use Rattle.std.specs.declared.alloc.Global.{Global}
use Rattle.isis_base.specs.declared.entry.LspEntry.{LspEntry}
use Rattle.model_router.specs.SnpTable.{SnpEntry}
use Rattle.flag_sync.specs.Heard.{entries_of}
use Rattle.flag_sync.specs.Said.{said_owed}
use Rattle.router_core.proofs.SendingLemmas.{few-lists, few-pieces}
use Rattle.router_core.proofs.sending.put_psnps.Goals as goal

-- src/sending.rt
pub put_lists-requires-clause-few : goal.put_lists-requires-clause-few
put_lists-requires-clause-few c =
    let said = said_owed (c.args.sender.now.circuit - 1) c.args.book.now.store.entries c.args.book.now.rows in
    subst (λ (lists : List (Vec LspEntry Global)). AllByRecursion (λ (list : Vec LspEntry Global). length list.items ≤ 75) lists) (sym c.as_slice.ensures.value)
    (few-lists c.in_ok-lists.lists.items
    (subst (λ (ps : List (List SnpEntry)). AllByRecursion (λ (p : List SnpEntry). length p ≤ 75) ps) (sym c.in_ok-lists.ensures.lists) (few-pieces (length said) (entries_of said))))
