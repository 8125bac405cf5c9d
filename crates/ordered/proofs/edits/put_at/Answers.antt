use Rattle.std.proofs.Common.{◌∙◌, ap, sym, refl}
use Rattle.ordered.specs.Keyed.{keyed}
use Rattle.ordered.proofs.MapLemmas.{put-place, put-gap, gap-fits}
use Rattle.ordered.proofs.edits.put_at.Goals as goal

pub unwrap-requires : goal.unwrap-requires
unwrap-requires g c =
    c.insert.ensures.succeeds (rw (c.args.list.now.ok.0) (gap-fits g.T.Keyed.key c.args.list.now.items _ c.in-Err.at c.args.item _ refl (rw c.in-Err.is at c.requires.place) c.requires.room))

pub returns-in-Ok-clause-items : goal.returns-in-Ok-clause-items
returns-in-Ok-clause-items g c =
    sym (put-place g.T.Keyed.key c.args.list.now.items _ c.in-Ok.at c.args.item refl (rw c.in-Ok.is at c.requires.place))

pub returns-in-Err-clause-items : goal.returns-in-Err-clause-items
returns-in-Err-clause-items g c =
    let items = rw c.unwrap.ensures at c.insert.ensures.items in
    ap (keyed g.T.Keyed.key) items ∙ sym (put-gap g.T.Keyed.key c.args.list.now.items _ c.in-Err.at c.args.item refl (rw c.in-Err.is at c.requires.place))

pub returns-in-Err-clause-room : goal.returns-in-Err-clause-room
returns-in-Err-clause-room g c =
    let same = c.insert.ensures.in_place (rw (c.args.list.now.ok.0) (gap-fits g.T.Keyed.key c.args.list.now.items _ c.in-Err.at c.args.item _ refl (rw c.in-Err.is at c.requires.place) c.requires.room)) in
    same.1.0
