use Rattle.std.proofs.Common.{length, ap, ◌∙◌, sym, arith}
use Rattle.std.proofs.lemmas.List.{length-take-le}
use Rattle.model_router.specs.Cells.{header_of}
use Rattle.flag_sync.proofs.HeaderLemmas.{filled, header-front, header-length}
use Rattle.flag_sync.proofs.headers.make_header.Goals as goal

pub write_header-requires : goal.write_header-requires
write_header-requires c =
    ap length (c.as_mut_slice.ensures.value ∙ c.truncate.ensures) ∙ length-take-le 27 c.args.octets.now c.requires

pub returns-clause-header : goal.returns-clause-header
returns-clause-header c =
    let cut = c.truncate.ensures in
    let lent = c.as_mut_slice.ensures.value ∙ cut in
    let new = c.write_header.ensures ∙ ap header_of lent ∙ header-front c.args.octets.now c.requires in
    let size = ap length new ∙ header-length c.args.octets.now c.requires in
    let old = ap length cut ∙ length-take-le 27 c.args.octets.now c.requires in
    filled c.truncate.new.self c.write_header.new.octets (size ∙ sym old) ∙ new

pub returns-clause-len : goal.returns-clause-len
returns-clause-len c =
    let cut = c.truncate.ensures in
    let lent = c.as_mut_slice.ensures.value ∙ cut in
    let new = c.write_header.ensures ∙ ap header_of lent ∙ header-front c.args.octets.now c.requires in
    let size = ap length new ∙ header-length c.args.octets.now c.requires in
    let old = ap length cut ∙ length-take-le 27 c.args.octets.now c.requires in
    let same = ap length (filled c.truncate.new.self c.write_header.new.octets (size ∙ sym old)) ∙ size in
    omega (arith, same)
