use Rattle.std.specs.Option.{option_copied}
use Rattle.router_sending.proofs.EndLemmas.{behind-frame}
use Rattle.router_sending.proofs.writing.end_lent.Goals as goal

pub returns : goal.returns
returns c = behind-frame c.args.kind (option_copied c.args.key) c.args.octets.now c.end_pdu.new.pdu c.requires.frame c.end_pdu.ensures
