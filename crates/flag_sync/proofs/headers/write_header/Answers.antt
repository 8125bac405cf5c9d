use Rattle.flag_sync.proofs.HeaderLemmas.{written-exact}
use Rattle.flag_sync.proofs.headers.write_header.Goals as goal

pub returns : goal.returns
returns c = written-exact c.args.octets.now c.requires
