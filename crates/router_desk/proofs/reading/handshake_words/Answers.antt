use Rattle.router_desk.proofs.TwinLemmas.{handshake-twins}
use Rattle.router_desk.proofs.reading.handshake_words.Goals as goal

pub returns : goal.returns
returns c = handshake-twins c.args.value
