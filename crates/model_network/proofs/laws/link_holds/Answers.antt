-- What is kept of a link, at its start and by each event.
use Rattle.model_network.proofs.NetLemmas.{apply-holds}
use Rattle.model_network.proofs.ClaimLemmas.{start-holds, apply-links}
use Rattle.model_datagram.specs.Lsps.{given_octets}
use Rattle.model_network.proofs.laws.link_holds.Goals as goal

pub returns-clause-start : goal.returns-clause-start
returns-clause-start c = start-holds

pub returns-clause-event : goal.returns-clause-event
returns-clause-event c = apply-holds

pub returns-clause-links : goal.returns-clause-links
returns-clause-links c = λ leaks attached net h. apply-links (given_octets leaks attached) net h
