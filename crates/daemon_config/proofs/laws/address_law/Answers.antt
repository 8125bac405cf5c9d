use Rattle.daemon_config.proofs.AddressLemmas.{host-read, host-only, address-read, address-only}
use Rattle.daemon_config.proofs.laws.address_law.Goals as goal

pub returns-clause-host : goal.returns-clause-host
returns-clause-host c = host-read

pub returns-clause-host_only : goal.returns-clause-host_only
returns-clause-host_only c = host-only

pub returns-clause-read : goal.returns-clause-read
returns-clause-read c = address-read

pub returns-clause-only : goal.returns-clause-only
returns-clause-only c = address-only
