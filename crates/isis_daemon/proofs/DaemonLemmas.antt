-- A configuration is refused for want of memory alone.
use Rattle.std.proofs.Common.{◌≡◌, ◌⊎◌, inl, inr, ℕ, List, Err, IsOk, ap, subst}
use Rattle.daemon_config.specs.declared.fault.ConfigFault.{ConfigFault}
use Rattle.daemon_config.specs.declared.fault.ConfigFault.TheVariants.{OutOfMemory}
use Rattle.daemon_config.specs.Config.{config_of}
use Rattle.isis_daemon.specs.DaemonEnds.{IsConfiguration}
use Rattle.isis_daemon.specs.Runs.{IsDoneUnlessMemory}
use Rattle.isis_daemon.specs.Statuses.{config_status}

pub unread : (text : List ℕ) (fault : ConfigFault) → IsConfiguration text → (fault ≡ OutOfMemory) ⊎ (config_of text ≡ Err fault) → IsDoneUnlessMemory (config_status fault)
unread text fault is (inl e) = inr (ap config_status e)
unread text fault is (inr e) = absurd (cc (subst IsOk e is.1))
