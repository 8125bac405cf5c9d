-- How the run of a daemon ends (own).
use Rattle.std.specs.Prelude.{◌≡◌, ◌≤◌, ◌⊎◌, ℕ, Bool, List, length, Ok, Err, IsOk}
use Rattle.daemon_config.specs.declared.fault.ConfigFault.TheVariants.{Refused}
use Rattle.daemon_config.specs.Config.{config_of}
use Rattle.daemon_config.specs.declared.settings.Settings.{Settings}
use Rattle.daemon_edge.specs.Closings.{Closing}
use Rattle.circuit_serve.specs.declared.daemon_end.DaemonEnd.{DaemonEnd}
use Rattle.circuit_serve.specs.declared.daemon_end.DaemonEnd.TheVariants as daemon
use Rattle.circuit_serve.specs.Daemons.{DaemonRan}
use Rattle.isis_daemon.specs.declared.status.Status.{Status}
use Rattle.isis_daemon.specs.declared.status.Status.TheVariants as status
use Rattle.isis_daemon.specs.Runs.{input_limit, IsReadWhole, IsNotRead}

-- what a daemon is asked for and finds, and what it leaves: the boot number and the turns; the seconds of its pacer,
-- before and now, and whether they have ended; what its output was given; the ports opened and closed, before and now
-- (own)
pub record Outside : Type 0 where
  pub boot : ℕ
  pub turns : ℕ
  pub given : ℕ
  pub given' : ℕ
  pub ended : Bool
  pub put : List ℕ
  pub put' : List ℕ
  pub opened : ℕ
  pub opened' : ℕ
  pub closed : List Closing
  pub closed' : List Closing

-- the daemon of these settings ran to this end (own)
abbrev pub IsRunOf : Settings → Outside → DaemonEnd → Type 0
IsRunOf settings o end = DaemonRan settings.config settings.places o.boot o.turns o.given o.given' o.ended
    o.put o.put' o.opened o.opened' o.closed o.closed' end

-- the daemon of the settings that an input is read as ran to this end (own)
abbrev pub Ran : List ℕ → Outside → DaemonEnd → Type 0
Ran input o end = (settings : Settings) × (config_of input ≡ Ok settings) × IsRunOf settings o end

-- a daemon whose router never was: nothing was written, no port was opened or closed, and no second was waited for (own)
abbrev pub IsUnstarted : Outside → Type 0
IsUnstarted o =
    (o.put' ≡ o.put) × (o.given' ≡ o.given) × (o.opened' ≡ o.opened) × (o.closed' ≡ o.closed)

-- how the run of a daemon on octets ends: where they are a configuration, its router ran, and the journal of one history was
-- written, in part at least (own)
abbrev pub DaemonEndsOn : Outside → List ℕ → Status → Type 0
DaemonEndsOn o octets status.Done = Ran octets o daemon.Done
DaemonEndsOn o octets status.WriteFault = Ran octets o daemon.WriteFault
DaemonEndsOn o octets status.OutOfMemory = IsUnstarted o ⊎ Ran octets o daemon.OutOfMemory
DaemonEndsOn o octets (status.ConfigRefused what key) =
    (config_of octets ≡ Err (Refused what key)) × IsUnstarted o
DaemonEndsOn o octets status.NotStarted = Ran octets o daemon.NotStarted
DaemonEndsOn o octets status.Usage = ⊥
DaemonEndsOn o octets (status.ScriptRefused line reason) = ⊥
DaemonEndsOn o octets status.ReadFault = ⊥
DaemonEndsOn o octets status.TooLong = ⊥
DaemonEndsOn o octets (status.LabLimit which) = ⊥
DaemonEndsOn o octets (status.WeaveRefused journal entry reason) = ⊥
DaemonEndsOn o octets (status.NoWalk reason) = ⊥
DaemonEndsOn o octets status.ScheduleLimit = ⊥
DaemonEndsOn o octets (status.NoLosses reason) = ⊥
DaemonEndsOn o octets (status.Absent what) = ⊥

-- how the run of a daemon ends, by what its input gave, before and afterwards: the input wasn't read whole, and the router
-- never was; or it was, and its octets come to this (own)
abbrev pub DaemonEnds : (gave gave' : List ℕ) → (ended : Bool) → Outside → Status → Type 0
DaemonEnds gave gave' ended o end = (IsNotRead gave gave' end × IsUnstarted o)
    ⊎ ((octets : List ℕ) × IsReadWhole gave gave' ended octets × DaemonEndsOn o octets end)

-- an input that a daemon takes to its end (own)
abbrev pub IsConfiguration : List ℕ → Type 0
IsConfiguration input = (length input ≤ input_limit) × IsOk (config_of input)
