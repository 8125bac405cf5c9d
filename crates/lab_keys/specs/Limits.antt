-- The limits of a network, and their words.
use Rattle.std.specs.Prelude.{ℕ, List, ◌++◌, codes, decimal}
use Rattle.lab_keys.specs.declared.faults.LabFault.{LabFault}
use Rattle.lab_keys.specs.declared.faults.LabFault.TheVariants.{NotSent, NotOn, Limit, OutOfMemory}
use Rattle.lab_keys.specs.declared.faults.LimitName.{LimitName}
use Rattle.lab_keys.specs.declared.faults.LimitName.TheVariants.{Routers, Links, Circuits, Prefixes, Datagrams, Boots}

-- a limit's word (own)
abbrev pub limit_word : LimitName → List ℕ
limit_word Routers = codes "routers"
limit_word Links = codes "links"
limit_word Circuits = codes "circuits"
limit_word Prefixes = codes "prefixes"
limit_word Datagrams = codes "datagrams"
limit_word Boots = codes "boots"

-- a fault's line (own)
abbrev pub fault_line : LabFault → List ℕ
fault_line (NotSent sent) = codes "not sent; " ++ decimal sent ++ codes " were"
fault_line NotOn = codes "not on the link"
fault_line (Limit which) = codes "limit of " ++ limit_word which
fault_line OutOfMemory = codes "out of memory"
