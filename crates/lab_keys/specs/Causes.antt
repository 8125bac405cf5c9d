-- When each fault of a plain network comes (own).
use Rattle.std.specs.Prelude.{◌≡◌, ℕ, ◌≤◌, true, false, length}
use Rattle.lab_keys.specs.declared.faults.LabFault.{LabFault}
use Rattle.lab_keys.specs.declared.faults.LabFault.TheVariants.{NotSent, NotOn, Limit, OutOfMemory}
use Rattle.lab_keys.specs.declared.faults.LimitName.TheVariants.{Routers, Links}
use Rattle.lab_keys.specs.declared.net.TheConstants.{ROUTER_LIMIT, LINK_LIMIT}
use Rattle.lab_keys.specs.KeysNet.{Net, is_joined, is_at}

-- when a router isn't added
abbrev pub RouterCause : Net → LabFault → Type 0
RouterCause net (Limit Routers) = ROUTER_LIMIT ≤ net.routers
RouterCause net OutOfMemory = Unit {0}
RouterCause net fault = ⊥

-- when a link isn't added
abbrev pub LinkCause : Net → LabFault → Type 0
LinkCause net (Limit Links) = LINK_LIMIT ≤ net.links
LinkCause net OutOfMemory = Unit {0}
LinkCause net fault = ⊥

-- when a copy isn't passed: no link joins the routers; else the copy isn't at the first
abbrev pub PassCause : Net → ℕ → ℕ → ℕ → LabFault → Type 0
PassCause net copy from to NotOn = is_joined net from to ≡ false
PassCause net copy from to (NotSent sent) =
    (is_joined net from to ≡ true) × (is_at net copy from ≡ false) × (sent ≡ length net.copies)
PassCause net copy from to OutOfMemory = Unit {0}
PassCause net copy from to fault = ⊥
