-- What a network is while a lab script is played on it (own).
use Rattle.std.specs.Prelude.{◌≡◌, ℕ, List, map, length, Result, Ok, Err, None}
use Rattle.model_network.specs.declared.end.End as model
use Rattle.model_network.specs.Networks.{Network}
use Rattle.network_lab.specs.LabNets.{LabNet, Seen, StandsFor}
use Rattle.lab_script.specs.declared.setup.End.{End}
use Rattle.lab_script.specs.declared.setup.LabLink.{LabLink}
use Rattle.lab_script.specs.declared.deeds.LabLine.{LabLine}
use Rattle.lab_script.specs.declared.reason.ScriptFault.{ScriptFault}
use Rattle.lab_script.specs.declared.reason.ScriptFault.TheVariants.{Refused, Limit, OutOfMemory}
use Rattle.lab_text.specs.LabRuns.{play_all}

-- a link's ends in the network
abbrev pub end_in : End → model.End
end_in e = record { router = e.router; place = e.place }

abbrev pub ends_of : LabLink → List model.End
ends_of link = map end_in link.ends

-- a network has so many routers, and these links
pub record IsLaid (routers : ℕ) (links : List LabLink) (s : Seen) : Type 0 where
  pub routers_are : length s.routers ≡ routers
  pub links_are : s.links ≡ map ends_of links

-- ---- answers

-- the network stands for what is expected, unless there was no memory for it
abbrev pub Plays : Result (Unit {0}) ScriptFault → LabNet → Result Network ScriptFault → Type 0
Plays (Ok done) after expected =
    (net : Network) × (expected ≡ Ok net) × StandsFor net after × (after.stopped ≡ None)
Plays (Err OutOfMemory) after expected = Unit {0}
Plays (Err (Refused line reason)) after expected = expected ≡ Err (Refused line reason)
Plays (Err (Limit which)) after expected = expected ≡ Err (Limit which)

-- the same of a network that is answered
abbrev pub Played : Result LabNet ScriptFault → Result Network ScriptFault → Type 0
Played (Ok after) expected =
    (net : Network) × (expected ≡ Ok net) × StandsFor net after × (after.stopped ≡ None)
Played (Err OutOfMemory) expected = Unit {0}
Played (Err (Refused line reason)) expected = expected ≡ Err (Refused line reason)
Played (Err (Limit which)) expected = expected ≡ Err (Limit which)

-- where a network stands before some of its lines: for each network that it stood for at the
-- beginning, it stands for one from which the lines that are left lead to the same end
abbrev pub Leads : LabNet → List LabLine → LabNet → List LabLine → Type 0
Leads start lines now left =
    (net : Network) → StandsFor net start
    → (next : Network) × (play_all net lines ≡ play_all next left) × StandsFor next now
