-- What is claimed of the run of a script (own).
use Rattle.lab_script.specs.declared.script.Script.{Script}
use Rattle.lab_script.specs.declared.script.Script.TheVariants.{Keys, Lab}
use Rattle.lab_text.specs.LabClaims.{IsClaimedRun}

-- of a lab script the claims on links, groups, sweeps and contents, after each of its events; of a keys
-- script nothing
abbrev pub IsClaimedScript : Script → Type 0
IsClaimedScript (Keys script) = Unit {0}
IsClaimedScript (Lab script) = IsClaimedRun script
