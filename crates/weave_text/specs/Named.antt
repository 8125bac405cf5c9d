-- The names that a script gives (own).
use Rattle.lab_script.specs.declared.script.Script.{Script}
use Rattle.lab_script.specs.Scripts.{names_in, links_in}
use Rattle.weave_text.specs.Written.{Naming}

-- the names of a script's routers and links
abbrev pub naming_in : Script → Naming
naming_in script = record { routers = names_in script; links = links_in script }
