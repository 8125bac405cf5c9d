use Rattle.std.proofs.Common.{◌≡◌, length, drop}
use Rattle.std.specs.List.{AllByRecursion}
use Rattle.lab_script.specs.declared.setup.LabKey.{LabKey}
use Rattle.lab_script.specs.LabSound.{IsLabKey}
use Rattle.lab_text.specs.Layouts as layout
use Rattle.lab_text.specs.Setups.{HasLinks}
use Rattle.lab_text.proofs.lay_out.set_keys.Given as goal

-- the keys that are left
abbrev pub invariant-loop-key : goal.invariant-loop-key
invariant-loop-key l = record {
  left : layout.with_keys (drop l.key-index l.keys) l.net ≡ layout.with_keys l.keys l.fn.net;
  has : HasLinks (length l.script.routers) l.script.links l.net;
  sound : AllByRecursion (λ (key : LabKey). IsLabKey (length l.script.routers) l.script.links key) (drop l.key-index l.keys);
}
