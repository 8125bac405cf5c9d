use Rattle.std.proofs.Common.{◌≡◌, drop, IfSome}
use Rattle.std.specs.List.{AllByRecursion}
use Rattle.std.specs.Option.{option_map}
use Rattle.router_desk.specs.Limits.{IsKey}
use Rattle.lab_script.specs.declared.setup.LabKey.{LabKey}
use Rattle.lab_text.specs.Layouts as layout
use Rattle.lab_text.proofs.router_config.last_key.Given as goal

-- the key so far, and those that are left
abbrev pub invariant-loop-key : goal.invariant-loop-key
invariant-loop-key l = record {
  left : layout.key_behind l.level l.number (drop l.key-index l.keys) (option_map (λ key. key.now) l.last) ≡ layout.key_of l.level l.number l.keys;
  fits : IfSome l.last (λ key. IsKey key.now);
  keys : AllByRecursion (λ (key : LabKey). IsKey key.key) (drop l.key-index l.keys);
}
