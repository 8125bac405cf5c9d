-- Readings: a value, or the first refusal; and one reading after another (own).
use Rattle.std.specs.Prelude.{◌≡◌, ◌⊎◌, List, [], ◌∷◌, Option, Some, None, Result, Ok, Err}
use Rattle.daemon_config.specs.declared.fault.ConfigKind.{ConfigKind}
use Rattle.daemon_config.specs.declared.fault.ConfigKey.{ConfigKey}
use Rattle.daemon_config.specs.declared.fault.ConfigFault.{ConfigFault}
use Rattle.daemon_config.specs.declared.fault.ConfigFault.TheVariants.{Refused, OutOfMemory}

-- what is read, or the first refusal
abbrev pub Reading : Type 0 → Type 0
Reading A = Result A ConfigFault

-- a second reading, where the first gave a value
infixl 10 ◌>>=◌
abbrev pub ◌>>=◌ : {A B : Type 0} → Reading A → (A → Reading B) → Reading B
Ok x >>= next = next x
Err fault >>= next = Err fault

-- what has to be there
abbrev pub or_refused : {A : Type 0} → ConfigKind → ConfigKey → Option A → Reading A
or_refused reason key None = Err (Refused reason key)
or_refused reason key (Some x) = Ok x

-- each of a list, in order
abbrev pub each : {A B : Type 0} → (A → Reading B) → List A → Reading (List B)
each read [] = Ok []
each read (x ∷ xs) = do
  y ← read x
  ys ← each read xs
  Ok (y ∷ ys)

-- a call stops with a fault: for want of memory, or since that is what is read
abbrev pub Stops : {A : Type 0} → ConfigFault → Reading A → Type 0
Stops fault reading = (fault ≡ OutOfMemory) ⊎ (reading ≡ Err fault)
