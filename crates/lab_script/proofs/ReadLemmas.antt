-- Lines heard one after another.
use Rattle.std.proofs.Common.{◌≡◌, ℕ, ◌+◌, List, [], ◌∷◌, Result, Ok, Err, ap}
use Rattle.lab_script.specs.declared.reason.ScriptFault.{ScriptFault}
use Rattle.lab_script.specs.declared.reason.ScriptFault.TheVariants.{Refused, Limit, OutOfMemory}
use Rattle.lab_script.specs.Gives.{Gives, Answers}
use Rattle.lab_script.specs.Scripts.{◌>>=◌, hear_text, hear_lines}
use Rattle.lab_script.specs.declared.script.Script.{Script}

-- the next line is read before those behind it
pub hear_lines-next : (read : Script) (number : ℕ) (line : List ℕ) (lines all : List (List ℕ)) → all ≡ line ∷ lines → hear_lines read number all ≡ (hear_text read number line >>= λ more. hear_lines more (number + 1) lines)
unfolding hear_lines
hear_lines-next read number line lines all e = ap (hear_lines read number) e

-- at the end all is read
pub hear_lines-end : (read : Script) (number : ℕ) (all : List (List ℕ)) → all ≡ [] → hear_lines read number all ≡ Ok read
unfolding hear_lines
hear_lines-end read number all e = ap (hear_lines read number) e

-- a line that is read
pub hear_lines-ok : (read more : Script) (number : ℕ) (line : List ℕ) (rest : Script → Result Script ScriptFault) → hear_text read number line ≡ Ok more → (hear_text read number line >>= rest) ≡ rest more
hear_lines-ok read more number line rest e = ap (λ (r : Result Script ScriptFault). r >>= rest) e

-- a line that is refused refuses the whole
pub Answers-from_line : {X : Type 0} (fault : ScriptFault) (after : X) (step whole : Result X ScriptFault) → Gives (Err fault) after step → ((f : ScriptFault) → step ≡ Err f → whole ≡ Err f) → Answers (Err fault) whole
Answers-from_line OutOfMemory after step whole h through = tt
Answers-from_line (Refused line reason) after step whole h through = through (Refused line reason) h
Answers-from_line (Limit which) after step whole h through = through (Limit which) h

pub hear_lines-err : (read : Script) (number : ℕ) (line : List ℕ) (rest : Script → Result Script ScriptFault) (f : ScriptFault) → hear_text read number line ≡ Err f → (hear_text read number line >>= rest) ≡ Err f
hear_lines-err read number line rest f e = ap (λ (r : Result Script ScriptFault). r >>= rest) e

pub Gives-from_step : {X : Type 0} (fault : ScriptFault) (after other : X) (step whole : Result X ScriptFault) → Gives (Err fault) after step → ((f : ScriptFault) → step ≡ Err f → whole ≡ Err f) → Gives (Err fault) other whole
Gives-from_step OutOfMemory after other step whole h through = tt
Gives-from_step (Refused line reason) after other step whole h through = through (Refused line reason) h
Gives-from_step (Limit which) after other step whole h through = through (Limit which) h
