-- Events played one after another.
use Rattle.std.proofs.Common.{◌≡◌, ℕ, ◌+◌, ◌<◌, List, length, get_or, drop, Result, Ok, Err, sym, ap, ◌∙◌, arith}
use Rattle.std.proofs.lemmas.List.{at_drop_more, at_drop_all}
use Rattle.lab_keys.specs.KeysNet.{Net}
use Rattle.lab_script.specs.declared.events.EventLine.{EventLine}
use Rattle.lab_script.specs.declared.reason.ScriptFault.{ScriptFault}
use Rattle.lab_script.specs.Scripts.{◌>>=◌}
use Rattle.lab_text.specs.KeysRuns.{play_line, play_all}

-- the next event is played before those behind it
pub play_all-at : (events : List EventLine) (net : Net) (k : ℕ) (told : EventLine) → k < length events → told ≡ get_or events k told → play_all net (drop k events) ≡ (play_line net told >>= λ more. play_all more (drop (k + 1) events))
unfolding play_all
play_all-at events net k told lt e =
    at_drop_more (play_all net) events k told lt ∙ ap (λ (x : EventLine). play_line net x >>= λ more. play_all more (drop (k + 1) events)) (sym e)

pub play_all-end : (events : List EventLine) (net : Net) (k : ℕ) → k ≡ length events → play_all net (drop k events) ≡ Ok net
unfolding play_all
play_all-end events net k e = ap (λ (n : ℕ). play_all net (drop n events)) e ∙ at_drop_all (play_all net) events (length events) (omega arith)

pub bind-ok : {A B : Type 0} (r : Result A ScriptFault) (a : A) (rest : A → Result B ScriptFault) → r ≡ Ok a → (r >>= rest) ≡ rest a
bind-ok r a rest e = ap (λ (x : Result _ ScriptFault). x >>= rest) e

pub bind-err : {A B : Type 0} (r : Result A ScriptFault) (f : ScriptFault) (rest : A → Result B ScriptFault) → r ≡ Err f → (r >>= rest) ≡ Err f
bind-err r f rest e = ap (λ (x : Result _ ScriptFault). x >>= rest) e
