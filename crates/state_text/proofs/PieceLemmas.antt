-- Three pieces that are added one after another.
use Rattle.std.proofs.Common.{◌≡◌, ◌∙◌, ℕ, List, ◌++◌, ap}
use Rattle.std.proofs.lemmas.List.{append_assoc}

pub three : (text one two three : List ℕ) → ((text ++ one) ++ two) ++ three ≡ text ++ ((one ++ two) ++ three)
three text one two end = ap (λ (t : List ℕ). t ++ end) (append_assoc text one two) ∙ append_assoc text (one ++ two) end
