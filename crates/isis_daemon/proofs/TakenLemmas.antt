-- What is known of an input once it was read, or wasn't.
use Rattle.std.proofs.Common.{◌≡◌, ◌∙◌, ℕ, Bool, List, [], inl, inr, sym, subst, zero-le, append-nil}
use Rattle.std.proofs.lemmas.List.{append_cancel_left}
use Rattle.isis_edge.specs.Told.{Took}
use Rattle.isis_daemon.specs.declared.status.Status.{Status}
use Rattle.isis_daemon.specs.Runs.{IsTakenWithin, IsNotRead, OnInput}

-- an input that stays as it was gave nothing
pub taken_none : (gave : List ℕ) → IsTakenWithin gave gave
taken_none gave = ([], zero-le, sym (append-nil gave))

-- what is given after the same octets is the same
pub same_octets : (gave gave' octets read : List ℕ) → Took gave gave' octets → Took gave gave' read → octets ≡ read
same_octets gave gave' octets read one two = append_cancel_left gave octets read (sym one ∙ two)

-- a run on an input doesn't end so, where none on octets does and it isn't for want of an input
pub never_so : (On : List ℕ → Status → Type 0) (gave gave' : List ℕ) (ended : Bool) (put put' : List ℕ) (end other : Status) → (IsNotRead gave gave' other → ⊥) → ((octets : List ℕ) → On octets other → ⊥)
    → OnInput On gave gave' ended put put' end → ¬ (end ≡ other)
never_so On gave gave' ended put put' end other unread none ends is = at (subst (λ (s : Status). OnInput On gave gave' ended put put' s) is ends)
  where
    at : OnInput On gave gave' ended put put' other → ⊥
    at (inl (for, same)) = unread for
    at (inr (octets, whole, on)) = none octets on
