-- Words that ask for a walk ask for no trace and no weaving, and those that ask for a trace for no weaving; only a daemon's run ends as not started.
use Rattle.std.proofs.Common.{◌≡◌, ◌∙◌, ◌↔◌, ℕ, Bool, true, false, if◌then◌else◌, codes, List, [], ◌∷◌, Option, Some, None, IfSome, refl, sym, subst}
use Rattle.std.specs.Str.{bytes_eq}
use Rattle.std.proofs.lemmas.Slice.Eq.{bytes_eq-Decides}
use Rattle.isis_base.specs.declared.prefix.Prefix.{Prefix}
use Rattle.isis_daemon.specs.declared.command.Command.{Command}
use Rattle.isis_daemon.specs.declared.status.Status.{Status}
use Rattle.isis_daemon.specs.declared.status.Status.TheVariants as status
use Rattle.isis_daemon.specs.Commands.{AreNoText, command_of, grid_size_of, walk_of, asked_of, trace_of, weave_of}
use Rattle.isis_daemon.specs.GridEnds.{GridEnds}
use Rattle.isis_daemon.specs.Runs.{EndsOn, Ends}
use Rattle.isis_daemon.specs.TraceEnds.{TraceEndsOn, TraceEnds}
use Rattle.isis_daemon.specs.WalkEnds.{WalkEndsOn, WalkEnds}
use Rattle.isis_daemon.specs.WeaveEnds.{WeaveEndsOn, WeaveEnds}
use Rattle.isis_daemon.proofs.TakenLemmas.{never_so}

pub unwoven : (words : List (List ℕ)) (x : List ℕ × Prefix) → Some x ≡ walk_of words → weave_of words ≡ None
unwoven [] x is = refl
unwoven (word ∷ []) x is = absurd (cc is)
unwoven (word ∷ next ∷ words) x is = refl

pub untraced : (words : List (List ℕ)) (x : List ℕ × Prefix) → Some x ≡ walk_of words → trace_of words ≡ None
untraced [] x is = absurd (cc is)
untraced (word ∷ []) x is = absurd (cc is)
untraced (word ∷ name ∷ []) x is = absurd (cc is)
untraced (word ∷ name ∷ prefix ∷ []) x is =
    subst (λ (w : List ℕ). trace_of (w ∷ name ∷ prefix ∷ []) ≡ None) (sym ((bytes_eq-Decides word (codes "walk")).0 (hit (bytes_eq word (codes "walk")) is))) refl
  where
    hit : (b : Bool) → Some x ≡ (if b then asked_of name prefix else None) → b ≡ true
    hit true e = refl
    hit false e = absurd (cc e)
untraced (word ∷ name ∷ prefix ∷ next ∷ words) x is = absurd (cc is)

pub unwoven_trace : (words : List (List ℕ)) (x : List ℕ × ℕ) → Some x ≡ trace_of words → weave_of words ≡ None
unwoven_trace [] x is = refl
unwoven_trace (word ∷ []) x is = absurd (cc is)
unwoven_trace (word ∷ next ∷ words) x is = refl

pub walk_started : (name : List ℕ) (prefix : Prefix) (gave gave' : List ℕ) (ended : Bool) (put put' : List ℕ) (end : Status) → WalkEnds name prefix gave gave' ended put put' end → ¬ (end ≡ status.NotStarted)
walk_started name prefix gave gave' ended put put' end =
    never_so (λ octets. WalkEndsOn name prefix octets put put') gave gave' ended put put' end status.NotStarted (λ h. h) (λ octets h. h)

pub trace_started : (name : List ℕ) (address : ℕ) (gave gave' : List ℕ) (ended : Bool) (put put' : List ℕ) (end : Status) → TraceEnds name address gave gave' ended put put' end → ¬ (end ≡ status.NotStarted)
trace_started name address gave gave' ended put put' end =
    never_so (λ octets. TraceEndsOn name address octets put put') gave gave' ended put put' end status.NotStarted (λ h. h) (λ octets h. h)

pub weave_started : (gave gave' : List ℕ) (ended : Bool) (put put' : List ℕ) (end : Status) → WeaveEnds gave gave' ended put put' end → ¬ (end ≡ status.NotStarted)
weave_started gave gave' ended put put' end =
    never_so (λ octets. WeaveEndsOn octets put put') gave gave' ended put put' end status.NotStarted (λ h. h) (λ octets h. h)

command_started : (command : Command) (gave gave' : List ℕ) (ended : Bool) (put put' : List ℕ) (end : Status) → Ends command gave gave' ended put put' end → ¬ (end ≡ status.NotStarted)
command_started command gave gave' ended put put' end =
    never_so (λ octets. EndsOn command octets put put') gave gave' ended put put' end status.NotStarted (λ h. h) (λ octets h. h)

-- what makes a text of its input
pub text_started : (words : List (List ℕ)) (gave gave' : List ℕ) (ended : Bool) (put put' : List ℕ) (end : Status) → (end ≡ status.Usage) ↔ AreNoText words
    → IfSome (command_of words) (λ command. Ends command gave gave' ended put put' end) → IfSome (grid_size_of words) (λ size. GridEnds size put put' end) → ¬ (end ≡ status.NotStarted)
text_started words gave gave' ended put put' end usage ends grid is = by (command_of words) (grid_size_of words) refl refl
  where
    by : (o : Option Command) (s : Option ℕ) → command_of words ≡ o → grid_size_of words ≡ s → ⊥
    by (Some command) s e f =
        command_started command gave gave' ended put put' end (subst (λ (z : Option Command). IfSome z (λ command. Ends command gave gave' ended put put' end)) e ends) is
    by None (Some size) e f =
        subst (λ (z : Status). GridEnds size put put' z) is (subst (λ (z : Option ℕ). IfSome z (λ size. GridEnds size put put' end)) f grid)
    by None None e f = cc (sym is ∙ usage.1 (e, f))
