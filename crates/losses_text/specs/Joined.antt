-- Texts of the parts of all schedules, joined (own).
use Rattle.std.specs.Prelude.{◌≡◌, ℕ, ◌+◌, ◌^◌, ◌==◌, nat_lt, ◌&&◌, Bool, true, false, List, [], ◌∷◌, ◌++◌, map, length, Option, Some, None, Result, Ok, Err, if◌then◌else◌}
use Rattle.std.specs.List.{list_any}
use Rattle.losses.specs.Parts.{Worst, is_worse}
use Rattle.losses_text.specs.declared.joining.LineFault.{LineFault}
use Rattle.losses_text.specs.declared.joining.LineFault.TheVariants as fault
use Rattle.losses_text.specs.declared.joining.LineKind.{LineKind}
use Rattle.losses_text.specs.declared.joining.LineKind.TheVariants as kind
use Rattle.losses_text.specs.declared.merge_fault.MergeReason.{MergeReason}
use Rattle.losses_text.specs.declared.merge_fault.MergeReason.TheVariants.{Form, Again}
use Rattle.losses_text.specs.declared.part_words.PartOf.{PartOf}
use Rattle.losses_text.specs.Said.{Lost, Said}
use Rattle.losses_text.specs.TextLines.{Line, Head, Most, Part, Schedules, Agree, Apart, Latest, Loses, line_of}

-- the latest second of a text, and what is lost then (own)
pub record Ending : Type 0 where
  pub latest : ℕ
  pub lost : List Lost

-- What was read of texts: the kind of line that comes next, what all texts must have in common, the numbers of their
-- parts, the sums, the worst of the texts before, and the latest second and the losses of this one (own).
pub record Joined : Type 0 where
  pub comes : LineKind
  pub most : Option ℕ
  pub of : Option ℕ
  pub agree : Option ℕ
  pub numbers : List ℕ
  pub schedules : ℕ
  pub apart : ℕ
  pub worst : Ending
  pub here : Ending

abbrev pub no_ending : Ending
no_ending = record { latest = 0; lost = [] }

-- nothing was read (own)
abbrev pub nothing_read : Joined
nothing_read = record {
  comes = kind.Head;
  most = None;
  of = None;
  agree = None;
  numbers = [];
  schedules = 0;
  apart = 0;
  worst = no_ending;
  here = no_ending;
}

abbrev pub places_of : List Lost → List ℕ
places_of lost = map (λ l. l.place) lost

-- how bad an ending is: by its second, then by the places of its losses
abbrev pub worst_of : Ending → Worst
worst_of e = record { cost = e.latest; places = places_of e.lost }

-- the worse of two endings; of two that are alike the first (own)
abbrev pub worse : Ending → Ending → Ending
worse a b = if is_worse (worst_of a) (worst_of b) then b else a

-- it is the first such number, or that of the text before
abbrev pub is_same : Option ℕ → ℕ → Bool
is_same None n = true
is_same (Some m) n = m == n

-- a sum has at most 64 bits
abbrev pub is_sum : ℕ → Bool
is_sum n = nat_lt n (2 ^ 64)

-- what is read where it fits, and else no line of this form
abbrev pub fits : Bool → Joined → Result Joined MergeReason
fits true j = Ok j
fits false j = Err Form

-- a text begins, and that before it is over
abbrev pub at_head : Joined → Line → Result Joined MergeReason
at_head j Head = Ok (record j { comes = kind.Most; worst = worse j.worst j.here; here = no_ending })
at_head j other = Err Form

abbrev pub at_most : Joined → Line → Result Joined MergeReason
at_most j (Most most) = fits (is_same j.most most) (record j { comes = kind.Part; most = Some most })
at_most j other = Err Form

-- a part that no text before has, of as many parts as theirs
abbrev pub with_part : Joined → PartOf → Result Joined MergeReason
with_part j part =
    if list_any (λ n. n == part.number) j.numbers then Err Again
    else fits (is_same j.of part.of)
    (record j { comes = kind.Schedules; of = Some part.of; numbers = j.numbers ++ part.number ∷ [] })

abbrev pub at_part : Joined → Line → Result Joined MergeReason
at_part j (Part part) = with_part j part
at_part j other = Err Form

abbrev pub at_schedules : Joined → Line → Result Joined MergeReason
at_schedules j (Schedules count) =
    fits (is_sum (j.schedules + count)) (record j { comes = kind.Agree; schedules = j.schedules + count })
at_schedules j other = Err Form

abbrev pub at_agree : Joined → Line → Result Joined MergeReason
at_agree j (Agree second) = fits (is_same j.agree second) (record j { comes = kind.Apart; agree = Some second })
at_agree j other = Err Form

abbrev pub at_apart : Joined → Line → Result Joined MergeReason
at_apart j (Apart count) =
    fits (is_sum (j.apart + count)) (record j { comes = kind.Latest; apart = j.apart + count })
at_apart j other = Err Form

abbrev pub at_latest : Joined → Line → Result Joined MergeReason
at_latest j (Latest second) = Ok (record j { comes = kind.Lost; here = record { latest = second; lost = j.here.lost } })
at_latest j other = Err Form

-- one more loss, or the next text
abbrev pub at_lost : Joined → Line → Result Joined MergeReason
at_lost j (Loses lost) = Ok (record j { here = record { latest = j.here.latest; lost = j.here.lost ++ lost ∷ [] } })
at_lost j other = at_head j other

abbrev pub taken_at : LineKind → Joined → Line → Result Joined MergeReason
taken_at kind.Head = at_head
taken_at kind.Most = at_most
taken_at kind.Part = at_part
taken_at kind.Schedules = at_schedules
taken_at kind.Agree = at_agree
taken_at kind.Apart = at_apart
taken_at kind.Latest = at_latest
taken_at kind.Lost = at_lost

abbrev pub or_form : Joined → Option Line → Result Joined MergeReason
or_form j None = Err Form
or_form j (Some line) = taken_at j.comes j line

-- what was read with one line more, or why the line is refused (own)
abbrev pub with_line : Joined → List ℕ → Result Joined MergeReason
with_line j line = or_form j (line_of line)

abbrev pub is_over : LineKind → Bool
is_over kind.Head = false
is_over kind.Most = false
is_over kind.Part = false
is_over kind.Schedules = false
is_over kind.Agree = false
is_over kind.Apart = false
is_over kind.Latest = false
is_over kind.Lost = true

-- the line was taken, or it was refused for its reason; of want of memory nothing is said
abbrev pub Takes : Result Joined MergeReason → Joined → Result (Unit {0}) LineFault → Type 0
Takes expected new (Ok done) = expected ≡ Ok new
Takes expected new (Err (fault.Refused reason)) = expected ≡ Err reason
Takes expected new (Err fault.OutOfMemory) = Unit {0}

-- what the texts of all parts say of the whole; none where some part isn't there (own)
abbrev pub whole_of : Joined → Option ℕ → Option ℕ → Option ℕ → Option Said
whole_of j (Some most) (Some of) (Some agree) =
    if length j.numbers == of && is_over j.comes
    then Some (record {
      most = most;
      part = None;
      schedules = j.schedules;
      agree = agree;
      apart = j.apart;
      latest = (worse j.worst j.here).latest;
      lost = (worse j.worst j.here).lost;
    })
    else None
whole_of j most of agree = None

abbrev pub whole : Joined → Option Said
whole j = whole_of j j.most j.of j.agree
