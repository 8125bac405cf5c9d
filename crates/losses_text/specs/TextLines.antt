-- The lines of texts of losses (own).
use Rattle.std.specs.Prelude.{ℕ, List, [], ◌∷◌, Option, Some, None, codes, if◌then◌else◌}
use Rattle.std.specs.Str.{bytes_eq}
use Rattle.line_cuts.specs.Forms.{Form, field, field_of_two, done, of_forms}
use Rattle.line_cuts.specs.Numerals.{number_to}
use Rattle.line_cuts.specs.Words.{words_of}
use Rattle.losses_text.specs.declared.part_words.PartOf.{PartOf}
use Rattle.losses_text.specs.declared.text_lines.TextLine.{TextLine}
use Rattle.losses_text.specs.declared.text_lines.TextLine.TheVariants as lent
use Rattle.losses_text.specs.Said.{Lost, lost_of}
use Rattle.losses_text.specs.Words.{most_in, part_from}

-- a line of a text: its head, or what it says
pub data Line : Type 0 where
  Head : Line
  Most : (most : ℕ) → Line
  Part : (part : PartOf) → Line
  Schedules : (count : ℕ) → Line
  Agree : (second : ℕ) → Line
  Apart : (count : ℕ) → Line
  Latest : (second : ℕ) → Line
  Loses : (lost : Lost) → Line

-- a line whose name is lent, as the line that it is
abbrev pub line_in : TextLine → Line
line_in lent.Head = Head
line_in (lent.Most most) = Most most
line_in (lent.Part part) = Part part
line_in (lent.Schedules count) = Schedules count
line_in (lent.Agree second) = Agree second
line_in (lent.Apart count) = Apart count
line_in (lent.Latest second) = Latest second
line_in (lent.Loses lost) = Loses (lost_of lost)

-- a number below 2^32
abbrev pub number_in : List ℕ → Option ℕ
number_in word = number_to 4294967295 word

-- how many schedules, at most 16,777,216
abbrev pub count_in : List ℕ → Option ℕ
count_in word = number_to 16777216 word

-- a router's name, which isn't empty
abbrev pub name_in : List ℕ → Option (List ℕ)
name_in [] = None
name_in (letter ∷ letters) = Some (letter ∷ letters)

-- I and M, where I is from 1 to M
abbrev pub part_of_two : List ℕ → List ℕ → Option PartOf
part_of_two number of = part_from (number_to 65535 number) (number_to 65535 of)

-- `most K` (own)
abbrev pub most_form : Form Line
most_form = field most_in λ most. done (Most most)

-- `part I M` (own)
abbrev pub part_form : Form Line
part_form = field_of_two part_of_two λ part. done (Part part)

-- `schedules N` (own)
abbrev pub schedules_form : Form Line
schedules_form = field count_in λ count. done (Schedules count)

-- `agree S` (own)
abbrev pub agree_form : Form Line
agree_form = field number_in λ second. done (Agree second)

-- `apart N` (own)
abbrev pub apart_form : Form Line
apart_form = field count_in λ count. done (Apart count)

-- `latest S` (own)
abbrev pub latest_form : Form Line
latest_form = field number_in λ second. done (Latest second)

-- `lost P K R` (own)
abbrev pub lost_form : Form Line
lost_form = field number_in λ place. field number_in λ datagram. field name_in λ name.
    done (Loses (record { place = place; datagram = datagram; name = name }))

abbrev pub text_forms : List (List ℕ × Form Line)
text_forms =
    (codes "most", most_form) ∷
    (codes "part", part_form) ∷
    (codes "schedules", schedules_form) ∷
    (codes "agree", agree_form) ∷
    (codes "apart", apart_form) ∷
    (codes "latest", latest_form) ∷
    (codes "lost", lost_form) ∷
    []

-- what the words of a line say, by the first of them
abbrev pub fields_of : Form Line
fields_of = of_forms text_forms

-- what a line says; none where it is no line of such a text
abbrev pub line_of : List ℕ → Option Line
line_of line =
    if bytes_eq line (codes "isis-losses 1") then Some Head else fields_of (words_of line)
