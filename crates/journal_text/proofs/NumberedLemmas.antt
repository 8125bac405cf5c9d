-- The entries of a history are numbered from 1.
use Rattle.std.proofs.Common.{◌≡◌, ℕ, ◌+◌, List, [], ◌∷◌, ◌++◌, map, length, Option, Some, None, ap, subst, arith}
use Rattle.model_router.specs.Routers.{Router}
use Rattle.circuit_threads.specs.declared.entry.JournalEntry.{JournalEntry}
use Rattle.circuit_threads.specs.declared.entry.Note.{Note}
use Rattle.circuit_threads.specs.declared.entry.Note.TheVariants.{Nothing, Made, Marked}
use Rattle.circuit_threads.specs.History.{Line, line_of, entries, Replay, opening, made, unless_stopped, next, replay, IsHistory}
use Rattle.journal_text.specs.Written.{AreNumbered}

abbrev AreLines : ℕ → List Line → Type 0
AreLines number [] = Unit {0}
AreLines number (line ∷ lines) = (line.number ≡ number) × AreLines (number + 1) lines

one-more : (number : ℕ) (lines : List Line) (line : Line) → AreLines number lines → line.number ≡ number + length lines → AreLines number (lines ++ line ∷ [])
one-more number [] line h e = (omega (arith, e), tt)
one-more number (first ∷ lines) line h e = (h.0, one-more (number + 1) lines line h.1 (omega (arith, e)))

unless-numbered : (stop : Option ℕ) (p after : Replay) → AreLines 1 p.lines → AreLines 1 after.lines → AreLines 1 (unless_stopped stop p after).lines
unless-numbered None p after h k = k
unless-numbered (Some entry) p after h k = h

made-numbered : (p : Replay) (e : JournalEntry) (stop : Option ℕ) → AreLines 1 p.lines → AreLines 1 (made p e stop).lines
made-numbered p e stop h = one-more 1 p.lines _ h (omega arith)

next-numbered : (p : Replay) (note : Note) → AreLines 1 p.lines → AreLines 1 (next p note).lines
next-numbered p Nothing h = h
next-numbered p (Made e) h = unless-numbered p.stop p (made p e None) h (made-numbered p e None h)
next-numbered p (Marked e) h = unless-numbered p.stop p (made p e (Some (length p.lines + 1))) h (made-numbered p e (Some (length p.lines + 1)) h)

replay-numbered : (p : Replay) (notes : List Note) → AreLines 1 p.lines → AreLines 1 (replay p notes).lines
replay-numbered p [] h = h
replay-numbered p (note ∷ notes) h = replay-numbered (next p note) notes (next-numbered p note h)

entries-numbered : (number : ℕ) (es : List JournalEntry) → AreLines number (map line_of es) → AreNumbered number es
entries-numbered number [] h = tt
entries-numbered number (e ∷ es) h = (h.0, entries-numbered (number + 1) es h.1)

pub history-numbered : (start now : Router) (notes : List Note) (stop : Option ℕ) → IsHistory start now notes stop → AreNumbered 1 (entries notes)
history-numbered start now notes stop h =
    entries-numbered 1 (entries notes) (subst (AreLines 1) (ap (λ (p : Replay). p.lines) h) (replay-numbered (opening start) notes tt))
