use Rattle.std.proofs.Common.{◌≡◌, ◌∙◌, ◌++◌, ◌∷◌, [], ℕ, ◌-◌, ◌<◌, ◌≤◌, length, List, get_or, take, drop, true, refl, sym, ap, subst, arith, append_assoc}
use Rattle.std.specs.Fmt.{HasWritten}
use Rattle.std.proofs.Math.Seq.{take-length}
use Rattle.std.proofs.Output.{has_written_append}
use Rattle.isis_base.specs.AreaTexts.{groups_text}
use Rattle.isis_base.specs.Texts.{hex_pair}
use Rattle.isis_base.proofs.display.GroupsDisplay.fmt.Goals as goal

two : (xs : List ℕ) → 2 ≤ length xs → groups_text xs ≡ 46 ∷ (hex_pair (get_or xs 0 0) ++ hex_pair (get_or xs 1 0)) ++ groups_text (take (length xs - 2) (drop 2 xs))
two [] h = absurd (omega arith)
two (a ∷ []) h = absurd (omega arith)
two (a ∷ b ∷ xs) h =
    let count : length xs ≡ length (a ∷ b ∷ xs) - 2 = omega arith in
    ap (λ (rest : List ℕ). 46 ∷ (hex_pair a ++ hex_pair b) ++ groups_text rest) (sym (take-length xs) ∙ ap (λ (n : ℕ). take n xs) count)

one : (xs : List ℕ) → 1 ≤ length xs → length xs < 2 → groups_text xs ≡ 46 ∷ hex_pair (get_or xs 0 0)
one [] h k = absurd (omega arith)
one (a ∷ []) h k = refl
one (a ∷ b ∷ xs) h k = absurd (omega arith)

pub loop-left-preserved : goal.loop-left-preserved
loop-left-preserved g c = λ plain.
    let h = c.loop-left.invariant plain in
    let left = c.loop-left.left.now in
    let piece : List ℕ = 46 ∷ (hex_pair (get_or left 0 0) ++ hex_pair (get_or left 1 0)) in
    let written : HasWritten g.W.Write.write_str_gives c.loop-left.f piece c.write.new.self = c.in_ok-write.ensures.writes h.1.plain (refl {a = true}) in
    let rest : List ℕ = groups_text (take (length left - 2) (drop 2 left)) in (
      h.0 ++ piece,
      has_written_append g.W.Write.write_str_gives c.args.f.now h.0 c.loop-left.f piece c.write.new.self h.1 written,
      append_assoc h.0 piece rest ∙ ap (λ (more : List ℕ). h.0 ++ more) (sym (two left c.in-len2-up.len_at_least)) ∙ h.2,
    )

pub returns-clause-writes : goal.returns-clause-writes
returns-clause-writes g c = λ plain ok.
    let h = c.loop-left.invariant plain in
    let left = c.loop-left.left.now in
    let whole : h.0 ++ 46 ∷ hex_pair (get_or left 0 0) ≡ groups_text c.args.self.now.0.now =
    ap (λ (more : List ℕ). h.0 ++ more) (sym (one left c.in-len1.len_at_least c.in-len1.len_below)) ∙ h.2 in
    subst (λ (text : List ℕ). HasWritten g.W.Write.write_str_gives c.args.f.now text c.write-2.new.self) whole
    (has_written_append g.W.Write.write_str_gives c.args.f.now h.0 c.loop-left.f (46 ∷ hex_pair (get_or left 0 0)) c.write-2.new.self h.1 (c.write-2.ensures.writes h.1.plain ok))
