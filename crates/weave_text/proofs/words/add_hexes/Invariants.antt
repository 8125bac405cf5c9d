use Rattle.std.proofs.Common.{◌≡◌, ◌++◌, drop}
use Rattle.line_cuts.specs.HexTexts.{hex_text}
use Rattle.weave_text.proofs.words.add_hexes.Given as goal

-- what is written, and what is left
abbrev pub invariant-loop-octet : goal.invariant-loop-octet
invariant-loop-octet l =
    l.text ++ hex_text (drop l.octet-index l.octets) ≡ l.fn.text ++ hex_text l.octets
