use Rattle.std.proofs.Common.{◌∙◌, ◌≤◌, ◌*◌, ℕ, List, length, sym, subst}
use Rattle.line_cuts.proofs.HexLemmas.{octets_in-most, octets_in-some}
use Rattle.lab_script.proofs.lab_fields.read_hex.Goals as goal

pub returns-clause-some : goal.returns-clause-some
returns-clause-some c = subst (λ (octets : List ℕ). 1 ≤ length octets) (sym c.new.ensures) (octets_in-some c.args.word.now (sym c.reads_hex.ensures ∙ c.if-not-reads_hex.false))

pub returns-clause-counted : goal.returns-clause-counted
returns-clause-counted c = subst (λ (octets : List ℕ). 2 * length octets ≤ length c.args.word.now) (sym c.new.ensures) (octets_in-most c.args.word.now)
