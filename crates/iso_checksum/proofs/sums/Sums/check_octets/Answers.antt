use Rattle.std.proofs.Common.{◌≡◌, ℕ, ◌+◌, ◌-◌, ◌*◌, ◌/◌, ◌%◌, ◌<◌, refl, ap, arith}
use Rattle.iso_checksum.proofs.sums.Sums.check_octets.Goals as goal

-- the second, of weight k, makes up what the first leaves
weighted_rest : (p w k x y : ℕ) → p < 255 → x ≡ 255 - (w + k * (255 - p)) % 255 → (p + x + y) % 255 ≡ 0
    → (w + (k + 1) * x + k * y) % 255 ≡ 0
weighted_rest p w k x y small e plain =
    let times : k * (p + x + y) ≡ k * (255 * ((p + x + y) / 255)) = ap (λ n. k * n) (omega arith) in
    let parts : k * (255 - p + p) ≡ k * 255 = ap (λ n. k * n) (omega arith) in
    omega arith

pub returns-clause-weighted : goal.returns-clause-weighted
returns-clause-weighted c = weighted_rest c.args.self.plain c.args.self.weighted c.args.weight _ _ c.requires.plain refl (omega arith)
