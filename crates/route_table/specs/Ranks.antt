-- Ranks and prefixes as numbers, by which candidates are ordered.

use Rattle.std.specs.Prelude.{ℕ, ◌+◌, ◌*◌}
use Rattle.isis_base.specs.declared.prefix.Prefix.{Prefix}
use Rattle.route_table.specs.declared.rank.Rank.{Rank}
use Rattle.route_table.specs.declared.rank.Rank.TheVariants.{Own, One, Two, OneDown, Default}

-- the place of a rank: the better one is the lesser (RFC 5302 3.2)
abbrev pub rank_number : Rank → ℕ
rank_number Own = 0
rank_number One = 1
rank_number Two = 2
rank_number OneDown = 3
rank_number Default = 4

-- a prefix as a number, by its address and then by its length (own)
abbrev pub prefix_number : Prefix → ℕ
prefix_number prefix = prefix.address * 64 + prefix.length
