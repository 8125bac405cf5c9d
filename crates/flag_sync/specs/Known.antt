-- What the tables ask of what is held (own).
use Rattle.std.specs.Prelude.{◌≡◌, [], Option}
use Rattle.isis_base.specs.Keys.{rank}
use Rattle.model_router.specs.Waits.{no_waits}
use Rattle.model_router.specs.Cells.{Cell}
use Rattle.model_router.specs.Books.{rank_of, checksum_of}
use Rattle.flag_sync.specs.declared.known.Known.{Known}

-- a cell of this key and this checksum
abbrev pub known_cell : Known → Cell
known_cell known = record {
  rank = rank known.key;
  checksum = known.checksum;
  flags = 0;
  left = 0;
  octets = [];
  srm = 0;
  ssn = 0;
  waits = no_waits;
}

-- what is known of a cell is its key and its checksum
pub record Knows (known : Known) (held : Option Cell) : Type 0 where
  pub key : rank_of held ≡ rank known.key
  pub sum : checksum_of held ≡ known.checksum
