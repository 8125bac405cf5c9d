-- How hosts and addresses are written (own).
use Rattle.std.specs.Prelude.{ℕ, List, ◌++◌, codes, decimal}
use Rattle.isis_base.specs.PrefixTexts.{address_text}
use Rattle.daemon_edge.specs.declared.place.Address.{Address}

-- an address's text, as 10.0.0.1:7001
abbrev pub place_text : Address → List ℕ
place_text a = address_text a.host ++ codes ":" ++ decimal a.port
