-- The text of losses (own).
use Rattle.std.specs.Prelude.{ℕ, List, [], ◌++◌, Option, Some, None, codes, decimal}
use Rattle.std.specs.List.{flat_map}
use Rattle.losses_text.specs.declared.part_words.PartOf.{PartOf}
use Rattle.losses_text.specs.Said.{Lost, Said}

-- `part I M`, where a part was played
unfoldable pub part_line : Option PartOf → List ℕ
part_line None = []
part_line (Some part) = (codes "part " ++ decimal part.number) ++ (codes " " ++ decimal part.of) ++ codes "\n"

-- `lost P K R`: the delivery of place P, of datagram K to router R
unfoldable pub lost_line : Lost → List ℕ
lost_line l =
    (codes "lost " ++ decimal l.place) ++ (codes " " ++ decimal l.datagram) ++ codes " " ++ l.name
    ++ codes "\n"

-- `most K` and `part I M`
unfoldable pub asked_lines : Said → List ℕ
asked_lines said =
    codes "isis-losses 1\n" ++ (codes "most " ++ decimal said.most) ++ codes "\n" ++ part_line said.part

-- `schedules N`, `agree S`, `apart N` and `latest S`
unfoldable pub found_lines : Said → List ℕ
found_lines said =
    (codes "schedules " ++ decimal said.schedules) ++ (codes "\nagree " ++ decimal said.agree)
    ++ (codes "\napart " ++ decimal said.apart) ++ (codes "\nlatest " ++ decimal said.latest)
    ++ codes "\n"

-- the text of losses
unfoldable pub losses_text : Said → List ℕ
losses_text said = asked_lines said ++ found_lines said ++ flat_map lost_line said.lost
