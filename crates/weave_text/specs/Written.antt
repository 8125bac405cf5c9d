-- The lab script that is written: the lines ahead as they were read, and the events of a schedule (own).
use Rattle.std.specs.Prelude.{ℕ, ◌-◌, ◌&&◌, nat_lt, nat_le, List, [], ◌∷◌, ◌++◌, length, codes, decimal, Option, Some, None, if◌then◌else◌}
use Rattle.std.specs.List.{flat_map}
use Rattle.isis_base.specs.PrefixTexts.{prefix_text}
use Rattle.line_cuts.specs.Fields.{on_text}
use Rattle.line_cuts.specs.HexTexts.{hex_text}
use Rattle.router_desk.specs.declared.config.Change.{Change}
use Rattle.router_desk.specs.declared.config.Change.TheVariants as change
use Rattle.model_network.specs.RunLines.{link_of}
use Rattle.network_lab.specs.declared.event.LabEvent.{LabEvent}
use Rattle.network_lab.specs.declared.event.LabEvent.TheVariants as event
use Rattle.network_lab.specs.LabNets.{Seen}
use Rattle.lab_text.specs.Passed.{name_at}
use Rattle.weave_text.specs.Lines.{text_of}

-- ---- names

-- the names of routers and of links, by their numbers
pub record Naming : Type 0 where
  pub routers : List (List ℕ)
  pub links : List (List ℕ)

-- the link of a router's circuit, counted from 1; none where it isn't there
abbrev pub link_on : Seen → ℕ → ℕ → Option ℕ
link_on s router circuit =
    if nat_lt router (length s.routers) && nat_le 1 circuit
    then link_of router (circuit - 1) 0 s.links else None

-- the name of a number, if there is one
abbrev pub name_in : List (List ℕ) → Option ℕ → List ℕ
name_in names None = []
name_in names (Some n) = name_at names n

-- ---- the words of an event's line

-- a prefix's metric, or that it has none
abbrev pub metric_word : Option ℕ → List ℕ
metric_word None = codes "none"
metric_word (Some metric) = decimal metric

abbrev pub change_words : Naming → Seen → ℕ → Change → List (List ℕ)
change_words names s router (change.Metric circuit metric) =
    codes "metric" ∷ name_at names.routers router
    ∷ name_in names.links (link_on s router circuit) ∷ decimal metric ∷ []
change_words names s router (change.Prefix prefix metric) =
    codes "prefix" ∷ name_at names.routers router ∷ prefix_text prefix.address prefix.length
    ∷ metric_word metric ∷ []
change_words names s router (change.Overload on) =
    codes "overload" ∷ name_at names.routers router ∷ on_text on ∷ []

-- the words of an event's line, in a network that is seen so
abbrev pub event_words : Naming → Seen → LabEvent → List (List ℕ)
event_words names s (event.Tick router) = codes "tick" ∷ name_at names.routers router ∷ []
event_words names s (event.Pull router link) =
    codes "pull" ∷ name_at names.routers router ∷ name_at names.links link ∷ []
event_words names s (event.Deliver datagram router) =
    codes "deliver" ∷ decimal datagram ∷ name_at names.routers router ∷ []
event_words names s (event.Restart router) = codes "restart" ∷ name_at names.routers router ∷ []
event_words names s (event.Change router change) = change_words names s router change
event_words names s (event.Inject router link octets) =
    codes "inject" ∷ name_at names.routers router ∷ name_at names.links link ∷ hex_text octets
    ∷ []

-- ---- texts

abbrev pub behind_word : List (List ℕ) → List ℕ
behind_word [] = codes "\n"
behind_word (word ∷ words) = codes " " ++ (word ++ behind_word words)

-- a line of words, one space between two
abbrev pub line_of_words : List (List ℕ) → List ℕ
line_of_words [] = codes "\n"
line_of_words (word ∷ words) = word ++ behind_word words

-- the line of an event
unfoldable pub event_line : Naming → Seen → LabEvent → List ℕ
event_line names s event = line_of_words (event_words names s event)

-- a lab script of these lines, and of the lines of a schedule's events
unfoldable pub woven_text : List (List ℕ) → Naming → Seen → List LabEvent → List ℕ
woven_text told names s schedule =
    codes "isis-lab 1\n" ++ text_of told ++ flat_map (event_line names s) schedule
