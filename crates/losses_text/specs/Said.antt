-- What a text of losses says (own).
use Rattle.std.specs.Prelude.{ℕ, List, Option}
use Rattle.losses_text.specs.declared.said.NamedLoss.{NamedLoss}
use Rattle.losses_text.specs.declared.part_words.PartOf.{PartOf}

-- a delivery that is lost: its place, its datagram's number, and its router's name (own)
pub record Lost : Type 0 where
  pub place : ℕ
  pub datagram : ℕ
  pub name : List ℕ

abbrev pub lost_of : NamedLoss → Lost
lost_of l = record { place = l.place; datagram = l.datagram; name = l.name.now }

-- How many deliveries are lost at most, and which part of all schedules was played; how many schedules
-- these are, from which second on all agree without a loss, in how many they don't at the end, the latest
-- second from which on they do, and what is lost then (own).
pub record Said : Type 0 where
  pub most : ℕ
  pub part : Option PartOf
  pub schedules : ℕ
  pub agree : ℕ
  pub apart : ℕ
  pub latest : ℕ
  pub lost : List Lost
