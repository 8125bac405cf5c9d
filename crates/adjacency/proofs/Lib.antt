-- What the check doesn't find alone: maps, and the two lists of a LAN.
mod PairLemmas
mod TagLemmas
mod PressLemmas
mod LanLemmas
mod ElectLemmas
