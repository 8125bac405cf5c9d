-- What the check doesn't find alone: addresses, entries that fit, maps.
mod FirstLemmas
mod FitLemmas
mod GoodLemmas
mod OnlyLemmas
mod FromLemmas
mod ShownLemmas
mod ContentLemmas
