-- The lemmas.
mod AddressLemmas
mod DocumentLemmas
mod EachLemmas
mod ExampleLemmas
mod ListLemmas
mod NumberLemmas
mod PrefixLemmas
mod ValidLemmas
