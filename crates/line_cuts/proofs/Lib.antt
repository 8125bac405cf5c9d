-- Lemmas on texts cut at marks, and on numbers, octets and prefixes in words.
pub mod CutLemmas
pub mod HexLemmas
pub mod NumberTexts
pub mod NumeralLemmas
pub mod PrefixTexts
