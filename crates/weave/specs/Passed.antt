-- Definitions of crates below that crates above name too, so that these needn't name those crates.
pub use Rattle.weave.specs.Begins.{begin}
