-- Whether the ranges that were taken at one moment cover all LSP IDs (ISO 10589 7.3.15.2; the words:
-- own).
use Rattle.std.specs.Prelude.{ℕ, zero, suc, ◌^◌, ◌==◌, Bool, true, false, ◌&&◌, ◌||◌, List, [], ◌∷◌}
use Rattle.isis_base.specs.declared.level.Level.{Level}
use Rattle.isis_base.specs.declared.level.Level.TheVariants as level
use Rattle.snp_exchange.specs.Sweeps.{in_range}
use Rattle.model_network.specs.Networks.{Taking}
use Rattle.lab_facts.specs.declared.key.SweepKey.{SweepKey}

-- a range that is taken at a moment (own)
abbrev pub taking_at : SweepKey → ℕ → ℕ → Taking
taking_at key first last = record {
  member = key.member;
  boot = key.boot;
  changes = key.changes;
  link = key.link;
  level = key.level;
  sender = key.sender;
  sent_boot = key.sent_boot;
  sent_changes = key.sent_changes;
  first = first;
  last = last;
}

-- own
abbrev pub same_level : Level → Level → Bool
same_level level.One level.One = true
same_level level.One level.Two = false
same_level level.Two level.One = false
same_level level.Two level.Two = true

-- whether a range was taken at a moment (own)
abbrev pub is_at : SweepKey → Taking → Bool
is_at key t =
    t.link == key.link && same_level t.level key.level && t.member == key.member
    && t.sender == key.sender && t.boot == key.boot && t.changes == key.changes
    && t.sent_boot == key.sent_boot && t.sent_changes == key.sent_changes

-- whether one of the ranges that were taken at a moment has an LSP ID (own)
abbrev pub is_covered : SweepKey → List Taking → ℕ → Bool
is_covered key [] id = false
is_covered key (t ∷ takings) id =
    (is_at key t && in_range t.first t.last id) || is_covered key takings id

-- whether each number below one is such (own)
unfoldable pub all_below : ℕ → (ℕ → Bool) → Bool
all_below zero is = true
all_below (suc n) is = is n && all_below n is

-- whether the ranges that were taken at a moment cover all LSP IDs (own)
unfoldable pub is_whole : SweepKey → List Taking → Bool
is_whole key takings = all_below (2 ^ 64) (is_covered key takings)
