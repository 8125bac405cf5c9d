-- The seconds until each set SRM flag is due again, 0 to 5 (ISO 10589 7.3.15.5,
-- minimumLSPTransmissionInterval), in three sets of circuits, which are the binary digits of the
-- seconds, the lowest first.
use Rattle.std.specs.Prelude.{ℕ, ◌+◌, ◌*◌, bit_and, bit_or, bit_xor}
use Rattle.std.specs.Int.{bit_at}
use Rattle.model_router.specs.Sets.{with_one, without}

-- own
pub record Waits : Type 0 where
  pub ones : ℕ
  pub twos : ℕ
  pub fours : ℕ

-- the seconds that a circuit's flag waits (own)
abbrev pub wait : Waits → ℕ → ℕ
wait waits place =
    bit_at waits.ones place + 2 * bit_at waits.twos place + 4 * bit_at waits.fours place

-- nothing waits (own)
abbrev pub no_waits : Waits
no_waits = record { ones = 0; twos = 0; fours = 0 }

-- the circuit's flag is due at once (own)
abbrev pub due_at : Waits → ℕ → Waits
due_at waits place =
    record {
      ones = without waits.ones place;
      twos = without waits.twos place;
      fours = without waits.fours place;
    }

-- the circuit's flag waits five seconds (7.3.15.5)
abbrev pub five_at : Waits → ℕ → Waits
five_at waits place =
    record {
      ones = with_one waits.ones place;
      twos = without waits.twos place;
      fours = with_one waits.fours place;
    }

-- the circuits whose flag waits at all (own)
abbrev pub waiting : Waits → ℕ
waiting waits = bit_or waits.ones (bit_or waits.twos waits.fours)

-- one second less wherever a flag waits (own)
unfoldable pub fallen : Waits → Waits
fallen waits = record {
  ones = bit_xor waits.ones (waiting waits);
  twos = bit_xor waits.twos (bit_and (bit_xor waits.ones (waiting waits)) (waiting waits));
  fours = bit_and waits.fours (bit_or waits.ones waits.twos);
}
