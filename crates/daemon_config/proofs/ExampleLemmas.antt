-- The examples compute.
use Rattle.std.proofs.Common.{◌≡◌, ◌∙◌, ℕ, zero, suc, true, Ok, Err, List, [], ◌∷◌, refl, ap, arith}
use Rattle.std.specs.Prelude.{nat_lt, Option}
use Rattle.std.specs.List.{list_all, AllByRecursion}
use Rattle.std.specs.Str.{IsAscii}
use Rattle.std.proofs.lemmas.Bool.{and_parts, ltb-true}
use Rattle.std.proofs.lemmas.Str.{IsUtf8-from_ascii}
use Rattle.hex.proofs.OnLiterals.{hex_on_literals}
use Rattle.toml.specs.Data.{Members}
use Rattle.toml.specs.Parse.{parse_document}
use Rattle.toml.proofs.OnLiterals.{toml_on_literals}
use Rattle.isis_base.specs.AreaTexts.{area_of}
use Rattle.isis_base.specs.Misfit.{misfit_of, octets_of, text_octets}
use Rattle.isis_base.specs.PrefixFronts.{address_of_octets, after_text}
use Rattle.isis_base.specs.Prefixes.{prefix_from}
use Rattle.daemon_config.specs.declared.fault.ConfigFault.TheVariants.{Refused}
use Rattle.daemon_config.specs.declared.fault.ConfigKey.TheVariants as field
use Rattle.daemon_config.specs.declared.fault.ConfigKind.TheVariants as why
use Rattle.daemon_config.specs.declared.settings.Settings.{Settings}
use Rattle.daemon_config.specs.Config.{all_known, circuit_from, circuits_from, circuits_at, prefixes_after, prefixes_at, settings_from, config_of}
use Rattle.daemon_config.specs.Examples.{example_text, example_settings, Refusal, refusals}
use Rattle.daemon_config.specs.Fields.{system_of, prefix_of, circuit_kind_of, number_within, parts_at, host_number, host_of, address_of, key_of}
use Rattle.daemon_config.specs.Steps.{Reading, ◌>>=◌, or_refused}
use Rattle.daemon_config.proofs.DocumentLemmas.{is-text}

ascii : (text : List ℕ) → list_all (λ byte. nat_lt byte 128) text ≡ true → IsAscii text
ascii [] h i = omega arith
ascii (c ∷ text) h zero = ltb-true c 128 (and_parts (nat_lt c 128) (list_all (λ byte. nat_lt byte 128) text) h).0
ascii (c ∷ text) h (suc i) = ascii text (and_parts (nat_lt c 128) (list_all (λ byte. nat_lt byte 128) text) h).1 i

-- what is read of a document
after : Option Members → Reading Settings
after o = or_refused why.Text field.Document o >>= λ document. all_known document >>= λ _. settings_from document

read : (text : List ℕ) (reading : Reading Settings) → list_all (λ byte. nat_lt byte 128) text ≡ true → after (parse_document text) ≡ reading → config_of text ≡ reading
unfolding after config_of
read text reading plain computed = ap after (is-text text (IsUtf8-from_ascii text (ascii text plain))) ∙ computed

example-computed : after (parse_document example_text) ≡ Ok example_settings
unfolding after toml_on_literals hex_on_literals all_known circuit_from circuits_from circuits_at prefixes_after prefixes_at settings_from system_of prefix_of circuit_kind_of number_within parts_at host_number host_of address_of key_of misfit_of octets_of text_octets area_of after_text address_of_octets prefix_from
example-computed = refl

pub example : config_of example_text ≡ Ok example_settings
example = read example_text (Ok example_settings) refl example-computed

abbrev AreComputed : List Refusal → Type 0
AreComputed rows = AllByRecursion (λ row. (list_all (λ byte. nat_lt byte 128) row.text ≡ true) × (after (parse_document row.text) ≡ Err (Refused row.kind row.key))) rows

refusals-computed : AreComputed refusals
unfolding after toml_on_literals hex_on_literals all_known circuit_from circuits_from circuits_at prefixes_after prefixes_at settings_from system_of prefix_of circuit_kind_of number_within parts_at host_number host_of address_of key_of misfit_of octets_of text_octets area_of after_text address_of_octets prefix_from
refusals-computed = ((refl, refl), ((refl, refl), ((refl, refl), ((refl, refl), ((refl, refl), ((refl, refl), ((refl, refl), ((refl, refl), ((refl, refl), ((refl, refl), ((refl, refl), ((refl, refl), ((refl, refl), ((refl, refl), ((refl, refl), ((refl, refl), ((refl, refl), tt)))))))))))))))))

refused-all : (rows : List Refusal) → AreComputed rows → AllByRecursion (λ row. config_of row.text ≡ Err (Refused row.kind row.key)) rows
refused-all [] h = tt
refused-all (row ∷ rows) h = (read row.text (Err (Refused row.kind row.key)) h.0.0 h.0.1, refused-all rows h.1)

pub all-refused : AllByRecursion (λ row. config_of row.text ≡ Err (Refused row.kind row.key)) refusals
all-refused = refused-all refusals refusals-computed
