-- The limits as functions say what the limits say.
use Rattle.std.proofs.Common.{◌≡◌, ◌∙◌, ℕ, ◌≤◌, List, [], ◌∷◌, eqb, Bool, true, false, ◌↔◌, Option, Some, None, refl, sym}
use Rattle.std.specs.Prelude.{◌≢◌, IsTrue, IfSome}
use Rattle.std.specs.List.{AllByRecursion, list_all, list_any}
use Rattle.std.proofs.lemmas.Bool.{and_parts, and_from, or_parts, or_from, leb-true, le-leb, eqb-false, ne_eqb, not-true, not_from_false}
use Rattle.isis_base.specs.declared.prefix.Prefix.{Prefix}
use Rattle.router_desk.specs.declared.circuit_config.CircuitConfig.{CircuitConfig}
use Rattle.router_desk.specs.declared.config.Config.{Config}
use Rattle.router_desk.specs.Limits.{IsKey, IsCircuit, AreDistinct, IsValid, numbers_of, fits_key, fits_circuit, fits_prefix, are_distinct, is_valid}

-- ---- lists

all-to : {X : Type 0} (test : X → Bool) (P : X → Type 0) → ((x : X) → test x ≡ true → P x) → (xs : List X) → list_all test xs ≡ true → AllByRecursion P xs
all-to test P each [] is = tt
all-to test P each (x ∷ xs) is =
    let parts = and_parts _ _ is in
    (each x parts.0, all-to test P each xs parts.1)

all-from : {X : Type 0} (test : X → Bool) (P : X → Type 0) → ((x : X) → P x → test x ≡ true) → (xs : List X) → AllByRecursion P xs → list_all test xs ≡ true
all-from test P each [] is = refl
all-from test P each (x ∷ xs) is = and_from _ _ (each x is.0) (all-from test P each xs is.1)

none-to : (n : ℕ) (xs : List ℕ) → list_any (λ other. eqb other n) xs ≡ false → AllByRecursion (λ other. other ≢ n) xs
none-to n [] is = tt
none-to n (x ∷ xs) is =
    let parts = or_parts _ _ is in
    (eqb-false x n parts.0, none-to n xs parts.1)

none-from : (n : ℕ) (xs : List ℕ) → AllByRecursion (λ other. other ≢ n) xs → list_any (λ other. eqb other n) xs ≡ false
none-from n [] is = refl
none-from n (x ∷ xs) is = or_from _ _ (ne_eqb x n is.0) (none-from n xs is.1)

distinct-to : (xs : List ℕ) → are_distinct xs ≡ true → AreDistinct xs
distinct-to [] is = tt
distinct-to (x ∷ xs) is =
    let parts = and_parts _ _ is in
    (none-to x xs (not-true _ parts.0), distinct-to xs parts.1)

distinct-from : (xs : List ℕ) → AreDistinct xs → are_distinct xs ≡ true
distinct-from [] is = refl
distinct-from (x ∷ xs) is = and_from _ _ (not_from_false _ (none-from x xs is.0)) (distinct-from xs is.1)

-- ---- parts

key-to : (key : Option (List ℕ)) → fits_key key ≡ true → IfSome key IsKey
key-to None is = tt
key-to (Some key) is =
    let parts = and_parts _ _ is in
    record { some = leb-true _ _ parts.0; short = leb-true _ _ parts.1 }

key-from : (key : Option (List ℕ)) → IfSome key IsKey → fits_key key ≡ true
key-from None is = refl
key-from (Some key) is = and_from _ _ (le-leb _ _ is.some) (le-leb _ _ is.short)

circuit-to : (c : CircuitConfig) → fits_circuit c ≡ true → IsCircuit c
circuit-to c is =
    let parts = and_parts _ _ is in
    let first = and_parts _ _ parts.0 in
    record { metric = leb-true _ _ first.0; priority = leb-true _ _ first.1; key = key-to c.key parts.1 }

circuit-from : (c : CircuitConfig) → IsCircuit c → fits_circuit c ≡ true
circuit-from c is = and_from _ _ (and_from _ _ (le-leb _ _ is.metric) (le-leb _ _ is.priority)) (key-from c.key is.key)

-- ---- all of them

valid-to : (config : Config) → is_valid config ≡ true → IsValid config
unfolding is_valid
valid-to config is =
    let seven = and_parts _ _ is in
    let six = and_parts _ _ seven.0 in
    let five = and_parts _ _ six.0 in
    let four = and_parts _ _ five.0 in
    let three = and_parts _ _ four.0 in
    let two = and_parts _ _ three.0 in
    let prefixes = and_parts _ _ five.1 in
    let few = and_parts _ _ prefixes.0 in
    record {
      some_area = leb-true _ _ two.0;
      areas = leb-true _ _ two.1;
      few_circuits = leb-true _ _ three.1;
      circuits = all-to fits_circuit IsCircuit circuit-to config.circuits four.1;
      few_prefixes = leb-true _ _ few.0;
      metrics = all-to fits_prefix (λ (own : Prefix × ℕ). own.1 ≤ 4261412864) (λ own is. leb-true _ _ is) config.prefixes few.1;
      once = distinct-to (numbers_of config.prefixes) prefixes.1;
      area_key = key-to config.area_key six.1;
      domain_key = key-to config.domain_key seven.1;
    }

valid-from : (config : Config) → IsValid config → is_valid config ≡ true
unfolding is_valid
valid-from config is =
    let two = and_from _ _ (le-leb _ _ is.some_area) (le-leb _ _ is.areas) in
    let three = and_from _ _ two (le-leb _ _ is.few_circuits) in
    let four = and_from _ _ three (all-from fits_circuit IsCircuit circuit-from config.circuits is.circuits) in
    let metrics = all-from fits_prefix (λ (own : Prefix × ℕ). own.1 ≤ 4261412864) (λ own is. le-leb _ _ is) config.prefixes is.metrics in
    let prefixes = and_from _ _ (and_from _ _ (le-leb _ _ is.few_prefixes) metrics) (distinct-from (numbers_of config.prefixes) is.once) in
    and_from _ _ (and_from _ _ (and_from _ _ four prefixes) (key-from config.area_key is.area_key)) (key-from config.domain_key is.domain_key)

pub valid-iff : (config : Config) (answer : Bool) → answer ≡ is_valid config → IsTrue answer ↔ IsValid config
valid-iff config answer is = (λ yes. valid-to config (sym is ∙ yes), λ valid. is ∙ valid-from config valid)
