-- What is read is within the limits.
use Rattle.std.proofs.Common.{◌≡◌, ◌∙◌, ℕ, suc, ◌+◌, ◌≤◌, true, false, cond, List, [], ◌∷◌, ◌++◌, length, map, Option, Some, None, Ok, Err, refl, sym, ap, subst, arith}
use Rattle.std.specs.Prelude.{◌≢◌, ◌==◌, ℤ, pos, negsuc, nat_le, ◌&&◌, option_and_then, IfSome}
use Rattle.std.specs.List.{AllByRecursion, list_any}
use Rattle.std.specs.Result.{result_ok}
use Rattle.std.proofs.lemmas.Bool.{and_parts, or_parts, leb-true, eqb-false}
use Rattle.std.proofs.lemmas.List.{length-map}
use Rattle.hex.specs.Hex.{decode_of}
use Rattle.toml.specs.Data.{Data, Members, as_integer, as_str, as_table}
use Rattle.isis_base.specs.declared.prefix.Prefix.{Prefix}
use Rattle.isis_base.specs.AreaTexts.{area_of}
use Rattle.isis_base.specs.Levels.{levels_of}
use Rattle.router_desk.specs.declared.circuit_config.CircuitConfig.{CircuitConfig}
use Rattle.isis_base.specs.Prefixes.{prefix_number}
use Rattle.router_desk.specs.Limits.{IsKey, IsCircuit, IsValid, AreDistinct, numbers_of}
use Rattle.daemon_config.specs.declared.fault.ConfigKey.{ConfigKey}
use Rattle.daemon_config.specs.declared.fault.ConfigKey.TheVariants as field
use Rattle.daemon_config.specs.declared.fault.ConfigKind.{ConfigKind}
use Rattle.daemon_config.specs.declared.fault.ConfigKind.TheVariants as why
use Rattle.daemon_config.specs.declared.settings.CircuitRead.{CircuitRead}
use Rattle.daemon_config.specs.declared.settings.CircuitsRead.{CircuitsRead}
use Rattle.daemon_config.specs.declared.settings.Settings.{Settings}
use Rattle.daemon_config.specs.Steps.{Reading, ◌>>=◌, or_refused, each}
use Rattle.daemon_config.specs.Documents.{list_at, all_seen}
use Rattle.daemon_config.specs.Fields.{system_of, prefix_of, circuit_kind_of, host_of, address_of, key_within, key_of}
use Rattle.daemon_config.specs.Shapes.{found, wanted, where_given, otherwise, perhaps, text, letters, flag, up_to, number, so_many, list, all_said, texts, tables}
use Rattle.daemon_config.specs.Config.{most_peers, circuit_from, circuits_from, circuits_at, unless_named, prefixes_after, prefixes_at, settings_from}

-- ---- readings

-- a reading of two steps gave a value: so did both
record Two {A B : Type 0} (first : Reading A) (next : A → Reading B) (y : B) : Type 0 where
  value : A
  was : first ≡ Ok value
  then : next value ≡ Ok y

two : {A B : Type 0} (first : Reading A) (next : A → Reading B) (y : B) → (first >>= next) ≡ Ok y → Two first next y
two (Ok x) next y is = record { value = x; was = refl; then = is }
two (Err fault) next y is = cc

there : {A : Type 0} (reason : ConfigKind) (key : ConfigKey) (o : Option A) (x : A) → or_refused reason key o ≡ Ok x → o ≡ Some x
there reason key None x is = cc
there reason key (Some y) x is = cc

ok-same : {A : Type 0} (x y : A) → ◌≡◌ {A = Reading A} (Ok x) (Ok y) → x ≡ y
ok-same x y is = cc

each-length : {A B : Type 0} (read : A → Reading B) (xs : List A) (ys : List B) → each read xs ≡ Ok ys → length ys ≡ length xs
each-length read [] ys is = cc
each-length read (x ∷ xs) ys is =
    let first = two (read x) (λ y. each read xs >>= λ ys. Ok (y ∷ ys)) ys is in
    let rest = two (each read xs) (λ ys. Ok (first.value ∷ ys)) ys first.then in
    let tail = each-length read xs rest.value rest.was in
    let whole : first.value ∷ rest.value ≡ ys = cc in
    subst (λ (ys : List _). length ys ≡ suc (length xs)) whole (ap suc tail)

each-all : {A B : Type 0} (read : A → Reading B) (P : B → Type 0) → ((x : A) (y : B) → read x ≡ Ok y → P y) → (xs : List A) (ys : List B) → each read xs ≡ Ok ys → AllByRecursion P ys
each-all read P every [] [] is = tt
each-all read P every [] (y ∷ ys) is = cc
each-all read P every (x ∷ xs) ys is =
    let first = two (read x) (λ y. each read xs >>= λ ys. Ok (y ∷ ys)) ys is in
    let rest = two (each read xs) (λ ys. Ok (first.value ∷ ys)) ys first.then in
    let whole : first.value ∷ rest.value ≡ ys = cc in
    subst (λ (ys : List _). AllByRecursion P ys) whole (every x first.value first.was, each-all read P every xs rest.value rest.was)

-- ---- numbers, keys and lists

up-to : (most : ℕ) (z : ℤ) (n : ℕ) → up_to most z ≡ Some n → n ≤ most
up-to most (negsuc m) n is = cc
up-to most (pos m) n is =
    elim (nat_le m most) as (λ t. nat_le m most ≡ t → cond t (Some m) None ≡ Some n → n ≤ most) [
      | true ↦ λ test is. let same : m ≡ n = cc in subst (λ (n : ℕ). n ≤ most) same (leb-true m most test)
      | false ↦ λ test is. cc
    ] refl is

number-fits : (most : ℕ) (key : ConfigKey) (d : Data) (n : ℕ) → number most key d ≡ Ok n → n ≤ most
number-fits most key d n is =
    let first = two (or_refused why.Kind key (as_integer d)) (λ z. or_refused why.Value key (up_to most z)) n is in
    up-to most first.value n (there why.Value key (up_to most first.value) n first.then)

given-fits : (P : ℕ → Type 0) (default : ℕ) (read : Data → Reading ℕ) → P default → ((d : Data) (n : ℕ) → read d ≡ Ok n → P n) → (o : Option Data) (n : ℕ) → where_given default read o ≡ Ok n → P n
given-fits P default read here every None n is = subst P (ok-same default n is) here
given-fits P default read here every (Some d) n is = every d n is

number-or-fits : (default most : ℕ) (key : ConfigKey) (table : Members) (n : ℕ) → default ≤ most → otherwise default key (number most) table ≡ Ok n → n ≤ most
number-or-fits default most key table n here is = given-fits (λ n. n ≤ most) default (number most key) here (number-fits most key) (found key table) n is

within-key : (octets key : List ℕ) → key_within octets ≡ Some key → IsKey key
within-key octets key is =
    elim (nat_le 1 (length octets) && nat_le (length octets) 128) as (λ t. (nat_le 1 (length octets) && nat_le (length octets) 128) ≡ t → cond t (Some octets) None ≡ Some key → IsKey key) [
      | true ↦ λ test is.
          let parts = and_parts (nat_le 1 (length octets)) (nat_le (length octets) 128) test in
          let same : octets ≡ key = cc in
          subst IsKey same (record { some = leb-true 1 _ parts.0; short = leb-true _ 128 parts.1 })
      | false ↦ λ test is. cc
    ] refl is

key-within : (o : Option (List ℕ)) (key : List ℕ) → option_and_then key_within o ≡ Some key → IsKey key
key-within None key is = cc
key-within (Some octets) key is = within-key octets key is

is-key : (letters key : List ℕ) → key_of letters ≡ Some key → IsKey key
unfolding key_of
is-key letters key is = key-within (result_ok (decode_of letters)) key is

text-key : (key : ConfigKey) (d : Data) (octets : List ℕ) → text key_of key d ≡ Ok octets → IsKey octets
text-key key d octets is =
    let first = two (letters key d) (λ t. or_refused why.Value key (key_of t)) octets is in
    is-key first.value octets (there why.Value key (key_of first.value) octets first.then)

given-key : (key : ConfigKey) (o : Option Data) (octets : Option (List ℕ)) → where_given None (λ d. text key_of key d >>= λ x. Ok (Some x)) o ≡ Ok octets → IfSome octets IsKey
given-key key None octets is = subst (λ (o : Option (List ℕ)). IfSome o IsKey) (ok-same None octets is) tt
given-key key (Some d) octets is =
    let first = two (text key_of key d) (λ x. Ok (Some x)) octets is in
    subst (λ (o : Option (List ℕ)). IfSome o IsKey) (ok-same (Some first.value) octets first.then) (text-key key d first.value first.was)

perhaps-key : (key : ConfigKey) (table : Members) (octets : Option (List ℕ)) → perhaps key (text key_of) table ≡ Ok octets → IfSome octets IsKey
perhaps-key key table octets is = given-key key (found key table) octets is

record Many (least most n : ℕ) : Type 0 where
  low : least ≤ n
  high : n ≤ most

so-many : {A : Type 0} (least most : ℕ) (xs ys : List A) → so_many least most xs ≡ Some ys → Many least most (length ys)
so-many least most xs ys is =
    elim (nat_le least (length xs) && nat_le (length xs) most) as (λ t. (nat_le least (length xs) && nat_le (length xs) most) ≡ t → cond t (Some xs) None ≡ Some ys → Many least most (length ys)) [
      | true ↦ λ test is.
          let parts = and_parts (nat_le least (length xs)) (nat_le (length xs) most) test in
          let same : xs ≡ ys = cc in
          subst (λ (ys : List _). Many least most (length ys)) same (record { low = leb-true least _ parts.0; high = leb-true _ most parts.1 })
      | false ↦ λ test is. cc
    ] refl is

list-many : {A : Type 0} (seen : Data → Option A) (least most : ℕ) (key : ConfigKey) (d : Data) (xs : List A) → list seen least most key d ≡ Ok xs → Many least most (length xs)
list-many seen least most key d xs is =
    let first = two (or_refused why.Kind key (list_at d)) (λ items. or_refused why.Kind key (all_seen seen items) >>= λ all. or_refused why.Value key (so_many least most all)) xs is in
    let second = two (or_refused why.Kind key (all_seen seen first.value)) (λ all. or_refused why.Value key (so_many least most all)) xs first.then in
    so-many least most second.value xs (there why.Value key (so_many least most second.value) xs second.then)

texts-many : {A : Type 0} (least most : ℕ) (says : List ℕ → Option A) (key : ConfigKey) (d : Data) (xs : List A) → texts least most says key d ≡ Ok xs → Many least most (length xs)
texts-many {A = A} least most says key d xs is =
    let first = two (list as_str least most key d) (all_said says key) xs is in
    let size = each-length (λ letters. or_refused why.Value key (says letters)) first.value xs first.then in
    subst (λ (n : ℕ). Many least most n) (sym size) (list-many as_str least most key d first.value first.was)

wanted-value : {A : Type 0} (key : ConfigKey) (read : ConfigKey → Data → Reading A) (table : Members) (x : A) → wanted key read table ≡ Ok x → Two (or_refused why.Missing key (found key table)) (λ d. read key d) x
wanted-value key read table x is = two (or_refused why.Missing key (found key table)) (λ d. read key d) x is

-- ---- circuits

circuit-fits : (table : Members) (c : CircuitRead) → circuit_from table ≡ Ok c → IsCircuit c.config
unfolding circuit_from
circuit-fits table c is =
    let kind = two (wanted field.Kind (text circuit_kind_of) table) _ c is in
    let bind = two (wanted field.Bind (text address_of) table) _ c kind.then in
    let peers = two (wanted field.Peers (texts 1 (most_peers kind.value) address_of) table) _ c bind.then in
    let metric = two (otherwise 10 field.Metric (number 16777215) table) _ c peers.then in
    let priority = two (otherwise 64 field.Priority (number 127) table) _ c metric.then in
    let address = two (perhaps field.Address (text host_of) table) _ c priority.then in
    let key = two (perhaps field.Key (text key_of) table) _ c address.then in
    let native = two (otherwise false field.Native flag table) _ c key.then in
    subst (λ (c : CircuitRead). IsCircuit c.config) (ok-same _ c native.then)
    (record {
      metric = number-or-fits 10 16777215 field.Metric table metric.value (omega arith) metric.was;
      priority = number-or-fits 64 127 field.Priority table priority.value (omega arith) priority.was;
      key = perhaps-key field.Key table key.value key.was;
    })

mapped : (P : CircuitConfig → Type 0) (all : List CircuitRead) → AllByRecursion (λ c. P c.config) all → AllByRecursion P (map (λ (c : CircuitRead). c.config) all)
mapped P [] h = tt
mapped P (c ∷ all) h = (h.0, mapped P all h.1)

record AreCircuits (read : CircuitsRead) : Type 0 where
  some : 1 ≤ length read.circuits
  few : length read.circuits ≤ 64
  each : AllByRecursion IsCircuit read.circuits
  places : length read.places ≡ length read.circuits

circuits-fit : (tables : List Members) (read : CircuitsRead) → Many 1 64 (length tables) → circuits_from tables ≡ Ok read → AreCircuits read
unfolding circuits_from
circuits-fit tables read many is =
    let all = two (each circuit_from tables) _ read is in
    let size = each-length circuit_from tables all.value all.was in
    let configs = length-map all.value (λ (c : CircuitRead). c.config) in
    let places = length-map all.value (λ (c : CircuitRead). c.place) in
    subst AreCircuits (ok-same _ read all.then)
    (record {
      some = omega (arith, configs, size, many.low);
      few = omega (arith, configs, size, many.high);
      each = mapped IsCircuit all.value (each-all circuit_from (λ c. IsCircuit c.config) circuit-fits tables all.value all.was);
      places = places ∙ sym configs;
    })

circuits-at : (top : Members) (read : CircuitsRead) → circuits_at top ≡ Ok read → AreCircuits read
unfolding circuits_at
circuits-at top read is =
    let first = two (wanted field.Circuit (tables 1 64) top) circuits_from read is in
    let value = wanted-value field.Circuit (tables 1 64) top first.value first.was in
    circuits-fit first.value read (list-many as_table 1 64 field.Circuit value.value first.value value.then) first.then

-- ---- prefixes

differs-all : (n : ℕ) (xs : List ℕ) (x : ℕ) → AllByRecursion (λ other. other ≢ x) xs → n ≢ x → AllByRecursion (λ other. other ≢ x) (xs ++ n ∷ [])
differs-all n [] x h other = (other, tt)
differs-all n (y ∷ xs) x h other = (h.0, differs-all n xs x h.1 other)

distinct-more : (xs : List ℕ) (n : ℕ) → AreDistinct xs → list_any (λ m. m == n) xs ≡ false → AreDistinct (xs ++ n ∷ [])
distinct-more [] n h fresh = (tt, tt)
distinct-more (x ∷ xs) n h fresh =
    let parts = or_parts (x == n) (list_any (λ m. m == n) xs) fresh in
    let other : n ≢ x = λ e. eqb-false x n parts.0 (sym e) in
    (differs-all n xs x h.0 other, distinct-more xs n h.1 parts.1)

numbers-more : (before : List (Prefix × ℕ)) (prefix : Prefix) (metric : ℕ) → numbers_of (before ++ (prefix, metric) ∷ []) ≡ numbers_of before ++ prefix_number prefix ∷ []
numbers-more [] prefix metric = refl
numbers-more (own ∷ before) prefix metric = ap (λ (ns : List ℕ). prefix_number own.0 ∷ ns) (numbers-more before prefix metric)

metrics-more : (before : List (Prefix × ℕ)) (prefix : Prefix) (metric : ℕ) → AllByRecursion (λ own. own.1 ≤ 4261412864) before → metric ≤ 4261412864 → AllByRecursion (λ own. own.1 ≤ 4261412864) (before ++ (prefix, metric) ∷ [])
metrics-more [] prefix metric h low = (low, tt)
metrics-more (own ∷ before) prefix metric h low = (h.0, metrics-more before prefix metric h.1 low)

fresh-named : (before : List (Prefix × ℕ)) (named prefix : Prefix) → unless_named before named ≡ Some prefix → list_any (λ n. n == prefix_number prefix) (numbers_of before) ≡ false
fresh-named before named prefix is =
    elim (list_any (λ n. n == prefix_number named) (numbers_of before)) as (λ t. list_any (λ n. n == prefix_number named) (numbers_of before) ≡ t → cond t None (Some named) ≡ Some prefix → list_any (λ n. n == prefix_number prefix) (numbers_of before) ≡ false) [
      | true ↦ λ test is. cc
      | false ↦ λ test is. let same : named ≡ prefix = cc in subst (λ (p : Prefix). list_any (λ n. n == prefix_number p) (numbers_of before) ≡ false) same test
    ] refl is

record ArePrefixes (most : ℕ) (list : List (Prefix × ℕ)) : Type 0 where
  few : length list ≤ most
  metrics : AllByRecursion (λ own. own.1 ≤ 4261412864) list
  once : AreDistinct (numbers_of list)

length-more : (before : List (Prefix × ℕ)) (own : Prefix × ℕ) → length (before ++ own ∷ []) ≡ length before + 1
length-more [] own = refl
length-more (x ∷ before) own = omega (arith, length-more before own)

prefixes-fit : (before : List (Prefix × ℕ)) (tables : List Members) (list : List (Prefix × ℕ)) (most : ℕ) → ArePrefixes most before → length before + length tables ≤ most → prefixes_after before tables ≡ Ok list → ArePrefixes most list
unfolding prefixes_after
prefixes-fit before [] list most h size is = subst (λ (list : List (Prefix × ℕ)). ArePrefixes most list) (ok-same before list is) h
prefixes-fit before (table ∷ tables) list most h size is =
    let named = two (wanted field.Prefix (text prefix_of) table) _ list is in
    let prefix = two (or_refused why.Value field.Prefix (unless_named before named.value)) _ list named.then in
    let metric = two (otherwise 10 field.PrefixMetric (number 4261412864) table) _ list prefix.then in
    let fresh = fresh-named before named.value prefix.value (there why.Value field.Prefix _ prefix.value prefix.was) in
    let low = number-or-fits 10 4261412864 field.PrefixMetric table metric.value (omega arith) metric.was in
    let longer = length-more before (prefix.value, metric.value) in
    prefixes-fit (before ++ (prefix.value, metric.value) ∷ []) tables list most
    (record {
      few = omega (arith, longer, size);
      metrics = metrics-more before prefix.value metric.value h.metrics low;
      once = subst AreDistinct (sym (numbers-more before prefix.value metric.value)) (distinct-more (numbers_of before) (prefix_number prefix.value) h.once fresh);
    })
    (omega (arith, longer, size)) metric.then

no-prefixes : ArePrefixes 4096 []
no-prefixes = record { few = omega arith; metrics = tt; once = tt }

given-many : (o : Option Data) (xs : List Members) → where_given [] (tables 0 4096 field.Prefix) o ≡ Ok xs → length xs ≤ 4096
given-many None xs is = subst (λ (xs : List Members). length xs ≤ 4096) (ok-same [] xs is) (omega arith)
given-many (Some d) xs is = (list-many as_table 0 4096 field.Prefix d xs is).high

prefixes-at : (top : Members) (list : List (Prefix × ℕ)) → prefixes_at top ≡ Ok list → ArePrefixes 4096 list
unfolding prefixes_at
prefixes-at top list is =
    let first = two (otherwise [] field.Prefix (tables 0 4096) top) (prefixes_after []) list is in
    prefixes-fit [] first.value list 4096 no-prefixes (omega (arith, given-many (found field.Prefix top) first.value first.was)) first.then

-- ---- the whole

-- the settings that are read are within the limits, with a place for each circuit
pub record AreFit (settings : Settings) : Type 0 where
  pub valid : IsValid settings.config
  pub placed : length settings.places ≡ length settings.config.circuits
  pub some : 1 ≤ length settings.places
  pub few : length settings.places ≤ 64

pub settings-fit : (top : Members) (settings : Settings) → settings_from top ≡ Ok settings → AreFit settings
unfolding settings_from
settings-fit top settings is =
    let system = two (wanted field.System (text system_of) top) _ settings is in
    let areas = two (wanted field.Areas (texts 1 3 area_of) top) _ settings system.then in
    let levels = two (wanted field.Level (text levels_of) top) _ settings areas.then in
    let leak = two (otherwise false field.Leak flag top) _ settings levels.then in
    let overload = two (otherwise false field.Overload flag top) _ settings leak.then in
    let area_key = two (perhaps field.AreaKey (text key_of) top) _ settings overload.then in
    let domain_key = two (perhaps field.DomainKey (text key_of) top) _ settings area_key.then in
    let circuits = two (circuits_at top) _ settings domain_key.then in
    let prefixes = two (prefixes_at top) _ settings circuits.then in
    let value = wanted-value field.Areas (texts 1 3 area_of) top areas.value areas.was in
    let number = texts-many 1 3 area_of field.Areas value.value areas.value value.then in
    let each = circuits-at top circuits.value circuits.was in
    let own = prefixes-at top prefixes.value prefixes.was in
    subst AreFit (ok-same _ settings prefixes.then)
    (record {
      valid = record {
        some_area = number.low;
        areas = number.high;
        few_circuits = each.few;
        circuits = each.each;
        few_prefixes = own.few;
        metrics = own.metrics;
        once = own.once;
        area_key = perhaps-key field.AreaKey top area_key.value area_key.was;
        domain_key = perhaps-key field.DomainKey top domain_key.value domain_key.was;
      };
      placed = each.places;
      some = omega (arith, each.places, each.some);
      few = omega (arith, each.places, each.few);
    })
