-- The shapes of a configuration's keys: wanted or not, and a text, a flag, a number, a list of
-- texts or of tables (own).
use Rattle.std.specs.Prelude.{ℕ, ℤ, pos, negsuc, nat_le, ◌&&◌, Bool, List, length, Option, Some, None, Ok, if◌then◌else◌}
use Rattle.toml.specs.Data.{Data, Members, get_member, as_str, as_integer, as_bool, as_table}
use Rattle.daemon_config.specs.declared.fault.ConfigKey.{ConfigKey}
use Rattle.daemon_config.specs.declared.fault.ConfigKind.TheVariants as why
use Rattle.daemon_config.specs.Words.{member_name}
use Rattle.daemon_config.specs.Steps.{Reading, ◌>>=◌, or_refused, each}
use Rattle.daemon_config.specs.Documents.{list_at, all_seen}

-- what a table has at a key
abbrev pub found : ConfigKey → Members → Option Data
found key table = get_member (member_name key) table

-- ---- whether a key must be there

-- a key that a table must have
abbrev pub wanted : {A : Type 0} → ConfigKey → (ConfigKey → Data → Reading A) → Members → Reading A
wanted key read table = do
  d ← or_refused why.Missing key (found key table)
  read key d

-- what is read where something is given, and what holds where nothing is
abbrev pub where_given : {A : Type 0} → A → (Data → Reading A) → Option Data → Reading A
where_given default read None = Ok default
where_given default read (Some d) = read d

-- a key that a table may lack, with what then holds
abbrev pub otherwise : {A : Type 0} → A → ConfigKey → (ConfigKey → Data → Reading A) → Members
    → Reading A
otherwise default key read table = where_given default (read key) (found key table)

-- a key that a table may lack
abbrev pub perhaps : {A : Type 0} → ConfigKey → (ConfigKey → Data → Reading A) → Members
    → Reading (Option A)
perhaps key read table = otherwise None key (λ key d. read key d >>= λ x. Ok (Some x)) table

-- ---- what stands at a key

-- a text
abbrev pub letters : ConfigKey → Data → Reading (List ℕ)
letters key d = or_refused why.Kind key (as_str d)

-- a text that says something
abbrev pub text : {A : Type 0} → (List ℕ → Option A) → ConfigKey → Data → Reading A
text says key d = do
  text ← letters key d
  or_refused why.Value key (says text)

-- true or false
abbrev pub flag : ConfigKey → Data → Reading Bool
flag key d = or_refused why.Kind key (as_bool d)

-- an integer from 0 up to a greatest
abbrev pub up_to : ℕ → ℤ → Option ℕ
up_to most (pos n) = if nat_le n most then Some n else None
up_to most (negsuc n) = None

-- a number
abbrev pub number : ℕ → ConfigKey → Data → Reading ℕ
number most key d = do
  n ← or_refused why.Kind key (as_integer d)
  or_refused why.Value key (up_to most n)

-- a list, where its items are so many as they may be
abbrev pub so_many : {A : Type 0} → ℕ → ℕ → List A → Option (List A)
so_many least most list =
    if nat_le least (length list) && nat_le (length list) most then Some list else None

-- a list of so many items of one kind
abbrev pub list : {A : Type 0} → (Data → Option A) → ℕ → ℕ → ConfigKey → Data → Reading (List A)
list seen least most key d = do
  items ← or_refused why.Kind key (list_at d)
  all ← or_refused why.Kind key (all_seen seen items)
  or_refused why.Value key (so_many least most all)

-- texts, each of which says something
abbrev pub all_said : {A : Type 0} → (List ℕ → Option A) → ConfigKey → List (List ℕ)
    → Reading (List A)
all_said says key all = each (λ text. or_refused why.Value key (says text)) all

-- a list of so many texts, each of which says something
abbrev pub texts : {A : Type 0} → ℕ → ℕ → (List ℕ → Option A) → ConfigKey → Data
    → Reading (List A)
texts least most says key d = do
  all ← list as_str least most key d
  all_said says key all

-- a list of so many tables
abbrev pub tables : ℕ → ℕ → ConfigKey → Data → Reading (List Members)
tables least most key d = list as_table least most key d
