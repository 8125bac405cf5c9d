-- Prefixes, read off the front of octets.
use Rattle.std.proofs.Common.{◌≡◌, ℕ, zero, suc, ◌+◌, ◌-◌, ◌*◌, ◌/◌, ◌%◌, ◌^◌, ◌<◌, ◌≤◌, List, ◌∷◌, ◌++◌, length, take, drop, get_or, Bool, true, false, cond, eqb, Option, Some, None, option_and_then, refl, sym, ap, subst, ◌∙◌, arith, length-append, append_assoc}
use Rattle.std.proofs.lemmas.Bool.{lt-leb}
use Rattle.std.proofs.lemmas.List.{take_at, length-take-le, get_or-append_right}
use Rattle.std.proofs.lemmas.Nat.{shr_split, mod-pow-add}
use Rattle.std.specs.Int.{bit_at}
use Rattle.isis_base.specs.Fields.{u32_at, u32_octets}
use Rattle.isis_tlv.specs.Items.{item_of_size, prefix_at, octets_for, clear_past, address_of, subs_at}
use Rattle.isis_base.specs.declared.prefix.Prefix.{Prefix}
use Rattle.isis_base.specs.Prefixes.{prefix_from}
use Rattle.isis_base.proofs.PrefixValues.{prefix_from-prefix, prefix_from-long}
use Rattle.isis_tlv.specs.declared.prefix.PrefixItem.{PrefixItem}
use Rattle.isis_tlv.specs.Spelling.{prefix_octets, prefix_with_subs}
use Rattle.isis_tlv.specs.Fits.{IsPrefix}
use Rattle.isis_tlv.proofs.RoundLemmas.{IsReadBack, item_of_size-fits, four-reads_back}

-- no bits in the last k, so none in the last j of them
low-clear : (n j k : ℕ) → j ≤ k → n % 2 ^ k ≡ 0 → n % 2 ^ j ≡ 0
low-clear n j k h e =
    let split : n % 2 ^ (k - j + j) ≡ (n / 2 ^ j % 2 ^ (k - j)) * 2 ^ j + n % 2 ^ j = mod-pow-add n (k - j) j in
    let whole : k - j + j ≡ k = omega arith in
    let none : n % 2 ^ (k - j + j) ≡ 0 = ap (λ (m : ℕ). n % 2 ^ m) whole ∙ e in
    omega arith

-- the first octets of an address whose other octets are 0 give the address
held-reads_back : (count address : ℕ) → count ≤ 4 → address < 4294967296 → address % 2 ^ (32 - 8 * count) ≡ 0 → u32_at 0 (take count (u32_octets address)) ≡ address
held-reads_back zero a h small e = omega arith
held-reads_back (suc zero) a h small e = omega arith
held-reads_back (suc (suc zero)) a h small e = omega arith
held-reads_back (suc (suc (suc zero))) a h small e = omega arith
held-reads_back (suc (suc (suc (suc zero)))) a h small e = four-reads_back a small
held-reads_back (suc (suc (suc (suc (suc n))))) a h small e = absurd (omega arith)

address-reads_back : (bits address : ℕ) → bits ≤ 32 → address < 4294967296 → address % 2 ^ (32 - bits) ≡ 0 → clear_past bits (u32_at 0 (take (octets_for bits) (u32_octets address))) ≡ address
address-reads_back bits address h small clear =
    let held = held-reads_back (octets_for bits) address (omega arith) small (low-clear address (32 - 8 * octets_for bits) (32 - bits) (omega arith) clear) in
    let same : clear_past bits address ≡ address = omega (arith, shr_split address (32 - bits)) in
    ap (clear_past bits) held ∙ same

-- what is read of a prefix, by its length, its mark for sub-TLVs and its other mark
abbrev read_by : List ℕ → ℕ → Bool → Bool → Option (PrefixItem × ℕ)
read_by octets bits subs down =
    option_and_then
    (λ (prefix : Prefix). item_of_size (5 + octets_for bits + cond subs (1 + get_or octets (5 + octets_for bits) 0) 0) octets (record { prefix = prefix; metric = u32_at 0 octets; down = down }))
    (prefix_from (address_of bits (drop 5 octets)) bits)

length-mark : (down : Bool) (bits : ℕ) → bits ≤ 32 → (cond down 128 0 + bits) % 64 ≡ bits
length-mark true bits h = omega arith
length-mark false bits h = omega arith

subs-mark : (down : Bool) (bits : ℕ) → bits ≤ 32 → eqb (bit_at (cond down 128 0 + bits) 6) 1 ≡ false
subs-mark true bits h = let none : (128 + bits) / 64 % 2 ≡ 0 = omega arith in ap (λ (n : ℕ). eqb n 1) none
subs-mark false bits h = let none : (0 + bits) / 64 % 2 ≡ 0 = omega arith in ap (λ (n : ℕ). eqb n 1) none

down-mark : (down : Bool) (bits : ℕ) → bits ≤ 32 → eqb (bit_at (cond down 128 0 + bits) 7) 1 ≡ down
down-mark true bits h = let one : (128 + bits) / 128 % 2 ≡ 1 = omega arith in ap (λ (n : ℕ). eqb n 1) one
down-mark false bits h = let none : (0 + bits) / 128 % 2 ≡ 0 = omega arith in ap (λ (n : ℕ). eqb n 1) none

pub prefix-reads_back : IsReadBack prefix_at prefix_octets IsPrefix
prefix-reads_back item rest is =
    let prefix = item.prefix in
    let bits = prefix.length in
    let count = octets_for bits in
    let held = take count (u32_octets prefix.address) in
    let octets = prefix_octets item ++ rest in
    let within = prefix.fits in
    let control = cond item.down 128 0 + bits in
    let few : count ≤ 4 = omega arith in
    let many : length held ≡ count = length-take-le count (u32_octets prefix.address) few in
    let address : address_of bits (held ++ rest) ≡ prefix.address = ap (λ (s : List ℕ). clear_past bits (u32_at 0 s)) (take_at held rest count many) ∙ address-reads_back bits prefix.address prefix.fits is.address prefix.clear in
    let metric = four-reads_back item.metric is.metric in
    ap (λ (n : ℕ). read_by octets n (eqb (bit_at control 6) 1) (eqb (bit_at control 7) 1)) (length-mark item.down bits prefix.fits)
    ∙ ap (λ (t : Bool). read_by octets bits t (eqb (bit_at control 7) 1)) (subs-mark item.down bits prefix.fits)
    ∙ ap (λ (t : Bool). read_by octets bits false t) (down-mark item.down bits prefix.fits)
    ∙ ap (option_and_then (λ (p : Prefix). item_of_size {X = PrefixItem} (5 + count + 0) octets (record { prefix = p; metric = u32_at 0 octets; down = item.down })))
    (ap (λ (a : ℕ). prefix_from a bits) address ∙ prefix_from-prefix prefix prefix.address bits refl refl)
    ∙ item_of_size-fits {X = PrefixItem} (5 + count + 0) octets (record { prefix = prefix; metric = u32_at 0 octets; down = item.down }) (let all = length-append held rest in omega arith)
    ∙ (λ i. Some (record { prefix = prefix; metric = metric i; down = item.down }, 5 + count + 0))
    ∙ ap (λ (n : ℕ). Some (item, n)) (omega arith)

subs-there : (down : Bool) (bits : ℕ) → bits ≤ 32 → eqb (bit_at (cond down 128 0 + 64 + bits) 6) 1 ≡ true
subs-there true bits h = let one : (128 + 64 + bits) / 64 % 2 ≡ 1 = omega arith in ap (λ (n : ℕ). eqb n 1) one
subs-there false bits h = let one : (0 + 64 + bits) / 64 % 2 ≡ 1 = omega arith in ap (λ (n : ℕ). eqb n 1) one

length-there : (down : Bool) (bits : ℕ) → bits ≤ 32 → (cond down 128 0 + 64 + bits) % 64 ≡ bits
length-there true bits h = omega arith
length-there false bits h = omega arith

down-there : (down : Bool) (bits : ℕ) → bits ≤ 32 → eqb (bit_at (cond down 128 0 + 64 + bits) 7) 1 ≡ down
down-there true bits h = let one : (128 + 64 + bits) / 128 % 2 ≡ 1 = omega arith in ap (λ (n : ℕ). eqb n 1) one
down-there false bits h = let none : (0 + 64 + bits) / 128 % 2 ≡ 0 = omega arith in ap (λ (n : ℕ). eqb n 1) none

-- a prefix with sub-TLVs reads as the prefix, whatever they are
pub prefix-subs : (item : PrefixItem) (subs rest : List ℕ) → IsPrefix item → prefix_at (prefix_with_subs item subs ++ rest) ≡ Some (item, 6 + octets_for item.prefix.length + length subs)
prefix-subs item subs rest is =
    let prefix = item.prefix in
    let bits = prefix.length in
    let count = octets_for bits in
    let held = take count (u32_octets prefix.address) in
    let behind = length subs ∷ (subs ++ rest) in
    let octets = u32_octets item.metric ++ (cond item.down 128 0 + 64 + bits) ∷ (held ++ behind) in
    let same : prefix_with_subs item subs ++ rest ≡ octets = ap (λ (xs : List ℕ). u32_octets item.metric ++ (cond item.down 128 0 + 64 + bits) ∷ xs) (append_assoc held (length subs ∷ subs) rest) in
    let within = prefix.fits in
    let control = cond item.down 128 0 + 64 + bits in
    let few : count ≤ 4 = omega arith in
    let many : length held ≡ count = length-take-le count (u32_octets prefix.address) few in
    let address : address_of bits (held ++ behind) ≡ prefix.address = ap (λ (s : List ℕ). clear_past bits (u32_at 0 s)) (take_at held behind count many) ∙ address-reads_back bits prefix.address prefix.fits is.address prefix.clear in
    let metric = four-reads_back item.metric is.metric in
    let front = u32_octets item.metric ++ control ∷ held in
    let place : 5 + count - (5 + count) ≡ 0 = omega arith in
    let long : get_or octets (5 + count) 0 ≡ length subs = get_or-append_right front behind (5 + count) (5 + count) 0 (omega (arith, many)) (omega arith) ∙ ap (λ (i : ℕ). get_or behind i 0) place in
    let size = 5 + count + (1 + length subs) in
    let all = length-append held behind in
    let more = length-append subs rest in
    ap prefix_at same
    ∙ ap (λ (n : ℕ). read_by octets n (eqb (bit_at control 6) 1) (eqb (bit_at control 7) 1)) (length-there item.down bits prefix.fits)
    ∙ ap (λ (t : Bool). read_by octets bits t (eqb (bit_at control 7) 1)) (subs-there item.down bits prefix.fits)
    ∙ ap (λ (t : Bool). read_by octets bits true t) (down-there item.down bits prefix.fits)
    ∙ ap (λ (n : ℕ). option_and_then (λ (p : Prefix). item_of_size {X = PrefixItem} (5 + count + (1 + n)) octets (record { prefix = p; metric = u32_at 0 octets; down = item.down })) (prefix_from (address_of bits (held ++ behind)) bits)) long
    ∙ ap (option_and_then (λ (p : Prefix). item_of_size {X = PrefixItem} size octets (record { prefix = p; metric = u32_at 0 octets; down = item.down })))
    (ap (λ (a : ℕ). prefix_from a bits) address ∙ prefix_from-prefix prefix prefix.address bits refl refl)
    ∙ item_of_size-fits {X = PrefixItem} size octets (record { prefix = prefix; metric = u32_at 0 octets; down = item.down }) (omega arith)
    ∙ (λ i. Some (record { prefix = prefix; metric = metric i; down = item.down }, size))
    ∙ ap (λ (n : ℕ). Some (item, n)) (omega arith)

-- what is read, by the control octet and the length
abbrev pub read_from : List ℕ → ℕ → ℕ → Option (PrefixItem × ℕ)
read_from octets control bits =
    option_and_then
    (λ (prefix : Prefix). item_of_size (5 + octets_for bits + subs_at control (5 + octets_for bits) octets) octets (record { prefix = prefix; metric = u32_at 0 octets; down = eqb (bit_at control 7) 1 }))
    (prefix_from (address_of bits (drop 5 octets)) bits)

read_from-all : (octets : List ℕ) (control bits : ℕ) → control ≡ get_or octets 4 0 → bits ≡ control % 64 → read_from octets control bits ≡ prefix_at octets
read_from-all octets control bits is low =
    ap (read_from octets control) low ∙ ap (λ (c : ℕ). read_from octets c (c % 64)) is

-- none is longer than 32 bits
pub prefix_at-long : (octets : List ℕ) (control bits : ℕ) → control ≡ get_or octets 4 0 → bits ≡ control % 64 → 32 < bits → None ≡ prefix_at octets
prefix_at-long octets control bits is low h =
    sym (ap (option_and_then (λ (p : Prefix). item_of_size {X = PrefixItem} (5 + octets_for bits + subs_at control (5 + octets_for bits) octets) octets (record { prefix = p; metric = u32_at 0 octets; down = eqb (bit_at control 7) 1 }))) (prefix_from-long (address_of bits (drop 5 octets)) bits h))
    ∙ read_from-all octets control bits is low

then-none : {P X : Type 0} (o : Option P) (size : ℕ) (octets : List ℕ) (item : P → X) → length octets < size → option_and_then (λ (p : P). item_of_size size octets (item p)) o ≡ None
then-none None size octets item h = refl
then-none (Some p) size octets item h = ap (λ (t : Bool). cond t (Some (item p, size)) None) (lt-leb size (length octets) h)

-- none passes the end
pub prefix_at-short : (octets : List ℕ) (control bits size : ℕ) → control ≡ get_or octets 4 0 → bits ≡ control % 64 → size ≡ 5 + octets_for bits + subs_at control (5 + octets_for bits) octets → length octets < size → None ≡ prefix_at octets
prefix_at-short octets control bits size is low counted h =
    sym (then-none (prefix_from (address_of bits (drop 5 octets)) bits) (5 + octets_for bits + subs_at control (5 + octets_for bits) octets) octets (λ (p : Prefix). record { prefix = p; metric = u32_at 0 octets; down = eqb (bit_at control 7) 1 }) (subst (λ (n : ℕ). length octets < n) counted h))
    ∙ read_from-all octets control bits is low

-- a prefix of the address and the length that stand there is the first item
pub prefix_at-item : (octets : List ℕ) (control bits size : ℕ) (item : PrefixItem) → control ≡ get_or octets 4 0 → bits ≡ control % 64 → size ≡ 5 + octets_for bits + subs_at control (5 + octets_for bits) octets → size ≤ length octets → item.prefix.address ≡ address_of bits (drop 5 octets) → item.prefix.length ≡ bits → item.metric ≡ u32_at 0 octets → item.down ≡ eqb (bit_at control 7) 1 → Some (item, size) ≡ prefix_at octets
prefix_at-item octets control bits size item is low counted h address long metric down =
    let whole = 5 + octets_for bits + subs_at control (5 + octets_for bits) octets in
    let read : Prefix → PrefixItem = λ p. record { prefix = p; metric = u32_at 0 octets; down = eqb (bit_at control 7) 1 } in
    let found : read_from octets control bits ≡ item_of_size whole octets (read item.prefix) = ap (option_and_then (λ (p : Prefix). item_of_size whole octets (read p))) (prefix_from-prefix item.prefix (address_of bits (drop 5 octets)) bits address long) in
    let fits : item_of_size whole octets (read item.prefix) ≡ Some (read item.prefix, whole) = item_of_size-fits whole octets (read item.prefix) (subst (λ (n : ℕ). n ≤ length octets) counted h) in
    let same : read item.prefix ≡ item = λ i. record { prefix = item.prefix; metric = sym metric i; down = sym down i } in
    ap (λ (n : ℕ). Some (item, n)) counted ∙ ap (λ (x : PrefixItem). Some (x, whole)) (sym same) ∙ sym fits ∙ sym found ∙ read_from-all octets control bits is low
