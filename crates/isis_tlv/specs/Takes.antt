-- Each item of a value has at least one octet.
use Rattle.std.proofs.Common.{ℕ, ◌+◌, ◌%◌, ◌≤◌, length, drop, get_or, Option, option_and_then, Bool, true, false, cond, eqb, leb, ◌&&◌, Some, None, arith}
use Rattle.std.specs.Option.{IfSome}
use Rattle.std.specs.Int.{bit_at}
use Rattle.isis_base.specs.declared.prefix.Prefix.{Prefix}
use Rattle.isis_base.specs.Fields.{u32_at}
use Rattle.isis_base.specs.Prefixes.{prefix_from}
use Rattle.isis_tlv.specs.Items.{area_at, snpa_at, entry_at, neighbour_at, prefix_at, address_of, TakesSome}

-- a number of octets above 0, where they are there
sized-takes_one : {X : Type 0} (fits : Bool) (count : ℕ) (item : X) → 1 ≤ count
    → IfSome {T = X × ℕ} (cond fits (Some (item, count)) None) (λ found. 1 ≤ found.1)
sized-takes_one true count item h = h
sized-takes_one false count item h = tt

pub snpa-takes_one : TakesSome snpa_at
snpa-takes_one octets = sized-takes_one (leb 6 (length octets)) 6 _ (omega arith)

pub entry-takes_one : TakesSome entry_at
entry-takes_one octets = sized-takes_one (leb 16 (length octets)) 16 _ (omega arith)

pub neighbour-takes_one : TakesSome neighbour_at
neighbour-takes_one octets =
    let count = 11 + get_or octets 10 0 in
    sized-takes_one (leb count (length octets)) count _ (omega arith)

guarded-takes_one : {X : Type 0} (guard fits : Bool) (count : ℕ) (item : X) → 1 ≤ count
    → IfSome {T = X × ℕ} (cond guard (cond fits (Some (item, count)) None) None)
    (λ found. 1 ≤ found.1)
guarded-takes_one true fits count item h = sized-takes_one fits count item h
guarded-takes_one false fits count item h = tt

pub area-takes_one : TakesSome area_at
area-takes_one octets =
    let count = get_or octets 0 0 in
    guarded-takes_one (leb 1 count && leb count 13) (leb (1 + count) (length octets)) (1 + count) _
    (omega arith)

then-takes_one : {P X : Type 0} (found : Option P) (fits : Bool) (count : ℕ) (item : P → X) → 1 ≤ count
    → IfSome {T = X × ℕ}
    (option_and_then (λ (p : P). cond fits (Some (item p, count)) None) found)
    (λ found. 1 ≤ found.1)
then-takes_one None fits count item h = tt
then-takes_one (Some p) fits count item h = sized-takes_one fits count (item p) h

pub prefix-takes_one : TakesSome prefix_at
prefix-takes_one octets =
    let bits = get_or octets 4 0 % 64 in
    then-takes_one (prefix_from (address_of bits (drop 5 octets)) bits) _ _
    (λ (prefix : Prefix). record {
      prefix = prefix;
      metric = u32_at 0 octets;
      down = eqb (bit_at (get_or octets 4 0) 7) 1;
    }) (omega arith)
