-- What stands first in a value, item by item, and what is left behind it.
use Rattle.std.proofs.Common.{◌≡◌, ◌⊎◌, ℕ, ◌+◌, ◌%◌, ◌<◌, ◌≤◌, List, [], ◌∷◌, ◌++◌, length, take, get_or, Bool, true, false, cond, leb, eqb, ◌&&◌, inl, inr, Option, Some, None, Ok, refl, sym, ap, ◌∙◌, arith, length-append}
use Rattle.std.proofs.lemmas.Bool.{lt-leb, ne_eqb}
use Rattle.std.proofs.lemmas.List.{drop_at, length-take-le}
use Rattle.std.specs.Int.{bit_at}
use Rattle.isis_base.specs.declared.identifiers.Snpa.{Snpa}
use Rattle.isis_base.specs.declared.entry.LspEntry.{LspEntry}
use Rattle.isis_base.specs.Fields.{u32_octets}
use Rattle.isis_tlv.specs.declared.neighbour.NeighbourItem.{NeighbourItem}
use Rattle.isis_tlv.specs.declared.prefix.PrefixItem.{PrefixItem}
use Rattle.isis_tlv.specs.Items.{item_of_size, octets_for, area_at, snpa_at, entry_at, neighbour_at, prefix_at, values_of, fault_alone, areas_from, snpas_from, entries_from, neighbours_from, prefixes_from, TakesSome}
use Rattle.isis_tlv.specs.Spelling.{area_octets, entry_octets, neighbour_with_subs, prefix_octets, prefix_with_subs}
use Rattle.isis_tlv.specs.Fits.{IsArea, IsSnpa, IsEntry, IsNeighbour, IsPrefix}
use Rattle.isis_tlv.specs.Takes.{area-takes_one, snpa-takes_one, entry-takes_one, neighbour-takes_one, prefix-takes_one}
use Rattle.isis_tlv.specs.Walks.{items_of}
use Rattle.isis_tlv.proofs.WalkLemmas.{values-item, values-fault}
use Rattle.isis_tlv.proofs.RoundLemmas.{of-six, item_of_size-fits, three-reads_back, snpa-reads_back, entry-reads_back, area-reads_back}
use Rattle.isis_tlv.proofs.PrefixLemmas.{prefix-reads_back, prefix-subs, prefix_at-long, prefix_at-short}

some-eqb : (n : ℕ) → 1 ≤ n → false ≡ eqb n 0
some-eqb n h = sym (ne_eqb n 0 (λ e. omega arith))

-- an item of so many octets stands first, and what follows is left
from-item : {X : Type 0} (first : List ℕ → Option (X × ℕ)) (some : TakesSome first) (place count : ℕ) (spelled rest : List ℕ) (item : X) → 1 ≤ length spelled → count ≡ length spelled → first (spelled ++ rest) ≡ Some (item, count) → values_of first place (spelled ++ rest) ≡ Ok item ∷ values_of first (place + count) rest
from-item first some place count spelled rest item one whole read =
    let all = length-append spelled rest in
    values-item first some place (spelled ++ rest) (values_of first place (spelled ++ rest)) item count (place + count) rest refl (some-eqb (length (spelled ++ rest)) (omega arith)) (sym read) (sym (drop_at spelled rest count (sym whole))) refl

-- nothing fits, so the fault stands alone
from-none : {X : Type 0} (first : List ℕ → Option (X × ℕ)) (some : TakesSome first) (place : ℕ) (octets : List ℕ) → 1 ≤ length octets → first octets ≡ None → values_of first place octets ≡ fault_alone place
unfolding items_of
from-none first some place octets one none =
    values-fault first some place octets (values_of first place octets) place place [] refl (some-eqb (length octets) one) (sym none) refl refl

item_of_size-none : {X : Type 0} (count : ℕ) (octets : List ℕ) (item : X) → length octets < count → item_of_size count octets item ≡ None
item_of_size-none count octets item h = ap (λ (t : Bool). cond t (Some (item, count)) None) (lt-leb count (length octets) h)

pub area-first : (place : ℕ) (area rest : List ℕ) → IsArea area → areas_from place (length area ∷ area ++ rest) ≡ Ok area ∷ areas_from (place + (1 + length area)) rest
area-first place area rest is = from-item area_at area-takes_one place (1 + length area) (area_octets area) rest area (omega arith) (omega arith) (area-reads_back area rest is ∙ ap (λ (n : ℕ). Some (area, n)) (omega arith))

guard-none : {X : Type 0} (low high : Bool) (found : Option X) → (low ≡ false) ⊎ (high ≡ false) → cond (low && high) found None ≡ None
guard-none false high found h = refl
guard-none true false found h = refl
guard-none true true found (inl h) = cc
guard-none true true found (inr h) = cc

pub area-bad : (place count : ℕ) (octets : List ℕ) → (count ≡ 0) ⊎ (14 ≤ count) → areas_from place (count ∷ octets) ≡ fault_alone place
area-bad place count octets (inl none) = from-none area_at area-takes_one place (count ∷ octets) (omega arith) (guard-none (leb 1 count) (leb count 13) _ (inl (lt-leb 1 count (omega (arith, none)))))
area-bad place count octets (inr many) = from-none area_at area-takes_one place (count ∷ octets) (omega arith) (guard-none (leb 1 count) (leb count 13) _ (inr (lt-leb count 13 (omega (arith, many)))))

guard-same : {X : Type 0} (t : Bool) (found : Option X) → found ≡ None → cond t found None ≡ None
guard-same true found h = h
guard-same false found h = refl

pub area-short : (place count : ℕ) (octets : List ℕ) → length octets < count → areas_from place (count ∷ octets) ≡ fault_alone place
area-short place count octets h = from-none area_at area-takes_one place (count ∷ octets) (omega arith) (guard-same (leb 1 count && leb count 13) _ (item_of_size-none (1 + count) (count ∷ octets) (take count octets) (omega (arith, h))))

pub snpa-first : (place : ℕ) (snpa : Snpa) (rest : List ℕ) → IsSnpa snpa → snpas_from place (snpa.0 ++ rest) ≡ Ok snpa ∷ snpas_from (place + 6) rest
snpa-first place snpa rest is = from-item snpa_at snpa-takes_one place 6 snpa.0 rest snpa (omega (arith, is.six)) (sym is.six) (snpa-reads_back snpa rest is ∙ ap (λ (n : ℕ). Some (snpa, n)) is.six)

pub snpa-short : (place : ℕ) (octets : List ℕ) → 0 < length octets → length octets < 6 → snpas_from place octets ≡ fault_alone place
snpa-short place octets some h = from-none snpa_at snpa-takes_one place octets some (item_of_size-none 6 octets _ h)

abbrev entry_of : LspEntry → List ℕ → LspEntry
entry_of entry s = record {
  lifetime = entry.lifetime;
  id = record { node = record { system = record { 0 = s }; pseudonode = entry.id.node.pseudonode }; number = entry.id.number };
  number = entry.number;
  checksum = entry.checksum;
}

pub entry-first : (place : ℕ) (entry : LspEntry) (rest : List ℕ) → IsEntry entry → entries_from place (entry_octets entry ++ rest) ≡ Ok entry ∷ entries_from (place + 16) rest
entry-first place entry rest is =
    let whole : length (entry_octets entry) ≡ 16 = of-six (λ s. length (entry_octets (entry_of entry s)) ≡ 16) (λ a b c d e f. refl) entry.id.node.system.0 is.system in
    from-item entry_at entry-takes_one place 16 (entry_octets entry) rest entry (omega (arith, whole)) (sym whole) (entry-reads_back entry rest is ∙ ap (λ (n : ℕ). Some (entry, n)) whole)

pub entry-short : (place : ℕ) (octets : List ℕ) → 0 < length octets → length octets < 16 → entries_from place octets ≡ fault_alone place
entry-short place octets some h = from-none entry_at entry-takes_one place octets some (item_of_size-none 16 octets _ h)

abbrev neighbour_of : NeighbourItem → List ℕ → NeighbourItem
neighbour_of item s = record { node = record { system = record { 0 = s }; pseudonode = item.node.pseudonode }; metric = item.metric }

neighbour-read : (item : NeighbourItem) (subs rest : List ℕ) → IsNeighbour item → (neighbour_at (neighbour_with_subs item subs ++ rest) ≡ Some (item, 11 + length subs)) × (length (neighbour_with_subs item subs) ≡ 11 + length subs)
neighbour-read item subs rest is =
    of-six (λ s. (neighbour_at (neighbour_with_subs (neighbour_of item s) subs ++ rest) ≡ Some (neighbour_of item s, 11 + length subs)) × (length (neighbour_with_subs (neighbour_of item s) subs) ≡ 11 + length subs))
    (λ a b c d e f.
    let s = a ∷ b ∷ c ∷ d ∷ e ∷ f ∷ [] in
    let metric = three-reads_back item.metric is.metric in
    let all = length-append subs rest in (
      item_of_size-fits {X = NeighbourItem} (11 + length subs) (neighbour_with_subs (neighbour_of item s) subs ++ rest) _ (omega arith)
          ∙ (λ i. Some (record { node = (neighbour_of item s).node; metric = metric i }, 11 + length subs)),
      omega arith,
    ))
    item.node.system.0 is.system

pub neighbour-first : (place : ℕ) (item : NeighbourItem) (subs rest : List ℕ) → IsNeighbour item → neighbours_from place (neighbour_with_subs item subs ++ rest) ≡ Ok item ∷ neighbours_from (place + (11 + length subs)) rest
neighbour-first place item subs rest is =
    let read = neighbour-read item subs rest is in
    from-item neighbour_at neighbour-takes_one place (11 + length subs) (neighbour_with_subs item subs) rest item (omega (arith, read.1)) (sym read.1) read.0

pub neighbour-short : (place : ℕ) (octets : List ℕ) → 0 < length octets → length octets < 11 + get_or octets 10 0 → neighbours_from place octets ≡ fault_alone place
neighbour-short place octets some h = from-none neighbour_at neighbour-takes_one place octets some (item_of_size-none (11 + get_or octets 10 0) octets _ h)

prefix-length : (item : PrefixItem) → length (take (octets_for item.prefix.length) (u32_octets item.prefix.address)) ≡ octets_for item.prefix.length
prefix-length item =
    let within = item.prefix.fits in
    length-take-le (octets_for item.prefix.length) (u32_octets item.prefix.address) (omega arith)

pub prefix-first : (place : ℕ) (item : PrefixItem) (rest : List ℕ) → IsPrefix item → prefixes_from place (prefix_octets item ++ rest) ≡ Ok item ∷ prefixes_from (place + (5 + octets_for item.prefix.length)) rest
prefix-first place item rest is =
    let held = prefix-length item in
    let whole : length (prefix_octets item) ≡ 5 + octets_for item.prefix.length = omega (arith, held) in
    from-item prefix_at prefix-takes_one place (5 + octets_for item.prefix.length) (prefix_octets item) rest item (omega (arith, whole)) (sym whole) (prefix-reads_back item rest is ∙ ap (λ (n : ℕ). Some (item, n)) whole)

pub prefix-subs-first : (place : ℕ) (item : PrefixItem) (subs rest : List ℕ) → IsPrefix item → prefixes_from place (prefix_with_subs item subs ++ rest) ≡ Ok item ∷ prefixes_from (place + (6 + octets_for item.prefix.length + length subs)) rest
prefix-subs-first place item subs rest is =
    let held = prefix-length item in
    let joined = length-append (take (octets_for item.prefix.length) (u32_octets item.prefix.address)) (length subs ∷ subs) in
    let whole : length (prefix_with_subs item subs) ≡ 6 + octets_for item.prefix.length + length subs = omega (arith, held, joined) in
    from-item prefix_at prefix-takes_one place (6 + octets_for item.prefix.length + length subs) (prefix_with_subs item subs) rest item (omega (arith, whole)) (sym whole) (prefix-subs item subs rest is)

long-takes_one : (octets : List ℕ) → 32 < get_or octets 4 0 % 64 → 1 ≤ length octets
long-takes_one [] h = absurd (omega arith)
long-takes_one (octet ∷ octets) h = omega arith

pub prefix-long : (place : ℕ) (octets : List ℕ) → 32 < get_or octets 4 0 % 64 → prefixes_from place octets ≡ fault_alone place
prefix-long place octets h = from-none prefix_at prefix-takes_one place octets (long-takes_one octets h) (sym (prefix_at-long octets (get_or octets 4 0) (get_or octets 4 0 % 64) refl refl h))

pub prefix-short : (place : ℕ) (octets : List ℕ) → 0 < length octets → length octets < 5 + octets_for (get_or octets 4 0 % 64) → prefixes_from place octets ≡ fault_alone place
prefix-short place octets some h = from-none prefix_at prefix-takes_one place octets some (sym (prefix_at-short octets (get_or octets 4 0) (get_or octets 4 0 % 64) _ refl refl refl (omega (arith, h))))

subs-takes_one : (octets : List ℕ) → bit_at (get_or octets 4 0) 6 ≡ 1 → 1 ≤ length octets
subs-takes_one [] h = absurd (omega (arith, h))
subs-takes_one (octet ∷ octets) h = omega arith

pub subs-short : (place : ℕ) (octets : List ℕ) → bit_at (get_or octets 4 0) 6 ≡ 1 → (let end = 5 + octets_for (get_or octets 4 0 % 64) in length octets < end + (1 + get_or octets end 0)) → prefixes_from place octets ≡ fault_alone place
subs-short place octets mark h =
    let end = 5 + octets_for (get_or octets 4 0 % 64) in
    let counted : end + (1 + get_or octets end 0) ≡ end + cond (eqb (bit_at (get_or octets 4 0) 6) 1) (1 + get_or octets end 0) 0 = ap (λ (n : ℕ). end + cond (eqb n 1) (1 + get_or octets end 0) 0) (sym mark) in
    from-none prefix_at prefix-takes_one place octets (subs-takes_one octets mark) (sym (prefix_at-short octets (get_or octets 4 0) (get_or octets 4 0 % 64) (end + (1 + get_or octets end 0)) refl refl counted h))
