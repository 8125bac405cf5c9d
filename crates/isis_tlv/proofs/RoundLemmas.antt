-- Items that are written read as those items.
use Rattle.std.proofs.Common.{◌≡◌, ℕ, ◌+◌, ◌*◌, ◌/◌, ◌%◌, ◌<◌, ◌≤◌, List, [], ◌∷◌, ◌++◌, length, take, map, Bool, false, cond, leb, eqb, ◌&&◌, Option, Some, None, Result, Ok, refl, sym, ap, ◌∙◌, subst, arith, length-append}
use Rattle.std.proofs.lemmas.Bool.{le-leb, ne_eqb}
use Rattle.std.proofs.lemmas.List.{take_at, drop_at}
use Rattle.std.specs.List.{AllByRecursion, flat_map}
use Rattle.std.specs.Option.{IfSome}
use Rattle.isis_base.specs.declared.identifiers.Snpa.{Snpa}
use Rattle.isis_base.specs.declared.entry.LspEntry.{LspEntry}
use Rattle.isis_tlv.specs.declared.fault.ValueFault.{ValueFault}
use Rattle.isis_tlv.specs.declared.neighbour.NeighbourItem.{NeighbourItem}
use Rattle.isis_tlv.specs.Items.{item_of_size, area_at, snpa_at, entry_at, neighbour_at, values_of, TakesSome}
use Rattle.isis_tlv.specs.Spelling.{area_octets, entry_octets, neighbour_octets}
use Rattle.isis_tlv.specs.Fits.{IsArea, IsSnpa, IsEntry, IsNeighbour}
use Rattle.isis_tlv.proofs.WalkLemmas.{values-end, values-item}

-- the octets of each item read as that item, whatever follows
abbrev pub IsReadBack : {X : Type 0} → (List ℕ → Option (X × ℕ)) → (X → List ℕ) → (X → Type 0) → Type 0
IsReadBack {X} first spell Is = (item : X) (rest : List ℕ) → Is item → first (spell item ++ rest) ≡ Some (item, length (spell item))

count-takes_one : {X : Type 0} (found : Option (X × ℕ)) (item : X) (count : ℕ) → IfSome {T = X × ℕ} found (λ it. 1 ≤ it.1) → found ≡ Some (item, count) → 1 ≤ count
count-takes_one None item count some is = cc
count-takes_one (Some found) item count some is =
    let pair : ◌≡◌ {A = _ × ℕ} found (item, count) = cc in
    subst (λ n. 1 ≤ n) (ap (λ (p : _ × ℕ). p.1) pair) some

ne-eqb : (n : ℕ) → 1 ≤ n → false ≡ eqb n 0
ne-eqb n h = sym (ne_eqb n 0 (λ e. omega arith))

-- items that are spelled one after another read as those items
pub values-reads_back : {X : Type 0} (first : List ℕ → Option (X × ℕ)) (some : TakesSome first) (spell : X → List ℕ) (Is : X → Type 0) → IsReadBack first spell Is → (place : ℕ) (items : List X) → AllByRecursion Is items → values_of first place (flat_map spell items) ≡ map (λ item. Ok item) items
values-reads_back first some spell Is again place [] all = values-end first some place [] (values_of first place []) refl refl
values-reads_back first some spell Is again place (item ∷ items) all =
    let octets = spell item ++ flat_map spell items in
    let read = again item (flat_map spell items) all.0 in
    let one = count-takes_one (first octets) item (length (spell item)) (some octets) read in
    let all_octets = length-append (spell item) (flat_map spell items) in
    values-item first some place octets (values_of first place octets) item (length (spell item)) (place + length (spell item)) (flat_map spell items) refl (ne-eqb (length octets) (omega arith)) (sym read) (sym (drop_at (spell item) (flat_map spell items) (length (spell item)) refl)) refl
    ∙ ap (λ (rest : List (Result _ ValueFault)). Ok item ∷ rest) (values-reads_back first some spell Is again (place + length (spell item)) items all.1)

pub item_of_size-fits : {X : Type 0} (count : ℕ) (octets : List ℕ) (item : X) → count ≤ length octets → item_of_size count octets item ≡ Some (item, count)
item_of_size-fits count octets item h = ap (λ (t : Bool). cond t (Some (item, count)) None) (le-leb count (length octets) h)

-- a fact of all lists of six octets
pub of-six : (P : List ℕ → Type 0) → ((a b c d e f : ℕ) → P (a ∷ b ∷ c ∷ d ∷ e ∷ f ∷ [])) → (xs : List ℕ) → length xs ≡ 6 → P xs
of-six P p [] h = absurd (omega arith)
of-six P p (a ∷ []) h = absurd (omega arith)
of-six P p (a ∷ b ∷ []) h = absurd (omega arith)
of-six P p (a ∷ b ∷ c ∷ []) h = absurd (omega arith)
of-six P p (a ∷ b ∷ c ∷ d ∷ []) h = absurd (omega arith)
of-six P p (a ∷ b ∷ c ∷ d ∷ e ∷ []) h = absurd (omega arith)
of-six P p (a ∷ b ∷ c ∷ d ∷ e ∷ f ∷ []) h = p a b c d e f
of-six P p (a ∷ b ∷ c ∷ d ∷ e ∷ f ∷ g ∷ xs) h = absurd (omega arith)

two-reads_back : (n : ℕ) → n < 65536 → 256 * (n / 256 % 256) + n % 256 ≡ n
two-reads_back n h = omega arith

pub three-reads_back : (n : ℕ) → n < 16777216 → 256 * (256 * (n / 65536 % 256) + n / 256 % 256) + n % 256 ≡ n
three-reads_back n h = omega arith

pub four-reads_back : (n : ℕ) → n < 4294967296 → 256 * (256 * (256 * (n / 16777216 % 256) + n / 65536 % 256) + n / 256 % 256) + n % 256 ≡ n
four-reads_back n h = omega arith

pub snpa-reads_back : IsReadBack snpa_at (λ snpa. snpa.0) IsSnpa
snpa-reads_back snpa rest is =
    of-six (λ s. item_of_size {X = Snpa} 6 (s ++ rest) (record { 0 = take 6 (s ++ rest) }) ≡ Some (record { 0 = s }, length s))
    (λ a b c d e f. item_of_size-fits {X = Snpa} 6 (a ∷ b ∷ c ∷ d ∷ e ∷ f ∷ rest) (record { 0 = a ∷ b ∷ c ∷ d ∷ e ∷ f ∷ [] }) (omega arith)) snpa.0 is.six

abbrev with_system : LspEntry → List ℕ → LspEntry
with_system entry s = record {
  lifetime = entry.lifetime;
  id = record { node = record { system = record { 0 = s }; pseudonode = entry.id.node.pseudonode }; number = entry.id.number };
  number = entry.number;
  checksum = entry.checksum;
}

pub entry-reads_back : IsReadBack entry_at entry_octets IsEntry
entry-reads_back entry rest is =
    of-six (λ s. entry_at (entry_octets (with_system entry s) ++ rest) ≡ Some (with_system entry s, length (entry_octets (with_system entry s))))
    (λ a b c d e f.
    let s = a ∷ b ∷ c ∷ d ∷ e ∷ f ∷ [] in
    let lifetime = two-reads_back entry.lifetime is.lifetime in
    let number = four-reads_back entry.number is.number in
    let checksum = two-reads_back entry.checksum is.checksum in
    item_of_size-fits {X = LspEntry} 16 (entry_octets (with_system entry s) ++ rest) _ (omega arith)
    ∙ (λ i. Some (record { lifetime = lifetime i; id = (with_system entry s).id; number = number i; checksum = checksum i }, 16)))
    entry.id.node.system.0 is.system

pub neighbour-reads_back : IsReadBack neighbour_at neighbour_octets IsNeighbour
neighbour-reads_back item rest is =
    let whole : List ℕ → NeighbourItem = λ s. record { node = record { system = record { 0 = s }; pseudonode = item.node.pseudonode }; metric = item.metric } in
    of-six (λ s. neighbour_at (neighbour_octets (whole s) ++ rest) ≡ Some (whole s, length (neighbour_octets (whole s))))
    (λ a b c d e f.
    let s = a ∷ b ∷ c ∷ d ∷ e ∷ f ∷ [] in
    let metric = three-reads_back item.metric is.metric in
    item_of_size-fits {X = NeighbourItem} 11 (neighbour_octets (whole s) ++ rest) _ (omega arith)
    ∙ (λ i. Some (record { node = (whole s).node; metric = metric i }, 11)))
    item.node.system.0 is.system

pub area-reads_back : IsReadBack area_at area_octets IsArea
area-reads_back area rest is =
    let some = le-leb 1 (length area) is.some in
    let few = le-leb (length area) 13 is.fits in
    let all = length-append area rest in
    ap (λ (t : Bool). cond (t && leb (length area) 13) (item_of_size (1 + length area) (length area ∷ (area ++ rest)) (take (length area) (area ++ rest))) None) some
    ∙ ap (λ (t : Bool). cond t (item_of_size (1 + length area) (length area ∷ (area ++ rest)) (take (length area) (area ++ rest))) None) few
    ∙ item_of_size-fits (1 + length area) (length area ∷ (area ++ rest)) (take (length area) (area ++ rest)) (omega arith)
    ∙ ap (λ (read : List ℕ). Some (read, 1 + length area)) (take_at area rest (length area) refl)
    ∙ ap (λ (n : ℕ). Some (area, n)) (omega arith)
