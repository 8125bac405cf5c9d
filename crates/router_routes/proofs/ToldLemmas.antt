-- Routes look only at what live LSPs tell.
use Rattle.std.proofs.Common.{◌≡◌, ◌∙◌, ℕ, ◌+◌, ◌<◌, Bool, true, false, List, [], ◌∷◌, ◌++◌, map, filter, Option, Some, None, refl, sym, ap, subst, arith, inl, inr, if◌then◌else◌, nat_le, ◌&&◌, append_assoc}
use Rattle.std.specs.Prelude.{is_none, is_some, length, drop, replicate, nat_lt, Result}
use Rattle.std.specs.Option.{option_map}
use Rattle.std.specs.List.{flat_map}
use Rattle.std.proofs.lemmas.Bool.{cases_eq, eq-eqb, ltb-true, ne_eqb}
use Rattle.std.proofs.lemmas.List.{drop_all}
use Rattle.std.proofs.Math.Seq.{drop-append_seam}
use Rattle.isis_base.specs.declared.identifiers.SystemId.{SystemId}
use Rattle.isis_base.specs.declared.identifiers.NodeId.{NodeId}
use Rattle.isis_base.specs.declared.identifiers.LspId.{LspId}
use Rattle.isis_tlv.specs.declared.fault.ValueFault.{ValueFault}
use Rattle.isis_tlv.specs.Walks.{fault_of}
use Rattle.isis_tlv.specs.Tlvs.{tlvs_of, tlv_list}
use Rattle.isis_tlv.specs.Items.{areas_of, neighbours_of, prefixes_of}
use Rattle.lsp_store.specs.declared.entry.Entry.{Entry}
use Rattle.lsp_store.specs.Maps.{pair_number, find, between, RisesFrom}
use Rattle.lsp_store.specs.Databases.{is_live, live_of}
use Rattle.spf_tree.specs.declared.row.Row.{Row}
use Rattle.spf_tree.specs.Graphs.{GraphOf, AreUsable}
use Rattle.lsp_view.specs.Bodies.{body_of, items_if, items_in, neighbours_in}
use Rattle.lsp_view.specs.Views.{row_from, is_reachable, number_of, own_node, where_live, lead_of, led_rows, rows_of, rows_in, is_overloaded, overloaded_in, where_led, reach_of, reach_in, areas_at, attached_at}
use Rattle.router_routes.specs.Outlooks.{where_run}
use Rattle.router_routes.specs.Told.{shown, told, told_pair, told_in}

abbrev Pair : Type 0
Pair = LspId × Entry

abbrev told_entry : Entry → Entry
told_entry e = told e.flags e.octets

-- ---- octets that are the same behind the header

abbrev tlvs_if : List ℕ → List ℕ
tlvs_if tlvs = if is_none (fault_of (tlvs_of 0 tlvs)) then tlvs else []

body-is : (octets : List ℕ) → body_of octets ≡ tlvs_if (drop 27 octets)
unfolding body_of
body-is octets = go (nat_lt (length octets) 27) refl
  where
    both : (t : Bool) → ◌≡◌ {A = List ℕ} [] (if t then [] else [])
    both true = refl
    both false = refl

    go : (t : Bool) → nat_lt (length octets) 27 ≡ t → (if t then [] else tlvs_if (drop 27 octets)) ≡ tlvs_if (drop 27 octets)
    go true is =
        let short = ltb-true (length octets) 27 is in
        let none : drop 27 octets ≡ [] = drop_all 27 octets (omega (arith, short)) in
        both (is_none (fault_of (tlvs_of 0 []))) ∙ sym (ap tlvs_if none)
    go false is = refl

pub items-same : {X : Type 0} (code : ℕ) (reader : List ℕ → List (Result X ValueFault)) (a b : List ℕ) → drop 27 a ≡ drop 27 b → items_in code reader a ≡ items_in code reader b
unfolding items_in
items-same code reader a b same = ap (λ (body : List ℕ). flat_map (items_if code reader) (tlv_list 0 body)) (body-is a ∙ ap tlvs_if same ∙ sym (body-is b))

-- ---- what is shown of octets

pub drop-shown : (octets : List ℕ) → drop 27 (shown octets) ≡ drop 27 octets
unfolding shown
drop-shown octets = drop-append_seam (replicate 27 0) (drop 27 octets)

items-shown : {X : Type 0} (code : ℕ) (reader : List ℕ → List (Result X ValueFault)) (octets : List ℕ) → items_in code reader (shown octets) ≡ items_in code reader octets
items-shown code reader octets = items-same code reader (shown octets) octets (drop-shown octets)

pub neighbours-shown : (octets : List ℕ) → neighbours_in (shown octets) ≡ neighbours_in octets
neighbours-shown octets = items-shown 22 neighbours_of octets

pub rows-shown : (pair : Pair) → rows_of (told_pair pair) ≡ rows_of pair
rows-shown pair = ap (map (row_from pair.0.node)) (neighbours-shown pair.1.octets)

pub reach-shown : (pair : Pair) → reach_of (told_pair pair) ≡ reach_of pair
reach-shown pair = ap (filter is_reachable) (items-shown 135 prefixes_of pair.1.octets)

-- ---- lists

flat_map-map : {X Y Z : Type 0} (f : Y → List Z) (h : X → List Z) (g : X → Y) (xs : List X) → ((x : X) → f (g x) ≡ h x) → flat_map f (map g xs) ≡ flat_map h xs
flat_map-map f h g [] same = refl
flat_map-map f h g (x ∷ xs) same = ap (λ (l : List _). l ++ flat_map f (map g xs)) (same x) ∙ ap (λ (l : List _). h x ++ l) (flat_map-map f h g xs same)

cond-map : {X Y : Type 0} (g : X → Y) (t : Bool) (x : X) (xs : List X) → map g (if t then x ∷ xs else xs) ≡ (if t then g x ∷ map g xs else map g xs)
cond-map g true x xs = refl
cond-map g false x xs = refl

pub filter-map : {X Y : Type 0} (q : Y → Bool) (p : X → Bool) (g : X → Y) (xs : List X) → ((x : X) → q (g x) ≡ p x) → filter q (map g xs) ≡ map g (filter p xs)
filter-map q p g [] same = refl
filter-map q p g (x ∷ xs) same =
    ap (λ (t : Bool). if t then g x ∷ filter q (map g xs) else filter q (map g xs)) (same x)
    ∙ ap (λ (l : List _). if p x then g x ∷ l else l) (filter-map q p g xs same)
    ∙ sym (cond-map g (p x) x (filter p xs))

pub map-map : {X Y Z : Type 0} (f : Y → Z) (h : X → Z) (g : X → Y) (xs : List X) → ((x : X) → f (g x) ≡ h x) → map f (map g xs) ≡ map h xs
map-map f h g [] same = refl
map-map f h g (x ∷ xs) same = ap (λ (z : _). z ∷ map f (map g xs)) (same x) ∙ ap (λ (l : List _). h x ∷ l) (map-map f h g xs same)

-- one item more of a list that grows
pub one-more : {X : Type 0} (new old item rest whole : List X) → new ≡ old ++ item → old ++ (item ++ rest) ≡ whole → new ++ rest ≡ whole
one-more new old item rest whole e f = ap (λ (l : List _). l ++ rest) e ∙ append_assoc old item rest ∙ f

-- ---- what is told is live

live-told : (pairs : List Pair) → live_of (map told_pair pairs) ≡ map told_pair pairs
live-told [] = refl
live-told (pair ∷ pairs) = ap (λ (l : List Pair). told_pair pair ∷ l) (live-told pairs)

find-below : (pairs : List Pair) (least n : ℕ) → RisesFrom least pairs → n < least → find pairs n ≡ None
find-below [] least n rises less = refl
find-below (pair ∷ pairs) least n rises less =
    let first = rises.0 in
    let other : pair_number pair ≡ n → ⊥ = λ e. absurd (omega (arith, first, less, e)) in
    rw (ne_eqb (pair_number pair) n other) (find-below pairs (pair_number pair + 1) n rises.1 (omega (arith, first, less)))

module _ (pair : Pair) (pairs : List Pair) (n : ℕ) (rises : RisesFrom (pair_number pair + 1) pairs) (rest : where_live (find (told_in pairs) n) ≡ option_map told_entry (where_live (find pairs n))) where
  dead : (pair_number pair ≡ n) → where_live (find (told_in pairs) n) ≡ None
  dead e = rest ∙ ap (λ (o : Option Entry). option_map told_entry (where_live o)) (find-below pairs (pair_number pair + 1) n rises (omega (arith, e)))

  find-step : (t : Bool) → is_live pair.1 ≡ t → where_live (find (told_in (pair ∷ pairs)) n) ≡ option_map told_entry (where_live (find (pair ∷ pairs) n))
  find-step true is =
      elim (cases_eq (pair_number pair) n) [
        | inl here ↦ rw (is, eq-eqb (pair_number pair) n here, is) refl
        | inr other ↦ rw (is, ne_eqb (pair_number pair) n other) rest
      ]
  find-step false is =
      elim (cases_eq (pair_number pair) n) [
        | inl here ↦ rw (is, eq-eqb (pair_number pair) n here, is) (dead here)
        | inr other ↦ rw (is, ne_eqb (pair_number pair) n other) rest
      ]

find-told : (pairs : List Pair) (least n : ℕ) → RisesFrom least pairs → where_live (find (told_in pairs) n) ≡ option_map told_entry (where_live (find pairs n))
find-told [] least n rises = refl
find-told (pair ∷ pairs) least n rises = find-step pair pairs n rises.1 (find-told pairs (pair_number pair + 1) n rises.1) (is_live pair.1) refl

-- ---- a level that isn't run

pub not-run : (runs : Bool) (told : List Pair) → runs ≡ false → where_run runs told ≡ []
not-run true told is = cc
not-run false told is = refl

-- usable rows of equal lists are those of the others
pub usable-by : (xs bs : List Row) (ns ms : List NodeId) (root : NodeId) (g : GraphOf) → xs ≡ bs → ns ≡ ms → AreUsable xs ns root g → AreUsable bs ms root g
usable-by xs bs ns ms root g e f is = subst (λ (rs : List Row). AreUsable rs ms root g) e (subst (λ (zs : List NodeId). AreUsable xs zs root g) f is)

pub no-rows : rows_in [] ≡ []
unfolding rows_in
no-rows = refl

pub no-overloaded : overloaded_in [] ≡ []
unfolding overloaded_in
no-overloaded = refl

module _ (entries : List Pair) (rises : RisesFrom 0 entries) where
  lead-told : (node : NodeId) → lead_of (told_in entries) node ≡ option_map told_entry (lead_of entries node)
  lead-told node = find-told entries 0 (number_of node 0) rises

  some-told : (o : Option Entry) → is_some (option_map told_entry o) ≡ is_some o
  some-told None = refl
  some-told (Some e) = refl

  -- ---- rows and overloaded nodes

  led-told : (pair : Pair) → led_rows (told_in entries) (told_pair pair) ≡ led_rows entries pair
  led-told pair =
      ap (λ (t : Bool). if t then rows_of (told_pair pair) else []) (ap (λ (o : Option Entry). is_some o) (lead-told pair.0.node) ∙ some-told (lead_of entries pair.0.node))
      ∙ ap (λ (l : List Row). if is_some (lead_of entries pair.0.node) then l else []) (rows-shown pair)

  pub rows-told : rows_in (told_in entries) ≡ rows_in entries
  unfolding rows_in
  rows-told =
      ap (flat_map (led_rows (told_in entries))) (live-told (live_of entries))
      ∙ flat_map-map (led_rows (told_in entries)) (led_rows entries) told_pair (live_of entries) led-told

  pub overloaded-told : overloaded_in (told_in entries) ≡ overloaded_in entries
  unfolding overloaded_in
  overloaded-told =
      let node : Pair → NodeId = λ (pair : Pair). pair.0.node in
      ap (λ (l : List Pair). map node (filter is_overloaded l)) (live-told (live_of entries))
      ∙ ap (map node) (filter-map is_overloaded is_overloaded told_pair (live_of entries) (λ pair. refl))
      ∙ map-map node node told_pair (filter is_overloaded (live_of entries)) (λ pair. refl)

  -- ---- systems

  between-map : (a b : ℕ) (pairs : List Pair) → between a b (map told_pair pairs) ≡ map told_pair (between a b pairs)
  between-map a b [] = refl
  between-map a b (pair ∷ pairs) =
      ap (λ (l : List Pair). if nat_le a (pair_number pair) && nat_le (pair_number pair) b then told_pair pair ∷ l else l) (between-map a b pairs)
      ∙ sym (cond-map told_pair (nat_le a (pair_number pair) && nat_le (pair_number pair) b) pair (between a b pairs))

  between-step : (a b : ℕ) (pair : Pair) (pairs : List Pair) → between a b (live_of pairs) ≡ live_of (between a b pairs) → (t u : Bool) → is_live pair.1 ≡ t → (nat_le a (pair_number pair) && nat_le (pair_number pair) b) ≡ u → between a b (live_of (pair ∷ pairs)) ≡ live_of (between a b (pair ∷ pairs))
  between-step a b pair pairs rest true true is in' = rw (is, in', is) (ap (λ (l : List Pair). pair ∷ l) rest)
  between-step a b pair pairs rest true false is in' = rw (is, in') rest
  between-step a b pair pairs rest false true is in' = rw (is, in', is) rest
  between-step a b pair pairs rest false false is in' = rw (is, in') rest

  between-live : (a b : ℕ) (pairs : List Pair) → between a b (live_of pairs) ≡ live_of (between a b pairs)
  between-live a b [] = refl
  between-live a b (pair ∷ pairs) = between-step a b pair pairs (between-live a b pairs) (is_live pair.1) (nat_le a (pair_number pair) && nat_le (pair_number pair) b) refl refl

  between-told : (a b : ℕ) → live_of (between a b (told_in entries)) ≡ map told_pair (live_of (between a b entries))
  between-told a b =
      ap live_of (between-map a b (live_of entries))
      ∙ live-told (between a b (live_of entries))
      ∙ ap (map told_pair) (between-live a b entries)

  led-same : {X : Type 0} (o : Option Entry) (items : List X) → where_led (option_map told_entry o) items ≡ where_led o items
  led-same None items = refl
  led-same (Some e) items = refl

  pub reach-told : (system : SystemId) → reach_in (told_in entries) system ≡ reach_in entries system
  unfolding reach_in
  reach-told system =
      let node = own_node system in
      let a = number_of node 0 in
      let b = number_of node 255 in
      ap (λ (o : Option Entry). where_led o (flat_map reach_of (live_of (between a b (told_in entries))))) (lead-told node)
      ∙ led-same (lead_of entries node) (flat_map reach_of (live_of (between a b (told_in entries))))
      ∙ ap (where_led (lead_of entries node)) (ap (flat_map reach_of) (between-told a b) ∙ flat_map-map reach_of reach_of told_pair (live_of (between a b entries)) reach-shown)

  areas-same : (o : Option Entry) → areas_at (option_map told_entry o) ≡ areas_at o
  areas-same None = refl
  areas-same (Some e) = items-shown 1 areas_of e.octets

  attached-same : (o : Option Entry) → attached_at (option_map told_entry o) ≡ attached_at o
  attached-same None = refl
  attached-same (Some e) = refl

  pub areas-told : (system : SystemId) → areas_at (lead_of (told_in entries) (own_node system)) ≡ areas_at (lead_of entries (own_node system))
  areas-told system = ap areas_at (lead-told (own_node system)) ∙ areas-same (lead_of entries (own_node system))

  pub attached-told : (system : SystemId) → attached_at (lead_of (told_in entries) (own_node system)) ≡ attached_at (lead_of entries (own_node system))
  attached-told system = ap attached_at (lead-told (own_node system)) ∙ attached-same (lead_of entries (own_node system))
