-- Databases that say the same list the same rows, overloaded nodes and prefixes.
use Rattle.std.proofs.Common.{◌≡◌, ◌∙◌, ℕ, Bool, true, false, List, [], ◌∷◌, ◌++◌, map, filter, drop, Option, Some, None, is_some, refl, sym, ap, inl, inr, if◌then◌else◌, nat_le, ◌&&◌}
use Rattle.std.specs.List.{flat_map, AllZip, AllByRecursion}
use Rattle.std.proofs.lemmas.Bool.{cases_eq, eq-eqb, ne_eqb}
use Rattle.isis_base.specs.declared.identifiers.SystemId.{SystemId}
use Rattle.isis_base.specs.declared.identifiers.NodeId.{NodeId}
use Rattle.isis_base.specs.declared.identifiers.LspId.{LspId}
use Rattle.isis_base.specs.Identifiers.{IsId, lsp_number}
use Rattle.isis_base.proofs.ArrayLemmas.{lsp_number-one}
use Rattle.isis_tlv.specs.Items.{neighbours_of, prefixes_of}
use Rattle.lsp_store.specs.declared.entry.Entry.{Entry}
use Rattle.lsp_store.specs.Maps.{pair_number, find, between}
use Rattle.lsp_store.specs.Databases.{is_live, live_of}
use Rattle.lsp_view.specs.Bodies.{neighbours_in}
use Rattle.lsp_view.specs.Views.{number_of, own_node, where_live, lead_of, row_from, rows_of, led_rows, rows_in, is_reachable, is_overloaded, overloaded_in, where_led, reach_of, reach_in, attached_at}
use Rattle.spf_tree.specs.declared.row.Row.{Row}
use Rattle.router_routes.proofs.ToldLemmas.{items-same}
use Rattle.forward_views.specs.Looks.{said}

abbrev pub Pair : Type 0
Pair = LspId × Entry

-- ---- LSPs that say the same

pub record IsSame (x y : Pair) : Type 0 where
  pub id : x.0 ≡ y.0
  pub flags : x.1.flags ≡ y.1.flags
  pub tlvs : drop 27 x.1.octets ≡ drop 27 y.1.octets
  pub live : is_live x.1 ≡ true
  pub live_too : is_live y.1 ≡ true

abbrev pub AreTold : List Pair → Type 0
AreTold told = AllByRecursion (λ (pair : Pair). IsId pair.0 × (is_live pair.1 ≡ true)) told

first-same : {X : Type 0} (x y : X) (xs ys : List X) → x ∷ xs ≡ y ∷ ys → x ≡ y
first-same x y xs ys e = cc

rest-same : {X : Type 0} (x y : X) (xs ys : List X) → x ∷ xs ≡ y ∷ ys → xs ≡ ys
rest-same x y xs ys e = cc

none-some : {X : Type 0} (x : X) (xs : List X) → [] ≡ x ∷ xs → ⊥
none-some x xs e = cc

pub told-same : (a b : List Pair) → AreTold a → AreTold b → map said a ≡ map said b → AllZip IsSame a b
told-same [] [] of_a of_b same = tt
told-same [] (y ∷ b) of_a of_b same = none-some (said y) (map said b) same
told-same (x ∷ a) [] of_a of_b same = none-some (said x) (map said a) (sym same)
told-same (x ∷ a) (y ∷ b) of_a of_b same =
    let here = first-same (said x) (said y) (map said a) (map said b) same in (
      (record {
        id = lsp_number-one x.0 y.0 of_a.0.0 of_b.0.0 (ap (λ (s : ℕ × (ℕ × List ℕ)). s.0) here);
        flags = ap (λ (s : ℕ × (ℕ × List ℕ)). s.1.0) here;
        tlvs = ap (λ (s : ℕ × (ℕ × List ℕ)). s.1.1) here;
        live = of_a.0.1;
        live_too = of_b.0.1;
      }),
      told-same a b of_a.1 of_b.1 (rest-same (said x) (said y) (map said a) (map said b) same),
    )

-- ---- a node's number 0

abbrev AreLeads : Option Entry → Option Entry → Type 0
AreLeads None None = Unit {0}
AreLeads None (Some f) = ⊥
AreLeads (Some e) None = ⊥
AreLeads (Some e) (Some f) = e.flags ≡ f.flags

find-same : (a b : List Pair) (n : ℕ) → AllZip IsSame a b → AreLeads (where_live (find a n)) (where_live (find b n))
find-same [] [] n same = tt
find-same [] (y ∷ b) n same = absurd same
find-same (x ∷ a) [] n same = absurd same
find-same (x ∷ a) (y ∷ b) n same =
    let s = same.0 in
    let numbers : pair_number x ≡ pair_number y = ap lsp_number s.id in
    elim (cases_eq (pair_number x) n) [
      | inl here ↦ rw (eq-eqb (pair_number x) n here, eq-eqb (pair_number y) n (sym numbers ∙ here), s.live, s.live_too) s.flags
      | inr other ↦ rw (ne_eqb (pair_number x) n other, ne_eqb (pair_number y) n (λ e. other (numbers ∙ e))) (find-same a b n same.1)
    ]

some-same : (o p : Option Entry) → AreLeads o p → is_some o ≡ is_some p
some-same None None same = refl
some-same None (Some f) same = absurd same
some-same (Some e) None same = absurd same
some-same (Some e) (Some f) same = refl

led-same : {X : Type 0} (o p : Option Entry) (items : List X) → AreLeads o p → where_led o items ≡ where_led p items
led-same None None items same = refl
led-same None (Some f) items same = absurd same
led-same (Some e) None items same = absurd same
led-same (Some e) (Some f) items same = refl

bit-same : (o p : Option Entry) → AreLeads o p → attached_at o ≡ attached_at p
bit-same None None same = refl
bit-same None (Some f) same = absurd same
bit-same (Some e) None same = absurd same
bit-same (Some e) (Some f) same = ap (λ (flags : ℕ). attached_at (Some (record e { flags = flags }))) same

-- ---- lists

flat-same : {X : Type 0} (f g : Pair → List X) (a b : List Pair) → AllZip IsSame a b → ((x y : Pair) → IsSame x y → f x ≡ g y) → flat_map f a ≡ flat_map g b
flat-same f g [] [] same each = refl
flat-same f g [] (y ∷ b) same each = absurd same
flat-same f g (x ∷ a) [] same each = absurd same
flat-same f g (x ∷ a) (y ∷ b) same each = ap (λ (l : List _). l ++ flat_map f a) (each x y same.0) ∙ ap (λ (l : List _). g y ++ l) (flat-same f g a b same.1 each)

pub live-all : (told : List Pair) → AreTold told → live_of told ≡ told
live-all [] all = refl
live-all (pair ∷ told) all = rw all.0.1 (ap (λ (l : List Pair). pair ∷ l) (live-all told all.1))

over-same : (a b : List Pair) → AllZip IsSame a b → map (λ (pair : Pair). pair.0.node) (filter is_overloaded a) ≡ map (λ (pair : Pair). pair.0.node) (filter is_overloaded b)
over-same [] [] same = refl
over-same [] (y ∷ b) same = absurd same
over-same (x ∷ a) [] same = absurd same
over-same (x ∷ a) (y ∷ b) same =
    let s = same.0 in
    let test : is_overloaded x ≡ is_overloaded y = ap (λ (id : LspId). is_overloaded (id, x.1)) s.id ∙ ap (λ (flags : ℕ). is_overloaded (y.0, record x.1 { flags = flags })) s.flags in
    ap (λ (t : Bool). map node (if t then x ∷ filter is_overloaded a else filter is_overloaded a)) test ∙ go (is_overloaded y) s (over-same a b same.1)
  where
    node : Pair → NodeId
    node pair = pair.0.node

    go : (t : Bool) → IsSame x y → map node (filter is_overloaded a) ≡ map node (filter is_overloaded b) → map node (if t then x ∷ filter is_overloaded a else filter is_overloaded a) ≡ map node (if t then y ∷ filter is_overloaded b else filter is_overloaded b)
    go true s rest = ap (λ (id : LspId). id.node ∷ map node (filter is_overloaded a)) s.id ∙ ap (λ (l : List NodeId). y.0.node ∷ l) rest
    go false s rest = rest

between-same : (from to : ℕ) (a b : List Pair) → AllZip IsSame a b → AllZip IsSame (between from to a) (between from to b)
between-same from to [] [] same = tt
between-same from to [] (y ∷ b) same = absurd same
between-same from to (x ∷ a) [] same = absurd same
between-same from to (x ∷ a) (y ∷ b) same =
    let test : (nat_le from (pair_number x) && nat_le (pair_number x) to) ≡ (nat_le from (pair_number y) && nat_le (pair_number y) to) = ap (λ (id : LspId). nat_le from (lsp_number id) && nat_le (lsp_number id) to) same.0.id in
    go (nat_le from (pair_number x) && nat_le (pair_number x) to) (nat_le from (pair_number y) && nat_le (pair_number y) to) test same.0 (between-same from to a b same.1)
  where
    go : (t u : Bool) → t ≡ u → IsSame x y → AllZip IsSame (between from to a) (between from to b) → AllZip IsSame (if t then x ∷ between from to a else between from to a) (if u then y ∷ between from to b else between from to b)
    go true true e s rest = (s, rest)
    go true false e s rest = absurd (let f : true ≡ false = e in cc)
    go false true e s rest = absurd (let f : false ≡ true = e in cc)
    go false false e s rest = rest

between-told : (from to : ℕ) (told : List Pair) → AreTold told → AreTold (between from to told)
between-told from to [] all = tt
between-told from to (pair ∷ told) all = go (nat_le from (pair_number pair) && nat_le (pair_number pair) to) (between-told from to told all.1)
  where
    go : (t : Bool) → AreTold (between from to told) → AreTold (if t then pair ∷ between from to told else between from to told)
    go true rest = (all.0, rest)
    go false rest = rest

-- ---- what they list

module _ (a b : List Pair) (of_a : AreTold a) (of_b : AreTold b) (same : AllZip IsSame a b) where
  leads-same : (node : NodeId) → AreLeads (lead_of a node) (lead_of b node)
  leads-same node = find-same a b (number_of node 0) same

  pub attached-same : (node : NodeId) → attached_at (lead_of a node) ≡ attached_at (lead_of b node)
  attached-same node = bit-same (lead_of a node) (lead_of b node) (leads-same node)

  row-same : (x y : Pair) → IsSame x y → led_rows a x ≡ led_rows b y
  row-same x y s =
      let rows : rows_of x ≡ rows_of y = ap (λ (id : LspId). map (row_from id.node) (neighbours_in x.1.octets)) s.id ∙ ap (map (row_from y.0.node)) (items-same 22 neighbours_of x.1.octets y.1.octets s.tlvs) in
      ap (λ (t : Bool). if t then rows_of x else []) (some-same (lead_of a x.0.node) (lead_of b x.0.node) (leads-same x.0.node))
      ∙ ap (λ (l : List Row). if is_some (lead_of b x.0.node) then l else []) rows
      ∙ ap (λ (id : LspId). if is_some (lead_of b id.node) then rows_of y else []) s.id

  pub rows-same : rows_in a ≡ rows_in b
  unfolding rows_in
  rows-same = ap (flat_map (led_rows a)) (live-all a of_a) ∙ flat-same (led_rows a) (led_rows b) a b same row-same ∙ sym (ap (flat_map (led_rows b)) (live-all b of_b))

  pub overloaded-same : overloaded_in a ≡ overloaded_in b
  unfolding overloaded_in
  overloaded-same =
      ap (λ (l : List Pair). map (λ (pair : Pair). pair.0.node) (filter is_overloaded l)) (live-all a of_a)
      ∙ over-same a b same
      ∙ sym (ap (λ (l : List Pair). map (λ (pair : Pair). pair.0.node) (filter is_overloaded l)) (live-all b of_b))

  listed-same : (from to : ℕ) → flat_map reach_of (live_of (between from to a)) ≡ flat_map reach_of (live_of (between from to b))
  listed-same from to =
      ap (flat_map reach_of) (live-all (between from to a) (between-told from to a of_a))
      ∙ flat-same reach_of reach_of (between from to a) (between from to b) (between-same from to a b same) (λ x y s. ap (filter is_reachable) (items-same 135 prefixes_of x.1.octets y.1.octets s.tlvs))
      ∙ sym (ap (flat_map reach_of) (live-all (between from to b) (between-told from to b of_b)))

  pub reach-same : (system : SystemId) → reach_in a system ≡ reach_in b system
  unfolding reach_in
  reach-same system =
      let node = own_node system in
      let n = number_of node 0 in
      let m = number_of node 255 in
      led-same (lead_of a node) (lead_of b node) (flat_map reach_of (live_of (between n m a))) (leads-same node)
      ∙ ap (where_led (lead_of b node)) (listed-same n m)
