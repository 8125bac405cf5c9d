-- The items of a list.
use Rattle.std.proofs.Common.{◌≡◌, ◌∙◌, ℕ, suc, ◌<◌, ◌≤◌, Bool, true, false, cond, List, [], ◌∷◌, length, map, Option, Some, None, Ok, Err, refl, sym, ap, arith}
use Rattle.std.specs.Prelude.{is_some, nat_le, ◌&&◌}
use Rattle.std.specs.List.{list_all, filter_map}
use Rattle.std.proofs.lemmas.Bool.{and_parts, and_from, and_left, and_right, lt-leb, le-leb}
use Rattle.std.proofs.lemmas.List.{length-map}
use Rattle.toml.specs.Data.{Data}
use Rattle.toml.specs.View.{view, items_of}
use Rattle.toml.specs.declared.value.Value.{Value}
use Rattle.daemon_config.specs.declared.fault.ConfigFault.TheVariants.{Refused}
use Rattle.daemon_config.specs.declared.fault.ConfigKey.{ConfigKey}
use Rattle.daemon_config.specs.declared.fault.ConfigKind.TheVariants as why
use Rattle.daemon_config.specs.Documents.{items_in, list_at, all_seen}
use Rattle.daemon_config.specs.Shapes.{list, so_many}
use Rattle.daemon_config.specs.Steps.{◌>>=◌, or_refused}

pub items-of : (ds : List Data) → items_in (items_of ds) ≡ ds
items-of [] = refl
items-of (d ∷ ds) = ap (λ (ds : List Data). d ∷ ds) (items-of ds)

-- texts or tables that all items are seen as are as many as the items
pub counted : {A : Type 0} (seen : Data → Option A) (ds : List Data) → list_all (λ d. is_some (seen d)) ds ≡ true → length (filter_map seen ds) ≡ length ds
counted seen [] h = refl
counted {A = A} seen (d ∷ ds) h =
    let parts = and_parts (is_some (seen d)) (list_all (λ d. is_some (seen d)) ds) h in
    elim (seen d) as (λ (o : Option A). is_some o ≡ true → length (with_seen o (filter_map seen ds)) ≡ suc (length ds)) [
      | None ↦ λ e. cc
      | Some x ↦ λ e. ap suc (counted seen ds parts.1)
    ] parts.0
  where
    with_seen : Option A → List A → List A
    with_seen None xs = xs
    with_seen (Some x) xs = x ∷ xs

module _ {A : Type 0} (seen : Data → Option A) (least most : ℕ) (key : ConfigKey) (d : Data) (vs : List Value) (at : Some (map view vs) ≡ list_at d) (all : list_all (λ d. is_some (seen d)) (map view vs) ≡ true) where
  abbrev these : List A
  these = filter_map seen (map view vs)

  as-many : length these ≡ length vs
  as-many = counted seen (map view vs) all ∙ length-map vs view

  number-judged : list seen least most key d ≡ or_refused why.Value key (so_many least most these)
  number-judged =
      ap (λ (o : Option (List Data)). or_refused why.Kind key o >>= (λ items. or_refused why.Kind key (all_seen seen items) >>= (λ all. or_refused why.Value key (so_many least most all)))) (sym at)
      ∙ ap (λ (t : Bool). or_refused why.Kind key (cond t (Some these) None) >>= (λ all. or_refused why.Value key (so_many least most all))) all

  where-judged : (t : Bool) → (nat_le least (length these) && nat_le (length these) most) ≡ t → list seen least most key d ≡ or_refused why.Value key (cond t (Some these) None)
  where-judged t is = number-judged ∙ ap (λ (t : Bool). or_refused why.Value key (cond t (Some these) None)) is

  -- too few, too many, and so many as there may be
  pub few : length vs < least → list seen least most key d ≡ Err (Refused why.Value key)
  few h = where-judged false (and_left _ _ (lt-leb least (length these) (omega (arith, h, as-many))))

  pub many : most < length vs → list seen least most key d ≡ Err (Refused why.Value key)
  many h = where-judged false (and_right _ _ (lt-leb (length these) most (omega (arith, h, as-many))))

  pub fits : least ≤ length vs → length vs ≤ most → list seen least most key d ≡ Ok these
  fits low high = where-judged true (and_from _ _ (le-leb least (length these) (omega (arith, low, as-many))) (le-leb (length these) most (omega (arith, high, as-many))))
