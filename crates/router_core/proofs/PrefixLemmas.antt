-- A router's own prefixes by their number.
use Rattle.std.proofs.Common.{◌≡◌, ℕ, zero, suc, ◌<◌, List, [], ◌∷◌, map, set, get_or, length, drop, Option, is_some, Result, Ok, Err, is_ok, refl, sym, ap, arith, zero-le}
use Rattle.std.specs.List.{insert, remove}
use Rattle.isis_base.specs.declared.prefix.Prefix.{Prefix}
use Rattle.model_router.specs.Maps.{find, put, erase}
use Rattle.model_router.specs.Sorted.{RisesFrom}
use Rattle.ordered.specs.Keyed.{keyed, IsPlace, IsGap}
use Rattle.ordered.proofs.MapLemmas.{put-rises, erase-rises}
use Rattle.ordered.proofs.PairLemmas.{keyed-rises, find-pair, find-no_pair, put-pair, put-new_pair, erase-pair, erase-no_pair}
use Rattle.router_wanted.specs.Views.{prefix_pair}
use Rattle.router_desk.specs.Configs.{prefixes_of}
use Rattle.router_core.specs.PrefixLists.{own_number, IsPrefixAt}

-- ---- by a place

pub put-same : (xs : List (Prefix × ℕ)) (n i : ℕ) (v : Prefix × ℕ) → n ≡ own_number v → IsPlace own_number xs n i → map prefix_pair (set xs i v) ≡ put (map prefix_pair xs) n v.1
put-same xs n i v e at = sym (put-pair own_number (λ own. own.1) xs n i v e at)

pub put-new : (xs : List (Prefix × ℕ)) (n i : ℕ) (v : Prefix × ℕ) → n ≡ own_number v → IsGap own_number xs n i → map prefix_pair (insert xs i v) ≡ put (map prefix_pair xs) n v.1
put-new xs n i v e gap = sym (put-new_pair own_number (λ own. own.1) xs n i v e gap)

pub erase-here : (xs : List (Prefix × ℕ)) (n i : ℕ) → IsPlace own_number xs n i → map prefix_pair (remove xs i) ≡ erase (map prefix_pair xs) n
erase-here xs n i at = sym (erase-pair own_number (λ own. own.1) xs n i at)

pub erase-none : (xs : List (Prefix × ℕ)) (n i : ℕ) → IsGap own_number xs n i → map prefix_pair xs ≡ erase (map prefix_pair xs) n
erase-none xs n i gap = sym (erase-no_pair own_number (λ own. own.1) xs n i gap)

pub rises : (xs : List (Prefix × ℕ)) → RisesFrom 0 (map prefix_pair xs) → RisesFrom 0 (keyed own_number xs)
rises xs r = keyed-rises own_number (λ own. own.1) xs 0 r

pub found : (xs : List (Prefix × ℕ)) (n : ℕ) (r : Result ℕ ℕ) → IsPrefixAt xs n r → is_ok r ≡ is_some (find (map prefix_pair xs) n)
found [] n (Ok i) at = absurd (let h = at.inside in omega (arith, h))
found (x ∷ xs) n (Ok i) at = sym (ap (λ (o : Option ℕ). is_some o) (find-pair own_number (λ own. own.1) (x ∷ xs) n i x at))
found xs n (Err i) gap = sym (ap (λ (o : Option ℕ). is_some o) (find-no_pair own_number (λ own. own.1) xs n i gap))

-- ---- rising

pub put-up : (m : List (ℕ × ℕ)) (n v : ℕ) → RisesFrom 0 m → RisesFrom 0 (put m n v)
put-up m n v r = put-rises m 0 n v zero-le r

pub erase-up : (m : List (ℕ × ℕ)) (n : ℕ) → RisesFrom 0 m → RisesFrom 0 (erase m n)
erase-up m n r = erase-rises m 0 n r

-- ---- a configuration's prefixes

pub one-more : (xs : List (Prefix × ℕ)) (i : ℕ) (d : Prefix × ℕ) → i < length xs → prefixes_of (drop i xs) ≡ put (prefixes_of (drop (suc i) xs)) (own_number (get_or xs i d)) (get_or xs i d).1
one-more [] i d h = absurd (omega (arith, h))
one-more (x ∷ xs) zero d h = refl
one-more (x ∷ xs) (suc i) d h = one-more xs i d (omega (arith, h))
