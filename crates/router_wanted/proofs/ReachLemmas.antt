-- Prefixes in order of their numbers.
use Rattle.std.proofs.Common.{◌≡◌, ℕ, ◌+◌, true, false, Bool, List, [], ◌∷◌, map, Option, Some, is_some, if◌then◌else◌, sym, ap, arith}
use Rattle.isis_tlv.specs.declared.prefix.PrefixItem.{PrefixItem}
use Rattle.model_router.specs.LspPrefixes.{Reach, own_reach}
use Rattle.model_router.specs.Maps.{find, put}
use Rattle.model_router.specs.Sorted.{RisesFrom}
use Rattle.lsp_fragments.specs.Entries.{reach_pair}
use Rattle.ordered.specs.Keyed.{keyed, IsPlace, IsGap}
use Rattle.ordered.proofs.MapLemmas.{put-rises}
use Rattle.ordered.proofs.PairLemmas.{keyed-rises, find-pair, find-no_pair, put-new_pair}
use Rattle.router_wanted.specs.Parts.{with_leak, IsSpot}

abbrev pub key : PrefixItem → ℕ
key item = (reach_pair item).0

abbrev pub value : PrefixItem → Reach
value item = (reach_pair item).1

pub rises : (xs : List PrefixItem) → RisesFrom 0 (map reach_pair xs) → RisesFrom 0 (keyed key xs)
rises xs r = keyed-rises key value xs 0 r

pub found : (xs : List PrefixItem) (n i : ℕ) → IsPlace key xs n i → is_some (find (map reach_pair xs) n) ≡ true
found [] n i at = absurd (let h = at.inside in omega (arith, h))
found (x ∷ xs) n i at = ap (λ (o : Option Reach). is_some o) (find-pair key value (x ∷ xs) n i x at)

pub spot : (xs : List PrefixItem) (n i : ℕ) → IsGap key xs n i → IsSpot xs n (Some i)
spot xs n i gap =
    (gap.inside, find-no_pair key value xs n i gap, λ item e. sym (put-new_pair key value xs n i item (sym e) gap))

pub leak-rises : (m : List (ℕ × Reach)) (p : ℕ × Reach) → RisesFrom 0 m → RisesFrom 0 (with_leak m p)
leak-rises m p r = by (is_some (find m p.0)) where
  by : (t : Bool) → RisesFrom 0 (if t then m else put m p.0 p.1)
  by true = r
  by false = put-rises m 0 p.0 p.1 (omega arith) r

pub own-rises : (ps : List (ℕ × ℕ)) (least : ℕ) → RisesFrom least ps → RisesFrom least (own_reach ps)
own-rises [] least r = tt
own-rises (p ∷ ps) least r = (r.0, own-rises ps (p.0 + 1) r.1)
