-- The two lists of a LAN after a neighbour is kept, and after a second.
use Rattle.std.proofs.Common.{◌≡◌, ℕ, suc, ◌+◌, ◌<◌, ◌≤◌, ◌⊎◌, inl, inr, true, false, Bool, not, ◌&&◌, ◌||◌, nat_le, eqb, nat_lt, List, [], ◌∷◌, length, map, Option, Some, None, IsSome, is_some, is_none, if◌then◌else◌, refl, sym, ap, ◌∙◌, subst, arith, Result, Ok, Err, MatchResult}
use Rattle.std.specs.Result.{is_ok, is_err}
use Rattle.std.specs.List.{AllByRecursion}
use Rattle.std.proofs.lemmas.Bool.Decides.{nat_tests}
use Rattle.model_router.specs.Maps.{find, put, erase}
use Rattle.model_router.specs.Sorted.{RisesFrom}
use Rattle.model_router.specs.Adjacencies as model
use Rattle.model_router.specs.Seconds as seconds
use Rattle.model_router.specs.Numbers.{system_number}
use Rattle.adjacency.specs.declared.neighbour.Neighbour.{Neighbour}
use Rattle.adjacency.specs.Views.{neighbour_of, by_snpa, snpa_of}
use Rattle.adjacency.specs.Lans.{AreHeard, neighbours, ups, was_up, has_boot, some_up_over}
use Rattle.ordered.specs.Keyed.{IsPlace, IsGap}
use Rattle.adjacency.specs.Inside.{tagged, untagged, chosen, shown, tags_of, lan_of, IsLan, keeps_boot, all_less, some_ended, is_ended, less_by_one}
use Rattle.ordered.proofs.MapLemmas.{choose, rises-less, length-keyed, length-put, put-rises, find-place, find-gap}
use Rattle.adjacency.proofs.TagLemmas.{has_tag, untagged-tagged, length-untagged, chosen-few, untagged-rises, chosen-rises, untagged-put, chosen-put, chosen-erase, find-chosen, find-untagged, tagged-reads_back}

abbrev Tags : Type 0
Tags = List (ℕ × (Bool × Neighbour))

-- ---- what the model shows

shown-put : (q : Tags) (k : ℕ) (t : Bool) (n : Neighbour) → shown (put q k (t, n)) ≡ put (shown q) k (record { up = t; neighbour = neighbour_of n })
unfolding put
shown-put [] k t n = refl
shown-put (p ∷ q) k t n = grind (arith, nat_tests, shown-put q k t n)

was_up-shown : (q : Tags) (k : ℕ) → was_up (find (shown q) k) ≡ has_tag (find q k)
was_up-shown [] k = refl
was_up-shown (p ∷ q) k = grind (arith, nat_tests, was_up-shown q k)

is_none-shown : (q : Tags) (k : ℕ) → is_none (find (shown q) k) ≡ not (is_some (find q k))
is_none-shown [] k = refl
is_none-shown (p ∷ q) k = grind (arith, nat_tests, is_none-shown q k)

length-shown : (q : Tags) → length (shown q) ≡ length q
length-shown [] = refl
length-shown (p ∷ q) = ap suc (length-shown q)

shown-rises : (q : Tags) (least : ℕ) → RisesFrom least q → RisesFrom least (shown q)
shown-rises [] least r = tt
shown-rises (p ∷ q) least r = (r.0, shown-rises q (p.0 + 1) r.1)

abbrev seen : List (ℕ × Neighbour) → List model.Neighbour
seen m = map (λ (p : ℕ × Neighbour). neighbour_of p.1) m

seen-keyed : (ns : List Neighbour) → seen (by_snpa ns) ≡ map neighbour_of ns
seen-keyed [] = refl
seen-keyed (n ∷ ns) = ap (λ (m : List model.Neighbour). neighbour_of n ∷ m) (seen-keyed ns)

neighbours-shown : (q : Tags) → seen (untagged q) ≡ neighbours (shown q)
neighbours-shown [] = refl
neighbours-shown (p ∷ q) = ap (λ (m : List model.Neighbour). neighbour_of p.1.1 ∷ m) (neighbours-shown q)

ups-shown : (q : Tags) → seen (chosen q) ≡ ups (shown q)
ups-shown [] = refl
ups-shown (p ∷ q) = grind (arith, nat_tests, ups-shown q)

heard-snpas : (up : List (ℕ × Neighbour)) (ns : List Neighbour) → AllByRecursion (λ pair. pair.1.neighbour.snpa ≡ pair.0) (shown (tagged up (by_snpa ns)))
heard-snpas up [] = tt
heard-snpas up (n ∷ ns) = (refl, heard-snpas up ns)

heard-systems : (up : List (ℕ × Neighbour)) (ns : List Neighbour) → AllByRecursion (λ n. system_number n.system ≡ snpa_of n) ns → AllByRecursion (λ pair. pair.1.neighbour.system ≡ pair.0) (shown (tagged up (by_snpa ns)))
heard-systems up [] h = tt
heard-systems up (n ∷ ns) h = (h.0, heard-systems up ns h.1)

systems-keyed : (ns : List Neighbour) → AllByRecursion (λ n. system_number n.system ≡ snpa_of n) ns → AllByRecursion (λ p. system_number p.1.system ≡ snpa_of p.1) (by_snpa ns)
systems-keyed [] h = tt
systems-keyed (n ∷ ns) h = (h.0, systems-keyed ns h.1)

keyed-systems : (ns : List Neighbour) → AllByRecursion (λ p. system_number p.1.system ≡ snpa_of p.1) (by_snpa ns) → AllByRecursion (λ n. system_number n.system ≡ snpa_of n) ns
keyed-systems [] h = tt
keyed-systems (n ∷ ns) h = (h.0, keyed-systems ns h.1)

put-all : {V : Type 0} (P : ℕ × V → Type 0) (m : List (ℕ × V)) (k : ℕ) (v : V) → P (k, v) → AllByRecursion P m → AllByRecursion P (put m k v)
unfolding put
put-all P [] k v h a = (h, tt)
put-all P (p ∷ m) k v h a =
    choose (λ t. AllByRecursion P (if t then (k, v) ∷ m else (if nat_lt k p.0 then (k, v) ∷ p ∷ m else p ∷ put m k v))) (eqb p.0 k)
    (h, a.1)
    (choose (λ t. AllByRecursion P (if t then (k, v) ∷ p ∷ m else p ∷ put m k v)) (nat_lt k p.0) (h, a) (a.0, put-all P m k v h a.1))

few-by : (o : Option Neighbour) (count : ℕ) → ((count < 200) ⊎ IsSome o) → count ≤ 200 → (if is_some o then count else count + 1) ≤ 200
few-by None count (inl lt) le = omega (arith, lt)
few-by None count (inr some) le = absurd (let h : false ≡ true = some in grind (arith, h))
few-by (Some n) count room le = le

boot-shown : (q : Tags) (k boot : ℕ) → has_boot (find (shown q) k) boot ≡ keeps_boot (find (untagged q) k) boot
boot-shown [] k boot = refl
boot-shown (p ∷ q) k boot = grind (arith, nat_tests, boot-shown q k boot)

-- whether a binary search found a key
placed : (ns : List Neighbour) (k : ℕ) (r : Result ℕ ℕ) → MatchResult r (IsPlace snpa_of ns k) (IsGap snpa_of ns k) → is_ok r ≡ is_some (find (by_snpa ns) k)
placed [] k (Ok i) at = absurd (let h = at.inside in omega (arith, h))
placed (n ∷ ns) k (Ok i) at = sym (ap (λ (o : Option Neighbour). is_some o) (find-place snpa_of (n ∷ ns) k i n at))
placed ns k (Err i) at = sym (ap (λ (o : Option Neighbour). is_some o) (find-gap snpa_of ns k i at))

is_err-not : (r : Result ℕ ℕ) → is_err r ≡ not (is_ok r)
is_err-not (Ok i) = refl
is_err-not (Err i) = refl

is_some-some : (o : Option Neighbour) → is_some o ≡ true → IsSome o
is_some-some None e = absurd (grind (arith, e))
is_some-some (Some n) e = refl

-- where there is room, or a place was found
pub has-room : (ns : List Neighbour) (k : ℕ) (r : Result ℕ ℕ) → MatchResult r (IsPlace snpa_of ns k) (IsGap snpa_of ns k) → (nat_le 200 (length ns) && is_err r) ≡ false → (length ns < 200) ⊎ IsSome (find (by_snpa ns) k)
has-room ns k (Ok i) at e = inr (is_some-some (find (by_snpa ns) k) (sym (placed ns k (Ok i) at)))
has-room ns k (Err i) at e = inl (grind (arith, nat_tests, e))

-- ---- a second

abbrev keyed_less : List (ℕ × Neighbour) → List (ℕ × Neighbour)
keyed_less [] = []
keyed_less (p ∷ m) = if is_ended p.1 then keyed_less m else (p.0, less_by_one p.1) ∷ keyed_less m

abbrev tags_less : Tags → Tags
tags_less [] = []
tags_less (p ∷ q) = if is_ended p.1.1 then tags_less q else (p.0, (p.1.0, less_by_one p.1.1)) ∷ tags_less q

abbrev keyed_ended : List (ℕ × Neighbour) → Bool
keyed_ended [] = false
keyed_ended (p ∷ m) = is_ended p.1 || keyed_ended m

less-keyed : (ns : List Neighbour) → by_snpa (all_less ns) ≡ keyed_less (by_snpa ns)
less-keyed [] = refl
less-keyed (n ∷ ns) = grind (arith, nat_tests, less-keyed ns)

ended-keyed : (ns : List Neighbour) → some_ended ns ≡ keyed_ended (by_snpa ns)
ended-keyed [] = refl
ended-keyed (n ∷ ns) = ap (λ (b : Bool). is_ended n || b) (ended-keyed ns)

untagged-less : (q : Tags) → untagged (tags_less q) ≡ keyed_less (untagged q)
untagged-less [] = refl
untagged-less (p ∷ q) = grind (arith, nat_tests, untagged-less q)

chosen-less : (q : Tags) → chosen (tags_less q) ≡ keyed_less (chosen q)
chosen-less [] = refl
chosen-less (p ∷ q) = grind (arith, nat_tests, chosen-less q)

shown-less : (q : Tags) → shown (tags_less q) ≡ seconds.heard_less (shown q)
shown-less [] = refl
shown-less (p ∷ q) = grind (arith, nat_tests, shown-less q)

less-rises : (q : Tags) (least : ℕ) → RisesFrom least q → RisesFrom least (tags_less q)
less-rises [] least r = tt
less-rises (p ∷ q) least r =
    choose (λ t. RisesFrom least (if t then tags_less q else (p.0, (p.1.0, less_by_one p.1.1)) ∷ tags_less q)) (is_ended p.1.1)
    (rises-less (p.0 + 1) least (tags_less q) (let h = r.0 in omega (arith, h)) (less-rises q (p.0 + 1) r.1))
    (r.0, less-rises q (p.0 + 1) r.1)

ended-shown : (q : Tags) → seconds.some_over (shown q) ≡ keyed_ended (untagged q)
ended-shown [] = refl
ended-shown (p ∷ q) = ap (λ (b : Bool). is_ended p.1.1 || b) (ended-shown q)

up-ended-shown : (q : Tags) → some_up_over (shown q) ≡ keyed_ended (chosen q)
up-ended-shown [] = refl
up-ended-shown (p ∷ q) = grind (arith, nat_tests, up-ended-shown q)

less-few : (ns : List Neighbour) → length (all_less ns) ≤ length ns
less-few [] = omega arith
less-few (n ∷ ns) = let h = less-few ns in grind (arith, nat_tests, h)

less-systems : (ns : List Neighbour) → AllByRecursion (λ n. system_number n.system ≡ snpa_of n) ns → AllByRecursion (λ n. system_number n.system ≡ snpa_of n) (all_less ns)
less-systems [] h = tt
less-systems (n ∷ ns) h =
    choose (λ t. AllByRecursion (λ n. system_number n.system ≡ snpa_of n) (if t then all_less ns else less_by_one n ∷ all_less ns)) (is_ended n)
    (less-systems ns h.1)
    (h.0, less-systems ns h.1)

-- ---- both lists of a LAN

module _ (heard up : List Neighbour) (s u : ℕ) (lan : IsLan heard up s u) where
  all-of : untagged (tags_of heard up) ≡ by_snpa heard
  all-of = untagged-tagged (by_snpa up) (by_snpa heard)

  pub heard-rises : RisesFrom 0 (by_snpa heard)
  heard-rises = subst (λ (m : List (ℕ × Neighbour)). RisesFrom 0 m) all-of (untagged-rises (tags_of heard up) 0 lan.rises)

  pub up-rises : RisesFrom 0 (by_snpa up)
  up-rises = subst (λ (m : List (ℕ × Neighbour)). RisesFrom 0 m) (sym lan.part) (chosen-rises (tags_of heard up) 0 lan.rises)

  length-tags : length (tags_of heard up) ≡ length heard
  length-tags = sym (length-untagged (tags_of heard up)) ∙ ap length all-of ∙ length-keyed snpa_of heard

  pub length-lan : length (lan_of heard up) ≡ length heard
  length-lan = length-shown (tags_of heard up) ∙ length-tags

  -- what a place among those heard, and one among those that are Up, says
  pub found-heard : (k : ℕ) (r : Result ℕ ℕ) → MatchResult r (IsPlace snpa_of heard k) (IsGap snpa_of heard k) → is_err r ≡ is_none (find (lan_of heard up) k)
  found-heard k r at =
      is_err-not r
      ∙ ap not (placed heard k r at ∙ ap (λ (m : List (ℕ × Neighbour)). is_some (find m k)) (sym all-of) ∙ find-untagged (tags_of heard up) k)
      ∙ sym (is_none-shown (tags_of heard up) k)

  pub found-boot : (k boot : ℕ) → has_boot (find (lan_of heard up) k) boot ≡ keeps_boot (find (by_snpa heard) k) boot
  found-boot k boot = boot-shown (tags_of heard up) k boot ∙ ap (λ (m : List (ℕ × Neighbour)). keeps_boot (find m k) boot) all-of

  pub found-up : (k : ℕ) (r : Result ℕ ℕ) → MatchResult r (IsPlace snpa_of up k) (IsGap snpa_of up k) → is_ok r ≡ was_up (find (lan_of heard up) k)
  found-up k r at =
      placed up k r at
      ∙ ap (λ (m : List (ℕ × Neighbour)). is_some (find m k)) lan.part
      ∙ find-chosen (tags_of heard up) 0 k lan.rises
      ∙ sym (was_up-shown (tags_of heard up) k)

  -- whether no more are taken
  pub full-shown : (k : ℕ) (r : Result ℕ ℕ) → MatchResult r (IsPlace snpa_of heard k) (IsGap snpa_of heard k) → (nat_le 200 (length heard) && is_err r) ≡ (nat_le 200 (length (lan_of heard up)) && is_none (find (lan_of heard up) k))
  full-shown k r at =
      ap (λ (b : Bool). nat_le 200 (length heard) && b) (found-heard k r at)
      ∙ ap (λ (n : ℕ). nat_le 200 n && is_none (find (lan_of heard up) k)) (sym length-lan)

  -- the readers
  pub all-shown : map neighbour_of heard ≡ neighbours (lan_of heard up)
  all-shown = sym (seen-keyed heard) ∙ ap seen (sym all-of) ∙ neighbours-shown (tags_of heard up)

  pub ups-are : map neighbour_of up ≡ ups (lan_of heard up)
  ups-are = sym (seen-keyed up) ∙ ap seen lan.part ∙ ups-shown (tags_of heard up)

  pub are_heard : AreHeard (lan_of heard up)
  are_heard = record {
    rises = shown-rises (tags_of heard up) 0 lan.rises;
    few = (let a = length-lan in let b = lan.few in omega (arith, a, b));
    snpas = heard-snpas (by_snpa up) heard;
    systems = heard-systems (by_snpa up) heard lan.systems;
  }

  -- ---- a neighbour is kept

  module _ (n : Neighbour) (t : Bool) where
    put-rising : RisesFrom 0 (put (tags_of heard up) (snpa_of n) (t, n))
    put-rising = put-rises (tags_of heard up) 0 (snpa_of n) (t, n) (omega arith) lan.rises

    all-put : untagged (put (tags_of heard up) (snpa_of n) (t, n)) ≡ put (by_snpa heard) (snpa_of n) n
    all-put = untagged-put (tags_of heard up) (snpa_of n) t n ∙ ap (λ (m : List (ℕ × Neighbour)). put m (snpa_of n) n) all-of

    chosen-kept : (b : Bool) → chosen (put (tags_of heard up) (snpa_of n) (b, n)) ≡ (if b then put (by_snpa up) (snpa_of n) n else erase (by_snpa up) (snpa_of n))
    chosen-kept true = chosen-put (tags_of heard up) 0 (snpa_of n) n lan.rises ∙ ap (λ (m : List (ℕ × Neighbour)). put m (snpa_of n) n) (sym lan.part)
    chosen-kept false = chosen-erase (tags_of heard up) 0 (snpa_of n) n lan.rises ∙ ap (λ (m : List (ℕ × Neighbour)). erase m (snpa_of n)) (sym lan.part)

    -- the room that keeping needs
    pub put-few : ((length heard < 200) ⊎ IsSome (find (by_snpa heard) (snpa_of n))) → length (put (by_snpa heard) (snpa_of n) n) ≤ 200
    put-few room =
        let same = length-keyed snpa_of heard in
        let more = length-put (by_snpa heard) 0 (snpa_of n) n heard-rises in
        let few = few-by (find (by_snpa heard) (snpa_of n)) (length (by_snpa heard)) (rw same room) (rw same lan.few) in
        omega (arith, more, few)

    pub up-few : ((length heard < 200) ⊎ IsSome (find (by_snpa heard) (snpa_of n))) → length (put (by_snpa up) (snpa_of n) n) ≤ 200
    up-few room =
        let q = put (tags_of heard up) (snpa_of n) (true, n) in
        let part = ap length (chosen-kept true) in
        let few = chosen-few q in
        let all = sym (length-untagged q) ∙ ap length (untagged-put (tags_of heard up) (snpa_of n) true n ∙ ap (λ (m : List (ℕ × Neighbour)). put m (snpa_of n) n) all-of) in
        let most = put-few room in
        omega (arith, part, few, all, most)

    module _ (heard2 up2 : List Neighbour) (e : by_snpa heard2 ≡ put (by_snpa heard) (snpa_of n) n) (f : by_snpa up2 ≡ (if t then put (by_snpa up) (snpa_of n) n else erase (by_snpa up) (snpa_of n))) where
      tags-kept : tags_of heard2 up2 ≡ put (tags_of heard up) (snpa_of n) (t, n)
      tags-kept =
          rw (e ∙ sym all-put, f ∙ sym (chosen-kept t)) (tagged-reads_back (put (tags_of heard up) (snpa_of n) (t, n)) put-rising)

      pub lan-kept : lan_of heard2 up2 ≡ put (lan_of heard up) (snpa_of n) (record { up = t; neighbour = neighbour_of n })
      lan-kept = ap shown tags-kept ∙ shown-put (tags_of heard up) (snpa_of n) t n

      pub is_lan-kept : (s2 u2 : ℕ) → s2 ≡ s → u2 ≡ u → system_number n.system ≡ snpa_of n → ((length heard < 200) ⊎ IsSome (find (by_snpa heard) (snpa_of n))) → IsLan heard2 up2 s2 u2
      is_lan-kept s2 u2 es eu system room = record {
        rises = rw tags-kept put-rising;
        systems = keyed-systems heard2 (rw e (put-all (λ (p : ℕ × Neighbour). system_number p.1.system ≡ snpa_of p.1) (by_snpa heard) (snpa_of n) n system (systems-keyed heard lan.systems)));
        part = f ∙ sym (chosen-kept t) ∙ ap chosen (sym tags-kept);
        few = (let same = length-keyed snpa_of heard2 in let len = ap length e in let most = put-few room in omega (arith, same, len, most));
        room = rw es lan.room;
        up_room = rw eu lan.up_room;
      }

  -- ---- a second

  module _ (heard2 up2 : List Neighbour) (e : heard2 ≡ all_less heard) (f : up2 ≡ all_less up) where
    all-less : untagged (tags_less (tags_of heard up)) ≡ by_snpa heard2
    all-less = untagged-less (tags_of heard up) ∙ ap keyed_less all-of ∙ sym (less-keyed heard) ∙ ap by_snpa (sym e)

    part-less : chosen (tags_less (tags_of heard up)) ≡ by_snpa up2
    part-less = chosen-less (tags_of heard up) ∙ ap keyed_less (sym lan.part) ∙ sym (less-keyed up) ∙ ap by_snpa (sym f)

    tags-aged : tags_of heard2 up2 ≡ tags_less (tags_of heard up)
    tags-aged = rw (sym all-less, sym part-less) (tagged-reads_back (tags_less (tags_of heard up)) (less-rises (tags_of heard up) 0 lan.rises))

    pub lan-aged : lan_of heard2 up2 ≡ seconds.heard_less (lan_of heard up)
    lan-aged = ap shown tags-aged ∙ shown-less (tags_of heard up)

    pub is_lan-aged : (s2 u2 : ℕ) → s2 ≡ s → u2 ≡ u → IsLan heard2 up2 s2 u2
    is_lan-aged s2 u2 es eu = record {
      rises = rw tags-aged (less-rises (tags_of heard up) 0 lan.rises);
      systems = rw e (less-systems heard lan.systems);
      part = sym part-less ∙ ap chosen (sym tags-aged);
      few = (let len = ap length e in let less = less-few heard in let most = lan.few in omega (arith, len, less, most));
      room = rw es lan.room;
      up_room = rw eu lan.up_room;
    }

  pub over-shown : some_ended heard ≡ seconds.some_over (lan_of heard up)
  over-shown = ended-keyed heard ∙ ap keyed_ended (sym all-of) ∙ sym (ended-shown (tags_of heard up))

  pub up-over-shown : some_ended up ≡ some_up_over (lan_of heard up)
  up-over-shown = ended-keyed up ∙ ap keyed_ended lan.part ∙ sym (up-ended-shown (tags_of heard up))
