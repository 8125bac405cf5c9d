-- Whom the members of LANs see, and which of them are swept.
use Rattle.std.proofs.Common.{◌≡◌, ℕ, zero, suc, get_or, ◌+◌, ◌-◌, ◌^◌, ◌<◌, ◌≤◌, ◌==◌, ◌&&◌, ◌||◌, ◌⊎◌, inl, inr, nat_lt, not, drop, Bool, true, false, List, [], ◌∷◌, ◌++◌, length, Option, Some, None, Result, Ok, Err, IfSome, OnOk, if◌then◌else◌, refl, sym, ap, ◌∙◌, subst, arith, append_assoc}
use Rattle.std.specs.List.{AllByRecursion, flat_map}
use Rattle.std.specs.Option.{IsSome}
use Rattle.std.specs.Option.{option_map}
use Rattle.std.proofs.lemmas.Bool.Decides.{nat_tests}
use Rattle.isis_base.specs.declared.level.Level.{Level}
use Rattle.isis_base.specs.declared.level.Level.TheVariants as level
use Rattle.isis_base.specs.declared.identifiers.SystemId.{SystemId}
use Rattle.model_router.specs.Numbers.{system_number}
use Rattle.model_router.specs.Places.{nth}
use Rattle.model_router.specs.Routers.{Router, book_of}
use Rattle.model_network.specs.declared.end.End.{End}
use Rattle.model_network.specs.Networks.{Taking, Network, place_on, place_in}
use Rattle.model_network.specs.RunLines.{ends_of}
use Rattle.model_network.specs.Sweeps.{IsCovering, IsCovered, IsSweptBy}
use Rattle.snp_exchange.specs.Sweeps.{in_range}
use Rattle.lab_facts.specs.Sweeps.{same_level, is_at, is_covered, is_whole}
use Rattle.lab_facts.proofs.SweepLemmas.{whole-each}
use Rattle.network_lab.specs.LabNets.{Seen, seen_of}
use Rattle.network_lab.specs.LanStates.{moment_of, is_counted, swept_between, swept_by, seen_by, sees_at, router_among, if_swept, sweeper_at}
use Rattle.network_lab.specs.LinkStates.{listed, joined_pair, pair_of, joined_by, with_sweeper, swept_pair, pairs_from}
use Rattle.network_lab.specs.Claims.{IsEndIn}
use Rattle.network_lab.proofs.PlaceLemmas.{nth-there, nth-less, of-place}
use Rattle.network_lab.proofs.LinkLemmas.{all-at}
use Rattle.network_lab.proofs.StateLemmas.{drop-at}

-- ---- whom a member sees

pub seen-nowhere : (o : Option Router) (level : Level) → seen_by o None level ≡ None
seen-nowhere None level = refl
seen-nowhere (Some r) level = refl

-- a router that isn't an end sees nobody
pub sees-none : (s : Seen) (link member : ℕ) (level : Level) (o : Option ℕ) → o ≡ None → option_map (λ circuit. circuit - 1) o ≡ place_in (nth s.links link) member → None ≡ sees_at s link member level
sees-none s link member level o e p =
    sym (ap (λ (q : Option ℕ). seen_by (nth s.routers member) q level) (sym p ∙ ap (option_map (λ circuit. circuit - 1)) e) ∙ seen-nowhere (nth s.routers member) level)

pub sees-some : (s : Seen) (link member circuit : ℕ) (level : Level) (r : Router) (o : Option ℕ) → o ≡ Some circuit → option_map (λ circuit. circuit - 1) o ≡ place_in (nth s.links link) member → nth s.routers member ≡ Some r
    → seen_by (Some r) (Some (circuit - 1)) level ≡ sees_at s link member level
sees-some s link member circuit level r o e p at =
    sym (ap (λ (q : Option ℕ). seen_by (nth s.routers member) q level) (sym p ∙ ap (option_map (λ circuit. circuit - 1)) e) ∙ ap (λ (x : Option Router). seen_by x (Some (circuit - 1)) level) at)

-- ---- by whom it is swept

-- whom a member sees, and the router of that among the ends
pub sweeper-by : (s : Seen) (link member : ℕ) (level : Level) (system : Option SystemId) (ends : List End) → option_map system_number system ≡ sees_at s link member level → nth s.links link ≡ Some ends
    → sweeper_at s link member level ≡ if_swept s link level member (router_among s.routers (option_map system_number system) ends)
sweeper-by s link member level system ends e at =
    ap (λ (o : Option ℕ). if_swept s link level member (router_among s.routers o (ends_of (nth s.links link)))) (sym e)
    ∙ ap (λ (o : Option (List End)). if_swept s link level member (router_among s.routers (option_map system_number system) (ends_of o))) at

pub swept-here : (s : Seen) (link member other : ℕ) (level : Level) (b c : Bool) → b ≡ (other == member) → c ≡ swept_by s link level member other → (b || not c) ≡ false → Some other ≡ if_swept s link level member (Some other)
swept-here s link member other level b c e f h = by b c e f h
  where
    by : (b c : Bool) → b ≡ (other == member) → c ≡ swept_by s link level member other → (b || not c) ≡ false → Some other ≡ (if not (other == member) && swept_by s link level member other then Some other else None)
    by true c e f h = absurd (cc)
    by false true e f h = ap (λ (x : Bool). if not x && true then Some other else None) e ∙ ap (λ (y : Bool). if not (other == member) && y then Some other else None) f
    by false false e f h = absurd (cc)

pub not-swept : (s : Seen) (link member other : ℕ) (level : Level) (b c : Bool) → b ≡ (other == member) → c ≡ swept_by s link level member other → (b || not c) ≡ true → None ≡ if_swept s link level member (Some other)
not-swept s link member other level b c e f h = by b c e f h
  where
    by : (b c : Bool) → b ≡ (other == member) → c ≡ swept_by s link level member other → (b || not c) ≡ true → None ≡ (if not (other == member) && swept_by s link level member other then Some other else None)
    by true c e f h = ap (λ (x : Bool). if not x && swept_by s link level member other then Some other else None) e
    by false true e f h = absurd (cc)
    by false false e f h = ap (λ (x : Bool). if not x && false then Some other else None) e ∙ ap (λ (y : Bool). if not (other == member) && y then Some other else None) f

pub swept-at : (s : Seen) (link member other : ℕ) (level : Level) (a b : Router) → nth s.routers member ≡ Some a → nth s.routers other ≡ Some b
    → swept_by s link level member other ≡ (is_counted a level && is_counted b level && is_whole (moment_of link level member a other b) s.noted.takings)
swept-at s link member other level a b at_a at_b =
    ap (λ (o : Option Router). swept_between s.noted.takings link level member o other (nth s.routers other)) at_a
    ∙ ap (λ (o : Option Router). swept_between s.noted.takings link level member (Some a) other o) at_b

-- ---- who is swept is swept in the model's networks

both-true : (a b : Bool) → (a && b) ≡ true → (a ≡ true) × (b ≡ true)
both-true true b e = (refl, e)
both-true false b e = absurd (cc)

number-same : (m n : ℕ) → (m == n) ≡ true → m ≡ n
number-same m n e = grind (arith, nat_tests, e)

level-same : (a b : Level) → same_level a b ≡ true → a ≡ b
level-same level.One level.One e = refl
level-same level.One level.Two e = absurd (cc)
level-same level.Two level.One e = absurd (cc)
level-same level.Two level.Two e = refl

is-less : (m n : ℕ) → nat_lt m n ≡ true → m < n
is-less m n e = grind (arith, nat_tests, e)

in-low : (first last id : ℕ) → in_range first last id ≡ true → (first ≤ id) × (id ≤ last)
in-low first last id e = (grind (arith, nat_tests, e), grind (arith, nat_tests, e))

-- two routers with keys that are still counted
record AreCounted (net : Network) (level : Level) (member other : ℕ) : Type 0 where
  a : Router
  b : Router
  at_a : nth net.routers member ≡ Some a
  at_b : nth net.routers other ≡ Some b
  below_a : (book_of a level).changes < 2 ^ 64 - 1
  below_b : (book_of b level).changes < 2 ^ 64 - 1

covers : (net : Network) (link : ℕ) (level : Level) (member other id : ℕ) (q : AreCounted net level member other) (t : Taking) → is_at (moment_of link level member q.a other q.b) t ≡ true → in_range t.first t.last id ≡ true
    → IsCovering net link level member other id t
covers net link level member other id q t e f =
    let key = moment_of link level member q.a other q.b in
    let h = both-true (t.link == key.link && same_level t.level key.level && t.member == key.member && t.sender == key.sender && t.boot == key.boot && t.changes == key.changes && t.sent_boot == key.sent_boot) (t.sent_changes == key.sent_changes) e in
    let g = both-true (t.link == key.link && same_level t.level key.level && t.member == key.member && t.sender == key.sender && t.boot == key.boot && t.changes == key.changes) (t.sent_boot == key.sent_boot) h.0 in
    let k = both-true (t.link == key.link && same_level t.level key.level && t.member == key.member && t.sender == key.sender && t.boot == key.boot) (t.changes == key.changes) g.0 in
    let l = both-true (t.link == key.link && same_level t.level key.level && t.member == key.member && t.sender == key.sender) (t.boot == key.boot) k.0 in
    let m = both-true (t.link == key.link && same_level t.level key.level && t.member == key.member) (t.sender == key.sender) l.0 in
    let n = both-true (t.link == key.link && same_level t.level key.level) (t.member == key.member) m.0 in
    let p = both-true (t.link == key.link) (same_level t.level key.level) n.0 in
    let changes : t.changes ≡ (book_of q.a level).changes = number-same t.changes (book_of q.a level).changes k.1 in
    let sent : t.sent_changes ≡ (book_of q.b level).changes = number-same t.sent_changes (book_of q.b level).changes h.1 in
    record {
      a = q.a;
      b = q.b;
      at_a = q.at_a;
      at_b = q.at_b;
      of_member = number-same t.member member n.1;
      of_other = number-same t.sender other m.1;
      on = number-same t.link link p.0;
      level_is = level-same t.level level p.1;
      here = record { boot = sym (number-same t.boot q.a.boot l.1); changes = sym changes; below = subst (λ (x : ℕ). x < 2 ^ 64 - 1) (sym changes) q.below_a };
      there = record { boot = sym (number-same t.sent_boot q.b.boot g.1); changes = sym sent; below = subst (λ (x : ℕ). x < 2 ^ 64 - 1) (sym sent) q.below_b };
      low = (in-low t.first t.last id f).0;
      high = (in-low t.first t.last id f).1;
    }

covered : (net : Network) (link : ℕ) (level : Level) (member other id : ℕ) (q : AreCounted net level member other) (ts : List Taking) → is_covered (moment_of link level member q.a other q.b) ts id ≡ true → IsCovered net link level member other id ts
covered net link level member other id q [] e = absurd (cc)
covered net link level member other id q (t ∷ ts) e = by (covered net link level member other id q ts) (is_at (moment_of link level member q.a other q.b) t) (in_range t.first t.last id) refl refl e
  where
    by : (is_covered (moment_of link level member q.a other q.b) ts id ≡ true → IsCovered net link level member other id ts) → (x y : Bool) → is_at (moment_of link level member q.a other q.b) t ≡ x → in_range t.first t.last id ≡ y → ((x && y) || is_covered (moment_of link level member q.a other q.b) ts id) ≡ true
        → IsCovering net link level member other id t ⊎ IsCovered net link level member other id ts
    by rest true true p r e = inl (covers net link level member other id q t p r)
    by rest true false p r e = inr (rest e)
    by rest false y p r e = inr (rest e)

pub swept-is : (s : Seen) (net : Network) (link : ℕ) (level : Level) (member other : ℕ) → swept_by s link level member other ≡ true → seen_of net ≡ s → IsSweptBy net link level member other
swept-is s net link level member other e is =
    of (nth net.routers member) (nth net.routers other) refl refl (ap (λ (x : Seen). swept_by x link level member other) is ∙ e)
  where
    of : (o w : Option Router) → nth net.routers member ≡ o → nth net.routers other ≡ w → swept_between net.takings link level member o other w ≡ true → IsSweptBy net link level member other
    of None w p r e = absurd (cc)
    of (Some a) None p r e = absurd (cc)
    of (Some a) (Some b) p r e =
        let whole = both-true (is_counted a level && is_counted b level) (is_whole (moment_of link level member a other b) net.takings) e in
        let counts = both-true (is_counted a level) (is_counted b level) whole.0 in
        let q : AreCounted net level member other = record {
          a = a;
          b = b;
          at_a = p;
          at_b = r;
          below_a = is-less (book_of a level).changes (2 ^ 64 - 1) counts.0;
          below_b = is-less (book_of b level).changes (2 ^ 64 - 1) counts.1;
        } in
        record { each = λ id h. covered net link level member other id q net.takings (whole-each (moment_of link level member a other b) net.takings whole.1 id h) }

-- ---- pairs

one-on : (i : ℕ) → i + 1 ≡ suc i
one-on i = omega arith

-- the pairs of a link or LAN, and of those behind it
pub pairs-step : (s : Seen) (level : Level) (k : ℕ) (ends : List End) (xs mid new : List (ℕ × ℕ)) → nth s.links k ≡ Some ends → mid ≡ xs ++ joined_by s.routers level ends → new ≡ mid ++ flat_map (swept_pair s k level) ends
    → new ++ pairs_from s level (k + 1) (drop (k + 1) s.links) ≡ xs ++ pairs_from s level k (drop k s.links)
pairs-step s level k ends xs mid new at m n =
    ap (λ (ys : List (ℕ × ℕ)). ys ++ rest) (n ∙ (ap (λ (ys : List (ℕ × ℕ)). ys ++ swept) m ∙ append_assoc xs joined swept))
    ∙ (append_assoc xs (joined ++ swept) rest
    ∙ (ap (λ (j : ℕ). xs ++ ((joined ++ swept) ++ pairs_from s level (k + 1) (drop j s.links))) (one-on k)
    ∙ ap (λ (links : List (List End)). xs ++ pairs_from s level k links) (sym (drop-at s.links k ends at))))
  where
    joined : List (ℕ × ℕ)
    joined = joined_by s.routers level ends

    swept : List (ℕ × ℕ)
    swept = flat_map (swept_pair s k level) ends

    rest : List (ℕ × ℕ)
    rest = pairs_from s level (k + 1) (drop (k + 1) s.links)

-- so where memory sufficed
pub pairs-ok : {U E : Type 0} (res : Result U E) (s : Seen) (level : Level) (k : ℕ) (xs mid new : List (ℕ × ℕ)) → k < length s.links → IfSome (nth s.links k) (λ (ends : List End). mid ≡ xs ++ joined_by s.routers level ends)
    → OnOk res (IfSome (nth s.links k) (λ (ends : List End). new ≡ mid ++ flat_map (swept_pair s k level) ends))
    → OnOk res (new ++ pairs_from s level (k + 1) (drop (k + 1) s.links) ≡ xs ++ pairs_from s level k (drop k s.links))
pairs-ok (Err e) s level k xs mid new h m n = tt
pairs-ok (Ok u) s level k xs mid new h m n =
    let there = nth-there s.links k h in
    pairs-step s level k there.0 xs mid new there.1
    (of-place (λ (ends : List End). mid ≡ xs ++ joined_by s.routers level ends) (nth s.links k) there.0 there.1 m)
    (of-place (λ (ends : List End). new ≡ mid ++ flat_map (swept_pair s k level) ends) (nth s.links k) there.0 there.1 n)

-- a member of a LAN, and those behind it
pub members-step : (s : Seen) (level : Level) (link k : ℕ) (ends : List End) (e : End) (other : Option ℕ) (xs : List (ℕ × ℕ)) → nth ends k ≡ Some e → other ≡ sweeper_at s link e.router level
    → (xs ++ listed (with_sweeper e.router other)) ++ flat_map (swept_pair s link level) (drop (k + 1) ends) ≡ xs ++ flat_map (swept_pair s link level) (drop k ends)
members-step s level link k ends e other xs at o =
    append_assoc xs (listed (with_sweeper e.router other)) (flat_map (swept_pair s link level) (drop (k + 1) ends))
    ∙ (ap (λ (y : Option ℕ). xs ++ (listed (with_sweeper e.router y) ++ flat_map (swept_pair s link level) (drop (k + 1) ends))) o
    ∙ (ap (λ (j : ℕ). xs ++ (swept_pair s link level e ++ flat_map (swept_pair s link level) (drop j ends))) (one-on k)
    ∙ ap (λ (left : List End). xs ++ flat_map (swept_pair s link level) left) (sym (drop-at ends k e at))))

-- the pair of a link, if any, is put behind those so far
pub pair-more : (s : Seen) (level : Level) (o : Option (List End)) (found : Option (ℕ × ℕ)) (x : Option (ℕ × ℕ)) (xs new : List (ℕ × ℕ)) → IfSome o (λ (ends : List End). found ≡ joined_pair s.routers level (pair_of ends)) → found ≡ x → new ≡ xs ++ listed x
    → IfSome o (λ (ends : List End). new ≡ xs ++ joined_by s.routers level ends)
pair-more s level None found x xs new f e n = tt
pair-more s level (Some ends) found x xs new f e n = n ∙ ap (λ (p : Option (ℕ × ℕ)). xs ++ listed p) (sym e ∙ f)

-- ---- ends

pub nth-or : {A : Type 0} (xs : List A) (i : ℕ) (d : A) → i < length xs → nth xs i ≡ Some (get_or xs i d)
nth-or [] i d h = absurd (omega (arith, h))
nth-or (x ∷ xs) zero d h = refl
nth-or (x ∷ xs) (suc i) d h = nth-or xs i d (omega (arith, h))

-- the router of an end is there
pub end-less : (rs : List Router) (ends : List End) (k : ℕ) (d : End) → AllByRecursion (IsEndIn rs) ends → k < length ends → (get_or ends k d).router < length rs
end-less rs ends k d all h = let e = all-at (IsEndIn rs) ends k (get_or ends k d) all (nth-or ends k d h) in nth-less rs (get_or ends k d).router e.r e.at

on-less : (rs : List Router) (ends : List End) (i : ℕ) → AllByRecursion (IsEndIn rs) ends → IsSome (place_on ends i) → i < length rs
on-less rs [] i all h = absurd (cc)
on-less rs (e ∷ ends) i all h = by (on-less rs ends i all.1) (e.router == i) refl h
  where
    by : (IsSome (place_on ends i) → i < length rs) → (b : Bool) → (e.router == i) ≡ b → IsSome (if b then Some e.place else place_on ends i) → i < length rs
    by rest true q h = subst (λ (k : ℕ). k < length rs) (number-same e.router i q) (nth-less rs e.router all.0.r all.0.at)
    by rest false q h = rest h

pub member-less : (s : Seen) (link i : ℕ) → ((link : ℕ) (ends : List End) → nth s.links link ≡ Some ends → AllByRecursion (IsEndIn s.routers) ends) → IsSome (place_in (nth s.links link) i) → i < length s.routers
member-less s link i all h = of (nth s.links link) refl h
  where
    of : (o : Option (List End)) → nth s.links link ≡ o → IsSome (place_in o i) → i < length s.routers
    of None e h = absurd (cc)
    of (Some ends) e h = on-less s.routers ends i (all link ends e) h
