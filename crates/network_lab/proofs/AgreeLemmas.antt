-- Routers of one group hold the same live LSPs.
use Rattle.std.proofs.Common.{◌≡◌, ℕ, zero, suc, ◌+◌, ◌==◌, ◌&&◌, Bool, true, false, not, ◌⊎◌, inl, inr, ⊎_elim, List, [], ◌∷◌, ◌++◌, Option, Some, None, if◌then◌else◌, refl, sym, ap, ◌∙◌, subst, arith}
use Rattle.std.proofs.lemmas.Bool.Decides.{nat_tests}
use Rattle.std.specs.List.{flat_map}
use Rattle.isis_base.specs.declared.level.Level.{Level}
use Rattle.model_router.specs.Both.{at}
use Rattle.model_router.specs.Places.{nth}
use Rattle.model_router.specs.Routers.{Router}
use Rattle.model_router.specs.AdjacencyLaws.{opens, is_point}
use Rattle.model_router.specs.Flooding.{IsKept}
use Rattle.model_network.specs.declared.end.End.{End}
use Rattle.model_network.specs.Networks.{Network}
use Rattle.model_network.specs.Counts.{flags}
use Rattle.model_network.specs.RunLines.{ends_of}
use Rattle.model_network.specs.LiveViews.{live_at}
use Rattle.model_network.specs.Chains.{IsClean, AreJoined, Clean, CleanBack, Swept, SweptBack}
use Rattle.model_network.proofs.ChainLemmas.{joined-agrees}
use Rattle.model_network.proofs.SweepLemmas.{swept-live}
use Rattle.lab_facts.specs.declared.state.LinkState.{LinkState}
use Rattle.lab_facts.specs.LinkStates as link
use Rattle.lab_facts.specs.LinkStates.{state_of, no_state}
use Rattle.lab_facts.specs.Joined.{In, TakesPart, IsChain}
use Rattle.lab_facts.proofs.GroupedLemmas.{groups-of}
use Rattle.network_lab.specs.LabNets.{Seen, LabNet}
use Rattle.network_lab.specs.LabInside.{IsNet}
use Rattle.network_lab.specs.Reached.{HasRun}
use Rattle.network_lab.specs.Claims.{IsClaimed}
use Rattle.network_lab.specs.LanStates.{swept_by, sees_at, router_among, if_swept, sweeper_at}
use Rattle.network_lab.specs.LinkStates.{runs_of, is_point_in, is_clean, state_between, state_of_ends, listed, joined_by, with_sweeper, swept_pair, pairs_on, pairs_from, pairs_of, groups_at}
use Rattle.network_lab.specs.Agreements.{IsKeptInGroup, AreAgreeing, AreSweptAlike}
use Rattle.network_lab.proofs.StartLemmas.{both-true, has-run, links-in}
use Rattle.network_lab.proofs.LanLemmas.{swept-is}
use Rattle.network_lab.proofs.BodyLemmas.{one-body}

-- ---- clean links

-- what a clean link's state says of its ends
record Quiet (a b : Router) (p q : ℕ) (level : Level) : Type 0 where
  up_a : opens (nth a.circuits p) level ≡ true
  up_b : opens (nth b.circuits q) level ≡ true
  quiet_a : flags a p level ≡ 0
  quiet_b : flags b q level ≡ 0

same-number : (m n : ℕ) → (m == n) ≡ true → m ≡ n
same-number m n e = grind (arith, nat_tests, e)

quiet-of : (a b : Router) (p q : ℕ) (level : Level) → is_clean (state_of a p b q level) ≡ true → Quiet a b p q level
unfolding state_of
quiet-of a b p q level = by (at a.config.runs level && at b.config.runs level)
  where
    by : (t : Bool) → is_clean (if t then link.state_between a p b q level else no_state) ≡ true → Quiet a b p q level
    by false e = absurd (cc)
    by true e =
        let x = both-true ((opens (nth a.circuits p) level && opens (nth b.circuits q) level) && (flags a p level == 0)) (flags b q level == 0) e in
        let y = both-true (opens (nth a.circuits p) level && opens (nth b.circuits q) level) (flags a p level == 0) x.0 in
        let z = both-true (opens (nth a.circuits p) level) (opens (nth b.circuits q) level) y.0 in
        record { up_a = z.0; up_b = z.1; quiet_a = same-number (flags a p level) 0 y.1; quiet_b = same-number (flags b q level) 0 x.1 }

clean-of : (s : Seen) (h : HasRun s) (l : ℕ) (e f : End) (level : Level) → nth s.links l ≡ Some (e ∷ f ∷ []) → (e.router ≡ f.router → ⊥)
    → is_clean (state_of_ends s.routers level (e, f)) ≡ true → IsClean h.net level e.router f.router
clean-of s h l e f level at_l apart clean = of (nth s.routers e.router) (nth s.routers f.router) refl refl clean
  where
    of-ends : Option Router → Option Router → LinkState
    of-ends o w =
        if is_point_in o e.place level && is_point_in w f.place level
        then state_between o e.place w f.place level else no_state

    none : (x : Bool) → is_clean (if x && false then no_state else no_state) ≡ true → ⊥
    none true q = absurd (cc)
    none false q = absurd (cc)

    at-net : (i : ℕ) (r : Router) → nth s.routers i ≡ Some r → nth h.net.routers i ≡ Some r
    at-net i r x = ap (λ (s : Seen). nth s.routers i) h.seen ∙ x

    by : (a b : Router) → nth s.routers e.router ≡ Some a → nth s.routers f.router ≡ Some b
        → (x y : Bool) → (at a.config.runs level && is_point (nth a.circuits e.place)) ≡ x → (at b.config.runs level && is_point (nth b.circuits f.place)) ≡ y
        → is_clean (if x && y then state_of a e.place b f.place level else no_state) ≡ true → IsClean h.net level e.router f.router
    by a b at_a at_b true true t u c =
        let quiet = quiet-of a b e.place f.place level c in
        record {
          near = record { router = e.router; place = e.place; system = a.config.system };
          far = record { router = f.router; place = f.place; system = b.config.system };
          link = l;
          a = a;
          b = b;
          here = refl;
          there = refl;
          up = record {
            link_is = record {
              joins = record { ends = ap (λ (s : Seen). nth s.links l) h.seen ∙ at_l; apart = apart };
              near = record { a = a; at_a = at-net e.router a at_a; system = refl; point = (both-true (at a.config.runs level) (is_point (nth a.circuits e.place)) t).1 };
              far = record { a = b; at_a = at-net f.router b at_b; system = refl; point = (both-true (at b.config.runs level) (is_point (nth b.circuits f.place)) u).1 };
            };
            near = at-net e.router a at_a;
            far = at-net f.router b at_b;
            up = record { near = quiet.up_a; far = quiet.up_b };
          };
          quiet = quiet.quiet_a;
          quiet_there = quiet.quiet_b;
        }
    by a b at_a at_b true false t u c = absurd (cc)
    by a b at_a at_b false y t u c = absurd (cc)

    of : (o w : Option Router) → nth s.routers e.router ≡ o → nth s.routers f.router ≡ w → is_clean (of-ends o w) ≡ true → IsClean h.net level e.router f.router
    of None w x y c = absurd (cc)
    of (Some a) None x y c = absurd (none (at a.config.runs level && is_point (nth a.circuits e.place)) c)
    of (Some a) (Some b) x y c = by a b x y (at a.config.runs level && is_point (nth a.circuits e.place)) (at b.config.runs level && is_point (nth b.circuits f.place)) refl refl c

-- ---- chains

same-router : (a b : Router) → ◌≡◌ {A = Option Router} (Some a) (Some b) → a ≡ b
same-router a b e = cc

-- a router that takes part is there
part-there : (routers : List Router) (level : Level) (i : ℕ) → TakesPart (runs_of routers level) i → (r : Router) × (nth routers i ≡ Some r)
part-there [] level i e = absurd (cc)
part-there (r ∷ routers) level zero e = (r, refl)
part-there (r ∷ routers) level (suc i) e = part-there routers level i e

-- two routers are one, or they are joined
abbrev OneOrJoined : Network → Level → ℕ → ℕ → Type 0
OneOrJoined net level i j = (i ≡ j) ⊎ AreJoined net level i j

in-both : {A : Type 0} (x : A) (xs ys : List A) → In x (xs ++ ys) → In x xs ⊎ In x ys
in-both x [] ys e = inr e
in-both x (y ∷ xs) ys (inl e) = inl (inl e)
in-both x (y ∷ xs) ys (inr e) = ⊎_elim (λ (f : In x xs). inl (inr f)) (λ (f : In x ys). inr f) (in-both x xs ys e)

in-each : {A B : Type 0} (f : A → List B) (x : B) (xs : List A) → In x (flat_map f xs) → (a : A) × In x (f a)
in-each f x [] e = absurd e
in-each f x (a ∷ xs) e = ⊎_elim (λ (g : In x (f a)). (a, g)) (λ (g : In x (flat_map f xs)). in-each f x xs g) (in-both x (f a) (flat_map f xs) e)

-- a pair that a clean link joins
clean-pair : (s : Seen) (h : HasRun s) (l : ℕ) (ends : List End) (level : Level) (i j : ℕ) → nth s.links l ≡ Some ends → In (i, j) (joined_by s.routers level ends) → OneOrJoined h.net level i j
clean-pair s h l [] level i j at_l e = absurd e
clean-pair s h l (x ∷ []) level i j at_l e = absurd e
clean-pair s h l (x ∷ y ∷ z ∷ ends) level i j at_l e = absurd e
clean-pair s h l (x ∷ y ∷ []) level i j at_l e = by (is_clean (state_of_ends s.routers level (x, y))) refl e
  where
    of : (t : Bool) → (x.router == y.router) ≡ t → is_clean (state_of_ends s.routers level (x, y)) ≡ true → OneOrJoined h.net level x.router y.router
    of true q c = inl (same-number x.router y.router q)
    of false q c = inr (Clean (clean-of s h l x y level at_l (λ (p : x.router ≡ y.router). grind (arith, nat_tests, p, q)) c))

    by : (t : Bool) → is_clean (state_of_ends s.routers level (x, y)) ≡ t → In (i, j) (listed (if t then Some (x.router, y.router) else None)) → OneOrJoined h.net level i j
    by false c m = absurd m
    by true c (inr m) = absurd m
    by true c (inl m) = subst (λ (p : ℕ × ℕ). OneOrJoined h.net level p.0 p.1) (sym m) (of (x.router == y.router) refl c)

-- a member of a LAN and the end that sweeps it
some-number : (m n : ℕ) → ◌≡◌ {A = Option ℕ} (Some m) (Some n) → m ≡ n
some-number m n e = cc

if-swept : (s : Seen) (l : ℕ) (level : Level) (member other : ℕ) (o : Option ℕ) → if_swept s l level member o ≡ Some other → swept_by s l level member other ≡ true
if-swept s l level member other None e = absurd (cc)
if-swept s l level member other (Some x) e = by (not (x == member)) (swept_by s l level member x) refl e
  where
    by : (t u : Bool) → swept_by s l level member x ≡ u → (if t && u then Some x else None) ≡ Some other → swept_by s l level member other ≡ true
    by true true q e = subst (λ (n : ℕ). swept_by s l level member n ≡ true) (some-number x other e) q
    by true false q e = absurd (cc)
    by false u q e = absurd (cc)

swept-pair : (s : Seen) (h : HasRun s) (l : ℕ) (e : End) (level : Level) (i j : ℕ) → In (i, j) (swept_pair s l level e) → OneOrJoined h.net level i j
swept-pair s h l e level i j m = by (sweeper_at s l e.router level) refl m
  where
    by : (o : Option ℕ) → sweeper_at s l e.router level ≡ o → In (i, j) (listed (with_sweeper e.router o)) → OneOrJoined h.net level i j
    by None q m = absurd m
    by (Some other) q (inr m) = absurd m
    by (Some other) q (inl m) =
        subst (λ (p : ℕ × ℕ). OneOrJoined h.net level p.0 p.1) (sym m)
        (inr (Swept l (swept-is s h.net l level e.router other (if-swept s l level e.router other (router_among s.routers (sees_at s l e.router level) (ends_of (nth s.links l))) q) h.seen)))

pairs-walk : (s : Seen) (h : HasRun s) (level : Level) (i j n : ℕ) (links : List (List End)) → ((k : ℕ) → nth s.links (n + k) ≡ nth links k)
    → In (i, j) (pairs_from s level n links) → OneOrJoined h.net level i j
pairs-walk s h level i j n [] at_l e = absurd e
pairs-walk s h level i j n (ends ∷ links) at_l e =
    ⊎_elim
    (λ (f : In (i, j) (pairs_on s level n ends)).
    ⊎_elim
    (λ (g : In (i, j) (joined_by s.routers level ends)). clean-pair s h n ends level i j (subst (λ (k : ℕ). nth s.links k ≡ Some ends) (omega arith) (at_l 0)) g)
    (λ (g : In (i, j) (flat_map (swept_pair s n level) ends)). let found = in-each (swept_pair s n level) (i, j) ends g in swept-pair s h n found.0 level i j found.1)
    (in-both (i, j) (joined_by s.routers level ends) (flat_map (swept_pair s n level) ends) f))
    (λ (f : In (i, j) (pairs_from s level (n + 1) links)).
    pairs-walk s h level i j (n + 1) links (λ k. subst (λ (m : ℕ). nth s.links m ≡ nth links k) (omega arith) (at_l (suc k))) f)
    (in-both (i, j) (pairs_on s level n ends) (pairs_from s level (n + 1) links) e)

pairs-join : (s : Seen) (h : HasRun s) (level : Level) (i j : ℕ) → In (i, j) (pairs_of s level) → OneOrJoined h.net level i j
pairs-join s h level i j e = pairs-walk s h level i j 0 s.links (λ k. ap (λ (n : ℕ). nth s.links n) (omega arith)) e

back : (net : Network) (level : Level) (i j : ℕ) → OneOrJoined net level i j → OneOrJoined net level j i
back net level i j (inl e) = inl (sym e)
back net level i j (inr (Clean c)) = inr (CleanBack c)
back net level i j (inr (CleanBack c)) = inr (Clean c)
back net level i j (inr (Swept l c)) = inr (SweptBack l c)
back net level i j (inr (SweptBack l c)) = inr (Swept l c)

one-step : (s : Seen) (h : HasRun s) (level : Level) (i j id : ℕ) (a b : Router) → s.injected ≡ 0 → OneOrJoined h.net level i j
    → nth s.routers i ≡ Some a → nth s.routers j ≡ Some b → IsKept a level id → IsKept b level id → live_at a level id ≡ live_at b level id
one-step s h level i j id a b none (inl e) x y ka kb = ap (λ (r : Router). live_at r level id) (same-router a b (sym x ∙ ap (λ (n : ℕ). nth s.routers n) e ∙ y))
one-step s h level i j id a b none (inr e) x y ka kb =
    joined-agrees h.net level i j a b id h.reached.kept (ap (λ (s : Seen). s.injected) h.seen ∙ none) h.reached.agreed e
    (ap (λ (s : Seen). nth s.routers i) h.seen ∙ x) (ap (λ (s : Seen). nth s.routers j) h.seen ∙ y) ka kb

along : (s : Seen) (h : HasRun s) (level : Level) → s.injected ≡ 0 → (i j id : ℕ) (b : Router) (group : List ℕ) → In group (groups_at s level) → In i group
    → IsKeptInGroup s level i id → nth s.routers j ≡ Some b
    → (over : List ℕ) (m : ℕ) (a : Router) → IsChain (runs_of s.routers level) (pairs_of s level) m over j → In m group → nth s.routers m ≡ Some a → live_at a level id ≡ live_at b level id
along s h level none i j id b group listed here k y [] m a c in_group x = ap (λ (r : Router). live_at r level id) (same-router a b (sym x ∙ ap (λ (n : ℕ). nth s.routers n) c ∙ y))
along s h level none i j id b group listed here k y (next ∷ more) m a c in_group x =
    one-step s h level m next id a there.0 none pair x there.1
    (k.kept m a (record { group = group; listed = listed; near = here; far = in_group }) x)
    (k.kept next there.0 (record { group = group; listed = listed; near = here; far = in_next }) there.1)
    ∙ along s h level none i j id b group listed here k y more next there.0 c.1 in_next there.1
  where
    there : (r : Router) × (nth s.routers next ≡ Some r)
    there = part-there s.routers level next c.0.far

    in_next : In next group
    in_next = (groups-of (runs_of s.routers level) (pairs_of s level)).largest group m next listed in_group (next ∷ [], (c.0, refl))

    pair : OneOrJoined h.net level m next
    pair =
        ⊎_elim (λ (e : In (m, next) (pairs_of s level)). pairs-join s h level m next e)
        (λ (e : In (next, m) (pairs_of s level)). back h.net level next m (pairs-join s h level next m e)) c.0.pair

agreeing-in : (s : Seen) → HasRun s → AreAgreeing s
agreeing-in s h none level i j a b id t k x y =
    let led = (groups-of (runs_of s.routers level) (pairs_of s level)).led t.group i j t.listed t.near t.far in
    along s h level none i j id b t.group t.listed t.near k y led.0 i a led.1 t.near x

-- ---- sweeps

swept-alike : (s : Seen) → HasRun s → AreSweptAlike s
swept-alike s h none link level i j id a b e x y =
    swept-live h.net link level i j a b id (λ i r e. (h.reached.routers i r e).speaking) h.reached.agreed
    (swept-is s h.net link level i j (if-swept s link level i j (router_among s.routers (sees_at s link i level) (ends_of (nth s.links link))) e) h.seen)
    (ap (λ (s : Seen). nth s.routers i) h.seen ∙ x) (ap (λ (s : Seen). nth s.routers j) h.seen ∙ y)

-- ---- claims

-- of what is seen of a network in its run, where nothing was injected
pub claimed-in : (s : Seen) → (s.injected ≡ 0 → HasRun s) → IsClaimed s
claimed-in s h = record {
  links = λ none. links-in s (h none) none;
  groups = λ none. agreeing-in s (h none) none;
  sweeps = λ none. swept-alike s (h none) none;
  bodies = λ none. one-body s (h none) none;
}

pub are-claimed : (ports : List (List ℕ)) (ordered : List (List End)) (a : LabNet) → IsNet ports ordered a → a.stopped ≡ None → IsClaimed a.seen
are-claimed ports ordered a h going = claimed-in a.seen (has-run ports ordered a h going)
