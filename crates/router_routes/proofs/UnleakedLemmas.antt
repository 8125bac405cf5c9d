-- A router of one level leaks nothing.
use Rattle.std.proofs.Common.{◌≡◌, ◌∙◌, ◌⊎◌, inl, inr, ℕ, ◌==◌, nat_lt, Bool, true, false, ◌&&◌, List, [], ◌∷◌, ◌++◌, map, Option, Some, None, refl, sym, ap, subst, if◌then◌else◌}
use Rattle.std.specs.List.{AllByRecursion, flat_map}
use Rattle.isis_base.specs.declared.identifiers.LspId.{LspId}
use Rattle.isis_base.specs.declared.identifiers.SystemId.{SystemId}
use Rattle.isis_base.specs.declared.level.Level.{Level}
use Rattle.isis_base.specs.declared.level.Level.TheVariants as level
use Rattle.isis_base.specs.declared.level.LevelSet.{LevelSet}
use Rattle.isis_base.specs.declared.level.LevelSet.TheVariants as levels
use Rattle.isis_base.specs.declared.prefix.Prefix.{Prefix}
use Rattle.isis_base.specs.Prefixes.{prefix_from}
use Rattle.lsp_store.specs.declared.entry.Entry.{Entry}
use Rattle.lsp_view.specs.Views.{areas_at, lead_of, own_node, reach_in}
use Rattle.route_leaking.specs.Attachment.{is_attached}
use Rattle.model_router.specs.Maps.{find, put}
use Rattle.route_table.specs.declared.candidate.Candidate.{Candidate}
use Rattle.route_table.specs.declared.rank.Rank.TheVariants as rank
use Rattle.route_table.specs.Ranks.{rank_number}
use Rattle.isis_base.specs.Prefixes.{prefix_number}
use Rattle.model_router.specs.Both.{at, runs_of}
use Rattle.router_routes.specs.declared.lent.Lent.{Lent}
use Rattle.router_routes.specs.Told.{told_in}
use Rattle.router_routes.specs.Outlooks.{Outlook, outlook_in, where_run}
use Rattle.router_routes.specs.Candidates.{told_candidate, system_candidates, level_candidates, own_candidate, reached_in, has_bit, attached_of, default_by, default_of, defaults, has_defaults, firm_candidates, candidates_of}
use Rattle.router_routes.specs.Leaks.{is_better, better, way_of, best_of, leaked_of, leaks_of}

abbrev Way : Type 0
Way = ℕ × ℕ

-- a way of another rank, and ways that are all of other ranks
abbrev Other : ℕ → Way → Type 0
Other rank way = (way.0 == rank) ≡ false

abbrev OtherIfAny : ℕ → Option Way → Type 0
OtherIfAny rank None = Unit {0}
OtherIfAny rank (Some way) = Other rank way

abbrev Others : ℕ → List (ℕ × Way) → Type 0
Others rank best = AllByRecursion (λ (b : ℕ × Way). Other rank b.1) best

abbrev AreOthers : ℕ → List Candidate → Type 0
AreOthers rank cs = AllByRecursion (λ (c : Candidate). Other rank (way_of c)) cs

-- ---- the best ways are of the candidates' ranks

others-put : (rank : ℕ) (best : List (ℕ × Way)) (n : ℕ) (way : Way) → Others rank best → Other rank way → Others rank (put best n way)
unfolding put
others-put rank [] n way all other = (other, tt)
others-put rank (b ∷ best) n way all other = by-place (others-put rank best n way all.1 other) (b.0 == n) (nat_lt n b.0)
  where
    by-place : Others rank (put best n way) → (t u : Bool) → Others rank (if t then (n, way) ∷ best else (if u then (n, way) ∷ b ∷ best else b ∷ put best n way))
    by-place rest true u = (other, all.1)
    by-place rest false true = (other, all)
    by-place rest false false = (all.0, rest)

other-found : (rank : ℕ) (best : List (ℕ × Way)) (n : ℕ) → Others rank best → OtherIfAny rank (find best n)
other-found rank [] n all = tt
other-found rank (b ∷ best) n all = by-key (other-found rank best n all.1) (b.0 == n)
  where
    by-key : OtherIfAny rank (find best n) → (t : Bool) → OtherIfAny rank (if t then Some b.1 else find best n)
    by-key rest true = all.0
    by-key rest false = rest

other-better : (rank : ℕ) (way : Way) (found : Option Way) → Other rank way → OtherIfAny rank found → Other rank (better way found)
other-better rank way None other any = other
other-better rank way (Some than) other any = by-test (is_better than way)
  where
    by-test : (t : Bool) → Other rank (if t then than else way)
    by-test true = any
    by-test false = other

others-best : (rank : ℕ) (cs : List Candidate) → AreOthers rank cs → Others rank (best_of cs)
others-best rank [] all = tt
others-best rank (c ∷ cs) all =
    let rest = others-best rank cs all.1 in
    others-put rank (best_of cs) (prefix_number c.prefix) _ rest
    (other-better rank (way_of c) (find (best_of cs) (prefix_number c.prefix)) all.0 (other-found rank (best_of cs) (prefix_number c.prefix) rest))

none-leaked : (rank : ℕ) (best : List (ℕ × Way)) → Others rank best → leaked_of rank best ≡ []
none-leaked rank [] all = refl
none-leaked rank (b ∷ best) all = rw all.0 (none-leaked rank best all.1)

-- ---- the candidates' ranks

others-append : (rank : ℕ) (cs ds : List Candidate) → AreOthers rank cs → AreOthers rank ds → AreOthers rank (cs ++ ds)
others-append rank [] ds left right = right
others-append rank (c ∷ cs) ds left right = (left.0, others-append rank cs ds left.1 right)

others-map : {X : Type 0} → (rank : ℕ) (f : X → Candidate) → ((x : X) → Other rank (way_of (f x))) → (xs : List X) → AreOthers rank (map f xs)
others-map rank f each [] = tt
others-map rank f each (x ∷ xs) = (each x, others-map rank f each xs)

others-flat : {X : Type 0} → (rank : ℕ) (f : X → List Candidate) → ((x : X) → AreOthers rank (f x)) → (xs : List X) → AreOthers rank (flat_map f xs)
others-flat rank f each [] = tt
others-flat rank f each (x ∷ xs) = others-append rank (f x) (flat_map f xs) (each x) (others-flat rank f each xs)

of-one : (told : List (LspId × Entry)) (system : SystemId × ℕ) → AreOthers 2 (system_candidates level.One told system)
of-one told system = others-map 2 (told_candidate level.One system) (λ item. by-down item.down) (reach_in told system.0)
  where
    by-down : (down : Bool) → (rank_number (if down then rank.OneDown else rank.One) == 2) ≡ false
    by-down true = refl
    by-down false = refl

of-two : (told : List (LspId × Entry)) (system : SystemId × ℕ) → AreOthers 1 (system_candidates level.Two told system)
of-two told system = others-map 1 (told_candidate level.Two system) (λ item. refl) (reach_in told system.0)

by-default : (told : List (LspId × Entry)) (system : SystemId × ℕ) → AreOthers 2 (default_of told system)
by-default told system = by-bit (has_bit told system)
  where
    by-prefix : (all : Option Prefix) → AreOthers 2 (default_by all system)
    by-prefix None = tt
    by-prefix (Some all) = (refl, tt)

    by-bit : (t : Bool) → AreOthers 2 (if t then default_by (prefix_from 0 0) system else [])
    by-bit true = by-prefix (prefix_from 0 0)
    by-bit false = tt

-- ---- the levels

pub unleaked-one : (o : Outlook) → o.told.two ≡ [] → leaks_of o level.One ≡ []
unfolding leaks_of candidates_of firm_candidates level_candidates reached_in defaults
unleaked-one o none = none-leaked 2 (best_of (candidates_of o)) (others-best 2 (candidates_of o) (others-append 2 (firm_candidates o) _ firm (by-test (has_defaults o))))
  where
    two : AreOthers 2 (level_candidates level.Two o.told.two o.root)
    two = subst (λ (t : List (LspId × Entry)). AreOthers 2 (level_candidates level.Two t o.root)) (sym none) tt

    firm : AreOthers 2 (firm_candidates o)
    firm =
        others-append 2 (map (own_candidate o.root) o.prefixes) _ (others-map 2 (own_candidate o.root) (λ own. refl) o.prefixes)
        (others-append 2 (level_candidates level.One o.told.one o.root) _ (others-flat 2 (system_candidates level.One o.told.one) (of-one o.told.one) (reached_in o.told.one o.root)) two)

    by-test : (t : Bool) → AreOthers 2 (if t then defaults o.told.one o.root else [])
    by-test true = others-flat 2 (default_of o.told.one) (by-default o.told.one) (reached_in o.told.one o.root)
    by-test false = tt

pub unleaked-two : (o : Outlook) → o.told.one ≡ [] → leaks_of o level.Two ≡ []
unfolding leaks_of candidates_of firm_candidates level_candidates reached_in defaults
unleaked-two o none = none-leaked 1 (best_of (candidates_of o)) (others-best 1 (candidates_of o) (others-append 1 (firm_candidates o) _ firm (by-test (has_defaults o))))
  where
    one : AreOthers 1 (level_candidates level.One o.told.one o.root)
    one = subst (λ (t : List (LspId × Entry)). AreOthers 1 (level_candidates level.One t o.root)) (sym none) tt

    firm : AreOthers 1 (firm_candidates o)
    firm =
        others-append 1 (map (own_candidate o.root) o.prefixes) _ (others-map 1 (own_candidate o.root) (λ own. refl) o.prefixes)
        (others-append 1 (level_candidates level.One o.told.one o.root) _ one (others-flat 1 (system_candidates level.Two o.told.two) (of-two o.told.two) (reached_in o.told.two o.root)))

    by-test : (t : Bool) → AreOthers 1 (if t then defaults o.told.one o.root else [])
    by-test true = subst (λ (t : List (LspId × Entry)). AreOthers 1 (defaults t o.root)) (sym none) tt
    by-test false = tt

-- ---- a router of one level

one-level : (set : LevelSet) → (set ≡ levels.One) ⊎ (set ≡ levels.Two) → ((runs_of set).one && (runs_of set).two) ≡ false
one-level set (inl is) = ap (λ (l : LevelSet). (runs_of l).one && (runs_of l).two) is
one-level set (inr is) = ap (λ (l : LevelSet). (runs_of l).one && (runs_of l).two) is

no : {A : Type 0} → false ≡ true → A
no e = absurd (cc)

unattached : (o : Outlook) → (o.runs.one && o.runs.two) ≡ false → attached_of o ≡ false
unfolding attached_of
unattached o one = ap (λ (b : Bool). b && is_attached o.areas (map (λ (s : SystemId × ℕ). areas_at (lead_of o.told.two (own_node s.0))) (reached_in o.told.two o.root))) one

pub lent-unattached : (lent : Lent) → (lent.levels ≡ levels.One) ⊎ (lent.levels ≡ levels.Two) → attached_of (outlook_in lent) ≡ false
unfolding outlook_in
lent-unattached lent one = unattached (outlook_in lent) (one-level lent.levels one)

pub lent-unleaked : (lent : Lent) (level : Level) → (lent.levels ≡ levels.One) ⊎ (lent.levels ≡ levels.Two) → at (outlook_in lent).runs level ≡ true → leaks_of (outlook_in lent) level ≡ []
unfolding outlook_in
lent-unleaked lent level.One (inl is) runs = unleaked-one (outlook_in lent) (ap (λ (l : LevelSet). where_run (runs_of l).two (told_in lent.two.now.entries)) is)
lent-unleaked lent level.Two (inl is) runs = no (sym (ap (λ (l : LevelSet). (runs_of l).two) is) ∙ runs)
lent-unleaked lent level.One (inr is) runs = no (sym (ap (λ (l : LevelSet). (runs_of l).one) is) ∙ runs)
lent-unleaked lent level.Two (inr is) runs = unleaked-two (outlook_in lent) (ap (λ (l : LevelSet). where_run (runs_of l).one (told_in lent.one.now.entries)) is)
