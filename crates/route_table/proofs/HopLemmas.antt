-- Hops gathered from several candidates, and tables of hops as next hops.

use Rattle.std.proofs.Common.{◌≡◌, ◌∙◌, ℕ, ◌+◌, ◌≤◌, ◌<◌, List, [], ◌∷◌, ◌++◌, ◌↔◌, length, get_or, take, append_assoc, Option, Some, sym, ap, subst, arith, inl, inr}
use Rattle.std.specs.List.{All, Contains, slice_get}
use Rattle.std.proofs.lemmas.Bool.{cases_lt}
use Rattle.std.proofs.lemmas.Option.{slice_get-get_or}
use Rattle.std.proofs.lemmas.List.{get_or_default, take_more}
use Rattle.std.proofs.lemmas.List.Elements.{Contains-get_or, Contains-append_left, Contains-append_right, Contains-append_cases, Contains-push_cases}
use Rattle.spf_tree.specs.Nodes.{node_number}
use Rattle.spf_tree.specs.NextHops.{IsNextHop}
use Rattle.spf_tree.specs.Graphs.{GraphOf}
use Rattle.route_table.specs.declared.rank.Rank.{Rank}
use Rattle.route_table.specs.declared.rank.Rank.TheVariants.{Own, One, Two, OneDown, Default}
use Rattle.route_table.specs.declared.candidate.Candidate.{Candidate}
use Rattle.route_table.specs.Routes.{IsHopBy, IsHopTo}
use Rattle.route_table.specs.Order.{IsListedBy, IsListedHop, AreHopsIn}

-- ---- candidates from one place to another

pub gather_none : (HopTo : Candidate → ℕ → Type 0) (cs : List Candidate) (first : ℕ) → AreHopsIn HopTo cs first first []
gather_none HopTo cs first hop = ((λ h. let l = h.1 in absurd (omega arith)), (λ t. let from = t.2 in let to = t.3 in absurd (omega arith)))

pub gather_more : (HopTo : Candidate → ℕ → Type 0) (cs : List Candidate) (first place : ℕ) (d : Candidate) (nodes hops : List ℕ) → first ≤ place → place < length cs → AreHopsIn HopTo cs first place nodes → ((hop : ℕ) → Contains hops hop ↔ HopTo (get_or cs place d) hop)
    → AreHopsIn HopTo cs first (place + 1) (nodes ++ hops)
gather_more HopTo cs first place d nodes hops from in' so_far here hop = (
  (λ h.
      elim (Contains-append_cases nodes hops hop h) [
        | inl old ↦ let t = (so_far hop).0 old in (t.0, t.1, t.2, (let to = t.3 in omega arith), t.4, t.5)
        | inr new ↦ (place, get_or cs place d, from, omega arith, get_or_default cs place (get_or cs place d) d in', (here hop).0 new)
      ]),
  (λ t.
      elim (cases_lt t.0 place) [
        | inl old ↦ Contains-append_left nodes hops hop ((so_far hop).1 (t.0, t.1, t.2, old, t.4, t.5))
        | inr new ↦
            let to = t.3 in
            let k_is : t.0 ≡ place = omega arith in
            let is : t.1 ≡ get_or cs place d = sym t.4 ∙ ap (λ (n : ℕ). get_or cs n t.1) k_is ∙ get_or_default cs place t.1 d in' in
            Contains-append_right nodes hops hop ((here hop).1 (subst (λ (c : Candidate). HopTo c hop) is t.5))
      ]),
)

pub gathered : (HopTo : Candidate → ℕ → Type 0) (cs : List Candidate) (first end : ℕ) (nodes sorted : List ℕ) → AreHopsIn HopTo cs first end nodes → ((n : ℕ) → Contains nodes n → Contains sorted n) → ((n : ℕ) → Contains sorted n → Contains nodes n) → AreHopsIn HopTo cs first end sorted
gathered HopTo cs first end nodes sorted are into out hop = ((λ h. (are hop).0 (out hop h)), (λ t. into hop ((are hop).1 t)))

-- ---- systems

pub all_of : (P : ℕ → Type 0) (xs ys : List ℕ) → All P xs → ((n : ℕ) → Contains ys n → Contains xs n) → All P ys
all_of P xs ys all out k d in' =
    let t = out (get_or ys k d) (Contains-get_or ys k d in') in
    subst P t.2 (all t.0 (get_or ys k d) t.1)

pub all_more : (P : ℕ → Type 0) (xs : List ℕ) (x : ℕ) → All P xs → P x → All P (xs ++ x ∷ [])
all_more P xs x all here k d in' =
    elim (Contains-push_cases xs x (get_or (xs ++ x ∷ []) k d) (Contains-get_or (xs ++ x ∷ []) k d in')) [
      | inl old ↦ subst P old.2 (all old.0 (get_or (xs ++ x ∷ []) k d) old.1)
      | inr new ↦ subst P new here
    ]

some_is : (o : Option ℕ) (x y : ℕ) → o ≡ Some x → o ≡ Some y → x ≡ y
some_is o x y p q = cc

pub push_take : (nodes hops : List ℕ) (place n : ℕ) → Some n ≡ slice_get hops place → place < length hops → nodes ++ take (place + 1) hops ≡ (nodes ++ take place hops) ++ n ∷ []
push_take nodes hops place n is in' =
    let e : get_or hops place 0 ≡ n = some_is (slice_get hops place) (get_or hops place 0) n (slice_get-get_or hops place 0 in') (sym is) in
    rw (take_more hops place 0 in') (rw e (sym (append_assoc nodes (take place hops) (n ∷ []))))

-- ---- tables

table_rank : (one two : GraphOf) (t u : List (ℕ × ℕ)) (rank : Rank) (origin : ℕ) → ((target hop : ℕ) → Contains t (target, hop) ↔ IsNextHop one.rows (node_number one.root) target hop) → ((target hop : ℕ) → Contains u (target, hop) ↔ IsNextHop two.rows (node_number two.root) target hop) → (hop : ℕ)
    → IsListedBy t u rank origin hop ↔ IsHopBy one two rank origin hop
table_rank one two t u Own origin of_one of_two hop = ((λ h. h), (λ h. h))
table_rank one two t u One origin of_one of_two hop = of_one origin hop
table_rank one two t u Two origin of_one of_two hop = of_two origin hop
table_rank one two t u OneDown origin of_one of_two hop = of_one origin hop
table_rank one two t u Default origin of_one of_two hop = of_one origin hop

pub tabled_is : (one two : GraphOf) (t u : List (ℕ × ℕ)) → ((target hop : ℕ) → Contains t (target, hop) ↔ IsNextHop one.rows (node_number one.root) target hop) → ((target hop : ℕ) → Contains u (target, hop) ↔ IsNextHop two.rows (node_number two.root) target hop)
    → (c : Candidate) (hop : ℕ) → IsListedHop t u c hop ↔ IsHopTo one two c hop
tabled_is one two t u of_one of_two c hop = table_rank one two t u c.rank (node_number c.origin) of_one of_two hop
