-- Candidates by way of some nodes, by the nodes' numbers.
use Rattle.std.proofs.Common.{◌≡◌, ◌∙◌, ℕ, ◌==◌, Bool, true, false, ◌||◌, not, List, [], ◌∷◌, ◌++◌, map, filter, inl, inr, refl, sym, ap, subst}
use Rattle.std.specs.Cmp.{both_ways}
use Rattle.std.specs.List.{Contains}
use Rattle.std.proofs.lemmas.List.Elements.{Contains-append_cases, Contains-append_left, Contains-append_right, filter_agree}
use Rattle.isis_base.specs.declared.identifiers.NodeId.{NodeId}
use Rattle.isis_base.specs.declared.prefix.Prefix.{Prefix}
use Rattle.spf_tree.specs.Nodes.{node_number}
use Rattle.route_table.specs.declared.candidate.Candidate.{Candidate}
use Rattle.route_table.specs.Patches.{is_moved}
use Rattle.router_routes.specs.Kept.{AreSame, stays}
use Rattle.router_routes.specs.Moved.{is_among}
use Rattle.router_routes.specs.Outlooks.{Outlook}
use Rattle.router_routes.specs.Candidates.{ways_of}
use Rattle.router_routes.specs.Touched.{AreExchanged, HaveBy}
use Rattle.router_routes.specs.Ways.{AreApart, AreAtNumbers, AreWays, add_each, is_by, kept_pair, prefix_of, put_all}
use Rattle.router_routes.proofs.KeptLemmas.{filter-in}
use Rattle.router_routes.proofs.NumberLemmas.{in-map, moved-there, there-moved}
use Rattle.router_routes.proofs.WayLemmas.{later-are, ways-same}

by-numbers : (nodes : List NodeId) (n : ℕ) → is_moved (map node_number nodes) n ≡ is_among nodes n
by-numbers [] n = refl
by-numbers (node ∷ nodes) n = ap (λ (t : Bool). (node_number node == n) || t) (by-numbers nodes n)

-- numbers in order, each once, which are those of the nodes
pub members : (nodes : List NodeId) (unsorted numbers : List ℕ) → unsorted ≡ map node_number nodes → ((n : ℕ) → Contains unsorted n → Contains numbers n) → ((n : ℕ) → Contains numbers n → Contains unsorted n) → (n : ℕ) → is_moved numbers n ≡ is_among nodes n
members nodes unsorted numbers are all none n =
    both_ways (is_moved numbers n) (is_moved (map node_number nodes) n)
    (λ t. there-moved (map node_number nodes) n (subst (λ (l : List ℕ). Contains l n) are (none n (moved-there numbers n t))))
    (λ t. there-moved numbers n (all n (subst (λ (l : List ℕ). Contains l n) (sym are) (moved-there (map node_number nodes) n t))))
    ∙ by-numbers nodes n

-- those that are kept
pub kept-by : (nodes : List NodeId) (numbers : List ℕ) → ((n : ℕ) → is_moved numbers n ≡ is_among nodes n) → (cs : List Candidate) → filter (λ (c : Candidate). not (is_by numbers c)) cs ≡ filter (stays nodes) cs
kept-by nodes numbers are cs = filter_agree (λ (c : Candidate). not (is_by numbers c)) (stays nodes) (λ c. ap not (are (node_number c.origin))) cs

-- ---- the prefixes of those that go and of those that come

pub before-by : (nodes : List NodeId) (list went come left right : List Candidate) (prefixes : List Prefix) → AreSame list (filter (stays nodes) list ++ went) → AreApart went come left right → prefixes ≡ map prefix_of left ++ map prefix_of come → HaveBy nodes list prefixes
before-by nodes list went come left right prefixes all parts e c there out =
    elim (Contains-append_cases (filter (stays nodes) list) went c ((all c).0 there)) [
      | inl kept ↦ absurd (let h : true ≡ false = sym (filter-in (stays nodes) list c kept).1 ∙ out in cc)
      | inr goes ↦
          subst (λ (ps : List Prefix). Contains ps c.prefix) (sym e)
          (elim (parts.gone c goes) [
            | inl comes ↦ Contains-append_right (map prefix_of left) (map prefix_of come) c.prefix (in-map prefix_of come c comes)
            | inr other ↦ Contains-append_left (map prefix_of left) (map prefix_of come) c.prefix (in-map prefix_of left c other)
          ])
    ]

pub after-by : (nodes : List NodeId) (old list come left : List Candidate) (prefixes : List Prefix) → AreSame (filter (stays nodes) old ++ come) list → prefixes ≡ map prefix_of left ++ map prefix_of come → HaveBy nodes list prefixes
after-by nodes old list come left prefixes same e c there out =
    elim (Contains-append_cases (filter (stays nodes) old) come c ((same c).1 there)) [
      | inl kept ↦ absurd (let h : true ≡ false = sym (filter-in (stays nodes) old c kept).1 ∙ out in cc)
      | inr comes ↦ subst (λ (ps : List Prefix). Contains ps c.prefix) (sym e) (Contains-append_right (map prefix_of left) (map prefix_of come) c.prefix (in-map prefix_of come c comes))
    ]

-- ---- rows as they will be

pub rows-are : (o p : Outlook) (table : List (ℕ × List Candidate)) → AreWays table (ways_of o) → (nodes : List NodeId) (moved : List ℕ) → ((n : ℕ) → is_moved moved n ≡ is_among nodes n) → (went come left right : List Candidate) → AreExchanged nodes o p went come → AreApart went come left right → (numbers : List ℕ) → AreAtNumbers left numbers → AreAtNumbers right numbers
    → AreWays (put_all table (add_each (map (kept_pair moved table) numbers) come)) (ways_of p)
rows-are o p table are nodes moved same went come left right both parts numbers goes comes =
    let stay = kept-by nodes moved same (ways_of o) in
    let kept = filter (λ (c : Candidate). not (is_by moved c)) (ways_of o) in
    ways-same (put_all table (add_each (map (kept_pair moved table) numbers) come)) (kept ++ come) (ways_of p)
    (subst (λ (l : List Candidate). AreSame (l ++ come) (ways_of p)) (sym stay) both.after)
    (later-are table (ways_of o) went come left right numbers moved are (subst (λ (l : List Candidate). AreSame (ways_of o) (l ++ went)) (sym stay) both.before) parts goes comes)
