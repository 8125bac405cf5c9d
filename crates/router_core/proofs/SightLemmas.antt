-- What is seen of a level is aside by nodes: what changes of it LSP ID by LSP ID, and where the time of live entries ends.
use Rattle.std.proofs.Common.{◌≡◌, ◌∙◌, ℕ, ◌==◌, ◌||◌, Bool, true, false, List, [], ◌∷◌, Option, Some, None, refl, sym, ap, subst, arith, if◌then◌else◌}
use Rattle.std.proofs.lemmas.Bool.{eqb-true}
use Rattle.isis_base.specs.declared.identifiers.LspId.{LspId}
use Rattle.isis_base.specs.declared.identifiers.NodeId.{NodeId}
use Rattle.isis_base.specs.declared.level.Level.{Level}
use Rattle.isis_base.specs.Identifiers.{IsId, lsp_number}
use Rattle.lsp_store.specs.declared.entry.Entry.{Entry}
use Rattle.lsp_store.specs.Maps as maps
use Rattle.lsp_view.specs.Views.{number_of as node_lsp}
use Rattle.flag_sync.specs.declared.flag_row.FlagRow.{FlagRow}
use Rattle.flag_sync.specs.Entries.{with_row}
use Rattle.flag_sync.specs.FlagRows.{cell_of, no_flags}
use Rattle.model_router.specs.Books.{cell_at}
use Rattle.model_router.specs.Cells.{Cell}
use Rattle.model_router.specs.Deeds.{Content}
use Rattle.model_router.specs.Routers.{Router, book_of}
use Rattle.spf_tree.specs.Nodes.{node_number}
use Rattle.router_routes.specs.Moved.{NodesRise, is_among}
use Rattle.router_core.specs.Asides.{IsShown, node_of, put_all, seen, seen_in, with_node}
use Rattle.router_core.specs.Calm.{is_ending}
use Rattle.router_core.specs.Renewals.{IsSightAside, Sight, ended, ended_one, sight_of, with_sight}
use Rattle.lsp_view.proofs.NodeLemmas.{put-found}
use Rattle.router_core.proofs.AsideLemmas.{Entries, cell-seen, node-is, none-shown}
use Rattle.router_core.proofs.NodesLemmas.{among-new, node-of-id, or-none, or_else, parts-found, with-among, with-rises}

clash : {A : Type 0} → true ≡ false → A
clash e = absurd (cc)

-- ---- what is aside

pub sight-same : (r : Router) (l : Level) (nodes : List NodeId) (f g : Sight) (xs : Entries) → ((n : ℕ) → f n ≡ g n) → IsSightAside r l nodes f xs → IsSightAside r l nodes g xs
sight-same r l nodes f g xs same a = record { rises = a.rises; sees = λ n. sym (same n) ∙ a.sees n; within = a.within }

pub none-aside : (r : Router) (l : Level) (nodes : List NodeId) (xs : Entries) → nodes ≡ [] → xs ≡ [] → IsSightAside r l nodes (sight_of (book_of r l)) xs
none-aside r l nodes xs e f = subst (λ (ns : List NodeId). IsSightAside r l ns (sight_of (book_of r l)) xs) (sym e) (subst (λ (ys : Entries). IsSightAside r l [] (sight_of (book_of r l)) ys) (sym f) none)
  where
    none : IsSightAside r l [] (sight_of (book_of r l)) []
    none = record { rises = tt; sees = λ n. refl; within = λ n off. refl }

module _ (r : Router) (l : Level) (nodes : List NodeId) (sight : Sight) (xs : Entries) (id : LspId) (e : Entry) (is : IsId id) (among : is_among nodes (node_number id.node) ≡ true) (a : IsSightAside r l nodes sight xs) where
  abbrev put-id : ℕ
  put-id = lsp_number id

  put-inside : (n : ℕ) → (put-id == n) ≡ true → is_among nodes (node_of n) ≡ true
  put-inside n same = ap (λ (m : ℕ). is_among nodes (node_of m)) (sym (eqb-true put-id n same)) ∙ ap (is_among nodes) (sym (node-is id is)) ∙ among

  put-sees : (n : ℕ) (t : Bool) → (put-id == n) ≡ t → (u : Bool) → is_among nodes (node_of n) ≡ u
      → (if t then seen_in (Some e) else sight n) ≡ (if u then seen_in (if t then Some e else maps.find xs n) else seen (cell_at (book_of r l) n))
  put-sees n true same true in' = refl
  put-sees n true same false off = clash (sym (put-inside n same) ∙ off)
  put-sees n false same u in' = a.sees n ∙ ap (λ (v : Bool). if v then seen_in (maps.find xs n) else seen (cell_at (book_of r l) n)) in'

  put-within : (n : ℕ) (t : Bool) → (put-id == n) ≡ t → is_among nodes (node_of n) ≡ false → (if t then Some e else maps.find xs n) ≡ None
  put-within n true same off = clash (sym (put-inside n same) ∙ off)
  put-within n false same off = a.within n off

  pub sight-put : IsSightAside r l nodes (with_sight sight put-id (seen_in (Some e))) (maps.put xs id e)
  sight-put = record {
    rises = a.rises;
    sees = λ n. put-sees n (put-id == n) refl (is_among nodes (node_of n)) refl
        ∙ ap (λ (o : Option Entry). if is_among nodes (node_of n) then seen_in o else seen (cell_at (book_of r l) n)) (sym (put-found xs id e n));
    within = λ n off. put-found xs id e n ∙ put-within n (put-id == n) refl off;
  }

module _ (r : Router) (l : Level) (nodes lent new : List NodeId) (sight : Sight) (held xs ys : Entries) (id : LspId) (shown : IsShown r l held) (is : IsId id) (out : is_among nodes (node_number id.node) ≡ false)
    (parts : ys ≡ put_all xs (maps.between (node_lsp id.node 0) (node_lsp id.node 255) held)) (slice : lent ≡ nodes) (made : new ≡ with_node lent id.node) (a : IsSightAside r l nodes sight xs) where
  abbrev node : ℕ
  node = node_number id.node

  as-made : new ≡ with_node nodes id.node
  as-made = made ∙ ap (λ (ns : List NodeId). with_node ns id.node) slice

  or-false : (t : Bool) → (t || false) ≡ t
  or-false true = refl
  or-false false = refl

  found : (n : ℕ) → maps.find ys n ≡ (if node == node_of n then or_else (maps.find held n) (maps.find xs n) else maps.find xs n)
  found n =
      ap (λ (es : Entries). maps.find es n) parts ∙ parts-found held xs (id.node ∷ []) n shown.rises (node-of-id id is, tt)
      ∙ ap (λ (t : Bool). if t then or_else (maps.find held n) (maps.find xs n) else maps.find xs n) (or-false (node == node_of n))

  among-now : (n : ℕ) → is_among new (node_of n) ≡ (node == node_of n || is_among nodes (node_of n))
  among-now n = ap (λ (ns : List NodeId). is_among ns (node_of n)) as-made ∙ with-among nodes id.node (node_of n)

  both : {A : Type 0} (n : ℕ) → (node == node_of n) ≡ true → is_among nodes (node_of n) ≡ true → A
  both n at in' = clash (sym in' ∙ ap (is_among nodes) (sym (eqb-true node (node_of n) at)) ∙ out)

  sees-at : (n : ℕ) (t : Bool) → (node == node_of n) ≡ t → (u : Bool) → is_among nodes (node_of n) ≡ u
      → sight n ≡ (if t || u then seen_in (if t then or_else (maps.find held n) (maps.find xs n) else maps.find xs n) else seen (cell_at (book_of r l) n))
  sees-at n true at true in' = both n at in'
  sees-at n true at false off =
      a.sees n ∙ ap (λ (v : Bool). if v then seen_in (maps.find xs n) else seen (cell_at (book_of r l) n)) off ∙ shown.shows n
      ∙ ap seen_in (sym (ap (or_else (maps.find held n)) (a.within n off) ∙ or-none (maps.find held n)))
  sees-at n false at u in' = a.sees n ∙ ap (λ (v : Bool). if v then seen_in (maps.find xs n) else seen (cell_at (book_of r l) n)) in'

  within-at : (n : ℕ) (t : Bool) → (node == node_of n) ≡ t → (u : Bool) → is_among nodes (node_of n) ≡ u → (t || u) ≡ false → (if t then or_else (maps.find held n) (maps.find xs n) else maps.find xs n) ≡ None
  within-at n true at u in' off = clash off
  within-at n false at u in' off = a.within n (in' ∙ off)

  pub sight-reached : IsSightAside r l new sight ys
  sight-reached = record {
    rises = subst (NodesRise 0) (sym as-made) (with-rises 0 nodes id.node (omega arith) a.rises);
    sees = λ n. sees-at n (node == node_of n) refl (is_among nodes (node_of n)) refl
        ∙ (λ i. if sym (among-now n) i then seen_in (sym (found n) i) else seen (cell_at (book_of r l) n));
    within = λ n off. found n ∙ within-at n (node == node_of n) refl (is_among nodes (node_of n)) refl (sym (among-now n) ∙ off);
  }

pub among-reached : (nodes lent new : List NodeId) (id : LspId) → lent ≡ nodes → new ≡ with_node lent id.node → is_among new (node_number id.node) ≡ true
among-reached nodes lent new id slice made = ap (λ (ns : List NodeId). is_among ns (node_number id.node)) (made ∙ ap (λ (ns : List NodeId). with_node ns id.node) slice) ∙ among-new nodes id.node

-- an entry that tells nothing
pub sight-purged : (r : Router) (l : Level) (nodes : List NodeId) (sight : Sight) (k : ℕ) (e : Entry) (xs : Entries) → e.key ≡ None → IsSightAside r l nodes (with_sight sight k (seen_in (Some e))) xs → IsSightAside r l nodes (with_sight sight k None) xs
sight-purged r l nodes sight k e xs key a = subst (λ (o : Option (ℕ × Content)). IsSightAside r l nodes (with_sight sight k o) xs) (none-shown e key) a

-- an entry that is a cell, beside a row of flags
pub sight-issued : (r : Router) (l : Level) (nodes : List NodeId) (sight : Sight) (k : ℕ) (e : Entry) (c : Cell) (xs : Entries) → ((row : FlagRow) → cell_of e row ≡ with_row c row) → IsSightAside r l nodes (with_sight sight k (seen_in (Some e))) xs → IsSightAside r l nodes (with_sight sight k (seen (Some c))) xs
sight-issued r l nodes sight k e c xs says a =
    let one : cell_of e no_flags ≡ with_row c no_flags = says no_flags in
    subst (λ (o : Option (ℕ × Content)). IsSightAside r l nodes (with_sight sight k o) xs) (sym (cell-seen e no_flags) ∙ ap (λ (y : Cell). seen (Some y)) one) a

-- ---- live entries whose time ends

pub record Ends (r : Router) (l : Level) (all left : Entries) (nodes : List NodeId) (xs : Entries) : Type 0 where
  pub sight : Sight
  pub told : IsSightAside r l nodes sight xs
  pub same : (n : ℕ) → ended left sight n ≡ ended all (sight_of (book_of r l)) n

pub ends-first : (r : Router) (l : Level) (all : Entries) (nodes : List NodeId) (xs : Entries) → nodes ≡ [] → xs ≡ [] → Ends r l all all nodes xs
ends-first r l all nodes xs e f = record { sight = sight_of (book_of r l); told = none-aside r l nodes xs e f; same = λ n. refl }

pub ends-turn : (r : Router) (l : Level) (all left rest : Entries) (id : LspId) (e : Entry) (old new : List NodeId) (xs ys : Entries) → left ≡ (id, e) ∷ rest
    → ((sight : Sight) → IsSightAside r l old sight xs → IsSightAside r l new (ended_one (is_ending e) sight (lsp_number id)) ys)
    → Ends r l all left old xs → Ends r l all rest new ys
ends-turn r l all left rest id e old new xs ys is step g = record {
  sight = ended_one (is_ending e) g.sight (lsp_number id);
  told = step g.sight g.told;
  same = λ n. ap (λ (es : Entries). ended es g.sight n) (sym is) ∙ g.same n;
}

pub ends-end : (r : Router) (l : Level) (all left : Entries) (nodes : List NodeId) (xs : Entries) → left ≡ [] → Ends r l all left nodes xs → IsSightAside r l nodes (ended all (sight_of (book_of r l))) xs
ends-end r l all left nodes xs none g = sight-same r l nodes g.sight (ended all (sight_of (book_of r l))) xs (λ n. ap (λ (es : Entries). ended es g.sight n) (sym none) ∙ g.same n) g.told

pub end-true : (r : Router) (l : Level) (nodes : List NodeId) (t : Bool) (sight : Sight) (k : ℕ) (xs : Entries) → t ≡ true → IsSightAside r l nodes (with_sight sight k None) xs → IsSightAside r l nodes (ended_one t sight k) xs
end-true r l nodes true sight k xs e a = sight-same r l nodes (with_sight sight k None) (ended_one true sight k) xs (λ n. refl) a
end-true r l nodes false sight k xs e a = clash (sym e)

pub end-false : (r : Router) (l : Level) (nodes : List NodeId) (t : Bool) (sight : Sight) (k : ℕ) (xs : Entries) → t ≡ false → IsSightAside r l nodes sight xs → IsSightAside r l nodes (ended_one t sight k) xs
end-false r l nodes true sight k xs e a = clash e
end-false r l nodes false sight k xs e a = sight-same r l nodes sight (ended_one false sight k) xs (λ n. refl) a
