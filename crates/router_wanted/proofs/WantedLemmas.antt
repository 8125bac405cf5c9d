-- What is wanted looks at what is lent alone, and is in rising order of LSP ID.
use Rattle.std.proofs.Common.{◌≡◌, ℕ, suc, ◌+◌, ◌*◌, ◌/◌, ◌<◌, ◌≤◌, true, false, Bool, List, [], ◌∷◌, ◌++◌, length, map, drop, get_or, drop-cons, Option, is_some, if◌then◌else◌, refl, sym, ap, ◌∙◌, subst, arith, length-append}
use Rattle.std.specs.List.{AllByRecursion}
use Rattle.isis_base.specs.declared.level.Level.{Level}
use Rattle.isis_base.specs.declared.level.Level.TheVariants as level
use Rattle.model_router.specs.Both.{at}
use Rattle.model_router.specs.Configs.{Config}
use Rattle.model_router.specs.Elections.{designated, is_designated, is_own}
use Rattle.model_router.specs.Givens.{Given}
use Rattle.model_router.specs.Good.{IsIssuable}
use Rattle.model_router.specs.LspNeighbours.{all_nodes, lan_nodes, node_items, nodes_of, put_nodes}
use Rattle.model_router.specs.LspPrefixes.{Reach, own_reach, prefixes_of, reach_items}
use Rattle.model_router.specs.Splits.{Item, Split, split}
use Rattle.isis_base.specs.declared.prefix.Prefix.{Prefix}
use Rattle.model_router.specs.Numbers.{system_number}
use Rattle.model_router.specs.Routers.{Circuit, Contents, Router}
use Rattle.model_router.specs.Sorted.{RisesFrom}
use Rattle.model_router.specs.Wanted.{first_flags, first_tlvs, fragments_of, is_type, numbered, pseudonode_lsp, pseudonode_lsps, room_for, room_of, system_lsp, wanted}
use Rattle.model_router.proofs.BookLemmas.{choose}
use Rattle.model_router.proofs.SplitLemmas.{split-few}
use Rattle.model_router.proofs.OwnLemmas.{wanted-issuable}
use Rattle.model_router.proofs.WantedLemmas.{wanted-own}
use Rattle.isis_tlv.specs.Spelling.{area_value}
use Rattle.isis_base.specs.Identifiers.{lsp_number}
use Rattle.std.proofs.lemmas.List.{length-map}
use Rattle.router_wanted.specs.declared.wanted.Wanted.{Wanted}
use Rattle.router_wanted.specs.Views.{contents_of, prefix_pair, wanted_of}
use Rattle.router_wanted.specs.declared.wants.Wants.{Wants}
use Rattle.router_wanted.specs.Lent.{IsLent, config_of, given_of, key_of, router_of}
use Rattle.router_wanted.specs.Parts.{is_down, is_leaked_into, leaked_or}

-- ---- what is looked at

pub record AreLike (a b : Config) (l : Level) : Type 0 where
  pub system : a.system ≡ b.system
  pub areas : a.areas ≡ b.areas
  pub runs : a.runs ≡ b.runs
  pub leak : a.leak ≡ b.leak
  pub overload : a.overload ≡ b.overload
  pub prefixes : a.prefixes ≡ b.prefixes
  pub signed : is_some (at a.keys l) ≡ is_some (at b.keys l)

all-same : (a b : Config) (l : Level) (place : ℕ) (circuits : List Circuit) (ns : List (ℕ × ℕ)) → a.system ≡ b.system → all_nodes a l place circuits ns ≡ all_nodes b l place circuits ns
all-same a b l place [] ns e = refl
all-same a b l place (c ∷ circuits) ns e =
    let nodes : nodes_of a place c l ≡ nodes_of b place c l = rw e refl in
    rw nodes (all-same a b l (place + 1) circuits (put_nodes ns (nodes_of b place c l)) e)

prefixes-same : (given told : Given) (before start r t : Router) (l : Level) → AreLike r.config t.config l → given.leaks before l ≡ told.leaks start l → prefixes_of given before r l ≡ prefixes_of told start t l
prefixes-same given told before start r t level.One s e = rw (s.runs, s.leak, s.prefixes, e) refl
prefixes-same given told before start r t level.Two s e = rw (s.runs, s.prefixes, e) refl

pseudonode-same : (r t : Router) (place : ℕ) (c : Circuit) (l : Level) → AreLike r.config t.config l → pseudonode_lsp r place c l ≡ pseudonode_lsp t place c l
unfolding pseudonode_lsp
pseudonode-same r t place c l s = rw (s.system, s.runs, s.signed) refl

pseudonodes-same : (r t : Router) (l : Level) (place : ℕ) (circuits : List Circuit) → AreLike r.config t.config l → pseudonode_lsps r l place circuits ≡ pseudonode_lsps t l place circuits
pseudonodes-same r t l place [] s = refl
pseudonodes-same r t l place (c ∷ circuits) s =
    rw (pseudonode-same r t place c l s) (ap (λ (m : List (ℕ × Contents)). pseudonode_lsp t place c l ++ m) (pseudonodes-same r t l (place + 1) circuits s))

module _ (given told : Given) (before start r t : Router) (l : Level) (s : AreLike r.config t.config l) (circuits : r.circuits ≡ t.circuits)
    (leaks : given.leaks before l ≡ told.leaks start l) (attached : given.attached before ≡ told.attached start) where
  system-same : system_lsp given before r l ≡ system_lsp told start t l
  unfolding system_lsp
  system-same = rw (all-same r.config t.config l 0 r.circuits [] s.system, prefixes-same given told before start r t l s leaks, circuits, s.areas, s.system, s.runs, s.overload, s.signed, attached) refl

  pub wanted-same : wanted given before r l ≡ wanted told start t l
  unfolding wanted
  wanted-same = rw (system-same, pseudonodes-same r t l 0 r.circuits s, circuits, s.runs) refl

-- ---- in order

less-rises : (m : List (ℕ × Contents)) (least less : ℕ) → less ≤ least → RisesFrom least m → RisesFrom less m
less-rises [] least less le r = tt
less-rises (p ∷ m) least less le r = (let h = r.0 in omega (arith, h, le), r.1)

numbered-rises : (flags id end least : ℕ) (parts : List (List ℕ)) (ws : List (ℕ × Contents)) → least ≤ id → id + length parts ≤ end → RisesFrom end ws → RisesFrom least (numbered flags id parts ++ ws)
numbered-rises flags id end least [] ws low high r = less-rises ws end least (omega (arith, low, high)) r
numbered-rises flags id end least (t ∷ parts) ws low high r = (low, numbered-rises flags (id + 1) end (id + 1) parts ws (omega arith) (omega (arith, high)) r)

fragments-rise : (first flags id end least : ℕ) (parts : List (List ℕ)) (ws : List (ℕ × Contents)) → least ≤ id → id + length parts ≤ end → RisesFrom end ws → RisesFrom least (fragments_of first flags id parts ++ ws)
fragments-rise first flags id end least [] ws low high r = less-rises ws end least (omega (arith, low, high)) r
fragments-rise first flags id end least (t ∷ parts) ws low high r = (low, numbered-rises flags (id + 1) end (id + 1) parts ws (omega arith) (omega (arith, high)) r)

pseudonode-rises : (r : Router) (place : ℕ) (c : Circuit) (l : Level) (least : ℕ) (ws : List (ℕ × Contents)) → least ≤ 65536 * r.config.system + 256 * (place + 1)
    → RisesFrom (65536 * r.config.system + 256 * (place + 2)) ws → RisesFrom least (pseudonode_lsp r place c l ++ ws)
unfolding pseudonode_lsp
pseudonode-rises r place c l least ws low rise =
    choose (λ (m : List (ℕ × Contents)). RisesFrom least (m ++ ws)) (is_own r.config (designated r.config place c l)) _ []
    (λ _.
    let few = split-few [] (node_items (lan_nodes (at c.levels l).heard ((256 * r.config.system, 0) ∷ []))) (room_of r.config l) in
    numbered-rises _ _ (65536 * r.config.system + 256 * (place + 2)) least _ ws low (omega (arith, few)) rise)
    (λ _. less-rises ws _ least (omega (arith, low)) rise)

pseudonodes-rise : (r : Router) (l : Level) (place : ℕ) (circuits : List Circuit) (least : ℕ) → least ≤ 65536 * r.config.system + 256 * (place + 1) → RisesFrom least (pseudonode_lsps r l place circuits)
pseudonodes-rise r l place [] least low = tt
pseudonodes-rise r l place (c ∷ circuits) least low =
    pseudonode-rises r place c l least (pseudonode_lsps r l (place + 1) circuits) low (pseudonodes-rise r l (place + 1) circuits (65536 * r.config.system + 256 * (place + 2)) (omega arith))

system-rises : (given : Given) (before r : Router) (l : Level) (ws : List (ℕ × Contents)) → RisesFrom (65536 * r.config.system + 256) ws → RisesFrom 0 (system_lsp given before r l ++ ws)
unfolding system_lsp
system-rises given before r l ws rise =
    let few = split-few (first_tlvs r) (node_items (all_nodes r.config l 0 r.circuits []) ++ reach_items (prefixes_of given before r l)) (room_of r.config l) in
    fragments-rise _ _ _ (65536 * r.config.system + 256) 0 _ ws (omega arith) (omega (arith, few)) rise

pub wanted-rises : (given : Given) (before r : Router) (l : Level) → RisesFrom 0 (wanted given before r l)
unfolding wanted
wanted-rises given before r l =
    choose (λ (m : List (ℕ × Contents)). RisesFrom 0 m) (at r.config.runs l) _ []
    (λ _. system-rises given before r l (pseudonode_lsps r l 0 r.circuits) (pseudonodes-rise r l 0 r.circuits (65536 * r.config.system + 256) (omega arith)))
    (λ _. tt)

-- ---- how many

numbered-count : (flags id : ℕ) (parts : List (List ℕ)) → length (numbered flags id parts) ≡ length parts
numbered-count flags id [] = refl
numbered-count flags id (t ∷ parts) = ap suc (numbered-count flags (id + 1) parts)

fragments-count : (first flags id : ℕ) (parts : List (List ℕ)) → length (fragments_of first flags id parts) ≡ length parts
fragments-count first flags id [] = refl
fragments-count first flags id (t ∷ parts) = ap suc (numbered-count flags (id + 1) parts)

pseudonode-count : (r : Router) (place : ℕ) (c : Circuit) (l : Level) → length (pseudonode_lsp r place c l) ≤ 256
unfolding pseudonode_lsp
pseudonode-count r place c l =
    choose (λ (m : List (ℕ × Contents)). length m ≤ 256) (is_own r.config (designated r.config place c l)) _ []
    (λ _. subst (λ (n : ℕ). n ≤ 256) (sym (numbered-count _ _ _)) (split-few [] (node_items (lan_nodes (at c.levels l).heard ((256 * r.config.system, 0) ∷ []))) (room_of r.config l)))
    (λ _. omega arith)

pseudonodes-count : (r : Router) (l : Level) (place : ℕ) (circuits : List Circuit) → length (pseudonode_lsps r l place circuits) ≤ 256 * length circuits
pseudonodes-count r l place [] = omega arith
pseudonodes-count r l place (c ∷ circuits) =
    let one = pseudonode-count r place c l in
    let rest = pseudonodes-count r l (place + 1) circuits in
    let both = length-append (pseudonode_lsp r place c l) (pseudonode_lsps r l (place + 1) circuits) in
    omega (arith, one, rest, both)

system-count : (given : Given) (before r : Router) (l : Level) → length (system_lsp given before r l) ≤ 256
unfolding system_lsp
system-count given before r l =
    subst (λ (n : ℕ). n ≤ 256) (sym (fragments-count _ _ _ _)) (split-few (first_tlvs r) (node_items (all_nodes r.config l 0 r.circuits []) ++ reach_items (prefixes_of given before r l)) (room_of r.config l))

pub wanted-count : (given : Given) (before r : Router) (l : Level) → length (wanted given before r l) ≤ 256 + 256 * length r.circuits
unfolding wanted
wanted-count given before r l =
    choose (λ (m : List (ℕ × Contents)). length m ≤ 256 + 256 * length r.circuits) (at r.config.runs l) _ []
    (λ _.
    let one = system-count given before r l in
    let rest = pseudonodes-count r l 0 r.circuits in
    let both = length-append (system_lsp given before r l) (pseudonode_lsps r l 0 r.circuits) in
    omega (arith, one, rest, both))
    (λ _. omega arith)

-- ---- each of them

pub all-of : (P : ℕ × Contents → Type 0) (ws : List Wanted) → AllByRecursion P (map wanted_of ws) → AllByRecursion (λ w. P (wanted_of w)) ws
all-of P [] a = tt
all-of P (w ∷ ws) a = (a.0, all-of P ws a.1)

pub issuable-under : (a b : Option (List ℕ)) (w : Contents) → is_some a ≡ is_some b → IsIssuable a w → IsIssuable b w
issuable-under a b w e i = record { tlvs = i.tlvs; short = subst (λ (t : Bool). length w.tlvs ≤ (if t then 1446 else 1465)) e i.short }

pub all-under : (a b : Option (List ℕ)) (ws : List Wanted) → is_some a ≡ is_some b → AllByRecursion (λ w. IsIssuable a (contents_of w)) ws → AllByRecursion (λ w. IsIssuable b (contents_of w)) ws
all-under a b [] e all = tt
all-under a b (w ∷ ws) e all = (issuable-under a b (contents_of w) e all.0, all-under a b ws e all.1)

-- ---- how they are made

key-at : (key : Option (List ℕ)) (l : Level) → at (record { one = key; two = key }) l ≡ key
key-at key level.One = refl
key-at key level.Two = refl

fragments-plain : (flags id : ℕ) (parts : List (List ℕ)) → fragments_of flags flags id parts ≡ numbered flags id parts
fragments-plain flags id [] = refl
fragments-plain flags id (t ∷ parts) = refl

-- a split of what is said in other words
split-words : (first told : List ℕ) (items said : List Item) (room : ℕ) (made : Split) → first ≡ told → items ≡ said → split first items room ≡ made → split told said room ≡ made
split-words first told items said room made e g s =
    ap (λ (f : List ℕ). split f said room) (sym e) ∙ ap (λ (i : List Item). split first i room) (sym g) ∙ s

prefixes-made : (base : Wants) (circuits : List Circuit) (leaks : List (Prefix × ℕ)) (attached : Bool) (l : Level)
    → prefixes_of (given_of leaks attached) (router_of base circuits) (router_of base circuits) l
    ≡ leaked_or (is_leaked_into base l) (is_down l) (own_reach (map prefix_pair base.prefixes.now)) (map prefix_pair leaks)
prefixes-made base circuits leaks attached level.One = refl
prefixes-made base circuits leaks attached level.Two = refl

pub pseudonode-none : (base : Wants) (all : List Circuit) (place : ℕ) (c : Circuit) (l : Level)
    → is_designated (config_of base) place c l ≡ false → pseudonode_lsp (router_of base all) place c l ≡ []
unfolding pseudonode_lsp
pseudonode-none base all place c l e = rw e refl

pub pseudonode-made : (base : Wants) (all : List Circuit) (place : ℕ) (c : Circuit) (l : Level) (flags id : ℕ) (first : List ℕ) (items : List Item) (made : Split)
    → is_designated (config_of base) place c l ≡ true → flags ≡ is_type (config_of base)
    → id ≡ 65536 * system_number base.system + 256 * (place + 1) → first ≡ []
    → items ≡ node_items (lan_nodes (at c.levels l).heard ((256 * system_number base.system, 0) ∷ []))
    → split first items (room_for (key_of base.signed)) ≡ made
    → fragments_of flags flags id made.fragments ≡ pseudonode_lsp (router_of base all) place c l
unfolding pseudonode_lsp
pseudonode-made base all place c l flags id first items made own f i none e s =
    let said = node_items (lan_nodes (at c.levels l).heard ((256 * system_number base.system, 0) ∷ [])) in
    let is = split-words first [] items said (room_for (key_of base.signed)) made none e s in
    rw (own, key-at (key_of base.signed) l) (fragments-plain flags id made.fragments
    ∙ ap (λ (n : ℕ). numbered n id made.fragments) f
    ∙ ap (λ (n : ℕ). numbered (is_type (config_of base)) n made.fragments) i
    ∙ ap (λ (x : Split). numbered (is_type (config_of base)) (65536 * system_number base.system + 256 * (place + 1)) x.fragments) (sym is))

pub system-made : (base : Wants) (circuits : List Circuit) (leaks : List (Prefix × ℕ)) (attached : Bool) (l : Level) (flags type id : ℕ) (first : List ℕ) (items : List Item) (made : Split)
    → flags ≡ first_flags (given_of leaks attached) (router_of base circuits) (router_of base circuits) l made.whole → type ≡ is_type (config_of base)
    → id ≡ 65536 * system_number base.system → first ≡ first_tlvs (router_of base circuits)
    → items ≡ node_items (all_nodes (config_of base) l 0 circuits [])
    ++ reach_items (leaked_or (is_leaked_into base l) (is_down l) (own_reach (map prefix_pair base.prefixes.now)) (map prefix_pair leaks))
    → split first items (room_for (key_of base.signed)) ≡ made
    → fragments_of flags type id made.fragments ≡ system_lsp (given_of leaks attached) (router_of base circuits) (router_of base circuits) l
unfolding system_lsp
system-made base circuits leaks attached l flags type id first items made f t i e g s =
    let r = router_of base circuits in
    let given = given_of leaks attached in
    let nodes = node_items (all_nodes (config_of base) l 0 circuits []) in
    let words = g ∙ ap (λ (m : List (ℕ × Reach)). nodes ++ reach_items m) (sym (prefixes-made base circuits leaks attached l)) in
    let is = split-words first (first_tlvs r) items (nodes ++ reach_items (prefixes_of given r r l)) (room_for (key_of base.signed)) made e words s in
    let room = ap (λ (k : Option (List ℕ)). split (first_tlvs r) (nodes ++ reach_items (prefixes_of given r r l)) (room_for k)) (key-at (key_of base.signed) l) in
    ap (λ (n : ℕ). fragments_of n type id made.fragments) f
    ∙ ap (λ (n : ℕ). fragments_of (first_flags given r r l made.whole) n id made.fragments) t
    ∙ ap (λ (n : ℕ). fragments_of (first_flags given r r l made.whole) (is_type (config_of base)) n made.fragments) i
    ∙ ap (λ (x : Split). fragments_of (first_flags given r r l x.whole) (is_type (config_of base)) (65536 * system_number base.system) x.fragments) (sym (room ∙ is))

pub pseudonodes-step : (r : Router) (l : Level) (place : ℕ) (circuits : List Circuit) (c : Circuit) → place < length circuits → c ≡ get_or circuits place c
    → pseudonode_lsps r l place (drop place circuits) ≡ pseudonode_lsp r place c l ++ pseudonode_lsps r l (place + 1) (drop (place + 1) circuits)
pseudonodes-step r l place circuits c lt is =
    let s : place + 1 ≡ suc place = omega arith in
    let cons : drop place circuits ≡ c ∷ drop (place + 1) circuits = rw s (drop-cons circuits place c lt ∙ ap (λ (x : Circuit). x ∷ drop (suc place) circuits) (sym is)) in
    rw cons refl

pub wanted-none : (given : Given) (before r : Router) (l : Level) → at r.config.runs l ≡ false → wanted given before r l ≡ []
unfolding wanted
wanted-none given before r l e = rw e refl

pub wanted-some : (given : Given) (before r : Router) (l : Level) → at r.config.runs l ≡ true → wanted given before r l ≡ system_lsp given before r l ++ pseudonode_lsps r l 0 r.circuits
unfolding wanted
wanted-some given before r l e = rw e refl

-- ---- all of them

key-some : (signed : Bool) (l : Level) → is_some (at (record { one = key_of signed; two = key_of signed }) l) ≡ signed
key-some true level.One = refl
key-some true level.Two = refl
key-some false level.One = refl
key-some false level.Two = refl

module _ (base : Wants) (circuits : List Circuit) (leaks : List (Prefix × ℕ)) (attached : Bool) (l : Level) (ws : List Wanted)
    (made : map wanted_of ws ≡ wanted (given_of leaks attached) (router_of base circuits) (router_of base circuits) l) where
  pub lent-wanted : (given : Given) (before r : Router) → IsLent given before r l base circuits leaks attached → map wanted_of ws ≡ wanted given before r l
  lent-wanted given before r lent =
      let like : AreLike (config_of base) r.config l = record {
        system = sym lent.system;
        areas = sym lent.areas;
        runs = sym lent.runs;
        leak = sym lent.leak;
        overload = sym lent.overload;
        prefixes = sym lent.prefixes;
        signed = key-some base.signed l ∙ sym lent.signed;
      } in
      made ∙ wanted-same (given_of leaks attached) given (router_of base circuits) before (router_of base circuits) r l like (sym lent.circuits) (sym lent.leaks) (sym lent.attached)

  pub lent-issuable : (key : Option (List ℕ)) → length (area_value base.areas.now) ≤ 255 → length circuits ≤ 126 → is_some key ≡ base.signed → AllByRecursion (λ w. IsIssuable key (contents_of w)) ws
  lent-issuable key areas few e =
      let mine = at (config_of base).keys l in
      let all = wanted-issuable (given_of leaks attached) (router_of base circuits) (router_of base circuits) l areas few in
      all-under mine key ws (key-some base.signed l ∙ sym e)
      (all-of (λ w. IsIssuable mine w.1) ws (subst (λ (m : List (ℕ × Contents)). AllByRecursion (λ w. IsIssuable mine w.1) m) (sym made) all))

  pub lent-own : length circuits ≤ 255 → AllByRecursion (λ w. lsp_number w.id / 65536 ≡ system_number base.system) ws
  lent-own few =
      all-of (λ w. w.0 / 65536 ≡ system_number base.system) ws
      (subst (λ (m : List (ℕ × Contents)). AllByRecursion (λ w. w.0 / 65536 ≡ system_number base.system) m) (sym made)
      (wanted-own (given_of leaks attached) (router_of base circuits) (router_of base circuits) l few))

  pub lent-rises : RisesFrom 0 (map wanted_of ws)
  lent-rises = subst (λ (m : List (ℕ × Contents)). RisesFrom 0 m) (sym made) (wanted-rises (given_of leaks attached) (router_of base circuits) (router_of base circuits) l)

  pub lent-count : length ws ≤ 256 + 256 * length circuits
  lent-count =
      let same = length-map ws wanted_of in
      let count = ap (λ (m : List (ℕ × Contents)). length m) made in
      let most = wanted-count (given_of leaks attached) (router_of base circuits) (router_of base circuits) l in
      omega (arith, same, count, most)
