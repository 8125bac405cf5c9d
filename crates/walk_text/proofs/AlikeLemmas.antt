-- Routers that passed the tests are alike: what laws on walks want of them.
use Rattle.std.proofs.Common.{◌≡◌, ◌≢◌, ℕ, zero, suc, ◌*◌, ◌/◌, ◌%◌, ◌^◌, ◌<◌, Bool, true, false, List, [], ◌∷◌, map, drop, Option, Some, None, refl, sym, ap, ◌∙◌, arith}
use Rattle.std.specs.List.{Contains}
use Rattle.std.specs.Option.{option_map}
use Rattle.isis_base.specs.declared.level.Level.TheVariants as level
use Rattle.isis_base.specs.Identifiers.{lsp_number}
use Rattle.model_router.specs.Places.{nth}
use Rattle.model_router.specs.Cells.{Cell}
use Rattle.model_router.specs.Ranks.{is_live}
use Rattle.model_router.specs.Routers.{Router, book_of}
use Rattle.model_router.specs.Numbers.{system_id, lsp_id}
use Rattle.model_datagram.proofs.NumberLemmas.{lsp-reads_back}
use Rattle.lsp_view.specs.Views.{own_node}
use Rattle.spf_tree.specs.Nodes.{node_number}
use Rattle.router_routes.specs.Told.{told_by}
use Rattle.router_routes.specs.Outlooks.{outlook_of}
use Rattle.router_routes.proofs.ToldLemmas.{drop-shown}
use Rattle.router_core.specs.Reached.{IsReached}
use Rattle.network_lab.specs.LabNets.{AreDistinct, systems_of}
use Rattle.network_lab.proofs.PlaceLemmas.{some-same, nth-map}
use Rattle.network_lab.proofs.LinkLemmas.{all-at}
use Rattle.forward_views.specs.Looks.{Look, root_of, told_of, said, AreAlike}
use Rattle.walk_text.specs.Views.{Held, view_in, view_of}
use Rattle.walk_text.specs.Tests.{AreLooks, AreTested}
use Rattle.walk_text.proofs.ListLemmas.{nth-contains}
use Rattle.walk_text.proofs.LookLemmas.{router-at}
use Rattle.walk_text.proofs.LevelLemmas.{runs-one, told-is, none-told}

-- ---- systems

pub root-number : (n : ℕ) → n < 2 ^ 48 → node_number (own_node (system_id n)) ≡ n * 65536
unfolding node_number
root-number n small = sym (ap lsp_number same) ∙ lsp-reads_back m (omega (arith, small))
  where
    m : ℕ
    m = n * 65536

    same : lsp_id m ≡ record { node = own_node (system_id n); number = 0 }
    same =
        let a : m / 256 / 256 ≡ n = omega arith in
        let b : m / 256 % 256 ≡ 0 = omega arith in
        let c : m % 256 ≡ 0 = omega arith in
        λ i. record { node = record { system = system_id (a i); pseudonode = b i }; number = c i }

root-is : (look : Look) → root_of look ≡ node_number (own_node (system_id look.router.config.system))
unfolding outlook_of
root-is look = refl

distinct-at : (xs : List ℕ) (i j n : ℕ) → AreDistinct xs → nth xs i ≡ Some n → nth xs j ≡ Some n → i ≡ j
distinct-at [] i j n h e f = absurd (cc)
distinct-at (x ∷ xs) zero zero n h e f = refl
distinct-at (x ∷ xs) zero (suc j) n h e f = absurd (all-at (λ y. x ≢ y) xs j n h.0 f (some-same x n e))
distinct-at (x ∷ xs) (suc i) zero n h e f = absurd (all-at (λ y. x ≢ y) xs i n h.0 e (some-same x n f))
distinct-at (x ∷ xs) (suc i) (suc j) n h e f = ap suc (distinct-at xs i j n h.1 e f)

-- ---- what is told

said_by : Held → ℕ × (ℕ × List ℕ)
said_by held = (lsp_number (lsp_id held.0), (held.1.1.0, held.1.1.1))

told-said : (cells : List (ℕ × Cell)) → map said (told_by cells) ≡ map said_by (view_in cells)
unfolding said_by
told-said [] = refl
told-said (pair ∷ cells) = by (told-said cells) (is_live pair.1.rank) refl
  where
    by : map said (told_by cells) ≡ map said_by (view_in cells) → (t : Bool) → is_live pair.1.rank ≡ t → map said (told_by (pair ∷ cells)) ≡ map said_by (view_in (pair ∷ cells))
    by rest true t =
        rw (t)
        (ap (λ (d : List ℕ). (lsp_number (lsp_id pair.0), (pair.1.flags, d)) ∷ map said (told_by cells)) (drop-shown pair.1.octets)
        ∙ ap (λ (l : List (ℕ × (ℕ × List ℕ))). (lsp_number (lsp_id pair.0), (pair.1.flags, drop 27 pair.1.octets)) ∷ l) rest)
    by rest false t = rw (t) rest

-- ---- places

-- no two places have one node
pub one-place : (routers : List Router) (looks : List Look) → AreLooks routers looks → ((i : ℕ) (r : Router) → nth routers i ≡ Some r → IsReached r) → AreDistinct (systems_of routers)
    → (p q : ℕ) (a b : Look) → nth looks p ≡ Some a → nth looks q ≡ Some b → root_of a ≡ root_of b → p ≡ q
one-place routers looks are reached distinct p q a b at of e =
    let m : ℕ = a.router.config.system in let n : ℕ = b.router.config.system in
    let x = root-number m (reached p a.router (router-at routers looks are p a at)).speaking.sender.system in
    let y = root-number n (reached q b.router (router-at routers looks are q b of)).speaking.sender.system in
    let roots : m * 65536 ≡ n * 65536 = sym (root-is a ∙ x) ∙ (e ∙ (root-is b ∙ y)) in
    let same : m ≡ n = omega (arith, roots) in
    distinct-at (systems_of routers) p q n distinct
    (nth-map (λ (r : Router). r.config.system) routers p ∙ (ap (option_map (λ (r : Router). r.config.system)) (router-at routers looks are p a at) ∙ ap Some same))
    (nth-map (λ (r : Router). r.config.system) routers q ∙ ap (option_map (λ (r : Router). r.config.system)) (router-at routers looks are q b of))

-- ---- all together

pub are-alike : (routers : List Router) (looks : List Look) → AreLooks routers looks → ((i : ℕ) (r : Router) → nth routers i ≡ Some r → IsReached r) → AreDistinct (systems_of routers) → AreTested looks → AreAlike looks
are-alike routers looks are reached distinct tested = record {
  routes_are = are.routes_are;
  alone = λ look h. let at = nth-contains looks look h in none-told look.router (tested.alone at.0 look at.1);
  known = tested.known;
  same = λ a b h k. seen a h ∙ (ap (map said_by) (one-view a b h k) ∙ sym (seen b k));
  settled = λ look h. let at = nth-contains looks look h in tested.settled at.0 look at.1;
  none_zero = λ look h. let at = nth-contains looks look h in tested.none_zero at.0 look at.1;
  one_each = one;
}
  where
    is-reached : (look : Look) → Contains looks look → IsReached look.router
    is-reached look h = let at = nth-contains looks look h in reached at.0 look.router (router-at routers looks are at.0 look at.1)

    seen : (look : Look) → Contains looks look → map said (told_of look) ≡ map said_by (view_of look.router)
    seen look h =
        let at = nth-contains looks look h in
        let runs = runs-one look.router.config.runs.one look.router.config.runs.two (is-reached look h).speaking.sender.some (tested.alone at.0 look at.1) in
        ap (map said) (told-is look.router runs) ∙ told-said (book_of look.router level.One).cells

    one-view : (a b : Look) → Contains looks a → Contains looks b → view_of a.router ≡ view_of b.router
    one-view a b h k = first (nth looks 0) refl
      where
        first : (o : Option Look) → nth looks 0 ≡ o → view_of a.router ≡ view_of b.router
        first (Some look) e =
            let at = nth-contains looks a h in let of = nth-contains looks b k in
            tested.same at.0 a at.1 look e ∙ sym (tested.same of.0 b of.1 look e)
        first None e = absurd (none looks e h)
          where
            none : (xs : List Look) → nth xs 0 ≡ None → Contains xs a → ⊥
            none [] e h = let l = h.1 in omega (arith, l)
            none (x ∷ xs) e h = cc

    one : (a b : Look) → Contains looks a → Contains looks b → root_of a ≡ root_of b → a ≡ b
    one a b h k e =
        let at = nth-contains looks a h in let of = nth-contains looks b k in
        some-same a b (sym at.1 ∙ (ap (nth looks) (one-place routers looks are reached distinct at.0 of.0 a b at.1 of.1 e) ∙ of.1))
