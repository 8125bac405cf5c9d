-- A second of a router is a second of each of its parts.
use Rattle.std.proofs.Common.{◌≡◌, ℕ, zero, suc, ◌+◌, ◌<◌, ◌≤◌, Bool, false, List, [], ◌∷◌, ◌++◌, append-nil, length, map, is_some, Option, Some, None, IfSome, refl, sym, ap, ◌∙◌, subst, arith}
use Rattle.std.specs.Option.{option_map}
use Rattle.std.specs.List.{AllByRecursion}
use Rattle.isis_base.specs.declared.level.Level.{Level}
use Rattle.isis_base.specs.declared.level.Level.TheVariants as level
use Rattle.isis_base.specs.Identifiers.{lsp_number}
use Rattle.model_router.specs.Both.{at}
use Rattle.model_router.specs.Places.{nth, with_nth}
use Rattle.model_router.specs.Configs.{Config}
use Rattle.model_router.specs.Elections.{idle, idle_all}
use Rattle.model_router.specs.Events.{Done, settled}
use Rattle.model_router.specs.OwnLsps.{renew}
use Rattle.model_router.specs.Routers.{Circuit, Contents, LevelState, Router}
use Rattle.model_router.specs.Seconds.{second, count_down, counted, circuit_less, waited, hold, hold_one, hold_all, age_both, renew_level, renew_both}
use Rattle.model_router.specs.Wanted.{wanted}
use Rattle.router_sending.specs.Drafts.{DraftView}
use Rattle.router_wanted.specs.declared.wanted.Wanted.{Wanted}
use Rattle.router_wanted.specs.Views.{wanted_of}
use Rattle.router_levels.specs.Drafts.{AreUnder, wants_of}
use Rattle.router_desk.specs.Desks.{desk_circuit}
use Rattle.router_core.specs.Givens.{given}
use Rattle.router_core.specs.Machines.{IsFit}
use Rattle.router_core.specs.Seconds.{bare_later, later, follow_one, follow_first, followed, level_later, IsMade}
use Rattle.router_core.specs.Settled.{face, faces}
use Rattle.router_core.proofs.FaceLemmas.{open-face}
use Rattle.model_router.specs.Ageing.{age}
use Rattle.model_router.specs.Hellos.{follow_circuit}

-- ---- lists whose first items are changed

-- a list whose first so many items are changed, each by its place from one on
abbrev pub changed : (ℕ → Circuit → Circuit) → ℕ → ℕ → List Circuit → List Circuit
changed f k zero cs = cs
changed f k (suc n) [] = []
changed f k (suc n) (c ∷ cs) = f k c ∷ changed f (k + 1) n cs

pub nth-changed : (f : ℕ → Circuit → Circuit) (k n : ℕ) (cs : List Circuit) → nth (changed f k n cs) n ≡ nth cs n
nth-changed f k zero cs = refl
nth-changed f k (suc n) [] = refl
nth-changed f k (suc n) (c ∷ cs) = nth-changed f (k + 1) n cs

changed-none : (f : ℕ → Circuit → Circuit) (k n : ℕ) (cs : List Circuit) → nth cs n ≡ None → changed f k n cs ≡ changed f k (suc n) cs
changed-none f k zero [] e = refl
changed-none f k zero (c ∷ cs) e = cc
changed-none f k (suc n) [] e = refl
changed-none f k (suc n) (c ∷ cs) e = ap (λ (xs : List Circuit). f k c ∷ xs) (changed-none f (k + 1) n cs e)

up-zero : (k : ℕ) → k + 0 ≡ k
up-zero k = omega arith

up-next : (k n : ℕ) → k + suc n ≡ k + 1 + n
up-next k n = omega arith

zero-up : (n : ℕ) → n ≡ 0 + n
zero-up n = omega arith

bad-some : {A : Type 0} (x : A) → None ≡ Some x → ⊥
bad-some x e = cc

changed-some : (f : ℕ → Circuit → Circuit) (k n : ℕ) (cs : List Circuit) (c : Circuit) → nth cs n ≡ Some c → with_nth (changed f k n cs) n (f (k + n) c) ≡ changed f k (suc n) cs
changed-some f k n [] c e = absurd (bad-some c e)
changed-some f k zero (x ∷ cs) c e = ap (λ (y : Circuit). f (k + 0) y ∷ cs) (sym (same x c e)) ∙ ap (λ (m : ℕ). f m x ∷ cs) (up-zero k)
  where
    same : (x y : Circuit) → Some x ≡ Some y → x ≡ y
    same x y e = cc
changed-some f k (suc n) (x ∷ cs) c e =
    ap (λ (m : ℕ). f k x ∷ with_nth (changed f (k + 1) n cs) n (f m c)) (up-next k n)
    ∙ ap (λ (xs : List Circuit). f k x ∷ xs) (changed-some f (k + 1) n cs c e)

count-up : (n : ℕ) → suc n ≡ n + 1
count-up n = omega arith

-- one more is changed
pub changed-next : (f : ℕ → Circuit → Circuit) (n i : ℕ) (cs xs ys : List Circuit) → i ≡ n → n < length cs → xs ≡ changed f 0 n cs → IfSome (nth xs i) (λ c. ys ≡ with_nth xs i (f i c)) → ys ≡ changed f 0 (n + 1) cs
changed-next f n i cs xs ys k h e p =
    subst (λ (m : ℕ). ys ≡ changed f 0 m cs) (count-up n) (of (nth cs n) refl)
  where
    here : IfSome (nth cs n) (λ c. ys ≡ with_nth (changed f 0 n cs) n (f n c))
    here = subst (λ (o : Option Circuit). IfSome o (λ c. ys ≡ with_nth (changed f 0 n cs) n (f n c))) (nth-changed f 0 n cs)
        (subst (λ (zs : List Circuit). IfSome (nth zs n) (λ c. ys ≡ with_nth zs n (f n c))) e
        (subst (λ (j : ℕ). IfSome (nth xs j) (λ c. ys ≡ with_nth xs j (f j c))) k p))

    is-there : (xs : List Circuit) (m : ℕ) → m < length xs → nth xs m ≡ None → ⊥
    is-there [] m h e = absurd (omega (arith, h))
    is-there (x ∷ xs) zero h e = cc
    is-there (x ∷ xs) (suc m) h e = is-there xs m (omega (arith, h)) e

    of : (o : Option Circuit) → nth cs n ≡ o → ys ≡ changed f 0 (suc n) cs
    of None q = absurd (is-there cs n h q)
    of (Some c) q = subst (λ (o : Option Circuit). IfSome o (λ x. ys ≡ with_nth (changed f 0 n cs) n (f n x))) q here
        ∙ (ap (λ (m : ℕ). with_nth (changed f 0 n cs) n (f m c)) (zero-up n) ∙ changed-some f 0 n cs c q)

-- all are
pub changed-all : (config : Config) (k n : ℕ) (cs : List Circuit) → length cs ≤ n → changed (idle config) k n cs ≡ idle_all config k cs
changed-all config k zero [] h = refl
changed-all config k (suc n) [] h = refl
changed-all config k zero (c ∷ cs) h = absurd (omega (arith, h))
changed-all config k (suc n) (c ∷ cs) h = ap (λ (xs : List Circuit). idle config k c ∷ xs) (changed-all config (k + 1) n cs (omega (arith, h)))

changed-map : (g : Circuit → Circuit) (k : ℕ) (cs : List Circuit) → changed (λ (_ : ℕ) (c : Circuit). g c) k (length cs) cs ≡ map g cs
changed-map g k [] = refl
changed-map g k (c ∷ cs) = ap (λ (xs : List Circuit). g c ∷ xs) (changed-map g (k + 1) cs)

nth-map : (g : Circuit → Circuit) (cs : List Circuit) (n : ℕ) → nth (map g cs) n ≡ option_map g (nth cs n)
nth-map g [] n = refl
nth-map g (c ∷ cs) zero = refl
nth-map g (c ∷ cs) (suc n) = nth-map g cs n

map-twice : (cs : List Circuit) → map circuit_less (map counted cs) ≡ map later cs
map-twice [] = refl
map-twice (c ∷ cs) = ap (λ (xs : List Circuit). later c ∷ xs) (map-twice cs)

pub length-map : {A B : Type 0} (g : A → B) (cs : List A) → length (map g cs) ≡ length cs
length-map g [] = refl
length-map g (c ∷ cs) = ap suc (length-map g cs)

-- ---- circuits a second later

later-fit : (cs : List Circuit) → AllByRecursion IsFit cs → AllByRecursion IsFit (map bare_later cs)
later-fit [] a = tt
later-fit (c ∷ cs) a = (record { metric = a.0.metric; priority = a.0.priority }, later-fit cs a.1)

pub same-fit : (cs xs : List Circuit) → xs ≡ map bare_later cs → AllByRecursion IsFit cs → AllByRecursion IsFit xs
same-fit cs xs e a = subst (AllByRecursion IsFit) (sym e) (later-fit cs a)

-- each is, by the same change
pub changed-map-all : (g : Circuit → Circuit) (n : ℕ) (cs : List Circuit) → length cs ≤ n → changed (λ (_ : ℕ) (c : Circuit). g c) 0 n cs ≡ map g cs
changed-map-all g n cs h = changed-most g 0 n cs h
  where
    changed-most : (g : Circuit → Circuit) (k n : ℕ) (cs : List Circuit) → length cs ≤ n → changed (λ (_ : ℕ) (c : Circuit). g c) k n cs ≡ map g cs
    changed-most g k zero [] h = refl
    changed-most g k (suc n) [] h = refl
    changed-most g k zero (c ∷ cs) h = absurd (omega (arith, h))
    changed-most g k (suc n) (c ∷ cs) h = ap (λ (xs : List Circuit). g c ∷ xs) (changed-most g (k + 1) n cs (omega (arith, h)))

-- ---- faces, which are all that own LSPs and levels look at

-- boots aren't
pub bare-faces : (cs xs : List Circuit) → xs ≡ map bare_later cs → faces xs ≡ faces (map later cs)
bare-faces cs xs e = ap faces e ∙ of cs
  where
    of : (cs : List Circuit) → faces (map bare_later cs) ≡ faces (map later cs)
    of [] = refl
    of (c ∷ cs) = ap (λ (xs : List Circuit). face (later c) ∷ xs) (of cs)

first-face : (s : LevelState) (l : Level) (cs : List Circuit) (n : ℕ) → follow_first s l (faces cs) n ≡ follow_first s l cs n
first-face s l cs zero = refl
first-face s l cs (suc n) =
    ap (λ (t : LevelState). follow_one t l n (nth (faces cs) n)) (first-face s l cs n)
    ∙ (ap (λ (o : Option Circuit). follow_one first l n o) (nth-map face cs n) ∙ of (nth cs n))
  where
    first : LevelState
    first = follow_first s l cs n

    of : (o : Option Circuit) → follow_one first l n (option_map face o) ≡ follow_one first l n o
    of None = refl
    of (Some c) = ap (λ (b : Bool). record first { book = follow_circuit false first.book n b }) (open-face c l)

level-face : (s : LevelState) (l : Level) (cs : List Circuit) → level_later s l (faces cs) ≡ level_later s l cs
level-face s l cs =
    ap (λ (n : ℕ). age (follow_first (waited s) l (faces cs) n)) (length-map face cs)
    ∙ ap age (first-face (waited s) l cs (length cs))

level-faces : (s : LevelState) (l : Level) (cs ds : List Circuit) → faces cs ≡ faces ds → level_later s l cs ≡ level_later s l ds
level-faces s l cs ds e = sym (level-face s l cs) ∙ (ap (λ (xs : List Circuit). level_later s l xs) e ∙ level-face s l ds)

-- ---- the router

-- holding the first so many circuits is holding each, and each level's following them
held : (r : Router) (n : ℕ) → hold_all r n ≡ record r { circuits = changed (λ (_ : ℕ) (c : Circuit). circuit_less c) 0 n r.circuits; levels = record { one = follow_first r.levels.one level.One (map circuit_less r.circuits) n; two = follow_first r.levels.two level.Two (map circuit_less r.circuits) n } }
unfolding hold
held r zero = refl
held r (suc n) = ap (λ (x : Router). hold_one x n (nth x.circuits n)) (held r n) ∙ (ap (λ (o : Option Circuit). hold_one before n o) (nth-changed (λ (_ : ℕ) (c : Circuit). circuit_less c) 0 n r.circuits) ∙ of (nth r.circuits n) refl)
  where
    shape : List Circuit → Option Circuit → Router
    shape cs o = record r { circuits = cs; levels = record { one = follow_one (follow_first r.levels.one level.One (map circuit_less r.circuits) n) level.One n o; two = follow_one (follow_first r.levels.two level.Two (map circuit_less r.circuits) n) level.Two n o } }

    before : Router
    before = shape (changed (λ (_ : ℕ) (c : Circuit). circuit_less c) 0 n r.circuits) None

    at-none : hold_one before n None ≡ before
    at-none = refl

    at-some : (c : Circuit) → hold_one before n (Some c) ≡ shape (with_nth (changed (λ (_ : ℕ) (x : Circuit). circuit_less x) 0 n r.circuits) n (circuit_less c)) (Some (circuit_less c))
    at-some c = refl

    of : (o : Option Circuit) → nth r.circuits n ≡ o → hold_one before n o ≡ shape (changed (λ (_ : ℕ) (c : Circuit). circuit_less c) 0 (suc n) r.circuits) (nth (map circuit_less r.circuits) n)
    of None e = at-none
        ∙ (ap (λ (cs : List Circuit). shape cs None) (changed-none (λ (_ : ℕ) (c : Circuit). circuit_less c) 0 n r.circuits e)
        ∙ ap (λ (o : Option Circuit). shape (changed (λ (_ : ℕ) (c : Circuit). circuit_less c) 0 (suc n) r.circuits) o) (sym (nth-map circuit_less r.circuits n ∙ ap (option_map circuit_less) e)))
    of (Some c) e = at-some c
        ∙ (ap (λ (cs : List Circuit). shape cs (Some (circuit_less c))) (changed-some (λ (_ : ℕ) (c : Circuit). circuit_less c) 0 n r.circuits c e)
        ∙ ap (λ (o : Option Circuit). shape (changed (λ (_ : ℕ) (c : Circuit). circuit_less c) 0 (suc n) r.circuits) o) (sym (nth-map circuit_less r.circuits n ∙ ap (option_map circuit_less) e)))

-- a router whose circuits are these, with each level a second later
abbrev pub aged : Router → List Circuit → Router
aged r cs = record r { circuits = cs; levels = record { one = level_later r.levels.one level.One cs; two = level_later r.levels.two level.Two cs } }

aged-is : (r : Router) → age_both (hold_all (count_down r) (length (count_down r).circuits)) ≡ aged r (map later r.circuits)
unfolding count_down
aged-is r = ap age_both (held (count_down r) (length (map counted r.circuits)))
    ∙ (ap (λ (cs : List Circuit). shape cs (map circuit_less (map counted r.circuits)) (length (map counted r.circuits))) (changed-map circuit_less 0 (map counted r.circuits))
    ∙ (ap (λ (n : ℕ). shape (map circuit_less (map counted r.circuits)) (map circuit_less (map counted r.circuits)) n) (sym (length-map circuit_less (map counted r.circuits)))
    ∙ ap (λ (cs : List Circuit). shape cs cs (length cs)) (map-twice r.circuits)))
  where
    shape : List Circuit → List Circuit → ℕ → Router
    shape cs ds n = age_both (record r { circuits = cs; levels = record { one = follow_first (waited r.levels.one) level.One ds n; two = follow_first (waited r.levels.two) level.Two ds n } })

-- what a level is after a second, by what it wants with the circuits as they then are
abbrev pub IsLater : Router → Level → LevelState → LevelState → Type 0
IsLater r l old new = (q : Router) → q.config ≡ r.config → q.circuits ≡ map later r.circuits → new ≡ renew given q l (level_later old l (map later r.circuits)) (wanted given r q l)

pub second-is : (r : Router) (one two : LevelState) (circuits : List Circuit) → circuits ≡ idle_all r.config 0 (map later r.circuits) → IsLater r level.One r.levels.one one → IsLater r level.Two r.levels.two two → record r { circuits = circuits; levels = record { one = one; two = two } } ≡ (settled (record { router = second given r; reply = Done })).router
unfolding second
second-is r one two circuits e f g =
    ap (λ (cs : List Circuit). record r { circuits = cs; levels = record { one = one; two = two } }) e
    ∙ (ap (λ (s : LevelState). record r { circuits = idle_all r.config 0 (map later r.circuits); levels = record { one = s; two = two } }) (f first refl refl)
    ∙ (ap (λ (s : LevelState). record r { circuits = idle_all r.config 0 (map later r.circuits); levels = record { one = next.levels.one; two = s } }) (g next refl refl)
    ∙ ap (λ (q : Router). (settled (record { router = renew_both given r q; reply = Done })).router) (sym (aged-is r))))
  where
    first : Router
    first = aged r (map later r.circuits)

    next : Router
    next = renew_level given r first level.One

-- a router whose parts are those of another one
pub second-of : (r s : Router) (one two : LevelState) (circuits : List Circuit) → s ≡ r → circuits ≡ idle_all r.config 0 (map later r.circuits) → IsLater r level.One r.levels.one one → IsLater r level.Two r.levels.two two → record s { circuits = circuits; levels = record { one = one; two = two } } ≡ (settled (record { router = second given r; reply = Done })).router
second-of r s one two circuits k e f g = ap (λ (q : Router). record q { circuits = circuits; levels = record { one = one; two = two } }) k ∙ second-is r one two circuits e f g

-- a level that had its second in place, and was followed by drafts where there are some, with circuits that say what they then do
pub later-part : (r : Router) (l : Level) (old : LevelState) (part : Option (List DraftView)) (now new : LevelState) (cs : List Circuit) → now ≡ old → faces cs ≡ faces (map later r.circuits) → new ≡ followed r l part (level_later now l cs)
    → ((q : Router) → q.config ≡ r.config → faces q.circuits ≡ faces cs → followed r l part (level_later old l cs) ≡ renew given q l (level_later old l cs) (wanted given r q l)) → IsLater r l old new
later-part r l old part now new cs k e h f q a b =
    h
    ∙ (ap (λ (s : LevelState). followed r l part (level_later s l cs)) k
    ∙ (f q a (ap faces b ∙ sym e)
    ∙ ap (λ (s : LevelState). renew given q l s (wanted given r q l)) (level-faces old l cs (map later r.circuits) e)))

pub same-count : (cs ds : List Circuit) → map desk_circuit cs ≡ map desk_circuit ds → length cs ≡ length ds
same-count cs ds e = sym (length-map desk_circuit cs) ∙ (ap length e ∙ length-map desk_circuit ds)

-- ---- drafts of what is wanted

pub all-behind : {A : Type 0} (P : A → Type 0) (xs : List A) (x : A) → AllByRecursion P xs → P x → AllByRecursion P (xs ++ x ∷ [])
all-behind P [] x a h = (h, tt)
all-behind P (y ∷ xs) x a h = (a.0, all-behind P xs x a.1 h)

pub says-turn : (ds : List DraftView) (d : DraftView) (w : Wanted) (all left : List Wanted) (total : List (ℕ × Contents)) → all ≡ w ∷ left → (lsp_number d.id, d.contents) ≡ wanted_of w → wants_of ds ++ map wanted_of all ≡ total → wants_of (ds ++ d ∷ []) ++ map wanted_of left ≡ total
says-turn ds d w all left total is same e = step ds ∙ (ap (λ (ws : List Wanted). wants_of ds ++ map wanted_of ws) (sym is) ∙ e)
  where
    step : (xs : List DraftView) → wants_of (xs ++ d ∷ []) ++ map wanted_of left ≡ wants_of xs ++ wanted_of w ∷ map wanted_of left
    step [] = ap (λ (p : ℕ × Contents). p ∷ map wanted_of left) same
    step (x ∷ xs) = ap (λ (ys : List (ℕ × Contents)). (lsp_number x.id, x.contents) ∷ ys) (step xs)

pub says-end : (ds : List DraftView) (all : List Wanted) (total : List (ℕ × Contents)) → all ≡ [] → wants_of ds ++ map wanted_of all ≡ total → wants_of ds ≡ total
says-end ds all total is e = sym (append-nil (wants_of ds)) ∙ (ap (λ (ws : List Wanted). wants_of ds ++ map wanted_of ws) (sym is) ∙ e)

pub under-made : (key : Option (List ℕ)) (r : Router) (l : Level) (ds : List DraftView) → at r.config.keys l ≡ key → AllByRecursion (IsMade (is_some key) l) ds → AreUnder key r l ds
under-made key r l [] e a = tt
under-made key r l (d ∷ ds) e a = (record { keyed = e; on = a.0.on }, under-made key r l ds e a.1)
