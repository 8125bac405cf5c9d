-- What routes look at of a router as it lies, and that it stays where no key changes.
use Rattle.std.proofs.Common.{◌≡◌, ◌∙◌, ℕ, ◌+◌, ◌*◌, ◌/◌, ◌%◌, ◌<◌, ◌≤◌, Bool, true, false, not, cond, List, [], ◌∷◌, ◌++◌, length, map, Option, Some, None, refl, sym, ap, subst, arith, if◌then◌else◌, inl, inr}
use Rattle.std.specs.List.{AllByRecursion}
use Rattle.std.proofs.lemmas.Bool.{cases_eq, eq-eqb, ne_eqb}
use Rattle.std.proofs.lemmas.Bool.Decides.{nat_tests}
use Rattle.isis_base.specs.declared.identifiers.NodeId.{NodeId}
use Rattle.isis_base.specs.declared.identifiers.LspId.{LspId}
use Rattle.isis_base.specs.declared.level.Level.{Level}
use Rattle.isis_base.specs.declared.level.Level.TheVariants as level
use Rattle.isis_base.specs.declared.prefix.Prefix.{Prefix}
use Rattle.isis_base.specs.declared.key.Key.{Key}
use Rattle.isis_base.specs.Identifiers.{IsId}
use Rattle.isis_base.specs.Keys.{rank}
use Rattle.isis_base.specs.Prefixes.{prefix_from}
use Rattle.isis_base.proofs.PrefixValues.{prefix_from-prefix}
use Rattle.model_router.specs.Both.{Both, at, runs_of}
use Rattle.model_router.specs.Configs.{Config}
use Rattle.model_router.specs.Maps.{find, set_at}
use Rattle.model_router.specs.Sorted.{RisesFrom, IsSorted}
use Rattle.model_router.specs.Ranks.{is_live}
use Rattle.model_router.specs.Cells.{Cell}
use Rattle.model_router.specs.Books.{Book, cell_at}
use Rattle.model_router.specs.Places.{nth}
use Rattle.model_router.specs.Routers.{Circuit, Router, book_of}
use Rattle.model_router.specs.Deeds.{Content, content_of}
use Rattle.model_router.specs.ContentLaws.{SameKey}
use Rattle.model_router.specs.Events.{Event, Message, Second, Take, Pull, Metric, Overload, Prefix as ChangePrefix, Done, settled}
use Rattle.model_router.specs.Steps.{step, with_metric as set_metric}
use Rattle.model_router.specs.Givens.{Given}
use Rattle.model_router.specs.Numbers.{lsp_id, system_id, system_number}
use Rattle.lsp_store.specs.declared.entry.Entry.{Entry}
use Rattle.lsp_store.specs.Databases as store
use Rattle.lsp_store.specs.Databases.{Database}
use Rattle.flag_sync.specs.declared.flag_row.FlagRow.{FlagRow}
use Rattle.flag_sync.specs.BookStates as sync
use Rattle.flag_sync.specs.BookStates.{AreBeside, BookState, cells_of}
use Rattle.router_sending.proofs.DraftLemmas.{id-again}
use Rattle.lsp_view.specs.Views.{own_node}
use Rattle.router_wanted.specs.Views.{prefix_pair}
use Rattle.router_routes.specs.declared.lent.Lent.{Lent}
use Rattle.router_routes.specs.Told.{told, told_pair, told_in, told_by}
use Rattle.router_routes.specs.Outlooks.{Outlook, where_run, with_metric, prefixes_by, outlook_of, outlook_in}
use Rattle.router_routes.specs.Moved.{beside}
use Rattle.router_routes.proofs.LeakLemmas.{maps-same}
use Rattle.router_core.specs.Calm.{KeepsPrefixes}
use Rattle.router_core.proofs.RestLemmas.{Rests, second-rests, take-rests, pull-rests, metric-rests}

-- ---- what the databases tell

live-key : (n : ℕ) (purged : Bool) → 0 < n → is_live (2 * n + cond purged 1 0) ≡ not purged
live-key n true some = grind (arith, nat_tests)
live-key n false some = grind (arith, nat_tests)

pub live-is : (key : Option Key) → is_live (rank key) ≡ store.is_live_key key
live-is None = refl
live-is (Some key) = live-key key.number key.purged key.numbered

module _ (e : LspId × Entry) (row : LspId × FlagRow) (entries : List (LspId × Entry)) (rows : List (LspId × FlagRow)) (id : IsId e.0) (rest : told_by (cells_of entries rows) ≡ told_in entries) where
  told-step : (t : Bool) → store.is_live e.1 ≡ t → told_by (cells_of (e ∷ entries) (row ∷ rows)) ≡ told_in (e ∷ entries)
  told-step true is =
      let live : is_live (rank e.1.key) ≡ true = live-is e.1.key ∙ is in
      rw (live, is) (ap (λ (i : LspId). (i, told e.1.flags e.1.octets) ∷ told_by (cells_of entries rows)) (id-again e.0 id) ∙ ap (λ (l : List (LspId × Entry)). told_pair e ∷ l) rest)
  told-step false is =
      let live : is_live (rank e.1.key) ≡ false = live-is e.1.key ∙ is in
      rw (live, is) rest

pub told-cells : (entries : List (LspId × Entry)) (rows : List (LspId × FlagRow)) → length rows ≡ length entries → AllByRecursion (λ (p : LspId × Entry). IsId p.0) entries → told_by (cells_of entries rows) ≡ told_in entries
told-cells [] rows long ids = refl
told-cells (e ∷ entries) [] long ids = absurd (omega (arith, long))
told-cells (e ∷ entries) (row ∷ rows) long ids = told-step e row entries rows ids.0 (told-cells entries rows (omega (arith, long)) ids.1) (store.is_live e.1) refl

rows-beside : (entries : List (LspId × Entry)) (rows : List (LspId × FlagRow)) → AreBeside entries rows → length rows ≡ length entries
rows-beside [] [] is = refl
rows-beside [] (row ∷ rows) is = absurd is
rows-beside (e ∷ entries) [] is = absurd is
rows-beside (e ∷ entries) (row ∷ rows) is = let n = rows-beside entries rows is.1 in omega (arith, n)

-- rows that lie beside entries are as many
pub beside-long : (entries : List (LspId × Entry)) (lent rows : List (LspId × FlagRow)) → lent ≡ rows → AreBeside entries lent → length rows ≡ length entries
beside-long entries lent rows same is = ap length (sym same) ∙ rows-beside entries lent is

pub told-book : (b mine : BookState) (lent : Database) → b ≡ mine → lent ≡ b.store → length b.rows ≡ length b.store.entries → AllByRecursion (λ (p : LspId × Entry). IsId p.0) lent.entries → told_by (sync.book_of mine).cells ≡ told_in lent.entries
told-book b mine lent e f long ids =
    subst (λ (x : BookState). told_by (sync.book_of x).cells ≡ told_in lent.entries) e
    (told-cells b.store.entries b.rows long (subst (λ (d : Database). AllByRecursion (λ (p : LspId × Entry). IsId p.0) d.entries) f ids) ∙ ap (λ (d : Database). told_in d.entries) (sym f))

-- a level that routes see as run is run
pub outlook-runs : (r : Router) (l : Level) → at (outlook_of r).runs l ≡ at r.config.runs l
unfolding outlook_of
outlook-runs r l = refl

-- ---- one's own prefixes

prefix-again : (prefix : Prefix) → prefix_from ((64 * prefix.address + prefix.length) / 64) ((64 * prefix.address + prefix.length) % 64) ≡ Some prefix
prefix-again prefix =
    let short : prefix.length ≤ 32 = prefix.fits in
    prefix_from-prefix prefix _ _ (omega (arith, short)) (omega (arith, short))

pub prefixes-again : (own : List (Prefix × ℕ)) → prefixes_by (map prefix_pair own) ≡ own
prefixes-again [] = refl
prefixes-again (p ∷ own) = ap (λ (o : Option Prefix). with_metric o p.1 ++ prefixes_by (map prefix_pair own)) (prefix-again p.0) ∙ ap (λ (l : List (Prefix × ℕ)). p ∷ l) (prefixes-again own)

-- ---- all of it

pub outlook-same : (root lent-root : NodeId) (areas lent-areas : List (List ℕ)) (runs lent-runs : Both Bool) (own lent-own : List (Prefix × ℕ)) (one two lent-one lent-two : List (LspId × Entry)) → root ≡ lent-root → areas ≡ lent-areas → runs ≡ lent-runs → own ≡ lent-own → one ≡ lent-one → two ≡ lent-two
    → ◌≡◌ {A = Outlook} (record { root = root; areas = areas; runs = runs; prefixes = own; told = record { one = one; two = two } }) (record { root = lent-root; areas = lent-areas; runs = lent-runs; prefixes = lent-own; told = record { one = lent-one; two = lent-two } })
outlook-same root lent-root areas lent-areas runs lent-runs own lent-own one two lent-one lent-two e f g h k l = λ i. record { root = e i; areas = f i; runs = g i; prefixes = h i; told = record { one = k i; two = l i } }

pub lent-outlook : (r : Router) (lent : Lent) → r.config.system ≡ system_number lent.system → system_id (system_number lent.system) ≡ lent.system → r.config.areas ≡ lent.areas.now → r.config.runs ≡ runs_of lent.levels → r.config.prefixes ≡ map prefix_pair lent.prefixes.now
    → told_by (book_of r level.One).cells ≡ told_in lent.one.now.entries → told_by (book_of r level.Two).cells ≡ told_in lent.two.now.entries → outlook_in lent ≡ outlook_of r
unfolding outlook_of outlook_in
lent-outlook r lent system again areas runs own one two =
    sym (outlook-same _ _ _ _ _ _ _ _ _ _ _ _ (ap own_node (ap system_id system ∙ again)) areas runs (ap prefixes_by own ∙ prefixes-again lent.prefixes.now)
    (ap (λ (b : Both Bool). where_run b.one (told_by (book_of r level.One).cells)) runs ∙ ap (where_run (runs_of lent.levels).one) one)
    (ap (λ (b : Both Bool). where_run b.two (told_by (book_of r level.Two).cells)) runs ∙ ap (where_run (runs_of lent.levels).two) two))

-- ---- the configuration changes

pub metric-outlook : (given : Given) (r : Router) (place metric : ℕ) → outlook_of (step given r (Metric place metric)).router ≡ outlook_of r
unfolding outlook_of step
metric-outlook given r place metric = by (nth r.circuits place) where
  by : (o : Option Circuit) → outlook_of (settled (record { router = set_metric r place metric o; reply = Done })).router ≡ outlook_of r
  by None = refl
  by (Some c) = refl

pub overload-outlook : (given : Given) (r : Router) (on : Bool) → outlook_of (step given r (Overload on)).router ≡ outlook_of r
unfolding outlook_of step
overload-outlook given r on = refl

pub prefix-outlook : (given : Given) (r : Router) (prefix : ℕ) (metric : Option ℕ) → outlook_of (step given r (ChangePrefix prefix metric)).router ≡ record (outlook_of r) { prefixes = prefixes_by (set_at r.config.prefixes prefix metric) }
unfolding outlook_of step
prefix-outlook given r prefix metric = refl

pub lent-with : (o seen : Outlook) (own : List (ℕ × ℕ)) (list : List (Prefix × ℕ)) → seen ≡ o → map prefix_pair list ≡ own → record o { prefixes = prefixes_by own } ≡ record seen { prefixes = list }
lent-with o seen own list same pairs =
    ap (λ (x : Outlook). record x { prefixes = prefixes_by own }) (sym same)
    ∙ ap (λ (l : List (Prefix × ℕ)). record seen { prefixes = l }) (ap prefixes_by (sym pairs) ∙ prefixes-again list)

-- ---- what is told stays where keys and contents stay

abbrev pub Said : Type 0
Said = ℕ × List ℕ

abbrev pub live-by : List (ℕ × Cell) → List (ℕ × Said)
live-by [] = []
live-by (p ∷ cells) = if is_live p.1.rank then (p.0, (p.1.flags, p.1.octets)) ∷ live-by cells else live-by cells

abbrev pub said-of : Option Cell → Option Said
said-of None = None
said-of (Some c) = if is_live c.rank then Some (c.flags, c.octets) else None

abbrev pub told-said : ℕ × Said → LspId × Entry
told-said p = (lsp_id p.0, told p.1.0 p.1.1)

told-live-step : (p : ℕ × Cell) (cells : List (ℕ × Cell)) → told_by cells ≡ map told-said (live-by cells) → (t : Bool) → is_live p.1.rank ≡ t → told_by (p ∷ cells) ≡ map told-said (live-by (p ∷ cells))
told-live-step p cells rest true is = rw is (ap (λ (l : List (LspId × Entry)). (lsp_id p.0, told p.1.flags p.1.octets) ∷ l) rest)
told-live-step p cells rest false is = rw is rest

pub told-live : (cells : List (ℕ × Cell)) → told_by cells ≡ map told-said (live-by cells)
told-live [] = refl
told-live (p ∷ cells) = told-live-step p cells (told-live cells) (is_live p.1.rank) refl

pub weaken : {V : Type 0} → (m : List (ℕ × V)) (least less : ℕ) → less ≤ least → RisesFrom least m → RisesFrom less m
weaken [] least less h r = tt
weaken (p ∷ m) least less h r = let first = r.0 in (omega (arith, h, first), r.1)

pub live-rises : (m : List (ℕ × Cell)) (least : ℕ) → RisesFrom least m → RisesFrom least (live-by m)
live-rises [] least r = tt
live-rises (p ∷ m) least r = by-test (is_live p.1.rank) r.0 (live-rises m (p.0 + 1) r.1)
  where
    by-test : (t : Bool) → least ≤ p.0 → RisesFrom (p.0 + 1) (live-by m) → RisesFrom least (if t then (p.0, (p.1.flags, p.1.octets)) ∷ live-by m else live-by m)
    by-test true first rest = (first, rest)
    by-test false first rest = weaken (live-by m) (p.0 + 1) least (omega (arith, first)) rest

find-below : {V : Type 0} → (m : List (ℕ × V)) (least q : ℕ) → RisesFrom least m → q < least → find m q ≡ None
find-below [] least q r h = refl
find-below (p ∷ m) least q r h =
    let first = r.0 in
    rw (ne_eqb p.0 q (λ e. absurd (omega (arith, first, h, e)))) (find-below m (p.0 + 1) q r.1 (omega (arith, first, h)))

module _ (p : ℕ × Cell) (m : List (ℕ × Cell)) (q : ℕ) (rises : RisesFrom (p.0 + 1) m) (rest : find (live-by m) q ≡ said-of (find m q)) where
  live-step : (t : Bool) → is_live p.1.rank ≡ t → find (live-by (p ∷ m)) q ≡ said-of (find (p ∷ m) q)
  live-step true is =
      elim (cases_eq p.0 q) [
        | inl here ↦ rw (is, eq-eqb p.0 q here, is) refl
        | inr other ↦ rw (is, ne_eqb p.0 q other) rest
      ]
  live-step false is =
      elim (cases_eq p.0 q) [
        | inl here ↦ rw (is, eq-eqb p.0 q here, is) (rest ∙ ap said-of (find-below m (p.0 + 1) q rises (omega (arith, here))))
        | inr other ↦ rw (is, ne_eqb p.0 q other) rest
      ]

pub live-find : (m : List (ℕ × Cell)) (least q : ℕ) → RisesFrom least m → find (live-by m) q ≡ said-of (find m q)
live-find [] least q r = refl
live-find (p ∷ m) least q r = live-step p m q r.1 (live-find m (p.0 + 1) q r.1) (is_live p.1.rank) refl

none-live : (c : Cell) → c.rank ≡ 0 → None ≡ said-of (Some c)
none-live c e = rw e refl

both-said : (a b : Cell) (t : Bool) → is_live b.rank ≡ t → b.rank ≡ a.rank → (is_live b.rank ≡ true → ◌≡◌ {A = Option Content} (Some (content_of b)) (Some (content_of a))) → said-of (Some b) ≡ said-of (Some a)
both-said a b true is e content =
    let same : content_of b ≡ content_of a = some-value (content is) in
    rw (is, sym e, is) (ap said-content same)
  where
    some-value : {A : Type 0} {x y : A} → ◌≡◌ {A = Option A} (Some x) (Some y) → x ≡ y
    some-value e = cc

    said-content : Content → Option Said
    said-content c = Some (c.flags, c.octets)
both-said a b false is e content = rw (is, sym e, is) refl

said-same : (old new : Option Cell) → SameKey old new → said-of new ≡ said-of old
said-same None None same = refl
said-same None (Some b) same = sym (none-live b same.rank)
said-same (Some a) None same = none-live a (sym same.rank)
said-same (Some a) (Some b) same = both-said a b (is_live b.rank) refl same.rank same.content

told-same : (a b : Book) → RisesFrom 0 a.cells → RisesFrom 0 b.cells → ((id : ℕ) → SameKey (cell_at a id) (cell_at b id)) → told_by b.cells ≡ told_by a.cells
told-same a b of-a of-b same =
    let live : live-by b.cells ≡ live-by a.cells =
    maps-same 0 (live-by b.cells) (live-by a.cells) (live-rises b.cells 0 of-b) (live-rises a.cells 0 of-a) (λ q. live-find b.cells 0 q of-b ∙ said-same (cell_at a q) (cell_at b q) (same q) ∙ sym (live-find a.cells 0 q of-a)) in
    told-live b.cells ∙ ap (map told-said) live ∙ sym (told-live a.cells)

-- ---- through a step

pub record SameConfig (r t : Router) : Type 0 where
  pub system : t.config.system ≡ r.config.system
  pub areas : t.config.areas ≡ r.config.areas
  pub runs : t.config.runs ≡ r.config.runs
  pub prefixes : t.config.prefixes ≡ r.config.prefixes

by-rests : (r t : Router) → Rests r t → SameConfig r t
by-rests r t s = record {
  system = ap (λ (c : Config). c.system) s.config;
  areas = ap (λ (c : Config). c.areas) s.config;
  runs = ap (λ (c : Config). c.runs) s.config;
  prefixes = ap (λ (c : Config). c.prefixes) s.config;
}

pub step-config : (given : Given) (r : Router) (event : Event) → KeepsPrefixes event → SameConfig r (step given r event).router
unfolding step
step-config given r Second keeps = by-rests r (step given r Second).router (let p = second-rests given r in record { config = p.config; drops = p.drops })
step-config given r (Take place m) keeps = by-rests r (step given r (Take place m)).router (take-rests given r place m (nth r.circuits place))
step-config given r (Pull place) keeps = by-rests r (step given r (Pull place)).router (let p = pull-rests r place in record { config = p.config; drops = p.drops })
step-config given r (Metric place metric) keeps = by-rests r (step given r (Metric place metric)).router (let p = metric-rests r place metric (nth r.circuits place) in record { config = p.config; drops = p.drops })
step-config given r (Overload on) keeps = record { system = refl; areas = refl; runs = refl; prefixes = refl }
step-config given r (ChangePrefix prefix metric) keeps = absurd keeps

pub outlook-steady : (r t : Router) → SameConfig r t → told_by (book_of t level.One).cells ≡ told_by (book_of r level.One).cells → told_by (book_of t level.Two).cells ≡ told_by (book_of r level.Two).cells → outlook_of t ≡ outlook_of r
unfolding outlook_of
outlook-steady r t same one two =
    outlook-same _ _ _ _ _ _ _ _ _ _ _ _ (ap (λ (n : ℕ). own_node (system_id n)) same.system) same.areas same.runs (ap prefixes_by same.prefixes)
    (ap (λ (b : Both Bool). where_run b.one (told_by (book_of t level.One).cells)) same.runs ∙ ap (where_run r.config.runs.one) one)
    (ap (λ (b : Both Bool). where_run b.two (told_by (book_of t level.Two).cells)) same.runs ∙ ap (where_run r.config.runs.two) two)

pub config-same : (r t : Router) → t.config ≡ r.config → SameConfig r t
config-same r t e = record {
  system = ap (λ (c : Config). c.system) e;
  areas = ap (λ (c : Config). c.areas) e;
  runs = ap (λ (c : Config). c.runs) e;
  prefixes = ap (λ (c : Config). c.prefixes) e;
}

pub take-config : (given : Given) (r : Router) (place : ℕ) (m : Message) → (step given r (Take place m)).router.config ≡ r.config
unfolding step
take-config given r place m = let p = take-rests given r place m (nth r.circuits place) in p.config

-- a level that isn't run tells nothing
unrun : (b : Bool) (xs ys : List (LspId × Entry)) → b ≡ false → where_run b xs ≡ where_run b ys
unrun b xs ys off = rw off refl

pub unrun-outlook : (r t : Router) (l : Level) → t.config ≡ r.config → at r.config.runs l ≡ false → book_of t (beside l) ≡ book_of r (beside l) → outlook_of t ≡ outlook_of r
unfolding outlook_of
unrun-outlook r t level.One e off other =
    let same = config-same r t e in
    outlook-same _ _ _ _ _ _ _ _ _ _ _ _ (ap (λ (n : ℕ). own_node (system_id n)) same.system) same.areas same.runs (ap prefixes_by same.prefixes)
    (ap (λ (b : Both Bool). where_run b.one (told_by (book_of t level.One).cells)) same.runs ∙ unrun r.config.runs.one (told_by (book_of t level.One).cells) (told_by (book_of r level.One).cells) off)
    (ap (λ (b : Both Bool). where_run b.two (told_by (book_of t level.Two).cells)) same.runs ∙ ap (λ (b : Book). where_run r.config.runs.two (told_by b.cells)) other)
unrun-outlook r t level.Two e off other =
    let same = config-same r t e in
    outlook-same _ _ _ _ _ _ _ _ _ _ _ _ (ap (λ (n : ℕ). own_node (system_id n)) same.system) same.areas same.runs (ap prefixes_by same.prefixes)
    (ap (λ (b : Both Bool). where_run b.one (told_by (book_of t level.One).cells)) same.runs ∙ ap (λ (b : Book). where_run r.config.runs.one (told_by b.cells)) other)
    (ap (λ (b : Both Bool). where_run b.two (told_by (book_of t level.Two).cells)) same.runs ∙ unrun r.config.runs.two (told_by (book_of t level.Two).cells) (told_by (book_of r level.Two).cells) off)

pub step-told : (given : Given) (r : Router) (event : Event) → IsSorted r → IsSorted (step given r event).router → ((l : Level) (id : ℕ) → SameKey (cell_at (book_of r l) id) (cell_at (book_of (step given r event).router l) id)) → KeepsPrefixes event → outlook_of (step given r event).router ≡ outlook_of r
step-told given r event sorted sorted-then kept keeps =
    let t = (step given r event).router in
    let on : (l : Level) → told_by (book_of t l).cells ≡ told_by (book_of r l).cells =
    λ l. told-same (book_of r l) (book_of t l) (sorted.on l) (sorted-then.on l) (kept l) in
    outlook-steady r t (step-config given r event keeps) (on level.One) (on level.Two)
