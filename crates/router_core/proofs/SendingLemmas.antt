-- A sender's datagrams, and lists of them.
use Rattle.std.proofs.Common.{◌≡◌, ℕ, zero, suc, ◌+◌, ◌-◌, ◌<◌, ◌≤◌, ◌==◌, ◌&&◌, nat_le, Bool, true, false, if◌then◌else◌, List, [], ◌∷◌, ◌++◌, length, map, take, drop, Vec, Option, Some, Result, Ok, Err, OnOk, refl, sym, ap, ap₂, ◌∙◌, subst, arith, append_assoc}
use Rattle.std.proofs.lemmas.Bool.Decides.{nat_tests}
use Rattle.std.specs.List.{AllByRecursion}
use Rattle.std.specs.declared.alloc.Global.{Global}
use Rattle.isis_base.specs.declared.level.Level.{Level}
use Rattle.isis_base.specs.declared.level.Level.TheVariants as level
use Rattle.isis_base.specs.declared.entry.LspEntry.{LspEntry}
use Rattle.isis_base.specs.declared.identifiers.LspId.{LspId}
use Rattle.isis_base.specs.Identifiers.{lsp_number}
use Rattle.isis_base.specs.Keys.{rank}
use Rattle.model_router.specs.Both.{at}
use Rattle.model_router.specs.Sets.{has}
use Rattle.model_router.specs.Waits.{wait}
use Rattle.model_router.specs.Maps.{find}
use Rattle.model_router.specs.Sorted.{RisesFrom}
use Rattle.model_router.specs.Good.{IsGood, IsGoodCell}
use Rattle.model_router.specs.Configs.{Config}
use Rattle.model_router.specs.Books.{Book}
use Rattle.model_router.specs.Routers.{Circuit, Router}
use Rattle.model_router.specs.Routers as routers
use Rattle.model_router.specs.Cells.{Cell}
use Rattle.model_router.specs.Datagrams.{Sent, PointHello, LanHello, Lsp, Csnp, Psnp}
use Rattle.model_router.specs.Pulls.{due_lsps, srm_due}
use Rattle.model_router.specs.SnpTable.{SnpEntry}
use Rattle.model_router.specs.SnpLists.{pieces, csnps, last_id}
use Rattle.model_datagram.specs.Datagrams.{datagram, pdu_octets}
use Rattle.model_datagram.specs.LspLaws.{IsSendable}
use Rattle.model_datagram.specs.Speakers.{IsSpeaking}
use Rattle.router_sending.specs.Held.{IsPuttable}
use Rattle.flag_sync.specs.BookStates.{BookState, cells_of, book_of}
use Rattle.lsp_store.specs.declared.entry.Entry.{Entry}
use Rattle.flag_sync.specs.declared.flag_row.FlagRow.{FlagRow}
use Rattle.flag_sync.specs.FlagRows.{cell_of}
use Rattle.flag_sync.specs.Heard.{entries_of}
use Rattle.snp_exchange.specs.PieceLists.{PieceSaid, said_sent}
use Rattle.snp_exchange.specs.Pieces.{lists_of}
use Rattle.router_sending.specs.declared.sender.Sender.{Sender}
use Rattle.router_sending.specs.Sends.{Sends}
use Rattle.router_core.specs.Sending.{config_of, circuit_of, octets_of, all_octets, MaySend, hellos_due, csnps_due, psnps_due, level_due, open_due, all_due}

-- a sender sends for what its datagrams look at
pub sends-here : (sender : Sender) → 1 ≤ sender.circuit → Sends sender (config_of sender) sender.boot (sender.circuit - 1) (circuit_of sender)
sends-here sender h = record {
  system = refl;
  boot = refl;
  runs = refl;
  areas = refl;
  area_key = refl;
  domain_key = refl;
  circuit = omega (arith, h);
  priority = refl;
  address = refl;
  key = refl;
}

-- ---- one datagram more

pub put-one : {A E : Type 0} (r : Result A E) (new old : List (List ℕ)) (sender : Sender) (says : Sent) (octets : List ℕ) → octets ≡ datagram (config_of sender) sender.boot (sender.circuit - 1) (circuit_of sender) says → OnOk r (new ≡ old ++ octets ∷ []) → OnOk r (new ≡ old ++ octets_of sender says ∷ [])
unfolding octets_of
put-one (Ok v) new old sender says octets e h = h ∙ ap (λ (x : List ℕ). old ++ x ∷ []) e
put-one (Err b) new old sender says octets e h = tt

-- an LSP that is due
pub due-one : {A E : Type 0} (r : Result A E) (new old : List (List ℕ)) (sender : Sender) (level : Level) (entry : Entry) (row : FlagRow) (octets : List ℕ) → srm_due (sender.circuit - 1) (cell_of entry row) ≡ true → ((id : ℕ) → octets ≡ datagram (config_of sender) sender.boot (sender.circuit - 1) (circuit_of sender) (Lsp level id (cell_of entry row))) → OnOk r (new ≡ old ++ octets ∷ []) → OnOk r ((id : ℕ) (rest : List (ℕ × Cell)) → new ++ all_octets sender (due_lsps level (sender.circuit - 1) rest) ≡ old ++ all_octets sender (due_lsps level (sender.circuit - 1) ((id, cell_of entry row) ∷ rest)))
unfolding octets_of
due-one (Err b) new old sender level entry row octets t e h = tt
due-one (Ok v) new old sender level entry row octets t e h = λ id rest.
    ap (λ (xs : List (List ℕ)). xs ++ all_octets sender (due_lsps level (sender.circuit - 1) rest)) h
    ∙ (append_assoc old (octets ∷ []) (all_octets sender (due_lsps level (sender.circuit - 1) rest))
    ∙ (ap (λ (x : List ℕ). old ++ x ∷ all_octets sender (due_lsps level (sender.circuit - 1) rest)) (e id)
    ∙ ap (λ (b : Bool). old ++ all_octets sender (if b then Lsp level id (cell_of entry row) ∷ due_lsps level (sender.circuit - 1) rest else due_lsps level (sender.circuit - 1) rest)) (sym t)))

-- one that isn't
pub due-none : (old : List (List ℕ)) (sender : Sender) (level : Level) (id : ℕ) (entry : Entry) (row : FlagRow) (rest : List (ℕ × Cell)) → srm_due (sender.circuit - 1) (cell_of entry row) ≡ false → old ++ all_octets sender (due_lsps level (sender.circuit - 1) rest) ≡ old ++ all_octets sender (due_lsps level (sender.circuit - 1) ((id, cell_of entry row) ∷ rest))
due-none old sender level id entry row rest t =
    ap (λ (b : Bool). old ++ all_octets sender (if b then Lsp level id (cell_of entry row) ∷ due_lsps level (sender.circuit - 1) rest else due_lsps level (sender.circuit - 1) rest)) (sym t)

-- ---- at most 75 entries

take-le : {A : Type 0} (k : ℕ) (xs : List A) → length (take k xs) ≤ k
take-le zero xs = omega arith
take-le (suc k) [] = omega arith
take-le (suc k) (x ∷ xs) = let h = take-le k xs in omega (arith, h)

pub few-pieces : (n : ℕ) (entries : List SnpEntry) → AllByRecursion (λ (p : List SnpEntry). length p ≤ 75) (pieces n entries)
few-pieces zero entries = tt
few-pieces (suc n) entries = of (nat_le (length entries) 75) refl (few-pieces n (drop 75 entries))
  where
    of : (b : Bool) → nat_le (length entries) 75 ≡ b → AllByRecursion (λ (p : List SnpEntry). length p ≤ 75) (pieces n (drop 75 entries)) → AllByRecursion (λ (p : List SnpEntry). length p ≤ 75) (if b then entries ∷ [] else take 75 entries ∷ pieces n (drop 75 entries))
    of true e h = (grind (arith, nat_tests, e), tt)
    of false e h = (take-le 75 entries, h)

length-entries : (es : List LspEntry) → length (entries_of es) ≡ length es
length-entries [] = refl
length-entries (e ∷ es) = ap suc (length-entries es)

-- so have lists that are those
pub few-lists : (xs : List (Vec LspEntry Global)) → AllByRecursion (λ (p : List SnpEntry). length p ≤ 75) (lists_of xs) → AllByRecursion (λ (p : Vec LspEntry Global). length p.items ≤ 75) xs
few-lists [] a = tt
few-lists (x ∷ xs) a = (let h = a.0 in let e = length-entries x.items in omega (arith, h, e), few-lists xs a.1)

abbrev entries-in : List Sent → List SnpEntry
entries-in [] = []
entries-in (PointHello state extended names ∷ list) = []
entries-in (LanHello level lan snpas ∷ list) = []
entries-in (Lsp level id cell ∷ list) = []
entries-in (Csnp level start end entries ∷ list) = entries
entries-in (Psnp level entries ∷ list) = entries

-- and CSNPs of those
pub few-said : (level : Level) (items : List PieceSaid) (start : ℕ) (ps : List (List SnpEntry)) → said_sent level items ≡ csnps level start ps → AllByRecursion (λ (p : List SnpEntry). length p ≤ 75) ps → AllByRecursion (λ (piece : PieceSaid). length piece.entries ≤ 75) items
few-said level [] start ps e a = tt
few-said level (x ∷ items) start [] e a = cc
few-said level (x ∷ items) start (p ∷ []) e a =
    let h = a.0 in
    let n = length-entries x.entries in
    let k : entries_of x.entries ≡ p = ap entries-in e in
    let m : length (entries_of x.entries) ≡ length p = ap length k in
    (omega (arith, h, n, m), few-said level items start [] (ap (drop 1) e) tt)
few-said level (x ∷ items) start (p ∷ q ∷ rest) e a =
    let h = a.0 in
    let n = length-entries x.entries in
    let k : entries_of x.entries ≡ p = ap entries-in e in
    let m : length (entries_of x.entries) ≡ length p = ap length k in
    (omega (arith, h, n, m), few-said level items (last_id p + 1) (q ∷ rest) (ap (drop 1) e) a.1)

pub all-append : (sender : Sender) (xs ys : List Sent) → all_octets sender (xs ++ ys) ≡ all_octets sender xs ++ all_octets sender ys
all-append sender [] ys = refl
all-append sender (x ∷ xs) ys = ap (λ (zs : List (List ℕ)). octets_of sender x ∷ zs) (all-append sender xs ys)

-- two lists, one behind the other
pub two-lists : (sender : Sender) (old mid new : List (List ℕ)) (xs ys : List Sent) → mid ≡ old ++ all_octets sender xs → new ≡ mid ++ all_octets sender ys → new ≡ old ++ all_octets sender (xs ++ ys)
two-lists sender old mid new xs ys e f =
    f ∙ (ap (λ (zs : List (List ℕ)). zs ++ all_octets sender ys) e
    ∙ (append_assoc old (all_octets sender xs) (all_octets sender ys)
    ∙ ap (λ (zs : List (List ℕ)). old ++ zs) (sym (all-append sender xs ys))))

-- three lists, one behind the other, where a level is open
pub level-out : {A E : Type 0} (res : Result A E) (sender : Sender) (config : Config) (place : ℕ) (c : Circuit) (l : Level) (book : Book) (old a b new : List (List ℕ)) → has book.opened place ≡ true → a ≡ old ++ all_octets sender (csnps_due config place c l book) → b ≡ a ++ all_octets sender (due_lsps l place book.cells) → OnOk res (new ≡ b ++ all_octets sender (psnps_due place c l book)) → OnOk res (new ≡ old ++ all_octets sender (open_due config place c l book))
level-out (Err k) sender config place c l book old a b new t e f g = tt
level-out (Ok v) sender config place c l book old a b new t e f g =
    two-lists sender a b new (due_lsps l place book.cells) (psnps_due place c l book) f g
    ∙ (two-lists sender old a (a ++ all_octets sender (due_lsps l place book.cells ++ psnps_due place c l book)) (csnps_due config place c l book) (due_lsps l place book.cells ++ psnps_due place c l book) e refl
    ∙ ap (λ (k : Bool). old ++ all_octets sender (if k then level_due config place c l book else [])) (sym t))

-- what a sender sends is what its router sends
pub octets-same : (sender : Sender) (config : Config) (boot : ℕ) (c : Circuit) (says : Sent) → Sends sender config boot (sender.circuit - 1) c → octets_of sender says ≡ datagram config boot (sender.circuit - 1) c says
unfolding octets_of pdu_octets
octets-same sender config boot c (PointHello state extended names) s = rw (s.system, s.boot, s.runs, s.areas, s.address, s.key) refl
octets-same sender config boot c (LanHello l lan snpas) s = rw (s.system, s.boot, s.runs, s.areas, s.priority, s.address, s.key) refl
octets-same sender config boot c (Lsp level.One id cell) s = rw (s.system, s.boot, s.area_key) refl
octets-same sender config boot c (Lsp level.Two id cell) s = rw (s.system, s.boot, s.domain_key) refl
octets-same sender config boot c (Csnp level.One start end entries) s = rw (s.system, s.boot, s.area_key) refl
octets-same sender config boot c (Csnp level.Two start end entries) s = rw (s.system, s.boot, s.domain_key) refl
octets-same sender config boot c (Psnp level.One entries) s = rw (s.system, s.boot, s.area_key) refl
octets-same sender config boot c (Psnp level.Two entries) s = rw (s.system, s.boot, s.domain_key) refl

pub all-same-octets : (sender : Sender) (config : Config) (boot : ℕ) (c : Circuit) (list : List Sent) → Sends sender config boot (sender.circuit - 1) c → all_octets sender list ≡ map (λ (says : Sent). datagram config boot (sender.circuit - 1) c says) list
all-same-octets sender config boot c [] s = refl
all-same-octets sender config boot c (says ∷ list) s = ap₂ (λ (x : List ℕ) (xs : List (List ℕ)). x ∷ xs) (octets-same sender config boot c says s) (all-same-octets sender config boot c list s)

-- all that is due
pub all-out : (sender : Sender) (r : Router) (c : Circuit) (one two : Book) (nil a b out : List (List ℕ)) → Sends sender r.config r.boot (sender.circuit - 1) c → one ≡ routers.book_of r level.One → two ≡ routers.book_of r level.Two → nil ≡ [] → a ≡ nil ++ all_octets sender (hellos_due r (sender.circuit - 1) c) → b ≡ a ++ all_octets sender (open_due r.config (sender.circuit - 1) c level.One one) → out ≡ b ++ all_octets sender (open_due r.config (sender.circuit - 1) c level.Two two) → out ≡ map (λ (says : Sent). datagram r.config r.boot (sender.circuit - 1) c says) (all_due r (sender.circuit - 1) c)
all-out sender r c one two nil a b out s e f z g h i =
    two-lists sender a b out (open_due r.config place c level.One (routers.book_of r level.One)) (open_due r.config place c level.Two (routers.book_of r level.Two))
    (h ∙ ap (λ (k : Book). a ++ all_octets sender (open_due r.config place c level.One k)) e)
    (i ∙ ap (λ (k : Book). b ++ all_octets sender (open_due r.config place c level.Two k)) f)
    ∙ (ap (λ (xs : List (List ℕ)). xs ++ all_octets sender rest) (g ∙ ap (λ (xs : List (List ℕ)). xs ++ all_octets sender (hellos_due r place c)) z)
    ∙ (sym (all-append sender (hellos_due r place c) rest) ∙ all-same-octets sender r.config r.boot c (all_due r place c) s))
  where
    place : ℕ
    place = sender.circuit - 1

    rest : List Sent
    rest = open_due r.config place c level.One (routers.book_of r level.One) ++ open_due r.config place c level.Two (routers.book_of r level.Two)

-- ---- LSPs that are due may be sent

found-least : (cells : List (ℕ × Cell)) (least n : ℕ) (c : Cell) → RisesFrom least cells → find cells n ≡ Some c → least ≤ n
found-least [] least n c r e = absurd (grind (arith, e))
found-least (p ∷ cells) least n c r e =
    let h = r.0 in
    let rest = λ (q : find cells n ≡ Some c). found-least cells (p.0 + 1) n c r.1 q in
    grind (arith, nat_tests, h, e, rest)

-- what holds of what is found holds of all
pub all-found : (P : ℕ → Cell → Type 0) (cells : List (ℕ × Cell)) (least : ℕ) → RisesFrom least cells → ((n : ℕ) (c : Cell) → find cells n ≡ Some c → P n c) → AllByRecursion (λ (p : ℕ × Cell). P p.0 p.1) cells
all-found P [] least r g = tt
all-found P (p ∷ cells) least r g = (
  g p.0 p.1 (grind (arith, nat_tests)),
  all-found P cells (p.0 + 1) r.1 (λ n c e.
      let le = found-least cells (p.0 + 1) n c r.1 e in
      g n c (grind (arith, nat_tests, e, le))),
)

-- a cell with a key may be sent, and one without has no SRM
pub record IsOut (key : Option (List ℕ)) (l : Level) (id : ℕ) (cell : Cell) : Type 0 where
  pub good : IsGoodCell cell
  pub sendable : IsSendable key l id cell

pub may-send : (key : Option (List ℕ)) (l : Level) (place : ℕ) (es : List (LspId × Entry)) (rs : List (LspId × FlagRow)) → ((key : Option (List ℕ)) (l : Level) (id : ℕ) (entry : Entry) (row : FlagRow) → 0 < rank entry.key → IsSendable key l id (cell_of entry row) → IsPuttable entry) → AllByRecursion (λ (p : ℕ × Cell). IsOut key l p.0 p.1) (cells_of es rs) → MaySend place es rs
may-send key l place [] rs law a = tt
may-send key l place (e ∷ es) [] law a = tt
may-send key l place (e ∷ es) (r ∷ rs) law a = (λ t. of (rank e.1.key) refl t, may-send key l place es rs law a.1)
  where
    of : (n : ℕ) → rank e.1.key ≡ n → srm_due place (cell_of e.1 r.1) ≡ true → IsPuttable e.1
    of zero k t = absurd (silent (has r.1.srm place) (wait (cell_of e.1 r.1).waits place == 0) (a.0.good.silent k place) t)
      where
        silent : (x y : Bool) → x ≡ false → (x && y) ≡ true → ⊥
        silent true y f t = cc
        silent false y f t = cc
    of (suc n) k t = law key l (lsp_number e.0) e.1 r.1 (omega (arith, k)) a.0.sendable

-- of a router whose entries may be sent
pub may-of : (r : Router) (l : Level) (place : ℕ) (state : BookState) → book_of state ≡ routers.book_of r l → IsSpeaking r → ((key : Option (List ℕ)) (l : Level) (id : ℕ) (entry : Entry) (row : FlagRow) → 0 < rank entry.key → IsSendable key l id (cell_of entry row) → IsPuttable entry) → MaySend place state.store.entries state.rows
may-of r l place state e s law =
    may-send (at r.config.keys l) l place state.store.entries state.rows law
    (subst (λ (b : Book). AllByRecursion (λ (p : ℕ × Cell). IsOut (at r.config.keys l) l p.0 p.1) b.cells) (sym e)
    (all-found (IsOut (at r.config.keys l) l) (routers.book_of r l).cells 0 (s.sorted.on l)
    (λ n c f. record { good = (subst (IsGood n) f ((s.good.on l).at n)).1; sendable = s.sendable l n c f })))
