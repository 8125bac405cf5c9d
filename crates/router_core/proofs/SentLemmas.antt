-- What a pull sends, and what becomes of its router, circuit by circuit and book by book.
use Rattle.std.proofs.Common.{◌≡◌, ℕ, zero, suc, ◌<◌, ◌==◌, nat_lt, ◌&&◌, Bool, true, false, if◌then◌else◌, List, [], ◌∷◌, ◌++◌, length, map, Option, Some, None, IfSome, refl, sym, ap, ap₂, ◌∙◌, subst, append_assoc, append-nil}
use Rattle.isis_base.specs.declared.level.Level.{Level}
use Rattle.isis_base.specs.declared.level.Level.TheVariants as level
use Rattle.model_router.specs.Maps.{each}
use Rattle.model_router.specs.Both.{at}
use Rattle.model_router.specs.Sets.{has}
use Rattle.model_router.specs.Places.{nth, with_nth}
use Rattle.model_router.specs.Cells.{Cell, srm_sent, srm_off}
use Rattle.model_router.specs.Books.{Book}
use Rattle.model_router.specs.Configs.{Config}
use Rattle.model_router.specs.Routers.{CircuitLevel, Circuit, Router, book_of, with_book, with_circuit}
use Rattle.model_router.specs.Datagrams.{Sent, PointHello, LanHello, Lsp, Csnp, Psnp}
use Rattle.model_router.specs.Elections.{idle}
use Rattle.model_router.specs.AdjacencyLaws.{AreIdle}
use Rattle.model_router.specs.Events.{Pull, Send, settled}
use Rattle.model_router.specs.Steps.{sent_all, step}
use Rattle.model_datagram.specs.Datagrams.{datagram, pdu_octets}
use Rattle.router_core.specs.Givens.{given}
use Rattle.router_core.specs.Replies.{datagrams_on, datagrams_of}
use Rattle.model_router.specs.SnpTable.{SnpEntry}
use Rattle.model_router.specs.SnpLists.{csnp_set, entries_where, snp_entry, owed, pieces, psnps}
use Rattle.model_router.specs.Pulls.{Sending, on_circuit, at_circuit, hellos, pull_hello, is_csnp_due, with_part, csnp_sent, pull_csnp, srm_due, due_lsps, sent_cell, sent, pull_lsps, answered, pull_psnp, pull_level, pull}
use Rattle.router_core.specs.Sending.{hellos_due, csnps_due, psnps_due, level_due, open_due, all_due}
use Rattle.router_core.specs.Pulled.{on_place, hello_gone, after_hello, csnps_gone, after_csnps, after_lsps, psnps_gone, after_psnps, after_level, after_all}
use Rattle.router_core.proofs.IdleLemmas.{nth-with, with-twice, from-some, settle-with}
use Rattle.router_core.proofs.PullLemmas.{on-there, length-with}

-- ---- a circuit and a book that are put where they were

none-some : {A : Type 0} (x : A) → None ≡ Some x → ⊥
none-some x e = cc

some-same : {A : Type 0} (x y : A) → Some x ≡ Some y → x ≡ y
some-same x y e = cc

with-same : {A : Type 0} (xs : List A) (i : ℕ) (x : A) → nth xs i ≡ Some x → with_nth xs i x ≡ xs
with-same [] i x e = refl
with-same (z ∷ xs) zero x e = ap (λ (y : _). y ∷ xs) (sym (some-same z x e))
with-same (z ∷ xs) (suc i) x e = ap (λ (ys : List _). z ∷ ys) (with-same xs i x e)

part-same : (c : Circuit) (l : Level) → with_part c l (at c.levels l) ≡ c
part-same c level.One = refl
part-same c level.Two = refl

book-same : (r : Router) (l : Level) → with_book r l (book_of r l) ≡ r
book-same r level.One = refl
book-same r level.Two = refl

circuit-same : (r : Router) (place : ℕ) (c : Circuit) → nth r.circuits place ≡ Some c → with_circuit r place c ≡ r
circuit-same r place c n = ap (λ (cs : List Circuit). record r { circuits = cs }) (with-same r.circuits place c n)

-- ---- what PSNPs look at stays where LSPs are sent

sent-ssn : (p2p place : ℕ) (c : Cell) → (has (sent_cell p2p place c).ssn place ≡ has c.ssn place)
sent-ssn p2p place c = of (srm_due place c) (has p2p place)
  where
    of : (a b : Bool) → has (if a then (if b then srm_sent c place else srm_off c place) else c).ssn place ≡ has c.ssn place
    of true true = refl
    of true false = refl
    of false b = refl

sent-entry : (p2p place id : ℕ) (c : Cell) → snp_entry id (sent_cell p2p place c) ≡ snp_entry id c
sent-entry p2p place id c = of (srm_due place c) (has p2p place)
  where
    of : (a b : Bool) → snp_entry id (if a then (if b then srm_sent c place else srm_off c place) else c) ≡ snp_entry id c
    of true true = refl
    of true false = refl
    of false b = refl

owed-each : (p2p place : ℕ) (cells : List (ℕ × Cell)) → entries_where (λ (c : Cell). has c.ssn place) (each (λ (_ : ℕ) (c : Cell). sent_cell p2p place c) cells) ≡ entries_where (λ (c : Cell). has c.ssn place) cells
unfolding each
owed-each p2p place [] = refl
owed-each p2p place (pair ∷ cells) = of (has (sent_cell p2p place pair.1).ssn place) (has pair.1.ssn place) (sent-ssn p2p place pair.1) (snp_entry pair.0 (sent_cell p2p place pair.1)) (snp_entry pair.0 pair.1) (sent-entry p2p place pair.0 pair.1) _ _ (owed-each p2p place cells)
  where
    of : (a b : Bool) → a ≡ b → (x y : SnpEntry) → x ≡ y → (xs ys : List SnpEntry) → xs ≡ ys → (if a then x ∷ xs else xs) ≡ (if b then y ∷ ys else ys)
    of a b e x y f xs ys g = rw (e, f, g) refl

pub owed-sent : (place : ℕ) (book : Book) → owed place (sent book place) ≡ owed place book
unfolding sent
owed-sent place book = owed-each book.p2p place book.cells

-- ---- one level's part of a circuit, and its book

abbrev pub csnp_part : Config → ℕ → Circuit → Level → CircuitLevel
csnp_part config place c l = if is_csnp_due config place c l then csnp_sent c.lan (at c.levels l) else at c.levels l

pub csnp-psnp : (config : Config) (place : ℕ) (c : Circuit) (l : Level) → (csnp_part config place c l).psnp ≡ (at c.levels l).psnp
csnp-psnp config place c l = of (is_csnp_due config place c l) (at c.levels l) c.lan
  where
    of : (b : Bool) (part : CircuitLevel) (lan : Bool) → (if b then csnp_sent lan part else part).psnp ≡ part.psnp
    of true part lan = refl
    of false part lan = refl

abbrev pub psnp_due : ℕ → Circuit → Level → Book → Bool
psnp_due place c l book = nat_lt 0 (length (owed place book)) && (at c.levels l).psnp == 0

abbrev psnp_part : Bool → CircuitLevel → CircuitLevel
psnp_part b part = if b then record part { psnp = 2 } else part

abbrev psnp_book : Bool → Book → ℕ → Book
psnp_book b book place = if b then answered book place else book

abbrev pub hello_c : Circuit → Circuit
hello_c c = record c { hello = if c.hello == 0 then 10 else c.hello }

pub hello-is : (r : Router) (place : ℕ) (c : Circuit) → nth r.circuits place ≡ Some c → after_hello r place ≡ with_circuit r place (hello_c c)
unfolding after_hello
hello-is r place c n = subst (λ (o : Option Circuit). on_place o r (hello_gone r place) ≡ with_circuit r place (hello_c c)) (sym n) (of (c.hello == 0))
  where
    of : (b : Bool) → (if b then with_circuit r place (record c { hello = 10 }) else r) ≡ with_circuit r place (record c { hello = if b then 10 else c.hello })
    of true = refl
    of false = sym (circuit-same r place c n)

pub csnps-is : (r : Router) (place : ℕ) (l : Level) (c : Circuit) → nth r.circuits place ≡ Some c → after_csnps r place l ≡ with_circuit r place (with_part c l (csnp_part r.config place c l))
unfolding after_csnps
csnps-is r place l c n = subst (λ (o : Option Circuit). on_place o r (csnps_gone r place l) ≡ with_circuit r place (with_part c l (csnp_part r.config place c l))) (sym n) (of (is_csnp_due r.config place c l))
  where
    of : (b : Bool) → (if b then with_circuit r place (with_part c l (csnp_sent c.lan (at c.levels l))) else r) ≡ with_circuit r place (with_part c l (if b then csnp_sent c.lan (at c.levels l) else at c.levels l))
    of true = refl
    of false = sym (ap (λ (x : Circuit). with_circuit r place x) (part-same c l) ∙ circuit-same r place c n)

psnps-is : (r : Router) (place : ℕ) (l : Level) (c : Circuit) → nth r.circuits place ≡ Some c → after_psnps r place l ≡ with_book (with_circuit r place (with_part c l (psnp_part (psnp_due place c l (book_of r l)) (at c.levels l)))) l (psnp_book (psnp_due place c l (book_of r l)) (book_of r l) place)
unfolding after_psnps
psnps-is r place l c n = subst (λ (o : Option Circuit). on_place o r (psnps_gone r place l) ≡ with_book (with_circuit r place (with_part c l (psnp_part (psnp_due place c l (book_of r l)) (at c.levels l)))) l (psnp_book (psnp_due place c l (book_of r l)) (book_of r l) place)) (sym n) (of (psnp_due place c l (book_of r l)))
  where
    of : (b : Bool) → (if b then with_book (with_circuit r place (with_part c l (record (at c.levels l) { psnp = 2 }))) l (answered (book_of r l) place) else r) ≡ with_book (with_circuit r place (with_part c l (psnp_part b (at c.levels l)))) l (psnp_book b (book_of r l) place)
    of true = refl
    of false = sym (ap (λ (x : Circuit). with_book (with_circuit r place x) l (book_of r l)) (part-same c l) ∙ (ap (λ (q : Router). with_book q l (book_of r l)) (circuit-same r place c n) ∙ book-same r l))

-- a level's part changes that level alone
pub data IsPart (r : Router) (place : ℕ) (l : Level) (c : Circuit) (s : Router) : Type 0 where
  Part : (part : CircuitLevel) (book : Book) → s ≡ with_book (with_circuit r place (with_part c l part)) l book → IsPart r place l c s

level-open : (r : Router) (place : ℕ) (l : Level) (c : Circuit) → nth r.circuits place ≡ Some c → IsPart r place l c (after_psnps (after_lsps (after_csnps r place l) place l) place l)
level-open r place l c n =
    subst (λ (q : Router). IsPart r place l c (after_psnps (after_lsps q place l) place l)) (sym (csnps-is r place l c n)) (of l)
  where
    of : (k : Level) → IsPart r place k c (after_psnps (after_lsps (with_circuit r place (with_part c k (csnp_part r.config place c k))) place k) place k)
    of level.One =
        let c1 = with_part c level.One (csnp_part r.config place c level.One) in
        let r2 = after_lsps (with_circuit r place c1) place level.One in
        let b = psnp_due place c1 level.One (book_of r2 level.One) in
        Part (psnp_part b (at c1.levels level.One)) (psnp_book b (book_of r2 level.One) place)
        (psnps-is r2 place level.One c1 (nth-with r.circuits place c c1 n)
        ∙ ap (λ (cs : List Circuit). record (with_book r level.One (psnp_book b (book_of r2 level.One) place)) { circuits = cs }) (with-twice r.circuits place c1 (with_part c1 level.One (psnp_part b (at c1.levels level.One)))))
    of level.Two =
        let c1 = with_part c level.Two (csnp_part r.config place c level.Two) in
        let r2 = after_lsps (with_circuit r place c1) place level.Two in
        let b = psnp_due place c1 level.Two (book_of r2 level.Two) in
        Part (psnp_part b (at c1.levels level.Two)) (psnp_book b (book_of r2 level.Two) place)
        (psnps-is r2 place level.Two c1 (nth-with r.circuits place c c1 n)
        ∙ ap (λ (cs : List Circuit). record (with_book r level.Two (psnp_book b (book_of r2 level.Two) place)) { circuits = cs }) (with-twice r.circuits place c1 (with_part c1 level.Two (psnp_part b (at c1.levels level.Two)))))

pub level-part : (r : Router) (place : ℕ) (l : Level) (c : Circuit) → nth r.circuits place ≡ Some c → IsPart r place l c (after_level r place l)
unfolding after_level
level-part r place l c n = of (has (book_of r l).opened place)
  where
    same : with_book (with_circuit r place (with_part c l (at c.levels l))) l (book_of r l) ≡ r
    same = ap (λ (x : Circuit). with_book (with_circuit r place x) l (book_of r l)) (part-same c l) ∙ (ap (λ (q : Router). with_book q l (book_of r l)) (circuit-same r place c n) ∙ book-same r l)

    of : (b : Bool) → IsPart r place l c (if b then after_psnps (after_lsps (after_csnps r place l) place l) place l else r)
    of true = level-open r place l c n
    of false = Part (at c.levels l) (book_of r l) (sym same)

-- ---- what is sent

hello-sent : (r : Router) (place : ℕ) (c : Circuit) → nth r.circuits place ≡ Some c → (let s : Sending = record { router = r; out = [] } in at_circuit s place (pull_hello s place)) ≡ record { router = after_hello r place; out = hellos_due r place c }
unfolding pull_hello after_hello
hello-sent r place c n = subst (λ (o : Option Circuit). (let s : Sending = record { router = r; out = [] } in on_circuit o s (pull_hello s place)) ≡ record { router = on_place o r (hello_gone r place); out = hellos_due r place c }) (sym n) (of (c.hello == 0))
  where
    of : (b : Bool) → (let s : Sending = record { router = r; out = [] } in (if b then record { router = with_circuit r place (record c { hello = 10 }); out = [] ++ hellos r place c } else s)) ≡ record { router = if b then with_circuit r place (record c { hello = 10 }) else r; out = if b then hellos r place c else [] }
    of true = refl
    of false = refl

csnps-sent : (r : Router) (out : List Sent) (place : ℕ) (l : Level) (c : Circuit) → nth r.circuits place ≡ Some c → (let s : Sending = record { router = r; out = out } in at_circuit s place (pull_csnp s place l)) ≡ record { router = after_csnps r place l; out = out ++ csnps_due r.config place c l (book_of r l) }
unfolding pull_csnp after_csnps
csnps-sent r out place l c n = subst (λ (o : Option Circuit). (let s : Sending = record { router = r; out = out } in on_circuit o s (pull_csnp s place l)) ≡ record { router = on_place o r (csnps_gone r place l); out = out ++ csnps_due r.config place c l (book_of r l) }) (sym n) (of (is_csnp_due r.config place c l))
  where
    of : (b : Bool) → (let s : Sending = record { router = r; out = out } in (if b then record { router = with_circuit r place (with_part c l (csnp_sent c.lan (at c.levels l))); out = out ++ csnp_set l (book_of r l) } else s)) ≡ record { router = if b then with_circuit r place (with_part c l (csnp_sent c.lan (at c.levels l))) else r; out = out ++ (if b then csnp_set l (book_of r l) else []) }
    of true = refl
    of false = ap (λ (xs : List Sent). record { router = r; out = xs }) (sym (append-nil out))

psnps-sent : (r : Router) (out : List Sent) (place : ℕ) (l : Level) (c : Circuit) → nth r.circuits place ≡ Some c → (let s : Sending = record { router = r; out = out } in at_circuit s place (pull_psnp s place l)) ≡ record { router = after_psnps r place l; out = out ++ psnps_due place c l (book_of r l) }
unfolding pull_psnp after_psnps
psnps-sent r out place l c n = subst (λ (o : Option Circuit). (let s : Sending = record { router = r; out = out } in on_circuit o s (pull_psnp s place l)) ≡ record { router = on_place o r (psnps_gone r place l); out = out ++ psnps_due place c l (book_of r l) }) (sym n) (of (psnp_due place c l (book_of r l)))
  where
    gone : Router
    gone = with_book (with_circuit r place (with_part c l (record (at c.levels l) { psnp = 2 }))) l (answered (book_of r l) place)

    said : List Sent
    said = psnps l (pieces (length (owed place (book_of r l))) (owed place (book_of r l)))

    of : (b : Bool) → (let s : Sending = record { router = r; out = out } in (if b then record { router = gone; out = out ++ said } else s)) ≡ record { router = if b then gone else r; out = out ++ (if b then said else []) }
    of true = refl
    of false = ap (λ (xs : List Sent). record { router = r; out = xs }) (sym (append-nil out))

-- PSNPs that are due, by what they look at
psnps-same : (place : ℕ) (l : Level) (c d : Circuit) (book new : Book) → owed place new ≡ owed place book → (at d.levels l).psnp ≡ (at c.levels l).psnp → psnps_due place d l new ≡ psnps_due place c l book
psnps-same place l c d book new e f =
    ap (λ (xs : List SnpEntry). if nat_lt 0 (length xs) && (at d.levels l).psnp == 0 then psnps l (pieces (length xs) xs) else []) e
    ∙ ap (λ (n : ℕ). if nat_lt 0 (length (owed place book)) && n == 0 then psnps l (pieces (length (owed place book)) (owed place book)) else []) f

pub book-of : (q : Router) (k : Level) (b : Book) → book_of (with_book q k b) k ≡ b
book-of q level.One b = refl
book-of q level.Two b = refl

pub at-part : (c : Circuit) (k : Level) (x : CircuitLevel) → at (with_part c k x).levels k ≡ x
at-part c level.One x = refl
at-part c level.Two x = refl

opened-sent : (r : Router) (out : List Sent) (place : ℕ) (l : Level) (c : Circuit) → nth r.circuits place ≡ Some c → (let s : Sending = record { router = r; out = out } in let csnp = at_circuit s place (pull_csnp s place l) in let lsps = pull_lsps csnp place l in at_circuit lsps place (pull_psnp lsps place l)) ≡ record { router = after_psnps (after_lsps (after_csnps r place l) place l) place l; out = out ++ level_due r.config place c l (book_of r l) }
unfolding pull_lsps
opened-sent r out place l c n =
    ap (λ (csnp : Sending). let lsps = pull_lsps csnp place l in at_circuit lsps place (pull_psnp lsps place l)) (csnps-sent r out place l c n)
    ∙ (psnps-sent r2 out2 place l c1 here
    ∙ ap (λ (xs : List Sent). record { router = after_psnps r2 place l; out = xs }) joined)
  where
    c1 : Circuit
    c1 = with_part c l (csnp_part r.config place c l)

    r1 : Router
    r1 = after_csnps r place l

    r2 : Router
    r2 = after_lsps r1 place l

    out2 : List Sent
    out2 = (out ++ csnps_due r.config place c l (book_of r l)) ++ due_lsps l place (book_of r1 l).cells

    is : r1 ≡ with_circuit r place c1
    is = csnps-is r place l c n

    here : nth r2.circuits place ≡ Some c1
    here = ap (λ (q : Router). nth q.circuits place) is ∙ nth-with r.circuits place c c1 n

    book-is : book_of r1 l ≡ book_of r l
    book-is = ap (λ (q : Router). book_of q l) is

    psnps-are : psnps_due place c1 l (book_of r2 l) ≡ psnps_due place c l (book_of r l)
    psnps-are = psnps-same place l c c1 (book_of r l) (book_of r2 l)
        (ap (λ (b : Book). owed place b) (book-of r1 l (sent (book_of r1 l) place)) ∙ (owed-sent place (book_of r1 l) ∙ ap (λ (b : Book). owed place b) book-is))
        (ap (λ (x : CircuitLevel). x.psnp) (at-part c l (csnp_part r.config place c l)) ∙ csnp-psnp r.config place c l)

    joined : out2 ++ psnps_due place c1 l (book_of r2 l) ≡ out ++ level_due r.config place c l (book_of r l)
    joined =
        ap (λ (xs : List Sent). out2 ++ xs) psnps-are
        ∙ (ap (λ (b : Book). ((out ++ csnps_due r.config place c l (book_of r l)) ++ due_lsps l place b.cells) ++ psnps_due place c l (book_of r l)) book-is
        ∙ (append_assoc (out ++ csnps_due r.config place c l (book_of r l)) (due_lsps l place (book_of r l).cells) (psnps_due place c l (book_of r l))
        ∙ append_assoc out (csnps_due r.config place c l (book_of r l)) (due_lsps l place (book_of r l).cells ++ psnps_due place c l (book_of r l))))

pub level-sent : (r : Router) (out : List Sent) (place : ℕ) (l : Level) (c : Circuit) → nth r.circuits place ≡ Some c → pull_level (record { router = r; out = out }) place l ≡ record { router = after_level r place l; out = out ++ open_due r.config place c l (book_of r l) }
unfolding pull_level after_level
level-sent r out place l c n = of (has (book_of r l).opened place)
  where
    opened : Sending
    opened = let s : Sending = record { router = r; out = out } in let csnp = at_circuit s place (pull_csnp s place l) in let lsps = pull_lsps csnp place l in at_circuit lsps place (pull_psnp lsps place l)

    of : (b : Bool) → (if b then opened else record { router = r; out = out }) ≡ record { router = if b then after_psnps (after_lsps (after_csnps r place l) place l) place l else r; out = out ++ (if b then level_due r.config place c l (book_of r l) else []) }
    of true = opened-sent r out place l c n
    of false = ap (λ (xs : List Sent). record { router = r; out = xs }) (sym (append-nil out))

-- ---- both levels

-- the circuit after a pull, and what of the router stays
pub data IsPulled (r : Router) (place : ℕ) (c : Circuit) (s : Router) : Type 0 where
  Pulled : (one two : CircuitLevel) (hello : ℕ) → s.circuits ≡ with_nth r.circuits place (record c { levels = record { one = one; two = two }; hello = hello }) → s.config ≡ r.config → s.boot ≡ r.boot → IsPulled r place c s

-- what is sent, and what becomes of the router
pub record IsSent (r : Router) (place : ℕ) (c : Circuit) : Type 0 where
  pub all : pull r place ≡ record { router = after_all r place; out = all_due r place c }
  pub pulled : IsPulled r place c (after_all r place)

pub all-sent : (r : Router) (place : ℕ) (c : Circuit) → nth r.circuits place ≡ Some c → IsSent r place c
unfolding pull
all-sent r place c n = of (subst (λ (q : Router). IsPart q place level.One c1 second) first-is (level-part first place level.One c1 first-here))
  where
    c1 : Circuit
    c1 = hello_c c

    first : Router
    first = after_hello r place

    second : Router
    second = after_level first place level.One

    third : Router
    third = after_level second place level.Two

    first-is : first ≡ with_circuit r place c1
    first-is = hello-is r place c n

    first-here : nth first.circuits place ≡ Some c1
    first-here = ap (λ (q : Router). nth q.circuits place) first-is ∙ nth-with r.circuits place c c1 n

    one-due : List Sent
    one-due = open_due r.config place c level.One (book_of r level.One)

    two-due : List Sent
    two-due = open_due r.config place c level.Two (book_of r level.Two)

    of : IsPart (with_circuit r place c1) place level.One c1 second → IsSent r place c
    of (Part one book e) = record { all = all; pulled = on (level-part second place level.Two c2 here) }
      where
        c2 : Circuit
        c2 = with_part c1 level.One one

        here : nth second.circuits place ≡ Some c2
        here = ap (λ (q : Router). nth q.circuits place) e ∙ nth-with (with_nth r.circuits place c1) place c1 c2 (nth-with r.circuits place c c1 n)

        one-is : open_due first.config place c1 level.One (book_of first level.One) ≡ one-due
        one-is = ap (λ (q : Router). open_due q.config place c1 level.One (book_of q level.One)) first-is

        two-is : open_due second.config place c2 level.Two (book_of second level.Two) ≡ two-due
        two-is = ap (λ (q : Router). open_due q.config place c2 level.Two (book_of q level.Two)) e

        all : pull r place ≡ record { router = third; out = all_due r place c }
        all =
            ap (λ (s : Sending). pull_level (pull_level s place level.One) place level.Two) (hello-sent r place c n)
            ∙ (ap (λ (s : Sending). pull_level s place level.Two) (level-sent first (hellos_due r place c) place level.One c1 first-here)
            ∙ (level-sent second (hellos_due r place c ++ open_due first.config place c1 level.One (book_of first level.One)) place level.Two c2 here
            ∙ (ap (λ (xs : List Sent). record { router = third; out = (hellos_due r place c ++ xs) ++ open_due second.config place c2 level.Two (book_of second level.Two) }) one-is
            ∙ (ap (λ (xs : List Sent). record { router = third; out = (hellos_due r place c ++ one-due) ++ xs }) two-is
            ∙ ap (λ (xs : List Sent). record { router = third; out = xs }) (append_assoc (hellos_due r place c) one-due two-due)))))

        on : IsPart second place level.Two c2 third → IsPulled r place c third
        on (Part two book-two f) =
            Pulled one two (hello_c c).hello
            (ap (λ (q : Router). q.circuits) f
            ∙ (ap (λ (q : Router). with_nth q.circuits place (with_part c2 level.Two two)) e
            ∙ (ap (λ (cs : List Circuit). with_nth cs place (with_part c2 level.Two two)) (with-twice r.circuits place c1 c2)
            ∙ with-twice r.circuits place c2 (with_part c2 level.Two two))))
            (ap (λ (q : Router). q.config) f ∙ ap (λ (q : Router). q.config) e)
            (ap (λ (q : Router). q.boot) f ∙ ap (λ (q : Router). q.boot) e)

-- ---- the circuits stay as many

pub hello-length : (r : Router) (place : ℕ) → place < length r.circuits → length (after_hello r place).circuits ≡ length r.circuits
hello-length r place h = on-there r.circuits place (λ o. length (after_hello r place).circuits ≡ length r.circuits) h
    (λ c n. ap (λ (q : Router). length q.circuits) (hello-is r place c n) ∙ length-with r.circuits place (hello_c c))

pub level-length : (r : Router) (place : ℕ) (l : Level) → place < length r.circuits → length (after_level r place l).circuits ≡ length r.circuits
level-length r place l h = on-there r.circuits place (λ o. length (after_level r place l).circuits ≡ length r.circuits) h
    (λ c n. of l c (level-part r place l c n))
  where
    of : (k : Level) (c : Circuit) → IsPart r place k c (after_level r place l) → length (after_level r place l).circuits ≡ length r.circuits
    of level.One c (Part part book e) = ap (λ (q : Router). length q.circuits) e ∙ length-with r.circuits place (with_part c level.One part)
    of level.Two c (Part part book e) = ap (λ (q : Router). length q.circuits) e ∙ length-with r.circuits place (with_part c level.Two part)

pub all-length : (r : Router) (place : ℕ) → place < length r.circuits → length (after_all r place).circuits ≡ length r.circuits
all-length r place h = on-there r.circuits place (λ o. length (after_all r place).circuits ≡ length r.circuits) h
    (λ c n. of c (all-sent r place c n).pulled)
  where
    of : (c : Circuit) → IsPulled r place c (after_all r place) → length (after_all r place).circuits ≡ length r.circuits
    of c (Pulled one two hello e k b) = ap (λ (cs : List Circuit). length cs) e ∙ length-with r.circuits place (record c { levels = record { one = one; two = two }; hello = hello })

-- ---- the router that was settled, and its datagrams

pub pulled-state : (r s t : Router) (place : ℕ) (c : Circuit) → AreIdle r → nth r.circuits place ≡ Some c → s ≡ after_all r place → IfSome (nth s.circuits place) (λ y. t ≡ with_circuit s place (idle s.config place y)) → t ≡ (settled (sent_all (pull r place))).router
pulled-state r s t place c idles n e f = of (all-sent r place c n).pulled
  where
    of : IsPulled r place c (after_all r place) → t ≡ (settled (sent_all (pull r place))).router
    of (Pulled one two hello g k b) =
        settle-with r (after_all r place) t (Send (pull r place).out) place c (record c { levels = record { one = one; two = two }; hello = hello }) idles n g k
        (subst (λ (q : Router). IfSome (nth q.circuits place) (λ y. t ≡ with_circuit q place (idle q.config place y))) e f)
        ∙ ap (λ (q : Router). (settled (record { router = q; reply = Send (pull r place).out })).router) (sym (ap (λ (q : Sending). q.router) (all-sent r place c n).all))

-- datagrams look at a circuit's priority, address and key alone
same-says : (config other : Config) (boot place : ℕ) (c : Circuit) (one two : CircuitLevel) (hello : ℕ) (says : Sent) → datagram config boot place c says ≡ datagram config boot place (idle other place (record c { levels = record { one = one; two = two }; hello = hello })) says
unfolding pdu_octets
same-says config other boot place c one two hello (PointHello state extended names) = refl
same-says config other boot place c one two hello (LanHello l lan snpas) = refl
same-says config other boot place c one two hello (Lsp l id cell) = refl
same-says config other boot place c one two hello (Csnp l start end entries) = refl
same-says config other boot place c one two hello (Psnp l entries) = refl

map-same : {A B : Type 0} (f g : A → B) (xs : List A) → ((x : A) → f x ≡ g x) → map f xs ≡ map g xs
map-same f g [] h = refl
map-same f g (x ∷ xs) h = ap₂ (λ y ys. y ∷ ys) (h x) (map-same f g xs h)

pub pulled-sent : (r s t : Router) (place : ℕ) (c : Circuit) (out : List (List ℕ)) → nth r.circuits place ≡ Some c → s ≡ after_all r place → IfSome (nth s.circuits place) (λ y. t ≡ with_circuit s place (idle s.config place y)) → out ≡ map (λ (says : Sent). datagram r.config r.boot place c says) (all_due r place c) → out ≡ datagrams_of t place (pull r place).out
pulled-sent r s t place c out n e f d = of (all-sent r place c n).pulled
  where
    a : Router
    a = after_all r place

    sent-is : (pull r place).out ≡ all_due r place c
    sent-is = ap (λ (q : Sending). q.out) (all-sent r place c n).all

    of : IsPulled r place c a → out ≡ datagrams_of t place (pull r place).out
    of (Pulled one two hello g k b) =
        d
        ∙ (ap (λ (xs : List Sent). map (λ (says : Sent). datagram r.config r.boot place c says) xs) (sym sent-is)
        ∙ (map-same (λ (says : Sent). datagram r.config r.boot place c says) (λ (says : Sent). datagram r.config r.boot place y says) (pull r place).out (λ says. same-says r.config a.config r.boot place c one two hello says)
        ∙ (ap (λ (config : Config). map (λ (says : Sent). datagram config r.boot place y says) (pull r place).out) (sym config-is)
        ∙ (ap (λ (boot : ℕ). map (λ (says : Sent). datagram t.config boot place y says) (pull r place).out) (sym boot-is)
        ∙ ap (λ (o : Option Circuit). datagrams_on t place o (pull r place).out) (sym last)))))
      where
        x : Circuit
        x = record c { levels = record { one = one; two = two }; hello = hello }

        y : Circuit
        y = idle a.config place x

        here : nth a.circuits place ≡ Some x
        here = ap (λ (cs : List Circuit). nth cs place) g ∙ nth-with r.circuits place c x n

        t-is : t ≡ with_circuit a place y
        t-is = from-some (λ z. t ≡ with_circuit a place (idle a.config place z)) (nth a.circuits place) x here
            (subst (λ (q : Router). IfSome (nth q.circuits place) (λ z. t ≡ with_circuit q place (idle q.config place z))) e f)

        config-is : t.config ≡ r.config
        config-is = ap (λ (q : Router). q.config) t-is ∙ k

        boot-is : t.boot ≡ r.boot
        boot-is = ap (λ (q : Router). q.boot) t-is ∙ b

        last : nth t.circuits place ≡ Some y
        last = ap (λ (q : Router). nth q.circuits place) t-is ∙ nth-with a.circuits place x y here

-- ---- the same as the model's step

pub pulled-step : (r s t : Router) (place : ℕ) (c : Circuit) → AreIdle r → nth r.circuits place ≡ Some c → s ≡ after_all r place → IfSome (nth s.circuits place) (λ y. t ≡ with_circuit s place (idle s.config place y)) → t ≡ (step given r (Pull place)).router
unfolding step
pulled-step r s t place c idles n e f = pulled-state r s t place c idles n e f

abbrev after-idle : Router → Router → ℕ → Option Circuit → Router
after-idle r s place None = r
after-idle r s place (Some c) = with_circuit s place (idle s.config place c)

idle-is : (r s : Router) (place : ℕ) (o : Option Circuit) → IfSome o (λ y. after-idle r s place o ≡ with_circuit s place (idle s.config place y))
idle-is r s place None = tt
idle-is r s place (Some c) = refl

-- what is due is what the step sends
pub due-sent : (r : Router) (place : ℕ) (c : Circuit) (out : List (List ℕ)) → AreIdle r → nth r.circuits place ≡ Some c → out ≡ map (λ (says : Sent). datagram r.config r.boot place c says) (all_due r place c) → out ≡ datagrams_of (step given r (Pull place)).router place (pull r place).out
due-sent r place c out idles n d =
    let s = after_all r place in
    let t = after-idle r s place (nth s.circuits place) in
    let f = idle-is r s place (nth s.circuits place) in
    subst (λ (q : Router). out ≡ datagrams_of q place (pull r place).out) (pulled-step r s t place c idles n refl f) (pulled-sent r s t place c out n refl f d)
