-- A CSNP that is sent tells the keys in its range.
use Rattle.std.proofs.Common.{◌≡◌, ℕ, zero, suc, ◌+◌, ◌^◌, ◌<◌, ◌≤◌, ◌==◌, nat_lt, nat_le, Bool, true, ◌&&◌, ◌⊎◌, inl, inr, ⊎_elim, List, [], ◌∷◌, ◌++◌, length, take, drop, Option, Some, None, if◌then◌else◌, refl, sym, ap, ◌∙◌, subst, arith, le_refl, le_trans, zero-le, take-append-drop, length-drop}
use Rattle.std.specs.Option.{option_map}
use Rattle.std.proofs.lemmas.Bool.Decides.{nat_tests}
use Rattle.std.specs.List.{AllByRecursion}
use Rattle.isis_base.specs.declared.level.Level.{Level}
use Rattle.isis_base.specs.declared.level.Level.TheVariants as level
use Rattle.model_router.specs.declared.drop_name.DropName.{DropName}
use Rattle.model_router.specs.declared.lsp_case.LspCase.{LspCase}
use Rattle.model_router.specs.declared.lsp_case.LspCase.TheVariants as lsp
use Rattle.model_router.specs.Maps.{find, each}
use Rattle.model_router.specs.Both.{at}
use Rattle.model_router.specs.Places.{nth}
use Rattle.model_router.specs.Sets.{has}
use Rattle.model_router.specs.Ranks.{is_live}
use Rattle.model_router.specs.Cells.{Cell, Heard, ssn_off}
use Rattle.model_router.specs.Deeds.{Content}
use Rattle.model_router.specs.Books.{checksum_of, Book, cell_at, rank_of}
use Rattle.model_router.specs.SnpTable.{SnpEntry}
use Rattle.model_router.specs.Good.{IsGood, IsGoodRouter}
use Rattle.model_router.specs.Routers.{Circuit, Router, book_of, with_book, with_circuit}
use Rattle.model_router.specs.Givens.{Given}
use Rattle.model_router.specs.Datagrams.{Sent, PointHello, LanHello, Lsp, Csnp, Psnp}
use Rattle.model_router.specs.Pulls.{Sending, due_lsps, srm_due, sent, answered, lan_hello, hellos, on_circuit, at_circuit, pull_hello, pull_csnp, pull_lsps, pull_psnp, pull_level, pull, is_csnp_due}
use Rattle.model_router.specs.SnpLists.{snp_entry, entries_where, last_id, pieces, csnps, csnp_set, owed, psnps, held_keys}
use Rattle.model_router.specs.Events.{Done, Send, Message, Refused, PointHelloHeard, LanHelloHeard, LspHeard, SnpHeard, Event, Second, Take, Pull, Metric, Overload, Prefix, settled}
use Rattle.model_router.specs.Receiving.{taken, acks, take_or_drop, drop_of}
use Rattle.model_router.specs.Steps.{sent_all, step}
use Rattle.model_router.specs.Sorted.{IsSorted}
use Rattle.model_router.specs.CsnpLaws.{IsWithin}
use Rattle.model_router.specs.ReplyLaws.{ListsHeld, Entry, TellsKeys, IsTold, IsReplyTold}
use Rattle.model_router.specs.Receiving as receiving
use Rattle.model_router.proofs.MapLemmas.{find-each}
use Rattle.model_router.proofs.BookLemmas.{choose, test}
use Rattle.model_router.proofs.RisingLemmas.{all-found}
use Rattle.model_router.proofs.ListLemmas.{all-map, all-append}
use Rattle.model_router.proofs.CsnpLemmas.{Rises, listed-rises, listed-few, piece-within, some-piece}
use Rattle.model_router.proofs.ExactLemmas.{IsFlagging, sent-flagging}

-- ---- entries

entry-left : (h : SnpEntry) (xs ys : List SnpEntry) → Entry h xs → Entry h (xs ++ ys)
entry-left h [] ys x = absurd x
entry-left h (y ∷ xs) ys (inl e) = inl e
entry-left h (y ∷ xs) ys (inr x) = inr (entry-left h xs ys x)

entry-right : (h : SnpEntry) (xs ys : List SnpEntry) → Entry h ys → Entry h (xs ++ ys)
entry-right h [] ys x = x
entry-right h (y ∷ xs) ys x = inr (entry-right h xs ys x)

entry-split : (h : SnpEntry) (xs ys : List SnpEntry) → Entry h (xs ++ ys) → Entry h xs ⊎ Entry h ys
entry-split h [] ys x = inr x
entry-split h (y ∷ xs) ys (inl e) = inl (inl e)
entry-split h (y ∷ xs) ys (inr x) = sooner (entry-split h xs ys x)
  where
    sooner : Entry h xs ⊎ Entry h ys → Entry h (y ∷ xs) ⊎ Entry h ys
    sooner (inl z) = inl (inr z)
    sooner (inr z) = inr z

within-entry : (a b : ℕ) (h : SnpEntry) (xs : List SnpEntry) → AllByRecursion (IsWithin a b) xs → Entry h xs → (a ≤ h.id) × (h.id ≤ b)
within-entry a b h [] w x = absurd x
within-entry a b h (y ∷ xs) w (inl e) = subst (λ (z : SnpEntry). (a ≤ z.id) × (z.id ≤ b)) (sym e) w.0
within-entry a b h (y ∷ xs) w (inr x) = within-entry a b h xs w.1 x

rises-entry : (least : ℕ) (h : SnpEntry) (xs : List SnpEntry) → Rises least xs → Entry h xs → least ≤ h.id
unfolding Rises
rises-entry least h [] r x = absurd x
rises-entry least h (y ∷ xs) r (inl e) = subst (λ (z : SnpEntry). least ≤ z.id) (sym e) r.0
rises-entry least h (y ∷ xs) r (inr x) = let k = rises-entry (y.id + 1) h xs r.2 x in let j = r.0 in omega (arith, k, j)

-- ---- pieces

-- a piece of a set has just the entries in its range
record Whole (l : Level) (start : ℕ) (entries : List SnpEntry) (m : Level) (first last : ℕ) (piece : List SnpEntry) : Type 0 where
  level_is : m ≡ l
  low : start ≤ first
  sub : (h : SnpEntry) → Entry h piece → Entry h entries
  whole : (h : SnpEntry) → Entry h entries → first ≤ h.id → h.id ≤ last → Entry h piece

abbrev IsPiece : Level → ℕ → List SnpEntry → Sent → Type 0
IsPiece l start entries (PointHello state extended names) = ⊥
IsPiece l start entries (LanHello m lan snpas) = ⊥
IsPiece l start entries (Lsp m id cell) = ⊥
IsPiece l start entries (Csnp m first last piece) = Whole l start entries m first last piece
IsPiece l start entries (Psnp m piece) = ⊥

past : (a b c : ℕ) → a ≤ b → b + 1 ≤ c → c ≤ a → ⊥
past a b c x y z = omega (arith, x, y, z)

-- a piece of what is behind a first one is a piece of all
piece-then_rest : (l : Level) (start end : ℕ) (front back entries : List SnpEntry) → entries ≡ front ++ back → AllByRecursion (IsWithin start end) front → start ≤ end → (s : Sent) → IsPiece l (end + 1) back s → IsPiece l start entries s
piece-then_rest l start end front back entries e w h (PointHello state extended names) p = p
piece-then_rest l start end front back entries e w h (LanHello m lan snpas) p = p
piece-then_rest l start end front back entries e w h (Lsp m id cell) p = p
piece-then_rest l start end front back entries e w h (Psnp m piece) p = p
piece-then_rest l start end front back entries e w h (Csnp m first last piece) p = record {
  level_is = p.level_is;
  low = let k = p.low in omega (arith, h, k);
  sub = λ x i. subst (Entry x) (sym e) (entry-right x front back (p.sub x i));
  whole = λ x i a b. ⊎_elim (λ (f : Entry x front). absurd (past x.id end first (within-entry start end x front w f).1 p.low a)) (λ (k : Entry x back). p.whole x k a b) (entry-split x front back (subst (Entry x) e i));
}

piece-first : (l : Level) (start end : ℕ) (front back entries : List SnpEntry) → entries ≡ front ++ back → Rises (end + 1) back → Whole l start entries l start end front
piece-first l start end front back entries e r = record {
  level_is = refl;
  low = le_refl _;
  sub = λ x i. subst (Entry x) (sym e) (entry-left x front back i);
  whole = λ x i a b. ⊎_elim (λ (f : Entry x front). f) (λ (k : Entry x back). absurd (past x.id end x.id b (rises-entry (end + 1) x back r k) (le_refl _))) (entry-split x front back (subst (Entry x) e i));
}

pieces-tell : (l : Level) (count : ℕ) (entries : List SnpEntry) (start least : ℕ) → length entries ≤ count → start ≤ least → Rises least entries → AllByRecursion (IsPiece l start entries) (csnps l start (pieces (suc count) entries))
pieces-tell l zero entries start least few h r =
    choose (λ (ps : List (List SnpEntry)). AllByRecursion (IsPiece l start entries) (csnps l start ps)) (nat_le (length entries) 75) (entries ∷ []) (take 75 entries ∷ pieces zero (drop 75 entries))
    (λ _. (record { level_is = refl; low = le_refl _; sub = λ x i. i; whole = λ x i a b. i }, tt))
    (λ long. absurd (let many : 75 < length entries = grind (arith, nat_tests) in omega (arith, many, few)))
pieces-tell l (suc count) entries start least few h r =
    choose (λ (ps : List (List SnpEntry)). AllByRecursion (IsPiece l start entries) (csnps l start ps)) (nat_le (length entries) 75) (entries ∷ []) (take 75 entries ∷ pieces (suc count) (drop 75 entries))
    (λ _. (record { level_is = refl; low = le_refl _; sub = λ x i. i; whole = λ x i a b. i }, tt))
    (λ long.
    let many : 75 < length entries = grind (arith, nat_tests) in
    let cut = piece-within 74 entries start least (omega (arith, many)) h r in
    let end = last_id (take 75 entries) in
    let split : entries ≡ take 75 entries ++ drop 75 entries = sym (take-append-drop 75 entries) in
    let left : length (drop 75 entries) ≤ count = omega (arith, length-drop 75 entries, many, few) in
    let rest = pieces-tell l count (drop 75 entries) (end + 1) (end + 1) left (le_refl _) cut.1 in
    let shape = some-piece count (drop 75 entries) in
    let low : start ≤ end = let k = cut.2 in le_trans h k in
    subst (λ (ps : List (List SnpEntry)). AllByRecursion (IsPiece l start entries) (csnps l start (take 75 entries ∷ ps))) (sym shape.2) (
      piece-first l start end (take 75 entries) (drop 75 entries) entries split cut.1,
      all-map (IsPiece l (end + 1) (drop 75 entries)) (IsPiece l start entries) (csnps l (end + 1) (shape.0 ∷ shape.1)) (piece-then_rest l start end (take 75 entries) (drop 75 entries) entries split cut.0 low)
          (subst (λ (ps : List (List SnpEntry)). AllByRecursion (IsPiece l (end + 1) (drop 75 entries)) (csnps l (end + 1) ps)) shape.2 rest),
    ))

-- ---- what a book's keys list

listed-rank : (m cells : List (ℕ × Cell)) (t : Cell → Bool) (h : SnpEntry) → AllByRecursion (λ (p : ℕ × Cell). find m p.0 ≡ Some p.1) cells → Entry h (entries_where t cells) → h.rank ≡ rank_of (find m h.id)
listed-rank m [] t h all x = absurd x
listed-rank m (p ∷ cells) t h all x =
    choose (λ (es : List SnpEntry). Entry h es → h.rank ≡ rank_of (find m h.id)) (t p.1) (snp_entry p.0 p.1 ∷ entries_where t cells) (entries_where t cells)
    (λ _ y. ⊎_elim (λ (e : h ≡ snp_entry p.0 p.1). subst (λ (z : SnpEntry). z.rank ≡ rank_of (find m z.id)) (sym e) (sym (ap rank_of all.0))) (λ (y : Entry h (entries_where t cells)). listed-rank m cells t h all.1 y) y)
    (λ _ y. listed-rank m cells t h all.1 y) x

find-listed : (cells : List (ℕ × Cell)) (t : Cell → Bool) (id : ℕ) (c : Cell) → find cells id ≡ Some c → t c ≡ true → Entry (snp_entry id c) (entries_where t cells)
find-listed [] t id c e k = absurd (cc)
find-listed (p ∷ cells) t id c e k =
    test (λ b. (p.0 == id) ≡ b → (if b then Some p.1 else find cells id) ≡ Some c → Entry (snp_entry id c) (entries_where t (p ∷ cells))) (p.0 == id)
    (λ _ y f.
    let same : p.0 ≡ id = grind (arith, nat_tests) in
    let cell : p.1 ≡ c = some-cell p.1 c f in
    let yes : t p.1 ≡ true = ap t cell ∙ k in
    choose (λ (es : List SnpEntry). t p.1 ≡ true → Entry (snp_entry id c) es) (t p.1) (snp_entry p.0 p.1 ∷ entries_where t cells) (entries_where t cells)
    (λ _ _. inl (ap (λ (n : ℕ). snp_entry n c) (sym same) ∙ ap (snp_entry p.0) (sym cell))) (λ n z. absurd (cc)) yes)
    (λ _ n f. choose (λ (es : List SnpEntry). Entry (snp_entry id c) es) (t p.1) (snp_entry p.0 p.1 ∷ entries_where t cells) (entries_where t cells)
    (λ _. inr (find-listed cells t id c f k)) (λ _. find-listed cells t id c f k)) refl e
  where
    some-cell : (a b : Cell) → ◌≡◌ {A = Option Cell} (Some a) (Some b) → a ≡ b
    some-cell a b e = cc

pub good-ids : (cells : List (ℕ × Cell)) (m : List (ℕ × Cell)) → ((id : ℕ) → IsGood id (find m id)) → AllByRecursion (λ (p : ℕ × Cell). find m p.0 ≡ Some p.1) cells → AllByRecursion (λ (p : ℕ × Cell). p.0 < 2 ^ 64) cells
good-ids [] m good all = tt
good-ids (p ∷ cells) m good all = ((subst (IsGood p.0) all.0 (good p.0)).0, good-ids cells m good all.1)

some-keyed : (n : ℕ) → 0 < n → nat_lt 0 n ≡ true
some-keyed n e = grind (arith, nat_tests, e)

-- a key is listed, a live one with what is left of it and its checksum
held-listed : (piece : List SnpEntry) (id : ℕ) (o : Option Cell) → IsGood id o → 0 < rank_of o
    → ((c : Cell) → o ≡ Some c → Entry (snp_entry id c) piece) → ListsHeld piece id o
held-listed piece id None g some f = absurd (omega (arith, some))
held-listed piece id (Some c) g some f = record {
  entry = snp_entry id c;
  stands = f c refl;
  id_is = refl;
  rank_is = refl;
  checksum_is = λ live. subst (λ (t : Bool). (if t then c.checksum else 0) ≡ c.checksum) (sym live) refl;
  left = λ live. subst (λ (t : Bool). 0 < (if t then c.left else 0)) (sym live) g.1.left;
  summed = λ live. subst (λ (t : Bool). 0 < (if t then c.checksum else 0)) (sym live) (g.1.summed live);
}

keyed : Cell → Bool
keyed c = nat_lt 0 c.rank

piece-tells : (r : Router) (l : Level) → IsSorted r → IsGoodRouter r → (s : Sent) → IsPiece l 0 (held_keys (book_of r l)) s → IsTold r s
unfolding keyed
piece-tells r l sorted good (PointHello state extended names) p = tt
piece-tells r l sorted good (LanHello m lan snpas) p = tt
piece-tells r l sorted good (Lsp m id cell) p = tt
piece-tells r l sorted good (Psnp m piece) p = tt
piece-tells r l sorted good (Csnp m first last piece) p = subst (λ (x : Level). TellsKeys r x first last piece) (sym p.level_is) (record {
  lists = λ id a b some. held-listed piece id (cell_at (book_of r l) id) ((good.on l).at id) some
      (λ c e. p.whole (snp_entry id c) (find-listed (book_of r l).cells keyed id c e (some-keyed c.rank (subst (λ (o : Option Cell). 0 < rank_of o) e some))) a b);
  holds = λ h x. listed-rank (book_of r l).cells (book_of r l).cells keyed h (all-found (book_of r l).cells 0 (sorted.on l)) (p.sub h x);
})

csnps-told : (r : Router) (l : Level) → IsSorted r → IsGoodRouter r → AllByRecursion (IsTold r) (csnp_set l (book_of r l))
unfolding keyed
csnps-told r l sorted good =
    let b = book_of r l in
    let short = good-ids b.cells b.cells (good.on l).at (all-found b.cells 0 (sorted.on l)) in
    all-map (IsPiece l 0 (held_keys b)) (IsTold r) (csnp_set l b) (piece-tells r l sorted good)
    (pieces-tell l (length b.cells) (held_keys b) 0 0 (listed-few keyed b.cells) zero-le (listed-rises keyed b.cells 0 (sorted.on l) short))

-- ---- a pull

-- what an entry says of what is held
abbrev key_of : Option Cell → ℕ × ℕ
key_of o = (rank_of o, checksum_of o)

-- ranks and checksums stay
record SameRanks (r t : Router) : Type 0 where
  same : (l : Level) (id : ℕ) → key_of (cell_at (book_of t l) id) ≡ key_of (cell_at (book_of r l) id)

ranks-refl : (r : Router) → SameRanks r r
ranks-refl r = record { same = λ l id. refl }

ranks-trans : (r s t : Router) → SameRanks r s → SameRanks s t → SameRanks r t
ranks-trans r s t f g = record { same = λ l id. g.same l id ∙ f.same l id }

flagging-rank : (f : ℕ → Cell → Cell) → IsFlagging f → (m : List (ℕ × Cell)) (id : ℕ) → key_of (find (each f m) id) ≡ key_of (find m id)
flagging-rank f k m id = ap key_of (find-each f m id) ∙ mapped (find m id)
  where
    mapped : (o : Option Cell) → key_of (option_map (f id) o) ≡ key_of o
    mapped None = refl
    mapped (Some d) = let rank = k.rank id d in let sum = ap (λ (x : Content). x.checksum) (k.content id d) in cc

sent-rank : (b : Book) (place id : ℕ) → key_of (cell_at (sent b place) id) ≡ key_of (cell_at b id)
unfolding sent
sent-rank b place id = flagging-rank _ (sent-flagging b place) b.cells id

answered-rank : (b : Book) (place id : ℕ) → key_of (cell_at (answered b place) id) ≡ key_of (cell_at b id)
unfolding answered
answered-rank b place id = flagging-rank (λ (_ : ℕ) (d : Cell). ssn_off d place) (record { rank = λ id d. refl; content = λ id d. refl }) b.cells id

book-ranks : (r : Router) (l : Level) (b : Book) → ((id : ℕ) → key_of (cell_at b id) ≡ key_of (cell_at (book_of r l) id)) → SameRanks r (with_book r l b)
book-ranks r l b h = record { same = λ m id. one l m h id }
  where
    one : (l m : Level) → ((id : ℕ) → key_of (cell_at b id) ≡ key_of (cell_at (book_of r l) id)) → (id : ℕ) → key_of (cell_at (book_of (with_book r l b) m) id) ≡ key_of (cell_at (book_of r m) id)
    one level.One level.One h id = h id
    one level.One level.Two h id = refl
    one level.Two level.One h id = refl
    one level.Two level.Two h id = h id

pub at_circuit-tells : (P : Sending → Type 0) (s : Sending) (place : ℕ) (f : Circuit → Sending) → P s → ((c : Circuit) → P (f c)) → P (at_circuit s place f)
at_circuit-tells P s place f h g = on-it (nth s.router.circuits place)
  where
    on-it : (c : Option Circuit) → P (on_circuit c s f)
    on-it None = h
    on-it (Some c) = g c

lan_hello-told : (r t : Router) (place : ℕ) (c : Circuit) (l : Level) → AllByRecursion (IsTold t) (lan_hello r place c l)
lan_hello-told r t place c l = choose (λ (out : List Sent). AllByRecursion (IsTold t) out) (at r.config.runs l) _ [] (λ _. (tt, tt)) (λ _. tt)

hellos-told : (r t : Router) (place : ℕ) (c : Circuit) → AllByRecursion (IsTold t) (hellos r place c)
hellos-told r t place c = choose (λ (out : List Sent). AllByRecursion (IsTold t) out) c.lan _ _
    (λ _. all-append (IsTold t) (lan_hello r place c level.One) (lan_hello r place c level.Two) (lan_hello-told r t place c level.One) (lan_hello-told r t place c level.Two))
    (λ _. (tt, tt))

psnps-told : (r : Router) (l : Level) (p : List (List SnpEntry)) → AllByRecursion (IsTold r) (psnps l p)
psnps-told r l [] = tt
psnps-told r l (p ∷ rest) = (tt, psnps-told r l rest)

due-told : (r : Router) (l : Level) (place : ℕ) (cells : List (ℕ × Cell)) → AllByRecursion (IsTold r) (due_lsps l place cells)
due-told r l place [] = tt
due-told r l place (p ∷ cells) = choose (λ (out : List Sent). AllByRecursion (IsTold r) out) (srm_due place p.1) (Lsp l p.0 p.1 ∷ due_lsps l place cells) (due_lsps l place cells)
    (λ _. (tt, due-told r l place cells)) (λ _. due-told r l place cells)

-- what a pull has done so far, and the book of the level that comes next
record Told (r : Router) (l : Level) (s : Sending) : Type 0 where
  ranks : SameRanks r s.router
  told : AllByRecursion (IsTold r) s.out
  book : book_of s.router l ≡ book_of r l

-- what a level's part has done
record Done_level (r : Router) (s : Sending) : Type 0 where
  ranks : SameRanks r s.router
  told : AllByRecursion (IsTold r) s.out

pull_hello-told : (r : Router) (place : ℕ) (c : Circuit) (l : Level) → Told r l (pull_hello (record { router = r; out = [] }) place c)
unfolding pull_hello
pull_hello-told r place c l = choose (Told r l) (c.hello == 0) _ (record { router = r; out = [] })
    (λ _. record { ranks = record { same = λ m id. refl }; told = hellos-told r r place c; book = refl })
    (λ _. record { ranks = ranks-refl r; told = tt; book = refl })

pull_csnp-told : (r : Router) (s : Sending) (place : ℕ) (l : Level) (c : Circuit) → IsSorted r → IsGoodRouter r → Told r l s → Told r l (pull_csnp s place l c)
unfolding pull_csnp
pull_csnp-told r s place l c sorted good h = choose (Told r l) (is_csnp_due s.router.config place c l) _ s
    (λ _. record {
      ranks = record { same = λ m id. h.ranks.same m id };
      told = all-append (IsTold r) s.out (csnp_set l (book_of s.router l)) h.told (subst (λ (b : Book). AllByRecursion (IsTold r) (csnp_set l b)) (sym h.book) (csnps-told r l sorted good));
      book = h.book;
    })
    (λ _. h)

pull_lsps-told : (r : Router) (s : Sending) (place : ℕ) (l : Level) → Told r l s → Done_level r (pull_lsps s place l)
unfolding pull_lsps
pull_lsps-told r s place l h = record {
  ranks = ranks-trans r s.router _ h.ranks (book-ranks s.router l _ (λ id. sent-rank (book_of s.router l) place id));
  told = all-append (IsTold r) s.out _ h.told (due-told r l place (book_of s.router l).cells);
}

answered-ranks : (r : Router) (place : ℕ) (new : Circuit) (l : Level) → SameRanks r (with_book (with_circuit r place new) l (answered (book_of r l) place))
answered-ranks r place new l = ranks-trans r (with_circuit r place new) _ (record { same = λ m id. refl }) (by-level l)
  where
    by-level : (l : Level) → SameRanks (with_circuit r place new) (with_book (with_circuit r place new) l (answered (book_of r l) place))
    by-level level.One = book-ranks (with_circuit r place new) level.One _ (λ id. answered-rank (book_of r level.One) place id)
    by-level level.Two = book-ranks (with_circuit r place new) level.Two _ (λ id. answered-rank (book_of r level.Two) place id)

pull_psnp-told : (r : Router) (s : Sending) (place : ℕ) (l : Level) (c : Circuit) → Done_level r s → Done_level r (pull_psnp s place l c)
unfolding pull_psnp
pull_psnp-told r s place l c h =
    let entries = owed place (book_of s.router l) in
    choose (Done_level r) (nat_lt 0 (length entries) && (at c.levels l).psnp == 0) _ s
    (λ _. record {
      ranks = ranks-trans r s.router _ h.ranks (answered-ranks s.router place _ l);
      told = all-append (IsTold r) s.out (psnps l (pieces (length entries) entries)) h.told (psnps-told r l _);
    })
    (λ _. h)

pull_level-told : (r : Router) (s : Sending) (place : ℕ) (l : Level) → IsSorted r → IsGoodRouter r → Told r l s → Done_level r (pull_level s place l)
unfolding pull_level
pull_level-told r s place l sorted good h =
    let csnp = at_circuit s place (pull_csnp s place l) in
    let lsps = pull_lsps csnp place l in
    choose (Done_level r) (has (book_of s.router l).opened place) (at_circuit lsps place (pull_psnp lsps place l)) s
    (λ _. let one = at_circuit-tells (Told r l) s place (pull_csnp s place l) h (λ c. pull_csnp-told r s place l c sorted good h) in
    let two = pull_lsps-told r csnp place l one in
    at_circuit-tells (Done_level r) lsps place (pull_psnp lsps place l) two (λ c. pull_psnp-told r lsps place l c two))
    (λ _. record { ranks = h.ranks; told = h.told })

-- level 1's part leaves level 2's book
pull_level-other : (s : Sending) (place : ℕ) → book_of (pull_level s place level.One).router level.Two ≡ book_of s.router level.Two
unfolding pull_level pull_csnp pull_lsps pull_psnp
pull_level-other s place =
    let P : Sending → Type 0 = λ u. book_of u.router level.Two ≡ book_of s.router level.Two in
    let csnp = at_circuit s place (pull_csnp s place level.One) in
    let lsps = pull_lsps csnp place level.One in
    choose P (has (book_of s.router level.One).opened place) (at_circuit lsps place (pull_psnp lsps place level.One)) s
    (λ _. let one : P csnp = at_circuit-tells P s place (pull_csnp s place level.One) refl (λ c. choose P (is_csnp_due s.router.config place c level.One) _ s (λ _. refl) (λ _. refl)) in
    at_circuit-tells P lsps place (pull_psnp lsps place level.One) one (λ c. choose P (nat_lt 0 (length (owed place (book_of lsps.router level.One))) && (at c.levels level.One).psnp == 0) _ lsps (λ _. one) (λ _. one)))
    (λ _. refl)

pull-told : (r : Router) (place : ℕ) → IsSorted r → IsGoodRouter r → Done_level r (pull r place)
unfolding pull
pull-told r place sorted good =
    let start : Sending = record { router = r; out = [] } in
    let hello = at_circuit start place (pull_hello start place) in
    let first : (l : Level) → Told r l hello = λ l. at_circuit-tells (Told r l) start place (pull_hello start place) (record { ranks = ranks-refl r; told = tt; book = refl }) (λ c. pull_hello-told r place c l) in
    let one = pull_level-told r hello place level.One sorted good (first level.One) in
    pull_level-told r (pull_level hello place level.One) place level.Two sorted good
    (record { ranks = one.ranks; told = one.told; book = pull_level-other hello place ∙ (first level.Two).book })

-- ---- the reply

lists-later : (entries : List SnpEntry) (id : ℕ) (old new : Option Cell) → key_of new ≡ key_of old → ListsHeld entries id old → ListsHeld entries id new
lists-later entries id old new e h =
    let rank : rank_of new ≡ rank_of old = ap (λ (p : ℕ × ℕ). p.0) e in
    let live = λ (l : is_live (rank_of new) ≡ true). subst (λ (n : ℕ). is_live n ≡ true) rank l in
    record {
      entry = h.entry;
      stands = h.stands;
      id_is = h.id_is;
      rank_is = h.rank_is ∙ sym rank;
      checksum_is = λ l. h.checksum_is (live l) ∙ sym (ap (λ (p : ℕ × ℕ). p.1) e);
      left = λ l. h.left (live l);
      summed = λ l. h.summed (live l);
    }

keys-later : (r t : Router) → SameRanks r t → (l : Level) (first last : ℕ) (entries : List SnpEntry) → TellsKeys r l first last entries → TellsKeys t l first last entries
keys-later r t k l first last entries h = record {
  lists = λ id a b some. lists-later entries id (cell_at (book_of r l) id) (cell_at (book_of t l) id) (k.same l id) (h.lists id a b (subst (λ (n : ℕ). 0 < n) (ap (λ (p : ℕ × ℕ). p.0) (k.same l id)) some));
  holds = λ e x. h.holds e x ∙ sym (ap (λ (p : ℕ × ℕ). p.0) (k.same l e.id));
}

told-later : (r t : Router) → SameRanks r t → (s : Sent) → IsTold r s → IsTold t s
told-later r t k (PointHello state extended names) h = tt
told-later r t k (LanHello l lan snpas) h = tt
told-later r t k (Lsp l id cell) h = tt
told-later r t k (Csnp l first last entries) h = keys-later r t k l first last entries h
told-later r t k (Psnp l entries) h = tt

acks-told : (t : Router) (c : Circuit) (l : Level) (h : Heard) (row : LspCase) → IsReplyTold t (acks c l h row)
acks-told t c l h lsp.AckPurge = choose (IsReplyTold t) c.lan Done (Send _) (λ _. tt) (λ _. (tt, tt))
acks-told t c l h lsp.Outbid = tt
acks-told t c l h lsp.PurgedOwn = tt
acks-told t c l h lsp.Confused = tt
acks-told t c l h lsp.Stored = tt
acks-told t c l h lsp.Same = tt
acks-told t c l h lsp.Older = tt

taken-told : (given : Given) (r t : Router) (place : ℕ) (c : Circuit) (m : Message) → IsReplyTold t (taken given r place c m).reply
taken-told given r t place c (Refused cause) = tt
taken-told given r t place c (PointHelloHeard h) = tt
taken-told given r t place c (LanHelloHeard l h) = tt
taken-told given r t place c (LspHeard l snpa h) = acks-told t c l h _
taken-told given r t place c (SnpHeard l snpa source range entries) = tt

take_or_drop-told : (given : Given) (r t : Router) (place : ℕ) (c : Circuit) (m : Message) (drop : Option DropName) → IsReplyTold t (take_or_drop given r place c m drop).reply
take_or_drop-told given r t place c m (Some cause) = tt
take_or_drop-told given r t place c m None = taken-told given r t place c m

take-told : (given : Given) (r t : Router) (place : ℕ) (m : Message) (c : Option Circuit) → IsReplyTold t (receiving.take given r place m c).reply
take-told given r t place m None = tt
take-told given r t place m (Some c) = take_or_drop-told given r t place c m (drop_of r place c m)

pub step-told : (given : Given) (r : Router) (event : Event) → IsSorted r → IsGoodRouter r → IsReplyTold (step given r event).router (step given r event).reply
unfolding step
step-told given r Second s g = tt
step-told given r (Take place m) s g = take-told given r (step given r (Take place m)).router place m (nth r.circuits place)
step-told given r (Pull place) s g =
    let p = pull-told r place s g in
    let t = (settled (sent_all (pull r place))).router in
    all-map (IsTold r) (IsTold t) (pull r place).out (told-later r t (record { same = λ l id. p.ranks.same l id })) p.told
step-told given r (Metric place metric) s g = tt
step-told given r (Overload on) s g = tt
step-told given r (Prefix prefix metric) s g = tt
