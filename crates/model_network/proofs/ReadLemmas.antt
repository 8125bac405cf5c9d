-- What a receiver reads is what was said.
use Rattle.std.proofs.Common.{◌≡◌, ℕ, ◌≤◌, ◌==◌, max, ◌&&◌, inl, inr, List, [], ◌∷◌, Option, Some, None, if◌then◌else◌, refl, sym, ap, ◌∙◌, subst, arith, zero-le}
use Rattle.std.proofs.lemmas.Bool.Decides.{nat_tests}
use Rattle.std.specs.List.{AllByRecursion}
use Rattle.isis_base.specs.declared.level.Level.{Level}
use Rattle.isis_base.specs.declared.level.Level.TheVariants as level
use Rattle.model_router.specs.Both.{is_level}
use Rattle.model_router.specs.SnpTable.{SnpEntry}
use Rattle.model_router.specs.Books.{rank_at}
use Rattle.model_router.specs.Adjacencies.{Handshake, Hello}
use Rattle.model_router.specs.Routers.{Circuit, Router, book_of}
use Rattle.model_router.specs.Datagrams.{Sent, PointHello, LanHello, Lsp, Csnp, Psnp}
use Rattle.model_router.specs.declared.drop_name.DropName.{DropName}
use Rattle.model_router.specs.declared.drop_name.DropName.TheVariants as drop
use Rattle.model_router.specs.Cells.{Heard}
use Rattle.model_router.specs.Events.{Envelope, Message, Refused, PointHelloHeard, LanHelloHeard, LspHeard, SnpHeard}
use Rattle.model_router.specs.Hearings.{greatest, says}
use Rattle.model_router.specs.Flooding.{KeepsBoth, IsKept}
use Rattle.model_router.specs.ReplyLaws.{HasRank, IsHeld}
use Rattle.model_router.proofs.BookLemmas.{choose}
use Rattle.model_router.proofs.SentLemmas.{held-later}
use Rattle.model_router.proofs.ListLemmas.{all-map}
use Rattle.model_datagram.specs.Said.{said, envelope}
use Rattle.model_network.specs.Networks.{Datagram, octets_of}
use Rattle.model_network.specs.Runs.{read_on}
use Rattle.model_network.specs.Speakers.{IsReading, IsLegible, NotLan}

-- a message is what a datagram says, or says nothing
pub record Reads (d : Datagram) (m : Message) : Type 0 where
  pub greets : (h : Hello) (s : Handshake) → m ≡ PointHelloHeard h → h.handshake ≡ Some s → (d.says ≡ PointHello s.state s.extended s.names) × (h.source ≡ d.config.system) × (h.boot ≡ d.boot)
  pub lan : (l : Level) (h : Hello) → m ≡ LanHelloHeard l h → NotLan d.says → ⊥
  pub lsp : (l : Level) (from : Envelope) (h : Heard) → m ≡ LspHeard l from h → from.boot ≡ d.boot
  pub snp : (l : Level) (from : Envelope) (source : ℕ) (range : Option (ℕ × ℕ)) (entries : List SnpEntry) → m ≡ SnpHeard l from source range entries → from.boot ≡ d.boot
  pub within : (r : Router) (level : Level) (id : ℕ) → IsHeld r d.says → IsKept r level id → says m level id ≤ rank_at (book_of r level) id

has-kept : (r : Router) (l : Level) (id rank : ℕ) → HasRank r l id rank → IsKept r l id → rank ≤ rank_at (book_of r l) id
has-kept r l id rank (inl h) k = h
has-kept r l id rank (inr g) k = absurd (cc)

lsp-within : (r : Router) (l m : Level) (x rank id : ℕ) → HasRank r l x rank → IsKept r m id → (if is_level l m && x == id then rank else 0) ≤ rank_at (book_of r m) id
lsp-within r level.One level.Two x rank id h k = zero-le
lsp-within r level.Two level.One x rank id h k = zero-le
lsp-within r level.One level.One x rank id h k = choose (λ n. n ≤ rank_at (book_of r level.One) id) (x == id) rank 0 (λ e. let same : x ≡ id = grind (arith, nat_tests) in has-kept r level.One id rank (subst (λ n. HasRank r level.One n rank) same h) k) (λ _. zero-le)
lsp-within r level.Two level.Two x rank id h k = choose (λ n. n ≤ rank_at (book_of r level.Two) id) (x == id) rank 0 (λ e. let same : x ≡ id = grind (arith, nat_tests) in has-kept r level.Two id rank (subst (λ n. HasRank r level.Two n rank) same h) k) (λ _. zero-le)

max-least : (a b c : ℕ) → a ≤ c → b ≤ c → max a b ≤ c
max-least a b c h k = omega (arith, h, k)

greatest-within : (r : Router) (l : Level) (id : ℕ) (entries : List SnpEntry) → AllByRecursion (λ (h : SnpEntry). HasRank r l h.id h.rank) entries → IsKept r l id → greatest entries id ≤ rank_at (book_of r l) id
greatest-within r l id [] a k = zero-le
greatest-within r l id (h ∷ entries) a k = max-least _ _ _
    (choose (λ n. n ≤ rank_at (book_of r l) id) (h.id == id) h.rank 0 (λ e. let same : h.id ≡ id = grind (arith, nat_tests) in has-kept r l id h.rank (subst (λ n. HasRank r l n h.rank) same a.0) k) (λ _. zero-le))
    (greatest-within r l id entries a.1 k)

snp-within : (r : Router) (l m : Level) (id : ℕ) (entries : List SnpEntry) → AllByRecursion (λ (h : SnpEntry). HasRank r l h.id h.rank) entries → IsKept r m id → (if is_level l m then greatest entries id else 0) ≤ rank_at (book_of r m) id
snp-within r level.One level.Two id entries a k = zero-le
snp-within r level.Two level.One id entries a k = zero-le
snp-within r level.One level.One id entries a k = greatest-within r level.One id entries a k
snp-within r level.Two level.Two id entries a k = greatest-within r level.Two id entries a k

same-hello : (g h : Hello) → PointHelloHeard g ≡ PointHelloHeard h → g ≡ h
same-hello g h e = cc

same-shake : (a b : Handshake) → ◌≡◌ {A = Option Handshake} (Some a) (Some b) → a ≡ b
same-shake a b e = cc

said-hello : (d : Datagram) (g h : Hello) (shake s : Handshake) → g.handshake ≡ Some shake → g.source ≡ d.config.system → g.boot ≡ d.boot → d.says ≡ PointHello shake.state shake.extended shake.names → PointHelloHeard g ≡ PointHelloHeard h → h.handshake ≡ Some s → (d.says ≡ PointHello s.state s.extended s.names) × (h.source ≡ d.config.system) × (h.boot ≡ d.boot)
said-hello d g h shake s a source boot e q k =
    let same = same-hello g h q in
    let one = same-shake shake s (sym a ∙ ap (λ (x : Hello). x.handshake) same ∙ k) in
    (e ∙ ap (λ (x : Handshake). PointHello x.state x.extended x.names) one, ap (λ (x : Hello). x.source) (sym same) ∙ source, ap (λ (x : Hello). x.boot) (sym same) ∙ boot)

same-lsp : (l m : Level) (x y : Envelope) (g h : Heard) → LspHeard l x g ≡ LspHeard m y h → x ≡ y
same-lsp l m x y g h e = cc

same-snp : (l m : Level) (x y : Envelope) (a b : ℕ) (u v : Option (ℕ × ℕ)) (es fs : List SnpEntry) → SnpHeard l x a u es ≡ SnpHeard m y b v fs → x ≡ y
same-snp l m x y a b u v es fs e = cc

lsp-boot : (m : Level) (x : Envelope) (g : Heard) (boot : ℕ) → x.boot ≡ boot → (l : Level) (from : Envelope) (h : Heard) → LspHeard m x g ≡ LspHeard l from h → from.boot ≡ boot
lsp-boot m x g boot e l from h q = ap (λ (y : Envelope). y.boot) (sym (same-lsp m l x from g h q)) ∙ e

snp-boot : (m : Level) (x : Envelope) (a : ℕ) (u : Option (ℕ × ℕ)) (es : List SnpEntry) (boot : ℕ) → x.boot ≡ boot → (l : Level) (from : Envelope) (source : ℕ) (range : Option (ℕ × ℕ)) (entries : List SnpEntry) → SnpHeard m x a u es ≡ SnpHeard l from source range entries → from.boot ≡ boot
snp-boot m x a u es boot e l from source range entries q = ap (λ (y : Envelope). y.boot) (sym (same-snp m l x from a source u range es entries q)) ∙ e

reads-said : (own : ℕ) (d : Datagram) (s : Sent) → d.says ≡ s → Reads d (said own d.config d.boot d.place d.circuit s)
reads-said own d (PointHello state extended names) e = record {
  greets = λ h s q k. said-hello d _ h (record { state = state; extended = extended; names = names }) s refl refl refl e q k;
  lan = λ l h q. absurd (cc);
  lsp = λ l from h q. absurd (cc);
  snp = λ l from source range entries q. absurd (cc);
  within = λ t l id held kept. zero-le;
}
reads-said own d (LanHello l lan snpas) e = record {
  greets = λ h s q k. absurd (cc);
  lan = λ m h q n. subst NotLan e n;
  lsp = λ l from h q. absurd (cc);
  snp = λ l from source range entries q. absurd (cc);
  within = λ t l id held kept. zero-le;
}
reads-said own d (Lsp l x cell) e = record {
  greets = λ h s q k. absurd (cc);
  lan = λ m h q. absurd (cc);
  lsp = lsp-boot l (envelope d.config d.boot) _ d.boot refl;
  snp = λ m from source range entries q. absurd (cc);
  within = λ t m id held kept. lsp-within t l m x cell.rank id (subst (IsHeld t) e held) kept;
}
reads-said own d (Csnp l start end entries) e = record {
  greets = λ h s q k. absurd (cc);
  lan = λ m h q. absurd (cc);
  lsp = λ m from h q. absurd (cc);
  snp = snp-boot l (envelope d.config d.boot) d.config.system (Some (start, end)) entries d.boot refl;
  within = λ t m id held kept. snp-within t l m id entries (subst (IsHeld t) e held) kept;
}
reads-said own d (Psnp l entries) e = record {
  greets = λ h s q k. absurd (cc);
  lan = λ m h q. absurd (cc);
  lsp = λ m from h q. absurd (cc);
  snp = snp-boot l (envelope d.config d.boot) d.config.system None entries d.boot refl;
  within = λ t m id held kept. snp-within t l m id entries (subst (IsHeld t) e held) kept;
}

reads-refused : (d : Datagram) (cause : DropName) → Reads d (Refused cause)
reads-refused d cause = record {
  greets = λ h s q k. absurd (cc);
  lan = λ m h q. absurd (cc);
  lsp = λ m from h q. absurd (cc);
  snp = λ m from source range entries q. absurd (cc);
  within = λ t l id held kept. zero-le;
}

reads-by : (own : ℕ) (d : Datagram) (m : Message) → IsReading m (said own d.config d.boot d.place d.circuit d.says) → Reads d m
reads-by own d m (inl refused) = subst (Reads d) (sym refused.1) (reads-refused d refused.0)
reads-by own d m (inr same) = subst (Reads d) (sym same) (reads-said own d d.says refl)

-- what is read of a legible datagram on a circuit, where that is there
pub reads : (r : Router) (c : Option Circuit) (d : Datagram) → IsLegible d → Reads d (read_on r c (octets_of d))
reads r None d legible = reads-refused d drop.WrongKind
reads r (Some c) d legible = reads-by r.config.system d _ (legible r.config c)

-- ---- what is held stays so

pub said-later : (heard : Level → ℕ → ℕ → ℕ) (r t : Router) → KeepsBoth heard r t → (s : Sent) → IsHeld r s → IsHeld t s
said-later heard r t k (PointHello state extended names) h = tt
said-later heard r t k (LanHello l lan snpas) h = tt
said-later heard r t k (Lsp l id cell) h = held-later heard r t k l id cell.rank h
said-later heard r t k (Csnp l start end entries) h = all-map (λ (x : SnpEntry). HasRank r l x.id x.rank) (λ (x : SnpEntry). HasRank t l x.id x.rank) entries (λ x a. held-later heard r t k l x.id x.rank a) h
said-later heard r t k (Psnp l entries) h = all-map (λ (x : SnpEntry). HasRank r l x.id x.rank) (λ (x : SnpEntry). HasRank t l x.id x.rank) entries (λ x a. held-later heard r t k l x.id x.rank a) h
