-- What comes from another boot than the one that is kept.
use Rattle.std.proofs.Common.{◌≡◌, ◌≢◌, ℕ, ◌==◌, Bool, true, false, not, ◌&&◌, List, Option, Some, None, is_some, if◌then◌else◌, refl, sym, ap, ◌∙◌, arith}
use Rattle.std.proofs.lemmas.Bool.Decides.{nat_tests}
use Rattle.std.specs.Option.{option_map}
use Rattle.isis_base.specs.declared.level.Level.{Level}
use Rattle.model_router.specs.declared.drop_name.DropName.{DropName}
use Rattle.model_router.specs.declared.drop_name.DropName.TheVariants.{NoAdjacency}
use Rattle.model_router.specs.Places.{nth}
use Rattle.model_router.specs.Maps.{find}
use Rattle.model_router.specs.Sets.{has}
use Rattle.model_router.specs.Both.{at}
use Rattle.model_router.specs.Cells.{Heard}
use Rattle.model_router.specs.SnpTable.{SnpEntry}
use Rattle.model_router.specs.Adjacencies.{Neighbour}
use Rattle.model_router.specs.Routers.{Circuit, Router, book_of}
use Rattle.model_router.specs.Drops.{count_drop}
use Rattle.model_router.specs.Givens.{Given}
use Rattle.model_router.specs.Events.{Envelope, Message, LspHeard, SnpHeard, Take}
use Rattle.model_router.specs.Receiving as receiving
use Rattle.model_router.specs.Receiving.{up_system, kept_system, sender_of, is_from, drop_of, take_or_drop}
use Rattle.model_router.specs.Steps.{step}
use Rattle.model_router.specs.AdjacencyLaws.{is_point, tie_of, tie_at}
use Rattle.model_router.proofs.BookLemmas.{test}

boot_of : Option Neighbour → Option ℕ
boot_of o = option_map (λ (n : Neighbour). n.boot) o

no-system : (o : Option Neighbour) (boot : ℕ) → boot_of o ≢ Some boot → kept_system o boot ≡ None
unfolding boot_of
no-system None boot n = refl
no-system (Some x) boot n = test (λ t. (x.boot == boot) ≡ t → ◌≡◌ {A = Option ℕ} (if t then Some x.system else None) None) (x.boot == boot)
    (λ _ y. let same : x.boot ≡ boot = grind (arith, nat_tests, y) in absurd (n (ap (λ (k : ℕ). Some k) same))) (λ _ _. refl) refl

no-sender : (c : Circuit) (l : Level) (from : Envelope) → is_point (Some c) ≡ true → (tie_of (Some c)).boot ≢ Some from.boot → sender_of c l from ≡ None
unfolding boot_of
no-sender c l from p n = on-point c.lan refl
  where
    on-point : (t : Bool) → c.lan ≡ t → sender_of c l from ≡ None
    on-point true q = absurd (let k : not true ≡ true = sym (ap not q) ∙ p in cc)
    on-point false q = ap (λ (t : Bool). if t then up_system (find (at c.levels l).heard from.snpa) from.boot else kept_system c.point.neighbour from.boot) q ∙ no-system c.point.neighbour from.boot n

neither : (opened t : Bool) (rest : Option DropName) → t ≡ false → ◌≡◌ {A = Option DropName} (if not (opened && t) then Some NoAdjacency else rest) (Some NoAdjacency)
neither true t rest e = ap (λ (x : Bool). if not x then Some NoAdjacency else rest) e
neither false t rest e = refl

lsp-strange : (r : Router) (place : ℕ) (c : Circuit) (l : Level) (from : Envelope) (h : Heard) → sender_of c l from ≡ None → drop_of r place c (LspHeard l from h) ≡ Some NoAdjacency
lsp-strange r place c l from h e = neither (has (book_of r l).opened place) _ _ (ap (λ (o : Option ℕ). is_some o) e)

snp-strange : (r : Router) (place : ℕ) (c : Circuit) (l : Level) (from : Envelope) (source : ℕ) (range : Option (ℕ × ℕ)) (entries : List SnpEntry) → sender_of c l from ≡ None → drop_of r place c (SnpHeard l from source range entries) ≡ Some NoAdjacency
snp-strange r place c l from source range entries e = neither (has (book_of r l).opened place) _ _ (ap (λ (o : Option ℕ). is_from o source) e)

dropped : (given : Given) (r : Router) (place : ℕ) (c : Circuit) (m : Message) → drop_of r place c m ≡ Some NoAdjacency → (receiving.take given r place m (Some c)).router ≡ record r { drops = count_drop r.drops NoAdjacency }
dropped given r place c m e = ap (λ (o : Option DropName). (take_or_drop given r place c m o).router) e

take-lsp : (given : Given) (r : Router) (place : ℕ) (o : Option Circuit) (l : Level) (from : Envelope) (h : Heard) → is_point o ≡ true → (tie_of o).boot ≢ Some from.boot
    → (receiving.take given r place (LspHeard l from h) o).router ≡ record r { drops = count_drop r.drops NoAdjacency }
take-lsp given r place None l from h p n = absurd (cc)
take-lsp given r place (Some c) l from h p n = dropped given r place c (LspHeard l from h) (lsp-strange r place c l from h (no-sender c l from p n))

take-snp : (given : Given) (r : Router) (place : ℕ) (o : Option Circuit) (l : Level) (from : Envelope) (source : ℕ) (range : Option (ℕ × ℕ)) (entries : List SnpEntry) → is_point o ≡ true → (tie_of o).boot ≢ Some from.boot
    → (receiving.take given r place (SnpHeard l from source range entries) o).router ≡ record r { drops = count_drop r.drops NoAdjacency }
take-snp given r place None l from source range entries p n = absurd (cc)
take-snp given r place (Some c) l from source range entries p n = dropped given r place c (SnpHeard l from source range entries) (snp-strange r place c l from source range entries (no-sender c l from p n))

pub strange-lsp : (given : Given) (r : Router) (place : ℕ) (l : Level) (from : Envelope) (h : Heard) → is_point (nth r.circuits place) ≡ true → (tie_at r place).boot ≢ Some from.boot
    → (step given r (Take place (LspHeard l from h))).router ≡ record r { drops = count_drop r.drops NoAdjacency }
unfolding step
strange-lsp given r place l from h p n = take-lsp given r place (nth r.circuits place) l from h p n

pub strange-snp : (given : Given) (r : Router) (place : ℕ) (l : Level) (from : Envelope) (source : ℕ) (range : Option (ℕ × ℕ)) (entries : List SnpEntry) → is_point (nth r.circuits place) ≡ true → (tie_at r place).boot ≢ Some from.boot
    → (step given r (Take place (SnpHeard l from source range entries))).router ≡ record r { drops = count_drop r.drops NoAdjacency }
unfolding step
strange-snp given r place l from source range entries p n = take-snp given r place (nth r.circuits place) l from source range entries p n
