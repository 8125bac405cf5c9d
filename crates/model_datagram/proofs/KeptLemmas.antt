-- What is kept of an LSP that was read tells itself, and so does the purge that is made of it.
use Rattle.std.proofs.Common.{◌≡◌, ◌∙◌, ℕ, ◌+◌, ◌-◌, ◌*◌, ◌/◌, ◌%◌, ◌^◌, ◌<◌, ◌≤◌, List, [], ◌∷◌, ◌++◌, length, take, drop, get_or, cond, eqb, ltb, leb, not, ◌&&◌, ◌||◌, true, false, Option, Some, None, refl, sym, ap, subst, arith, length-take-le, subst₂, take-take}
use Rattle.std.proofs.Math.Seq.{take-append-add}
use Rattle.std.proofs.lemmas.Bool.{eq-eqb, leb-true, eqb-true, eqb-false, ne_eqb, not-true, and_parts}
use Rattle.isis_base.specs.declared.identifiers.LspId.{LspId}
use Rattle.isis_base.specs.declared.level.Level.{Level}
use Rattle.isis_base.specs.declared.pdu_kind.PduKind.TheVariants as kind
use Rattle.isis_pdu.specs.Views.{PduView, LanHello, PointHello, Lsp, Csnp, Psnp}
use Rattle.isis_pdu.specs.Layout.{length_at, value_at, body_at}
use Rattle.isis_pdu.specs.Reading.{Begins}
use Rattle.model_router.specs.Ranks.{is_live, is_purge}
use Rattle.model_router.specs.Cells.{Cell, Heard, header_of, kept, purged}
use Rattle.isis_base.specs.Fields.{u16_at, u32_at, lsp_at}
use Rattle.isis_base.specs.Identifiers.{lsp_number}
use Rattle.isis_base.specs.PduKinds.{kind_at}
use Rattle.isis_base.specs.declared.pdu_kind.PduKind.{PduKind}
use Rattle.iso_checksum.specs.Checksum.{checksum_holds}
use Rattle.isis_pdu.specs.declared.pdu.Pdu.{Pdu}
use Rattle.isis_pdu.specs.declared.pdu.Pdu.TheVariants as pdu
use Rattle.isis_pdu.specs.Table as table
use Rattle.isis_pdu.proofs.ReadLemmas.{later-fault, accepted}
use Rattle.model_router.specs.Both.{at}
use Rattle.model_router.specs.Waits.{no_waits}
use Rattle.model_router.specs.Configs.{Config}
use Rattle.model_router.specs.Routers.{Circuit}
use Rattle.model_router.specs.Events.{Envelope}
use Rattle.model_router.specs.Numbers.{u48_octets, lsp_id}
use Rattle.model_datagram.specs.Tests.{passes, tests_of, first_failing}
use Rattle.model_datagram.specs.Reading.{rank_read, message, read}
use Rattle.model_datagram.proofs.GoodLemmas.{Small, small-at, lsp-small, not-live, all-held, all-passed, start-passed, of-read}
use Rattle.model_datagram.specs.LspLaws.{TellsLive, IsLiveLsp, IsPurge, TellsKept}
use Rattle.model_datagram.proofs.ListLemmas.{of-leading}
use Rattle.model_datagram.proofs.ItemLemmas.{tlvs-none}

-- ---- a purge's header

-- a PDU's purge, where it is an LSP
emptied : PduView → PduView
emptied (LanHello level circuit_type source holding priority lan tlvs) = LanHello level circuit_type source holding priority lan tlvs
emptied (PointHello circuit_type source holding circuit tlvs) = PointHello circuit_type source holding circuit tlvs
emptied (Lsp level lifetime id number checksum flags tlvs) = Lsp level 0 id number 0 flags []
emptied (Csnp level source start end tlvs) = Csnp level source start end tlvs
emptied (Psnp level source tlvs) = Psnp level source tlvs

module _ (level : Level) (lifetime : ℕ) (id : LspId) (number checksum flags : ℕ) (tlvs : List ℕ) (n : ℕ) where
  abbrev lsp : PduView
  lsp = Lsp level lifetime id number checksum flags tlvs

  begins-header : (octets : List ℕ) → 27 ≤ length octets → Begins octets lsp n → Begins (header_of octets) (Lsp level 0 id number 0 flags []) 27
  unfolding header_of emptied
  begins-header = of-leading 27 (λ octets. Begins octets lsp n → Begins (header_of octets) (Lsp level 0 id number 0 flags []) 27)
      (λ a b c d e f g h j k l m o p q r s t u v w x y z aa bb cc' rest (reads, within). (
        record {
          discriminator = reads.discriminator;
          header = reads.header;
          version = reads.version;
          id_length = reads.id_length;
          kind = reads.kind;
          other_version = reads.other_version;
          areas = reads.areas;
          circuit_type = λ hello. cc;
          size = refl;
          least = omega arith;
          value = ap emptied reads.value;
          tlvs = tlvs-none;
        },
        omega arith,
      ))

header-length : (octets : List ℕ) → 27 ≤ length octets → length (header_of octets) ≡ 27
unfolding header_of
header-length = of-leading 27 (λ octets. length (header_of octets) ≡ 27)
    (λ a b c d e f g h j k l m o p q r s t u v w x y z aa bb cc' rest. refl)

pub purged-tells : (key : Option (List ℕ)) (level : Level) (id : ℕ) (cell : Cell) → IsLiveLsp key level id cell → IsPurge level id (purged cell)
purged-tells key level id cell is =
    let tells = is.tells in
    let begins = tells.begins in
    let parts = and_parts (ltb 0 cell.rank) (eqb (cell.rank % 2) 0) is.live in
    let some = leb-true 1 cell.rank parts.0 in
    let even = eqb-true (cell.rank % 2) 0 parts.1 in
    let same : cell.rank / 2 ≡ (2 * (cell.rank / 2) + 1) / 2 = omega arith in
    record {
      eight = is.eight;
      purge = eq-eqb ((2 * (cell.rank / 2) + 1) % 2) 1 (omega arith);
      some = omega arith;
      summed = refl;
      begins =
          subst (λ (number : ℕ). Begins (header_of cell.octets) (Lsp level 0 (lsp_id id) number 0 cell.flags []) 27) same
          (begins-header level tells.lifetime (lsp_id id) (cell.rank / 2) cell.checksum cell.flags tells.tlvs (length cell.octets) cell.octets begins.0.least begins);
      alone = header-length cell.octets begins.0.least;
    }

-- ---- LSP IDs that are read

id-reads_back : (a b c d e f p t : ℕ) → a < 256 → b < 256 → c < 256 → d < 256 → e < 256 → f < 256 → p < 256 → t < 256 → lsp_id (lsp_number (record { node = record { system = record { 0 = a ∷ b ∷ c ∷ d ∷ e ∷ f ∷ [] }; pseudonode = p }; number = t })) ≡ record { node = record { system = record { 0 = a ∷ b ∷ c ∷ d ∷ e ∷ f ∷ [] }; pseudonode = p }; number = t }
unfolding lsp_number
id-reads_back a b c d e f p t sa sb sc sd se sf sp st =
    let id : LspId = record { node = record { system = record { 0 = a ∷ b ∷ c ∷ d ∷ e ∷ f ∷ [] }; pseudonode = p }; number = t } in
    let n = lsp_number id in
    let s = 4294967296 * (256 * a + b) + (256 * (256 * (256 * c + d) + e) + f) in
    let whole : n ≡ 256 * (256 * s + p) + t = omega arith in
    let node : n / 256 ≡ 256 * s + p = omega (arith, whole) in
    let low : n % 256 ≡ t = omega (arith, whole) in
    let top : n / 256 / 256 ≡ s = omega (arith, node) in
    let mid : n / 256 % 256 ≡ p = omega (arith, node) in
    let high : s / 4294967296 ≡ 256 * a + b = omega arith in
    let of_a : s / 4294967296 / 256 % 256 ≡ a = omega (arith, high) in
    let of_b : s / 4294967296 % 256 ≡ b = omega (arith, high) in
    let of_c : s / 16777216 % 256 ≡ c = omega arith in
    let of_d : s / 65536 % 256 ≡ d = omega arith in
    let of_e : s / 256 % 256 ≡ e = omega arith in
    let of_f : s % 256 ≡ f = omega arith in
    let six : u48_octets s ≡ a ∷ b ∷ c ∷ d ∷ e ∷ f ∷ [] = (λ i. of_a i ∷ of_b i ∷ of_c i ∷ of_d i ∷ of_e i ∷ of_f i ∷ []) in
    let first : lsp_id n ≡ record { node = record { system = record { 0 = u48_octets s }; pseudonode = p }; number = t } =
    (λ i. record { node = record { system = record { 0 = u48_octets (top i) }; pseudonode = mid i }; number = low i }) in
    first ∙ (λ i. record { node = record { system = record { 0 = six i }; pseudonode = p }; number = t })

read-id : (octets : List ℕ) → 27 ≤ length octets → Small octets → lsp_id (lsp_number (lsp_at 12 octets)) ≡ lsp_at 12 octets
read-id = of-leading 27 (λ octets. Small octets → lsp_id (lsp_number (lsp_at 12 octets)) ≡ lsp_at 12 octets)
    (λ a b c d e f g h j k l m o p q r s t u v w x y z aa bb cc' rest small.
    let xs : List ℕ = a ∷ b ∷ c ∷ d ∷ e ∷ f ∷ g ∷ h ∷ j ∷ k ∷ l ∷ m ∷ o ∷ p ∷ q ∷ r ∷ s ∷ t ∷ u ∷ v ∷ w ∷ x ∷ y ∷ z ∷ aa ∷ bb ∷ cc' ∷ rest in
    id-reads_back o p q r s t u v (small-at xs 12 small) (small-at xs 13 small) (small-at xs 14 small) (small-at xs 15 small) (small-at xs 16 small) (small-at xs 17 small) (small-at xs 18 small) (small-at xs 19 small))

-- ---- the octets of a PDU that was read, and no more

abbrev rebodied : List ℕ → PduView → PduView
rebodied body (LanHello level circuit_type source holding priority lan tlvs) = LanHello level circuit_type source holding priority lan tlvs
rebodied body (PointHello circuit_type source holding circuit tlvs) = PointHello circuit_type source holding circuit tlvs
rebodied body (Lsp level lifetime id number checksum flags tlvs) = Lsp level lifetime id number checksum flags body
rebodied body (Csnp level source start end tlvs) = Csnp level source start end tlvs
rebodied body (Psnp level source tlvs) = Psnp level source tlvs

module _ (level : Level) (lifetime : ℕ) (id : LspId) (number checksum flags : ℕ) (tlvs : List ℕ) (n : ℕ) where
  cut : (octets : List ℕ) → 27 ≤ length octets → Begins octets (Lsp level lifetime id number checksum flags tlvs) n → Begins (take n octets) (Lsp level lifetime id number checksum flags tlvs) n
  cut = of-leading 27 (λ octets. Begins octets (Lsp level lifetime id number checksum flags tlvs) n → Begins (take n octets) (Lsp level lifetime id number checksum flags tlvs) n)
      (λ a b c d e f g h j k l m o p q r s t u v w x y z aa bb cc' rest (reads, within).
      let front : List ℕ = a ∷ b ∷ c ∷ d ∷ e ∷ f ∷ g ∷ h ∷ j ∷ k ∷ l ∷ m ∷ o ∷ p ∷ q ∷ r ∷ s ∷ t ∷ u ∷ v ∷ w ∷ x ∷ y ∷ z ∷ aa ∷ bb ∷ cc' ∷ [] in
      let xs = front ++ rest in
      let least : 27 ≤ n = reads.least in
      let split : n ≡ 27 + (n - 27) = omega arith in
      let size = length-take-le (n - 27) rest (omega arith) in
      let same : take n xs ≡ front ++ take (n - 27) rest = ap (λ (it : ℕ). take it xs) split ∙ take-append-add front rest (n - 27) in
      subst (λ (ys : List ℕ). Begins ys (Lsp level lifetime id number checksum flags tlvs) n) (sym same) (
        record {
          discriminator = reads.discriminator;
          header = reads.header;
          version = reads.version;
          id_length = reads.id_length;
          kind = reads.kind;
          other_version = reads.other_version;
          areas = reads.areas;
          circuit_type = reads.circuit_type;
          size = reads.size;
          least = reads.least;
          value =
              ap (λ (body : List ℕ). rebodied body (value_at (kind.Lsp level) xs (body_at (kind.Lsp level) xs n))) (take-take (n - 27) (n - 27) rest (omega arith))
              ∙ reads.value;
          tlvs = reads.tlvs;
        },
        omega arith,
      ))

-- octets without a fault begin with what their fields say
begins-from : (octets : List ℕ) (level : Level) → table.first_fault octets ≡ None → kind_at octets ≡ Some (kind.Lsp level) → Begins octets (value_at (kind.Lsp level) octets (body_at (kind.Lsp level) octets (length_at (kind.Lsp level) octets))) (length_at (kind.Lsp level) octets)
begins-from octets level none known =
    let its = kind.Lsp level in
    let n = length_at its octets in
    let start = start-passed octets (table.first_failing (table.start_tests octets)) refl none in
    let rest = later-fault octets its known start in
    let tests = all-passed (table.kind_tests its octets) (sym rest ∙ none) in
    let parts = and_parts (leb 27 n) (leb n (length octets)) tests.1.1.1.0 in
    let within = leb-true n (length octets) parts.1 in
    let value : Pdu = pdu.Lsp level (u16_at 10 octets) (lsp_at 12 octets) (u32_at 20 octets) (u16_at 24 octets) (get_or octets 26 0) (record { ref_ptr = (0, 0); now = body_at its octets n }) in
    (accepted octets its value n known start (sym none ∙ rest) refl within refl (value_at its octets (body_at its octets n)) n).0 refl

-- ---- what is kept

kept-live : (h : Heard) → is_purge h.rank ≡ false → kept h ≡ record { rank = h.rank; checksum = h.checksum; flags = h.flags; left = h.left; octets = h.octets; srm = 0; ssn = 0; waits = no_waits }
kept-live h live = (λ i. record {
  rank = h.rank;
  checksum = cond (live i) 0 h.checksum;
  flags = h.flags;
  left = cond (live i) 60 h.left;
  octets = cond (live i) (header_of h.octets) h.octets;
  srm = 0;
  ssn = 0;
  waits = no_waits;
})

kept-purge : (h : Heard) → is_purge h.rank ≡ true → kept h ≡ record { rank = h.rank; checksum = 0; flags = h.flags; left = 60; octets = header_of h.octets; srm = 0; ssn = 0; waits = no_waits }
kept-purge h dead = (λ i. record {
  rank = h.rank;
  checksum = cond (dead i) 0 h.checksum;
  flags = h.flags;
  left = cond (dead i) 60 h.left;
  octets = cond (dead i) (header_of h.octets) h.octets;
  srm = 0;
  ssn = 0;
  waits = no_waits;
})

module _ (key : Option (List ℕ)) (level : Level) (id number checksum flags lifetime : ℕ) (octets tlvs : List ℕ) (small : id < 2 ^ 64) (begins : Begins octets (Lsp level lifetime (lsp_id id) number checksum flags tlvs) (length octets)) (short : length octets ≤ 1492) (auth : passes key octets 27 ≡ true) (some : number ≡ 0 → ⊥) where
  abbrev heard : ℕ → Heard
  heard rank = record { id = id; rank = rank; checksum = checksum; flags = flags; left = lifetime; octets = octets }

  -- of a rank that is as the lifetime says, where that is 0 and where it isn't
  purge-kept : IsPurge level id (kept (heard (2 * number + 1)))
  purge-kept =
      let same : number ≡ (2 * number + 1) / 2 = omega arith in
      let dead : is_purge (2 * number + 1) ≡ true = eq-eqb ((2 * number + 1) % 2) 1 (omega arith) in
      subst (IsPurge level id) (sym (kept-purge (heard (2 * number + 1)) dead)) (record {
        eight = small;
        purge = dead;
        some = omega arith;
        summed = refl;
        begins =
            subst (λ (it : ℕ). Begins (header_of octets) (Lsp level 0 (lsp_id id) it 0 flags []) 27) same
            (begins-header level lifetime (lsp_id id) number checksum flags tlvs (length octets) octets begins.0.least begins);
        alone = header-length octets begins.0.least;
      })

  live-kept : (lifetime ≡ 0 → ⊥) → (not (eqb checksum 0) && checksum_holds (drop 12 octets)) ≡ true → TellsLive key level id (kept (heard (2 * number)))
  live-kept lives summed =
      let same : number ≡ 2 * number / 2 = omega arith in
      let parts = and_parts (not (eqb checksum 0)) (checksum_holds (drop 12 octets)) summed in
      let sum : checksum ≡ 0 → ⊥ = eqb-false checksum 0 (not-true (eqb checksum 0) parts.0) in
      subst (TellsLive key level id) (sym (kept-live (heard (2 * number)) (ne_eqb (2 * number % 2) 1 (λ e. omega arith)))) (record {
        lifetime = lifetime;
        tlvs = tlvs;
        begins = subst (λ (it : ℕ). Begins octets (Lsp level lifetime (lsp_id id) it checksum flags tlvs) (length octets)) same begins;
        lives = omega arith;
        short = short;
        some = omega arith;
        summed = parts.1;
        authentic = auth;
      })

  both-kept : (eqb lifetime 0 || (not (eqb checksum 0) && checksum_holds (drop 12 octets))) ≡ true → (is_live (rank_read number lifetime) ≡ true → TellsLive key level id (kept (heard (rank_read number lifetime)))) × (is_purge (rank_read number lifetime) ≡ true → IsPurge level id (kept (heard (rank_read number lifetime))))
  both-kept summed =
      elim (eqb lifetime 0) as (λ t. eqb lifetime 0 ≡ t → (t || (not (eqb checksum 0) && checksum_holds (drop 12 octets))) ≡ true → (is_live (cond t (2 * number + 1) (2 * number)) ≡ true → TellsLive key level id (kept (heard (cond t (2 * number + 1) (2 * number))))) × (is_purge (cond t (2 * number + 1) (2 * number)) ≡ true → IsPurge level id (kept (heard (cond t (2 * number + 1) (2 * number)))))) [
        | true ↦ λ dead sums. ((λ live. absurd (not-live number live)), (λ purge. purge-kept))
        | false ↦ λ lives sums. ((λ live. live-kept (eqb-false lifetime 0 lives) sums), (λ purge. let odd = eqb-true (2 * number % 2) 1 purge in absurd (omega arith)))
      ] refl summed

kept-value : (by : Config) (on : Circuit) (from : Envelope) (octets : List ℕ) (kind : PduKind) → Small octets → table.first_fault octets ≡ None → kind_at octets ≡ Some kind → first_failing (tests_of by on (value_at kind octets (body_at kind octets (length_at kind octets))) (take (length_at kind octets) octets)) ≡ None → TellsKept by (message by.system from (value_at kind octets (body_at kind octets (length_at kind octets))) (take (length_at kind octets) octets))
kept-value by on from octets (kind.LanHello level) small faultless known none = tt
kept-value by on from octets kind.PointHello small faultless known none = tt
kept-value by on from octets (kind.Lsp level) small faultless known none =
    let its = kind.Lsp level in
    let n = length_at its octets in
    let whole = take n octets in
    let body = body_at its octets n in
    let tests = all-held (tests_of by on (value_at its octets body) whole) none in
    let begins = begins-from octets level faultless known in
    let least : 27 ≤ n = begins.0.least in
    let within = begins.1 in
    let size : length whole ≡ n = length-take-le n octets within in
    let id = lsp_number (lsp_at 12 octets) in
    let same = read-id octets (omega arith) small in
    let its_octets = cut level (u16_at 10 octets) (lsp_at 12 octets) (u32_at 20 octets) (u16_at 24 octets) (get_or octets 26 0) body n octets (omega arith) begins in
    let named : Begins whole (Lsp level (u16_at 10 octets) (lsp_id id) (u32_at 20 octets) (u16_at 24 octets) (get_or octets 26 0) body) (length whole) =
    subst₂ (λ (it : LspId) (m : ℕ). Begins whole (Lsp level (u16_at 10 octets) it (u32_at 20 octets) (u16_at 24 octets) (get_or octets 26 0) body) m) (sym same) (sym size) its_octets in
    both-kept (at by.keys level) level id (u32_at 20 octets) (u16_at 24 octets) (get_or octets 26 0) (u16_at 10 octets) whole body (lsp-small 12 octets small) named (leb-true (length whole) 1492 tests.0) tests.1.1.1.0 (eqb-false (u32_at 20 octets) 0 (not-true (eqb (u32_at 20 octets) 0) tests.1.1.1.1.1.0)) tests.1.1.1.1.1.1.0
kept-value by on from octets (kind.Csnp level) small faultless known none = tt
kept-value by on from octets (kind.Psnp level) small faultless known none = tt

pub kept-tells : (by : Config) (on : Circuit) (datagram : List ℕ) → Small datagram → TellsKept by (read by on datagram)
kept-tells by on = of-read (TellsKept by) (λ cause. tt) by on (kept-value by on)
