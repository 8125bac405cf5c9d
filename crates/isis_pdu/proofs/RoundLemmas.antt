-- What is written of a PDU reads as that PDU.
use Rattle.std.proofs.Common.{◌≡◌, ◌∙◌, ℕ, ◌+◌, ◌-◌, ◌*◌, ◌/◌, ◌%◌, ◌<◌, ◌≤◌, List, [], ◌∷◌, ◌++◌, length, take, inl, refl, ap, arith, length-append}
use Rattle.std.proofs.lemmas.List.{take_at}
use Rattle.isis_base.specs.declared.identifiers.LspId.{LspId}
use Rattle.isis_base.specs.declared.level.Level.{Level}
use Rattle.isis_base.specs.declared.level.Level.TheVariants as level
use Rattle.isis_base.specs.declared.level.LevelSet.{LevelSet}
use Rattle.isis_base.specs.declared.level.LevelSet.TheVariants as levels
use Rattle.isis_tlv.specs.Tlvs.{AreTlvs}
use Rattle.isis_base.specs.declared.pdu_kind.PduKind.{PduKind}
use Rattle.isis_base.specs.declared.pdu_kind.PduKind.TheVariants as kind
use Rattle.isis_pdu.specs.Views.{PduView, LanHello, PointHello, Lsp, Csnp, Psnp}
use Rattle.isis_base.specs.PduKinds.{type_number}
use Rattle.isis_pdu.specs.Layout.{circuit_levels}
use Rattle.isis_pdu.specs.Spelling.{encoded_len, levels_octet, octets_of_pdu, IsWritable}
use Rattle.isis_pdu.specs.Reading.{ReadsAs, Begins}

of-six : (P : List ℕ → Type 0) → ((a b c d e f : ℕ) → P (a ∷ b ∷ c ∷ d ∷ e ∷ f ∷ [])) → (xs : List ℕ) → length xs ≡ 6 → P xs
of-six P p [] h = absurd (omega arith)
of-six P p (a ∷ []) h = absurd (omega arith)
of-six P p (a ∷ b ∷ []) h = absurd (omega arith)
of-six P p (a ∷ b ∷ c ∷ []) h = absurd (omega arith)
of-six P p (a ∷ b ∷ c ∷ d ∷ []) h = absurd (omega arith)
of-six P p (a ∷ b ∷ c ∷ d ∷ e ∷ []) h = absurd (omega arith)
of-six P p (a ∷ b ∷ c ∷ d ∷ e ∷ f ∷ []) h = p a b c d e f
of-six P p (a ∷ b ∷ c ∷ d ∷ e ∷ f ∷ g ∷ xs) h = absurd (omega arith)

two-reads_back : (n : ℕ) → n < 65536 → 256 * (n / 256 % 256) + n % 256 ≡ n
two-reads_back n h = omega arith

four-reads_back : (n : ℕ) → n < 4294967296 → 256 * (256 * (256 * (n / 16777216 % 256) + n / 65536 % 256) + n / 256 % 256) + n % 256 ≡ n
four-reads_back n h = omega arith

levels-reads_back : (set : LevelSet) → circuit_levels (levels_octet set) ≡ set
levels-reads_back levels.One = refl
levels-reads_back levels.Two = refl
levels-reads_back levels.Both = refl

levels-not_zero : (set : LevelSet) → levels_octet set % 4 ≡ 0 → ⊥
levels-not_zero levels.One e = cc
levels-not_zero levels.Two e = cc
levels-not_zero levels.Both e = cc

type-small : (kind : PduKind) → type_number kind % 32 ≡ type_number kind
type-small (kind.LanHello level.One) = refl
type-small (kind.LanHello level.Two) = refl
type-small kind.PointHello = refl
type-small (kind.Lsp level.One) = refl
type-small (kind.Lsp level.Two) = refl
type-small (kind.Csnp level.One) = refl
type-small (kind.Csnp level.Two) = refl
type-small (kind.Psnp level.One) = refl
type-small (kind.Psnp level.Two) = refl

-- the octets from a header's end to the PDU length are the TLVs that stand there
body-reads_back : (header : ℕ) (tlvs more : List ℕ) → take (header + length tlvs - header) (tlvs ++ more) ≡ tlvs
body-reads_back header tlvs more =
    let count : header + length tlvs - header ≡ length tlvs = omega arith in
    ap (λ (n : ℕ). take n (tlvs ++ more)) count ∙ take_at tlvs more (length tlvs) refl

abbrev IsReadBack : PduView → List ℕ → Type 0
IsReadBack pdu more = ReadsAs (octets_of_pdu pdu ++ more) pdu (encoded_len pdu)

lan-reads_back : (level : Level) (set : LevelSet) (holding priority pseudonode : ℕ) (tlvs more s t : List ℕ) → holding < 65536 → priority ≤ 127 → 27 + length tlvs < 65536 → AreTlvs tlvs → length s ≡ 6 → length t ≡ 6 → IsReadBack (LanHello level set (record { 0 = s }) holding priority (record { system = record { 0 = t }; pseudonode = pseudonode }) tlvs) more
lan-reads_back level set holding priority pseudonode tlvs more s t small seven fits are six_s six_t =
    of-six (λ s. IsReadBack (LanHello level set (record { 0 = s }) holding priority (record { system = record { 0 = t }; pseudonode = pseudonode }) tlvs) more)
    (λ a b c d e f. of-six (λ t. IsReadBack (LanHello level set (record { 0 = a ∷ b ∷ c ∷ d ∷ e ∷ f ∷ [] }) holding priority (record { system = record { 0 = t }; pseudonode = pseudonode }) tlvs) more)
    (λ g h j k l m.
    let holds = two-reads_back holding small in
    let low : priority % 128 ≡ priority = omega arith in
    let body = body-reads_back 27 tlvs more in
    record {
      discriminator = refl;
      header = refl;
      version = refl;
      id_length = inl refl;
      kind = type-small (kind.LanHello level);
      other_version = refl;
      areas = inl refl;
      circuit_type = λ hello. levels-not_zero set;
      size = two-reads_back (27 + length tlvs) fits;
      least = omega arith;
      value = (λ i. LanHello level (levels-reads_back set i) (record { 0 = a ∷ b ∷ c ∷ d ∷ e ∷ f ∷ [] }) (holds i) (low i) (record { system = record { 0 = g ∷ h ∷ j ∷ k ∷ l ∷ m ∷ [] }; pseudonode = pseudonode }) (body i));
      tlvs = are;
    }) t six_t) s six_s

point-reads_back : (set : LevelSet) (holding circuit : ℕ) (tlvs more s : List ℕ) → holding < 65536 → 20 + length tlvs < 65536 → AreTlvs tlvs → length s ≡ 6 → IsReadBack (PointHello set (record { 0 = s }) holding circuit tlvs) more
point-reads_back set holding circuit tlvs more s small fits are six_s =
    of-six (λ s. IsReadBack (PointHello set (record { 0 = s }) holding circuit tlvs) more)
    (λ a b c d e f.
    let holds = two-reads_back holding small in
    let body = body-reads_back 20 tlvs more in
    record {
      discriminator = refl;
      header = refl;
      version = refl;
      id_length = inl refl;
      kind = refl;
      other_version = refl;
      areas = inl refl;
      circuit_type = λ hello. levels-not_zero set;
      size = two-reads_back (20 + length tlvs) fits;
      least = omega arith;
      value = (λ i. PointHello (levels-reads_back set i) (record { 0 = a ∷ b ∷ c ∷ d ∷ e ∷ f ∷ [] }) (holds i) circuit (body i));
      tlvs = are;
    }) s six_s

abbrev id_of : List ℕ → ℕ → ℕ → LspId
id_of s pseudonode number = record { node = record { system = record { 0 = s }; pseudonode = pseudonode }; number = number }

lsp-reads_back : (level : Level) (lifetime pseudonode fragment number checksum flags : ℕ) (tlvs more s : List ℕ) → lifetime < 65536 → number < 4294967296 → checksum < 65536 → 27 + length tlvs < 65536 → AreTlvs tlvs → length s ≡ 6 → IsReadBack (Lsp level lifetime (id_of s pseudonode fragment) number checksum flags tlvs) more
lsp-reads_back level lifetime pseudonode fragment number checksum flags tlvs more s small_l small_n small_c fits are six_s =
    of-six (λ s. IsReadBack (Lsp level lifetime (id_of s pseudonode fragment) number checksum flags tlvs) more)
    (λ a b c d e f.
    let lives = two-reads_back lifetime small_l in
    let counts = four-reads_back number small_n in
    let sums = two-reads_back checksum small_c in
    let body = body-reads_back 27 tlvs more in
    record {
      discriminator = refl;
      header = refl;
      version = refl;
      id_length = inl refl;
      kind = type-small (kind.Lsp level);
      other_version = refl;
      areas = inl refl;
      circuit_type = λ hello. cc;
      size = two-reads_back (27 + length tlvs) fits;
      least = omega arith;
      value = (λ i. Lsp level (lives i) (id_of (a ∷ b ∷ c ∷ d ∷ e ∷ f ∷ []) pseudonode fragment) (counts i) (sums i) flags (body i));
      tlvs = are;
    }) s six_s

csnp-reads_back : (level : Level) (source start end : ℕ) (first last : ℕ) (tlvs more s t u : List ℕ) → 33 + length tlvs < 65536 → AreTlvs tlvs → length s ≡ 6 → length t ≡ 6 → length u ≡ 6 → IsReadBack (Csnp level (record { system = record { 0 = s }; pseudonode = source }) (id_of t start first) (id_of u end last) tlvs) more
csnp-reads_back level source start end first last tlvs more s t u fits are six_s six_t six_u =
    of-six (λ s. IsReadBack (Csnp level (record { system = record { 0 = s }; pseudonode = source }) (id_of t start first) (id_of u end last) tlvs) more)
    (λ a b c d e f. of-six (λ t. IsReadBack (Csnp level (record { system = record { 0 = a ∷ b ∷ c ∷ d ∷ e ∷ f ∷ [] }; pseudonode = source }) (id_of t start first) (id_of u end last) tlvs) more)
    (λ g h j k l m. of-six (λ u. IsReadBack (Csnp level (record { system = record { 0 = a ∷ b ∷ c ∷ d ∷ e ∷ f ∷ [] }; pseudonode = source }) (id_of (g ∷ h ∷ j ∷ k ∷ l ∷ m ∷ []) start first) (id_of u end last) tlvs) more)
    (λ n o p q r v.
    let body = body-reads_back 33 tlvs more in
    record {
      discriminator = refl;
      header = refl;
      version = refl;
      id_length = inl refl;
      kind = type-small (kind.Csnp level);
      other_version = refl;
      areas = inl refl;
      circuit_type = λ hello. cc;
      size = two-reads_back (33 + length tlvs) fits;
      least = omega arith;
      value = (λ i. Csnp level (record { system = record { 0 = a ∷ b ∷ c ∷ d ∷ e ∷ f ∷ [] }; pseudonode = source }) (id_of (g ∷ h ∷ j ∷ k ∷ l ∷ m ∷ []) start first) (id_of (n ∷ o ∷ p ∷ q ∷ r ∷ v ∷ []) end last) (body i));
      tlvs = are;
    }) u six_u) t six_t) s six_s

psnp-reads_back : (level : Level) (pseudonode : ℕ) (tlvs more s : List ℕ) → 17 + length tlvs < 65536 → AreTlvs tlvs → length s ≡ 6 → IsReadBack (Psnp level (record { system = record { 0 = s }; pseudonode = pseudonode }) tlvs) more
psnp-reads_back level pseudonode tlvs more s fits are six_s =
    of-six (λ s. IsReadBack (Psnp level (record { system = record { 0 = s }; pseudonode = pseudonode }) tlvs) more)
    (λ a b c d e f.
    let body = body-reads_back 17 tlvs more in
    record {
      discriminator = refl;
      header = refl;
      version = refl;
      id_length = inl refl;
      kind = type-small (kind.Psnp level);
      other_version = refl;
      areas = inl refl;
      circuit_type = λ hello. cc;
      size = two-reads_back (17 + length tlvs) fits;
      least = omega arith;
      value = (λ i. Psnp level (record { system = record { 0 = a ∷ b ∷ c ∷ d ∷ e ∷ f ∷ [] }; pseudonode = pseudonode }) (body i));
      tlvs = are;
    }) s six_s

reads-reads_back : (pdu : PduView) (more : List ℕ) → IsWritable pdu → ReadsAs (octets_of_pdu pdu ++ more) pdu (encoded_len pdu)
reads-reads_back (LanHello level circuit_type source holding priority lan tlvs) more is =
    let fits : 27 + length tlvs ≤ 65535 = is.fits in
    lan-reads_back level circuit_type holding priority lan.pseudonode tlvs more source.0 lan.system.0 is.fields.1 is.fields.2 (omega arith) is.tlvs is.fields.0 is.fields.3
reads-reads_back (PointHello circuit_type source holding circuit tlvs) more is =
    let fits : 20 + length tlvs ≤ 65535 = is.fits in
    point-reads_back circuit_type holding circuit tlvs more source.0 is.fields.1 (omega arith) is.tlvs is.fields.0
reads-reads_back (Lsp level lifetime id number checksum flags tlvs) more is =
    let fits : 27 + length tlvs ≤ 65535 = is.fits in
    lsp-reads_back level lifetime id.node.pseudonode id.number number checksum flags tlvs more id.node.system.0 is.fields.0 is.fields.2 is.fields.3 (omega arith) is.tlvs is.fields.1
reads-reads_back (Csnp level source start end tlvs) more is =
    let fits : 33 + length tlvs ≤ 65535 = is.fits in
    csnp-reads_back level source.pseudonode start.node.pseudonode end.node.pseudonode start.number end.number tlvs more source.system.0 start.node.system.0 end.node.system.0 (omega arith) is.tlvs is.fields.0 is.fields.1 is.fields.2
reads-reads_back (Psnp level source tlvs) more is =
    let fits : 17 + length tlvs ≤ 65535 = is.fits in
    psnp-reads_back level source.pseudonode tlvs more source.system.0 (omega arith) is.tlvs is.fields

pub length-spelled : (pdu : PduView) → IsWritable pdu → length (octets_of_pdu pdu) ≡ encoded_len pdu
length-spelled (LanHello level circuit_type source holding priority lan tlvs) is = let s = is.fields.0 in let t = is.fields.3 in simp length-append (omega arith)
length-spelled (PointHello circuit_type source holding circuit tlvs) is = let s = is.fields.0 in simp length-append (omega arith)
length-spelled (Lsp level lifetime id number checksum flags tlvs) is = let s = is.fields.1 in simp length-append (omega arith)
length-spelled (Csnp level source start end tlvs) is = let s = is.fields.0 in let t = is.fields.1 in let u = is.fields.2 in simp length-append (omega arith)
length-spelled (Psnp level source tlvs) is = let s = is.fields in simp length-append (omega arith)

pub begins-reads_back : (pdu : PduView) (more : List ℕ) → IsWritable pdu → Begins (octets_of_pdu pdu ++ more) pdu (encoded_len pdu)
begins-reads_back pdu more is =
    let size = length-spelled pdu is in
    let all = length-append (octets_of_pdu pdu) more in
    (reads-reads_back pdu more is, omega arith)
