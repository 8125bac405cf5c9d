-- What TLVs say, one TLV at a time.
use Rattle.std.proofs.Common.{◌≡◌, ◌∙◌, ℕ, ◌+◌, ◌*◌, ◌≤◌, ◌<◌, zero, suc, true, false, eq-eqb, length-append, mul-add, add-mul, List, [], ◌∷◌, ◌++◌, length, take, drop, map, cond, eqb, Bool, None, Result, Ok, refl, sym, ap, arith, length-drop, take-append-drop}
use Rattle.std.specs.List.{flat_map, AllByRecursion}
use Rattle.std.specs.Result.{ok_prefix}
use Rattle.isis_tlv.specs.declared.fault.ValueFault.{ValueFault}
use Rattle.isis_tlv.specs.Walks.{fault_of}
use Rattle.isis_tlv.specs.Tlvs.{TlvView, tlv_octets, tlv_list, AreTlvs}
use Rattle.isis_tlv.proofs.TlvLemmas.{tlvs-end, tlvs-tlv, tlvs-header, tlvs-past, tlvs-joined, tlvs-one, by-tlvs}
use Rattle.model_datagram.specs.Values.{items_if, items_in}
use Rattle.model_datagram.specs.Tlvs.{in_pieces}

module _ {X : Type 0} (code : ℕ) (reader : List ℕ → List (Result X ValueFault)) where
  abbrev pub says : ℕ → List ℕ → List (Result X ValueFault)
  says place octets = flat_map (items_if code reader) (tlv_list place octets)

  abbrev pub said_by : ℕ → List ℕ → List (Result X ValueFault)
  said_by c value = cond (eqb c code) (reader value) []

  says-end : (place : ℕ) → says place [] ≡ []
  says-end place = ap (λ (items : List (Result TlvView _)). flat_map (items_if code reader) (ok_prefix items)) (tlvs-end place)

  says-header : (place c : ℕ) → says place (c ∷ []) ≡ []
  says-header place c = ap (λ (items : List (Result TlvView _)). flat_map (items_if code reader) (ok_prefix items)) (tlvs-header place c)

  says-past : (place c count : ℕ) (octets : List ℕ) → length octets < count → says place (c ∷ count ∷ octets) ≡ []
  says-past place c count octets h = ap (λ (items : List (Result TlvView _)). flat_map (items_if code reader) (ok_prefix items)) (tlvs-past place c count octets h)

  says-tlv : (place c : ℕ) (value rest : List ℕ) → says place (tlv_octets c value ++ rest) ≡ said_by c value ++ says (place + 2 + length value) rest
  says-tlv place c value rest = ap (λ (items : List (Result TlvView _)). flat_map (items_if code reader) (ok_prefix items)) (tlvs-tlv place c value rest)

  -- a place makes no difference
  says-anywhere : (octets : List ℕ) (p q : ℕ) → says p octets ≡ says q octets
  says-anywhere = by-tlvs (λ octets. (p q : ℕ) → says p octets ≡ says q octets)
      (λ p q. says-end p ∙ sym (says-end q))
      (λ c p q. says-header p c ∙ sym (says-header q c))
      (λ c count octets long p q. says-past p c count octets long ∙ sym (says-past q c count octets long))
      (λ c value rest on p q.
      says-tlv p c value rest
      ∙ ap (λ (items : List (Result X ValueFault)). said_by c value ++ items) (on (p + 2 + length value) (q + 2 + length value))
      ∙ sym (says-tlv q c value rest))

  pub items-end : items_in code reader [] ≡ []
  unfolding items_in
  items-end = says-end 0

  pub items-tlv : (c : ℕ) (value rest : List ℕ) → items_in code reader (tlv_octets c value ++ rest) ≡ said_by c value ++ items_in code reader rest
  unfolding items_in
  items-tlv c value rest =
      says-tlv 0 c value rest
      ∙ ap (λ (items : List (Result X ValueFault)). said_by c value ++ items) (says-anywhere rest (0 + 2 + length value) 0)

-- ---- items that are read without a fault

abbrev pub fine : {X : Type 0} → List X → List (Result X ValueFault)
fine items = map (λ item. Ok item) items

pub fine-fault : {X : Type 0} (items : List X) → fault_of (fine items) ≡ None
fine-fault [] = refl
fine-fault (item ∷ items) = fine-fault items

pub fine-items : {X : Type 0} (items : List X) → ok_prefix (fine items) ≡ items
fine-items [] = refl
fine-items (item ∷ items) = ap (λ rest. item ∷ rest) (fine-items items)

fine-append : {X : Type 0} (one two : List X) → fine one ++ fine two ≡ fine (one ++ two)
fine-append [] two = refl
fine-append (item ∷ one) two = ap (λ rest. Ok item ∷ rest) (fine-append one two)

map-append : {A B : Type 0} (f : A → B) (one two : List A) → map f one ++ map f two ≡ map f (one ++ two)
map-append f [] two = refl
map-append f (x ∷ one) two = ap (λ rest. f x ∷ rest) (map-append f one two)

pub all-take : {A : Type 0} (P : A → Type 0) (n : ℕ) (list : List A) → AllByRecursion P list → AllByRecursion P (take n list)
all-take P zero list all = tt
all-take P (suc n) [] all = tt
all-take P (suc n) (x ∷ list) all = (all.0, all-take P n list all.1)

pub all-drop : {A : Type 0} (P : A → Type 0) (n : ℕ) (list : List A) → AllByRecursion P list → AllByRecursion P (drop n list)
all-drop P zero list all = all
all-drop P (suc n) [] all = tt
all-drop P (suc n) (x ∷ list) all = all-drop P n list all.1

eqb-same : (n : ℕ) → eqb n n ≡ true
eqb-same n = eq-eqb n n refl

pub tlvs-none : AreTlvs []
tlvs-none = ap fault_of (tlvs-end 0)

-- ---- items in pieces, a TLV to a piece

module _ {A X : Type 0} (code size : ℕ) (reader : List ℕ → List (Result X ValueFault)) (item : A → X) (value : List X → List ℕ) (Is : A → Type 0) (again : (list : List A) → AllByRecursion Is list → reader (value (map item list)) ≡ fine (map item list)) where
  abbrev pub tlv_of : List A → List ℕ
  tlv_of piece = tlv_octets code (value (map item piece))

  abbrev pub pieces_of : ℕ → List A → List ℕ
  pieces_of count list = flat_map tlv_of (in_pieces count (suc size) list)

  pub pieces-items : (count : ℕ) (list : List A) → length list ≤ count → AllByRecursion Is list → items_in code reader (pieces_of count list) ≡ fine (map item list)
  pieces-items zero [] h all = items-end code reader
  pieces-items zero (x ∷ list) h all = absurd (omega arith)
  pieces-items (suc count) [] h all = items-end code reader
  pieces-items (suc count) (x ∷ list) h all =
      let piece = take (suc size) (x ∷ list) in
      let rest = drop (suc size) (x ∷ list) in
      let short = length-drop size list in
      items-tlv code reader code (value (map item piece)) (pieces_of count rest)
      ∙ ap (λ (t : Bool). cond t (reader (value (map item piece))) [] ++ items_in code reader (pieces_of count rest)) (eqb-same code)
      ∙ ap (λ (items : List (Result X ValueFault)). items ++ items_in code reader (pieces_of count rest)) (again piece (all-take Is (suc size) (x ∷ list) all))
      ∙ ap (λ (items : List (Result X ValueFault)). fine (map item piece) ++ items) (pieces-items count rest (omega arith) (all-drop Is (suc size) (x ∷ list) all))
      ∙ fine-append (map item piece) (map item rest)
      ∙ ap fine (map-append item piece rest ∙ ap (map item) (take-append-drop (suc size) (x ∷ list)))

  -- TLVs of one code say nothing of another
  pub pieces-others : {Y : Type 0} (other : ℕ) (read : List ℕ → List (Result Y ValueFault)) → eqb code other ≡ false → (count : ℕ) (list : List A) → items_in other read (pieces_of count list) ≡ []
  pieces-others other read differs zero list = items-end other read
  pieces-others other read differs (suc count) [] = items-end other read
  pieces-others other read differs (suc count) (x ∷ list) =
      let piece = take (suc size) (x ∷ list) in
      let rest = drop (suc size) (x ∷ list) in
      items-tlv other read code (value (map item piece)) (pieces_of count rest)
      ∙ ap (λ (t : Bool). cond t (read (value (map item piece))) [] ++ items_in other read (pieces_of count rest)) differs
      ∙ pieces-others other read differs count rest

  pub pieces-tlvs : (count : ℕ) (list : List A) → AreTlvs (pieces_of count list)
  pieces-tlvs zero list = tlvs-none
  pieces-tlvs (suc count) [] = tlvs-none
  pieces-tlvs (suc count) (x ∷ list) =
      let piece = take (suc size) (x ∷ list) in
      let rest = drop (suc size) (x ∷ list) in
      tlvs-joined (tlv_of piece) (pieces_of count rest) (tlvs-one code (value (map item piece))) (pieces-tlvs count rest)

  -- how many octets they have, where an item has so many
  pub pieces-length : (each : ℕ) → ((list : List A) → length (value (map item list)) ≡ each * length list) → (count : ℕ) (list : List A) → length (pieces_of count list) ≤ (each + 2) * length list
  pieces-length each sized zero list = omega arith
  pieces-length each sized (suc count) [] = omega arith
  pieces-length each sized (suc count) (x ∷ list) =
      let piece = take (suc size) (x ∷ list) in
      let rest = drop (suc size) (x ∷ list) in
      let one = sized piece in
      let later = pieces-length each sized count rest in
      let all = length-append (value (map item piece)) (pieces_of count rest) in
      let whole : length (piece ++ rest) ≡ suc (length list) = ap length (take-append-drop (suc size) (x ∷ list)) in
      let both = length-append piece rest in
      let some : length piece ≡ suc (length (take size list)) = refl in
      let e : (each + 2) * suc (length list) ≡ (each + 2) * length piece + (each + 2) * length rest = ap (λ (n : ℕ). (each + 2) * n) (sym whole ∙ both) ∙ mul-add (each + 2) (length piece) (length rest) in
      let f : (each + 2) * length piece ≡ each * length piece + 2 * length piece = add-mul each 2 (length piece) in
      omega arith
