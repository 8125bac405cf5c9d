-- What the octets of a prefix's text read as, one after another (own).
use Rattle.std.specs.Prelude.{ℕ, ◌+◌, ◌-◌, ◌*◌, ◌%◌, ◌^◌, ◌==◌, nat_lt, nat_le, Bool, false, ◌&&◌, ◌||◌, List, [], ◌∷◌, Option, Some, None, option_and_then, slice_set, if◌then◌else◌}
use Rattle.std.specs.Option.{option_map}
use Rattle.std.specs.Char.{is_ascii_digit}
use Rattle.std.specs.Int.{from_be_bytes, w32}
use Rattle.isis_base.specs.declared.prefix_text.Front.{Front}

-- the address of four octets, the first one the greatest
unfoldable pub address_of_octets : List ℕ → ℕ
address_of_octets octets = from_be_bytes w32 octets

-- whether the bits of an address past a length of at most 32 are 0
abbrev pub is_clear : ℕ → ℕ → Bool
is_clear address length = nat_le length 32 && address % 2 ^ (32 - length) == 0

-- the greatest length whose digits begin with those of a number, as 19 with 1
abbrev pub longest : ℕ → ℕ
longest number =
    if number == 1 then 19 else (if number == 2 then 29 else (if number == 3 then 32 else number))

-- a number with a digit more, below 256 and without leading zeros
abbrev pub with_digit : Option ℕ → ℕ → Option ℕ
with_digit None digit = Some digit
with_digit (Some number) digit =
    if nat_lt 0 number && nat_lt (10 * number + digit) 256 then Some (10 * number + digit) else None

-- whether a number may stand next: any octet, or the beginning of a length that the address has
abbrev pub may_stand : List ℕ → ℕ → ℕ → Bool
may_stand octets count number = nat_lt count 4 || is_clear (address_of_octets octets) (longest number)

-- the mark behind an octet
abbrev pub mark_behind : ℕ → ℕ
mark_behind count = if count == 3 then 47 else 46

-- the front whose next number is read so far
abbrev pub with_number : Front → ℕ → Front
with_number front number =
    record { octets = front.octets; count = front.count; number = Some number }

-- the front with an octet of the address more, and no number begun
abbrev pub with_octet : Front → ℕ → Front
with_octet front octet =
    record { octets = slice_set front.octets front.count octet; count = front.count + 1; number = None }

-- the front with a digit more, where a prefix's text goes on so
abbrev pub after_digit : Front → ℕ → Option Front
after_digit front digit = option_and_then
    (λ (number : ℕ). if may_stand front.octets front.count number
    then Some (with_number front number) else None)
    (with_digit front.number digit)

-- the front with a mark more
abbrev pub after_mark : Front → ℕ → Option Front
after_mark front mark = option_and_then
    (λ (number : ℕ). if nat_lt front.count 4 && mark == mark_behind front.count
    then Some (with_octet front number) else None)
    front.number

-- the front with an octet of the text more
abbrev pub after_byte : Front → ℕ → Option Front
after_byte front byte =
    if is_ascii_digit byte then after_digit front (byte - 48) else after_mark front byte

-- the front with all octets of a text more
unfoldable pub after_text : Front → List ℕ → Option Front
after_text front [] = Some front
after_text front (byte ∷ text) =
    option_and_then (λ (next : Front). after_text next text) (after_byte front byte)

-- whether a number is the length that ends a prefix's text
abbrev pub ends_text : List ℕ → ℕ → Option ℕ → Bool
ends_text octets count None = false
ends_text octets count (Some length) = nat_le 4 count && is_clear (address_of_octets octets) length

-- whether what is read is a prefix's whole text
abbrev pub ends_prefix : Front → Bool
ends_prefix front = ends_text front.octets front.count front.number

-- nothing is read
abbrev pub no_front : Front
no_front = record { octets = 0 ∷ 0 ∷ 0 ∷ 0 ∷ []; count = 0; number = None }

-- the address and the length of what is read, where it is a prefix's whole text
abbrev pub parts_of_front : Front → Option (ℕ × ℕ)
parts_of_front front =
    if ends_prefix front
    then option_map (λ (length : ℕ). (address_of_octets front.octets, length)) front.number else None

-- the address and the length of the prefix that a text spells; nothing where it spells none
abbrev pub prefix_parts : List ℕ → Option (ℕ × ℕ)
prefix_parts text =
    option_and_then (λ (front : Front). parts_of_front front) (after_text no_front text)
