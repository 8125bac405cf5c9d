-- The prefix that has an address and is so long: there is one, with one number.

use Rattle.std.proofs.Common.{◌≡◌, ◌∙◌, ℕ, ◌+◌, ◌*◌, ◌-◌, ◌/◌, ◌%◌, ◌^◌, ◌≤◌, ◌<◌, List, get_or, sym, ap, subst, arith, inl, inr}
use Rattle.std.specs.List.{Contains}
use Rattle.std.proofs.Math.Nat.{div-add-mod, mul-div_cancel}
use Rattle.std.proofs.lemmas.Nat.{pow_pos}
use Rattle.std.proofs.lemmas.Bool.{cases_lt}
use Rattle.std.proofs.lemmas.List.Elements.{Contains-get_or}
use Rattle.isis_base.specs.declared.prefix.Prefix.{Prefix}
use Rattle.route_table.specs.declared.route.Route.{Route}
use Rattle.route_table.specs.Ranks.{prefix_number}
use Rattle.route_table.specs.Lookups.{Has, HasNone, IsLongest, cut_number}
use Rattle.route_table.specs.Putting.{IsFree, IsHeld}

-- a number of an address and a length says both
two-parts : (a b x y : ℕ) → x ≤ 32 → y ≤ 32 → a * 64 + x ≡ b * 64 + y → (a ≡ b) × (x ≡ y)
two-parts a b x y less few e = (omega arith, omega arith)

-- a prefix that has an address begins with it, without its last bits
pub begin_is : (p : Prefix) (a : ℕ) → Has p a → p.address ≡ a / 2 ^ (32 - p.length) * 2 ^ (32 - p.length)
begin_is p a has =
    let size = 2 ^ (32 - p.length) in
    let whole = div-add-mod p.address size in
    let clear : p.address % size ≡ 0 = p.clear in
    let same = ap (λ (q : ℕ). q * size) has in
    omega arith

-- so its number is this
pub number-of : (p : Prefix) (a rest : ℕ) → rest ≡ 32 - p.length → Has p a → prefix_number p ≡ cut_number a rest
number-of p a rest is has =
    let fits : p.length ≤ 32 = p.fits in
    let size = 2 ^ (32 - p.length) in
    let length_is : p.length ≡ 32 - (32 - p.length) = omega arith in
    subst (λ (r : ℕ). prefix_number p ≡ cut_number a r) (sym is)
    (ap (λ (q : ℕ). q * 64 + p.length) (begin_is p a has) ∙ ap (λ (n : ℕ). a / size * size * 64 + n) length_is)

-- and a prefix of that number has the address
pub has-of : (p : Prefix) (a rest : ℕ) → rest ≤ 32 → prefix_number p ≡ cut_number a rest → Has p a × (p.length + rest ≡ 32)
has-of p a rest le e =
    let fits : p.length ≤ 32 = p.fits in
    let parts = two-parts p.address (a / 2 ^ rest * 2 ^ rest) p.length (32 - rest) fits (omega arith) e in
    let is : rest ≡ 32 - p.length = omega (arith, parts.1) in
    let back : a / 2 ^ rest * 2 ^ rest / 2 ^ rest ≡ a / 2 ^ rest = mul-div_cancel (a / 2 ^ rest) (pow_pos rest) in
    let has : a / 2 ^ rest ≡ p.address / 2 ^ rest = sym (ap (λ (m : ℕ). m / 2 ^ rest) parts.0 ∙ back) in
    (subst (λ (r : ℕ). a / 2 ^ r ≡ p.address / 2 ^ r) is has, omega (arith, parts.1))

-- no prefix that has the address leaves fewer of its last bits open
abbrev pub LeaveAtLeast : List Route → ℕ → ℕ → Type 0
LeaveAtLeast routes address rest = (other : Route) → Contains routes other → Has other.prefix address → other.prefix.length + rest ≤ 32

pub leave-none : (routes : List Route) (address : ℕ) → LeaveAtLeast routes address 0
leave-none routes address other there has = let fits : other.prefix.length ≤ 32 = other.prefix.fits in omega arith

pub leave-more : (routes : List Route) (address rest : ℕ) → LeaveAtLeast routes address rest → IsFree routes (cut_number address rest) → LeaveAtLeast routes address (rest + 1)
leave-more routes address rest so_far free other there has =
    let fits = so_far other there has in
    elim (cases_lt (other.prefix.length + rest) 32) [
      | inl less ↦ omega arith
      | inr not-less ↦
          let number = number-of other.prefix address rest (omega arith) has in
          absurd (free there.0 other there.1 (ap (λ (r : Route). prefix_number r.prefix) there.2 ∙ number))
    ]

pub none-left : (routes : List Route) (address rest : ℕ) → 32 < rest → LeaveAtLeast routes address rest → HasNone routes address
none-left routes address rest past all other there has = let le = all other there has in absurd (omega arith)

pub longest-is : (routes : List Route) (address rest place : ℕ) → rest ≤ 32 → LeaveAtLeast routes address rest → IsHeld routes (cut_number address rest) place → (d : Route) → IsLongest routes address (get_or routes place d)
longest-is routes address rest place le all held d =
    let of = has-of (get_or routes place d).prefix address rest le (held.1 d) in
    record {
      listed = Contains-get_or routes place d held.0;
      has = of.0;
      longest = λ other there has. let within = all other there has in omega (arith, within, of.1);
    }
