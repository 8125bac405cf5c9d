-- A mark stays.
use Rattle.std.proofs.Common.{◌≡◌, ◌⊎◌, inl, inr, ℕ, Bool, true, false, nat_lt, if◌then◌else◌, List, [], ◌∷◌, ◌++◌, length, Some, refl, ap, sym, ◌∙◌}
use mathlib.Core.List.{IsPrefix}
use Rattle.model_router.specs.Routers.{Router}
use Rattle.circuit_threads.specs.declared.entry.Note.{Note}
use Rattle.circuit_threads.specs.declared.entry.Note.TheVariants.{Nothing, Made, Marked}
use Rattle.circuit_threads.specs.History.{Replay, opening, replay, next, made, unless_stopped}
use Rattle.turn_lock.specs.Views.{longer}
use Rattle.circuit_serve.specs.Joined.{KeepsStop}

stays : (p : Replay) (ns : List Note) (n : ℕ) → p.stop ≡ Some n → (replay p ns).stop ≡ Some n
stays p [] n is = is
stays p (Nothing ∷ ns) n is = stays p ns n is
stays p (Made e ∷ ns) n is = let same : next p (Made e) ≡ p = ap (λ s. unless_stopped s p (made p e Rattle.std.specs.Prelude.None)) is in
    stays (next p (Made e)) ns n (ap (λ (z : Replay). z.stop) same ∙ is)
stays p (Marked e ∷ ns) n is = let same : next p (Marked e) ≡ p = ap (λ s. unless_stopped s p (made p e (Some (Rattle.std.specs.Prelude.◌+◌ (Rattle.std.specs.Prelude.length p.lines) 1)))) is in
    stays (next p (Marked e)) ns n (ap (λ (z : Replay). z.stop) same ∙ is)

replay_more : (p : Replay) (ns ms : List Note) → replay p (ns ++ ms) ≡ replay (replay p ns) ms
replay_more p [] ms = refl
replay_more p (n ∷ ns) ms = replay_more (next p n) ns ms

pub keeps_stop : (start : Router) (before now : List Note) → IsPrefix before now → KeepsStop start before now
keeps_stop start before now begins n is =
    ap (λ ns. (replay (opening start) ns).stop) (sym begins.1)
    ∙ (ap (λ (z : Replay). z.stop) (replay_more (opening start) before begins.0) ∙ stays (replay (opening start) before) begins.0 n is)

-- the longer of two lists is one of them
pub either_longer : {N : Type 0} (xs ys : List N) → (longer xs ys ≡ xs) ⊎ (longer xs ys ≡ ys)
either_longer xs ys = by (nat_lt (length xs) (length ys))
  where
    by : (b : Bool) → ((if b then ys else xs) ≡ xs) ⊎ ((if b then ys else xs) ≡ ys)
    by true = inr refl
    by false = inl refl
