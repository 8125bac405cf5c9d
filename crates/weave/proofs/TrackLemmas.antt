-- Tracks with more behind them.
use Rattle.std.proofs.Common.{◌≡◌, ℕ, true, false, List, [], ◌∷◌, ◌++◌, length, refl, sym, ap, ◌∙◌, subst}
use Rattle.std.proofs.lemmas.List.{append_assoc}
use Rattle.model_network.specs.declared.end.End.{End}
use Rattle.weave_core.specs.declared.moves.Move.{Move as CoreMove}
use Rattle.weave_core.specs.Codes.{code_of}
use Rattle.weave_model.specs.Entries.{Entry}
use Rattle.weave_model.specs.Weavings.{Move, Does, Restarts, entries_before, behind_restart, track_of}
use Rattle.weave_model.specs.Coding.{IsMoveCode, AreCodes, IsQuiet}
use Rattle.weave.specs.Coded.{ArePorts, AreCoded, AreAdded, has_some}

before-append : (es : List Entry) (xs ys : List Move) → entries_before es (xs ++ ys) ≡ entries_before es xs ++ ys
before-append [] xs ys = refl
before-append (e ∷ es) xs ys = ap (λ (ms : List Move). Does e ∷ ms) (before-append es xs ys)

pub before-more : (es : List Entry) (e : Entry) → entries_before (es ++ e ∷ []) [] ≡ entries_before es [] ++ Does e ∷ []
before-more [] e = refl
before-more (x ∷ es) e = ap (λ (ms : List Move). Does x ∷ ms) (before-more es e)

restart-more : (j : List Entry) (ks : List (List Entry)) (es : List Entry) → behind_restart j (ks ++ es ∷ []) ≡ behind_restart j ks ++ (Restarts ∷ entries_before es [])
restart-more j [] es = before-append j [] (Restarts ∷ entries_before es [])
restart-more j (k ∷ ks) es =
    ap (λ (ms : List Move). entries_before j (Restarts ∷ ms)) (restart-more k ks es)
    ∙ before-append j (Restarts ∷ behind_restart k ks) (Restarts ∷ entries_before es [])

-- a journal more, behind others
pub track-more : (js : List (List Entry)) (es : List Entry) → has_some js ≡ true → track_of (js ++ es ∷ []) ≡ track_of js ++ (Restarts ∷ entries_before es [])
track-more [] es e = absurd (cc)
track-more (j ∷ js) es e = restart-more j js es

pub track-first : (js : List (List Entry)) (es : List Entry) → has_some js ≡ false → track_of (js ++ es ∷ []) ≡ entries_before es []
track-first [] es e = refl
track-first (j ∷ js) es e = absurd (cc)

pub track-none : (js : List (List Entry)) → has_some js ≡ false → track_of js ≡ []
track-none [] e = refl
track-none (j ∷ js) e = absurd (cc)

pub has-more : (js : List (List Entry)) (es : List Entry) → has_some (js ++ es ∷ []) ≡ true
has-more [] es = refl
has-more (j ∷ js) es = refl

-- ---- moves by letters

pub codes-more : (code : ℕ → List ℕ → ℕ) (count : ℕ) (links : List (List End)) (router : ℕ) (xs : List Move) (ms : List CoreMove) (x : Move) (m : CoreMove) → AreCodes code count links router xs ms → IsMoveCode code count links router x m → AreCodes code count links router (xs ++ x ∷ []) (ms ++ m ∷ [])
codes-more code count links router [] [] x m a b = (b, tt)
codes-more code count links router [] (n ∷ ms) x m a b = absurd a
codes-more code count links router (y ∷ xs) [] x m a b = absurd a
codes-more code count links router (y ∷ xs) (n ∷ ms) x m a b = (a.0, codes-more code count links router xs ms x m a.1 b)

-- an entry more
pub added-more : (wires : List (ℕ × List ℕ)) (ports : List ℕ) (es : List Entry) (e : Entry) (old new : List CoreMove) (m : CoreMove) → AreAdded wires ports es old new → ((links : List (List End)) (router : ℕ) → ArePorts links router ports → IsMoveCode (code_of wires) (length wires) links router (Does e) m) → AreAdded wires ports (es ++ e ∷ []) old (new ++ m ∷ [])
added-more wires ports es e old new m all one links router before are codes =
    subst (λ (xs : List Move). AreCodes (code_of wires) (length wires) links router xs (new ++ m ∷ []))
    (append_assoc before (entries_before es []) (Does e ∷ []) ∙ ap (λ (xs : List Move). before ++ xs) (sym (before-more es e)))
    (codes-more (code_of wires) (length wires) links router (before ++ entries_before es []) new (Does e) m (all links router before are codes) (one links router are))

-- a journal more
pub coded-first : (wires : List (ℕ × List ℕ)) (ports : List ℕ) (router : ℕ) (js : List (List Entry)) (es : List Entry) (old new : List CoreMove) → has_some js ≡ false → AreAdded wires ports es old new → AreCoded wires ports router js old → AreCoded wires ports router (js ++ es ∷ []) new
coded-first wires ports router js es old new none added coded links are =
    subst (λ (xs : List Move). AreCodes (code_of wires) (length wires) links router xs new) (sym (track-first js es none))
    (added links router [] are (subst (λ (xs : List Move). AreCodes (code_of wires) (length wires) links router xs old) (track-none js none) (coded links are)))

pub coded-more : (wires : List (ℕ × List ℕ)) (ports : List ℕ) (router : ℕ) (js : List (List Entry)) (es : List Entry) (old new : List CoreMove) (quiet : CoreMove) → has_some js ≡ true → IsQuiet quiet → AreAdded wires ports es (old ++ quiet ∷ []) new → AreCoded wires ports router js old → AreCoded wires ports router (js ++ es ∷ []) new
coded-more wires ports router js es old new quiet some still added coded links are =
    subst (λ (xs : List Move). AreCodes (code_of wires) (length wires) links router xs new)
    (append_assoc (track_of js) (Restarts ∷ []) (entries_before es []) ∙ sym (track-more js es some))
    (added links router (track_of js ++ Restarts ∷ []) are
    (codes-more (code_of wires) (length wires) links router (track_of js) old Restarts quiet (coded links are) still))
