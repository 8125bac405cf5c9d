-- What is kept of a letter's sendings tells the first that fits.
use Rattle.std.proofs.Common.{◌≡◌, ℕ, ◌+◌, ◌==◌, ◌&&◌, not, Bool, true, false, List, [], ◌∷◌, ◌++◌, length, get_or, set, ◌<◌, ◌≢◌, ◌⊎◌, inl, inr, Option, Some, None, if◌then◌else◌, refl, sym, ap, ◌∙◌, subst, arith}
use Rattle.std.proofs.lemmas.Bool.Decides.{nat_tests, eqb_tells}
use Rattle.std.proofs.lemmas.List.{get_or-set_other, get_or-set_same, get_or_default, length-append}
use Rattle.weave_core.specs.declared.moves.Sent.{Sent}
use Rattle.weave_core.specs.declared.posts.Post.{Post}
use Rattle.weave_core.specs.declared.posts.Post.TheVariants as post
use Rattle.weave_core.specs.Fits.{first_fit, taking, turn_of}
use Rattle.weave_core.specs.Posts.{with_sending, pick, post_after, post_of, AreKept}

-- the first, or else the second
abbrev else_of : Option ℕ → Option ℕ → Option ℕ
else_of None b = b
else_of (Some a) b = Some a

else-none : (a : Option ℕ) → else_of a None ≡ a
else-none None = refl
else-none (Some a) = refl

else-else : (a b c : Option ℕ) → else_of (else_of a b) c ≡ else_of a (else_of b c)
else-else None b c = refl
else-else (Some a) b c = refl

pick-with : (party : ℕ) (kept : Post) (n sender : ℕ) → pick party (with_sending kept n sender) ≡ else_of (pick party kept) (if sender == party then None else Some n)
pick-with party post.Nobody n sender = refl
pick-with party (post.One first by) n sender = grind (arith, nat_tests)
pick-with party (post.Two first by other) n sender = grind (arith, nat_tests)

pub pick-after : (party letter count : ℕ) (kept : Post) (sent : List Sent) → pick party (post_after letter count kept sent) ≡ else_of (pick party kept) (first_fit party letter count sent)
pick-after party letter count kept [] = sym (else-none (pick party kept))
pick-after party letter count kept (s ∷ sent) =
    pick-after party letter (count + 1) (if s.letter == letter then with_sending kept (count + 1) s.sender else kept) sent
    ∙ by (s.letter == letter)
  where
    own : (mine : Bool) → else_of (if mine then None else Some (count + 1)) (first_fit party letter (count + 1) sent) ≡ (if not mine then Some (count + 1) else first_fit party letter (count + 1) sent)
    own true = refl
    own false = refl

    by : (same : Bool) → else_of (pick party (if same then with_sending kept (count + 1) s.sender else kept)) (first_fit party letter (count + 1) sent) ≡ else_of (pick party kept) (if same && not (s.sender == party) then Some (count + 1) else first_fit party letter (count + 1) sent)
    by false = refl
    by true =
        ap (λ (o : Option ℕ). else_of o (first_fit party letter (count + 1) sent)) (pick-with party kept (count + 1) s.sender)
        ∙ else-else (pick party kept) (if s.sender == party then None else Some (count + 1)) (first_fit party letter (count + 1) sent)
        ∙ ap (else_of (pick party kept)) (own (s.sender == party))

pub pick-post : (party letter : ℕ) (sent : List Sent) → pick party (post_of letter sent) ≡ first_fit party letter 0 sent
pick-post party letter sent = pick-after party letter 0 post.Nobody sent

pub post-append : (letter count : ℕ) (kept : Post) (sent : List Sent) (s : Sent) → post_after letter count kept (sent ++ s ∷ []) ≡ (if s.letter == letter then with_sending (post_after letter count kept sent) (count + length sent + 1) s.sender else post_after letter count kept sent)
post-append letter count kept [] s = ap (λ (n : ℕ). if s.letter == letter then with_sending kept n s.sender else kept) (omega arith)
post-append letter count kept (x ∷ sent) s =
    let next = if x.letter == letter then with_sending kept (count + 1) x.sender else kept in
    post-append letter (count + 1) next sent s
    ∙ ap (λ (n : ℕ). if s.letter == letter then with_sending (post_after letter (count + 1) next sent) n s.sender else post_after letter (count + 1) next sent) (omega arith)

pub turn-found : (posts : List Post) (sent : List Sent) (party letter : ℕ) (needs : Option ℕ) → AreKept posts sent → needs ≡ Some letter → turn_of party needs sent ≡ taking party (pick party (get_or posts letter post.Nobody))
turn-found posts sent party letter needs k e =
    ap (λ (n : Option ℕ). turn_of party n sent) e
    ∙ ap (taking party) (sym (pick-post party letter sent))
    ∙ ap (λ (p : Post). taking party (pick party p)) (sym (k.kept letter))

kept-one : (posts grown : List Post) (sent : List Sent) (s : Sent) (n : ℕ) (letter : ℕ) → AreKept posts sent → ((l : ℕ) → get_or grown l post.Nobody ≡ get_or posts l post.Nobody) → s.letter < length grown → n ≡ length sent + 1 → get_or (set grown s.letter (with_sending (get_or grown s.letter post.Nobody) n s.sender)) letter post.Nobody ≡ post_of letter (sent ++ s ∷ [])
kept-one posts grown sent s n letter k same within e =
    by (eqb_tells s.letter letter) ∙ sym (post-append letter 0 post.Nobody sent s)
  where
    now : (l : ℕ) → get_or grown l post.Nobody ≡ post_of l sent
    now l = same l ∙ k.kept l

    by : (((s.letter == letter) ≡ true) × (s.letter ≡ letter)) ⊎ (((s.letter == letter) ≡ false) × (s.letter ≢ letter)) → get_or (set grown s.letter (with_sending (get_or grown s.letter post.Nobody) n s.sender)) letter post.Nobody ≡ (if s.letter == letter then with_sending (post_of letter sent) (0 + length sent + 1) s.sender else post_of letter sent)
    by (inr h) =
        get_or-set_other grown s.letter letter (with_sending (get_or grown s.letter post.Nobody) n s.sender) post.Nobody (λ (x : letter ≡ s.letter). h.1 (sym x))
        ∙ now letter
        ∙ ap (λ (b : Bool). if b then with_sending (post_of letter sent) (0 + length sent + 1) s.sender else post_of letter sent) (sym h.0)
    by (inl h) =
        subst (λ (l : ℕ). get_or (set grown s.letter (with_sending (get_or grown s.letter post.Nobody) n s.sender)) l post.Nobody ≡ with_sending (post_of l sent) (0 + length sent + 1) s.sender) h.1
        (get_or-set_same grown s.letter (with_sending (get_or grown s.letter post.Nobody) n s.sender) post.Nobody within
        ∙ ap (λ (p : Post). with_sending p n s.sender) (now s.letter)
        ∙ ap (λ (m : ℕ). with_sending (post_of s.letter sent) m s.sender) (omega (arith, e)))
        ∙ ap (λ (b : Bool). if b then with_sending (post_of letter sent) (0 + length sent + 1) s.sender else post_of letter sent) (sym h.0)

kept-send : (posts grown : List Post) (sent : List Sent) (s : Sent) (n : ℕ) → AreKept posts sent → ((l : ℕ) → get_or grown l post.Nobody ≡ get_or posts l post.Nobody) → s.letter < length grown → n ≡ length sent + 1 → AreKept (set grown s.letter (with_sending (get_or grown s.letter post.Nobody) n s.sender)) (sent ++ s ∷ [])
kept-send posts grown sent s n k same within e = record { kept = λ letter. kept-one posts grown sent s n letter k same within e }

-- the post that an index read, whatever its default
pub kept-read : (posts grown : List Post) (sent more : List Sent) (letter party n : ℕ) (read put : Post) → AreKept posts sent → ((l : ℕ) → get_or grown l post.Nobody ≡ get_or posts l post.Nobody) → letter < length grown → n ≡ length more → more ≡ sent ++ (record { letter = letter; sender = party } ∷ []) → read ≡ get_or grown letter read → put ≡ with_sending read n party → AreKept (set grown letter put) more
kept-read posts grown sent more letter party n read put k same within count all at is =
    subst (λ (p : Post). AreKept (set grown letter p) more) (ap (λ (p : Post). with_sending p n party) (sym (at ∙ get_or_default grown letter read post.Nobody within)) ∙ sym is)
    (subst (λ (xs : List Sent). AreKept (set grown letter (with_sending (get_or grown letter post.Nobody) n party)) xs) (sym all)
    (kept-send posts grown sent (record { letter = letter; sender = party }) n k same within (count ∙ ap length all ∙ length-append sent (record { letter = letter; sender = party } ∷ []))))
