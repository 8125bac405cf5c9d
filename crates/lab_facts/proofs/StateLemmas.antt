-- The state of a link, from what is counted at its ends.
use Rattle.std.proofs.Common.{◌≡◌, ℕ, ◌&&◌, Bool, true, false, [], ◌∷◌, if◌then◌else◌, sym, ap, ap₂, ◌∙◌}
use Rattle.isis_base.specs.declared.level.Level.{Level}
use Rattle.model_router.specs.Both.{at}
use Rattle.model_router.specs.Places.{nth}
use Rattle.model_router.specs.Books.{Book}
use Rattle.model_router.specs.LetGos.{LetGo}
use Rattle.model_router.specs.Routers.{Router, level_of, book_of}
use Rattle.model_router.specs.AdjacencyLaws.{opens}
use Rattle.model_network.specs.Counts.{count_where, ahead, flags}
use Rattle.lab_facts.specs.Excepted.{excepted_of}
use Rattle.lab_facts.specs.Tallies.{is_flagged, is_ahead}
use Rattle.lab_facts.specs.declared.state.LinkState.{LinkState}
use Rattle.lab_facts.specs.LinkStates.{excepted, no_state, state_between, state_of}

pub off_near : (a : Router) (p : ℕ) (b : Router) (q : ℕ) (level : Level) → at a.config.runs level ≡ false → no_state ≡ state_of a p b q level
unfolding state_of
off_near a p b q level e = sym (ap (λ (t : Bool). if t && at b.config.runs level then state_between a p b q level else no_state) e)

pub off_far : (a : Router) (p : ℕ) (b : Router) (q : ℕ) (level : Level) → at a.config.runs level ≡ true → at b.config.runs level ≡ false → no_state ≡ state_of a p b q level
unfolding state_of
off_far a p b q level e f = sym (ap₂ (λ (s t : Bool). if s && t then state_between a p b q level else no_state) e f)

pub on_both : (a : Router) (p : ℕ) (b : Router) (q : ℕ) (level : Level) (state : LinkState) → at a.config.runs level ≡ true → at b.config.runs level ≡ true → state ≡ state_between a p b q level → state ≡ state_of a p b q level
unfolding state_of
on_both a p b q level state e f is = is ∙ sym (ap₂ (λ (s t : Bool). if s && t then state_between a p b q level else no_state) e f)

same-fields : (up other_up : Bool) (f g f' g' m n m' n' x x' : ℕ) → up ≡ other_up → f ≡ f' → g ≡ g' → m ≡ m' → n ≡ n' → x ≡ x' → ◌≡◌ {A = LinkState} (record { up = up; flags = f ∷ g ∷ []; ahead = m ∷ n ∷ []; excepted = x }) (record { up = other_up; flags = f' ∷ g' ∷ []; ahead = m' ∷ n' ∷ []; excepted = x' })
same-fields up other_up f g f' g' m n m' n' x x' a b c d e h =
    ap (λ (u : Bool). let s : LinkState = record { up = u; flags = f ∷ g ∷ []; ahead = m ∷ n ∷ []; excepted = x } in s) a
    ∙ (ap₂ (λ (i j : ℕ). let s : LinkState = record { up = other_up; flags = i ∷ j ∷ []; ahead = m ∷ n ∷ []; excepted = x } in s) b c
    ∙ (ap₂ (λ (i j : ℕ). let s : LinkState = record { up = other_up; flags = f' ∷ g' ∷ []; ahead = i ∷ j ∷ []; excepted = x } in s) d e
    ∙ ap (λ (i : ℕ). let s : LinkState = record { up = other_up; flags = f' ∷ g' ∷ []; ahead = m' ∷ n' ∷ []; excepted = i } in s) h))

pub between : (a : Router) (p : ℕ) (b : Router) (q : ℕ) (level : Level) (near far : Book) (let_go other : LetGo) (up : Bool) (f g m n x : ℕ) → near ≡ book_of a level → far ≡ book_of b level → let_go ≡ (level_of a level).gone → other ≡ (level_of b level).gone → up ≡ (opens (nth a.circuits p) level && opens (nth b.circuits q) level) → f ≡ count_where (is_flagged p) near.cells → g ≡ count_where (is_flagged q) far.cells → m ≡ count_where (is_ahead let_go other far) near.cells → n ≡ count_where (is_ahead other let_go near) far.cells → x ≡ excepted_of let_go other near far → ◌≡◌ {A = LinkState} (record { up = up; flags = f ∷ g ∷ []; ahead = m ∷ n ∷ []; excepted = x }) (state_between a p b q level)
between a p b q level near far let_go other up f g m n x near-is far-is gone-is other-is is-up is-f is-g is-m is-n is-x =
    same-fields up (opens (nth a.circuits p) level && opens (nth b.circuits q) level) f g (flags a p level) (flags b q level) m n (ahead a b level) (ahead b a level) x (excepted a b level)
    is-up
    (is-f ∙ ap (λ (k : Book). count_where (is_flagged p) k.cells) near-is)
    (is-g ∙ ap (λ (k : Book). count_where (is_flagged q) k.cells) far-is)
    (is-m ∙ (ap₂ (λ (s t : LetGo). count_where (is_ahead s t far) near.cells) gone-is other-is ∙ ap₂ (λ (j k : Book). count_where (is_ahead (level_of a level).gone (level_of b level).gone j) k.cells) far-is near-is))
    (is-n ∙ (ap₂ (λ (s t : LetGo). count_where (is_ahead s t near) far.cells) other-is gone-is ∙ ap₂ (λ (j k : Book). count_where (is_ahead (level_of b level).gone (level_of a level).gone j) k.cells) near-is far-is))
    (is-x ∙ (ap₂ (λ (s t : LetGo). excepted_of s t near far) gone-is other-is ∙ ap₂ (λ (j k : Book). excepted_of (level_of a level).gone (level_of b level).gone j k) near-is far-is))
