-- What is seen of an LSP ID that isn't doubled has one contents under each number.
use Rattle.std.proofs.Common.{◌≡◌, ℕ, ◌/◌, ◌==◌, ◌&&◌, ◌||◌, inl, inr, ⊎_elim, Bool, true, false, List, [], ◌∷◌, Option, Some, None, if◌then◌else◌, refl, sym, ap, ap₂, ◌∙◌, subst, arith}
use Rattle.std.proofs.lemmas.Bool.Decides.{nat_tests}
use Rattle.std.proofs.lemmas.Option.{none-some, same_Some}
use Rattle.std.proofs.lemmas.Slice.Eq.{bytes_eq-Decides}
use Rattle.std.specs.Str.{bytes_eq}
use Rattle.isis_base.specs.declared.level.Level.{Level}
use Rattle.model_router.specs.Maps.{find}
use Rattle.model_router.specs.Ranks.{is_live}
use Rattle.model_router.specs.Cells.{Cell}
use Rattle.model_router.specs.LetGos.{contains, with_id}
use Rattle.model_router.specs.Routers.{Contents, Router, book_of}
use Rattle.model_router.specs.OwnLsps.{same_contents}
use Rattle.lab_facts.specs.Joined.{In}
use Rattle.lab_facts.specs.Sightings.{Sighting, sighting, is_own, own_lsps, after, sightings_of, earlier, first_of, doubled_with, doubled_of, doubled_in}

-- ---- what is seen

pub has-before : (s : Sighting) (more seen : List Sighting) → In s seen → In s (after more seen)
has-before s [] seen h = h
has-before s (x ∷ more) seen h = has-before s more (x ∷ seen) (inr h)

pub has-more : (s : Sighting) (more seen : List Sighting) → In s more → In s (after more seen)
has-more s [] seen h = absurd h
has-more s (x ∷ more) seen h =
    ⊎_elim (λ (e : s ≡ x). has-before s more (x ∷ seen) (inl e)) (λ (r : In s more). has-more s more (x ∷ seen) r) h

same-from : (a b : ℕ) → (a == b) ≡ true → a ≡ b
same-from a b e = grind (arith, nat_tests)

same-to : (a b : ℕ) → a ≡ b → (a == b) ≡ true
same-to a b e = grind (arith, nat_tests)

pub has-own : (system id : ℕ) (cell : Cell) (cells : List (ℕ × Cell)) → id / 65536 ≡ system → find cells id ≡ Some cell → is_live cell.rank ≡ true → In (sighting id cell) (own_lsps system cells)
has-own system id cell [] own at live = absurd (none-some cell at)
has-own system id cell (p ∷ cells) own at live = by (λ h. has-own system id cell cells own h live) (p.0 == id) refl at
  where
    rest : In (sighting id cell) (own_lsps system cells) → In (sighting id cell) (own_lsps system (p ∷ cells))
    rest h = skip (is_own system p.0 && is_live p.1.rank) h
      where
        skip : (t : Bool) → In (sighting id cell) (own_lsps system cells) → In (sighting id cell) (if t then sighting p.0 p.1 ∷ own_lsps system cells else own_lsps system cells)
        skip true h = inr h
        skip false h = h

    here : p.0 ≡ id → p.1 ≡ cell → In (sighting id cell) (own_lsps system (p ∷ cells))
    here e f = subst (λ (t : Bool). In (sighting id cell) (if t then sighting p.0 p.1 ∷ own_lsps system cells else own_lsps system cells))
        (sym (ap₂ (λ (s t : Bool). s && t) (ap (λ (n : ℕ). is_own system n) e ∙ same-to (id / 65536) system own) (ap (λ (c : Cell). is_live c.rank) f ∙ live)))
        (inl (sym (ap₂ sighting e f)))

    by : (find cells id ≡ Some cell → In (sighting id cell) (own_lsps system cells)) → (t : Bool) → (p.0 == id) ≡ t → (if t then Some p.1 else find cells id) ≡ Some cell → In (sighting id cell) (own_lsps system (p ∷ cells))
    by more true e h = here (same-from p.0 id e) (same_Some p.1 cell h)
    by more false e h = rest (more h)

-- ---- what isn't doubled

with-has : (ids : List ℕ) (id q : ℕ) → contains (with_id ids id) q ≡ (id == q || contains ids q)
with-has [] id q = refl
with-has (x ∷ ids) id q = grind (arith, nat_tests, with-has ids id q)

or-none : (a b : Bool) → (a || b) ≡ false → (a ≡ false) × (b ≡ false)
or-none true b h = absurd (cc)
or-none false b h = (refl, h)

and-all : (a b : Bool) → (a && b) ≡ true → (a ≡ true) × (b ≡ true)
and-all true b h = (refl, h)
and-all false b h = absurd (cc)

abbrev contents_of : ℕ → List ℕ → Contents
contents_of flags tlvs = record { flags = flags; tlvs = tlvs }

contents-same : (a b : Contents) → same_contents a b ≡ true → a ≡ b
contents-same a b h =
    let both = and-all (a.flags == b.flags) (bytes_eq a.tlvs b.tlvs) h in
    ap₂ contents_of (same-from a.flags b.flags both.0) ((bytes_eq-Decides a.tlvs b.tlvs).0 both.1)

not-itself : (id : ℕ) → (id == id) ≡ false → ⊥
not-itself id e = absurd (let t = sym (same-to id id refl) ∙ e in cc)

-- what is doubled stays so
doubled-grows : (o : Option Contents) (s : Sighting) (ids : List ℕ) (id : ℕ) → contains (doubled_with o s ids) id ≡ false → contains ids id ≡ false
doubled-grows None s ids id h = h
doubled-grows (Some first) s ids id h = by (same_contents first s.contents) h
  where
    by : (t : Bool) → contains (if t then ids else with_id ids s.id) id ≡ false → contains ids id ≡ false
    by true h = h
    by false h = (or-none (s.id == id) (contains ids id) (sym (with-has ids s.id id) ∙ h)).1

-- what was seen first stands
first-kept : (o now : Option Contents) (c : Contents) → o ≡ Some c → earlier o now ≡ Some c
first-kept None now c e = absurd (none-some c e)
first-kept (Some x) now c e = e

-- what is seen of an LSP ID that isn't doubled has the first contents
first-new : (o : Option Contents) (s : Sighting) (ids : List ℕ) (id : ℕ) → s.id ≡ id → contains (doubled_with o s ids) id ≡ false → earlier o (Some s.contents) ≡ Some s.contents
first-new None s ids id e h = refl
first-new (Some first) s ids id e h = by (same_contents first s.contents) refl h
  where
    by : (t : Bool) → same_contents first s.contents ≡ t → contains (if t then ids else with_id ids s.id) id ≡ false → Some first ≡ Some s.contents
    by true q h = ap Some (contents-same first s.contents q)
    by false q h = absurd (not-itself id (ap (λ (n : ℕ). n == id) (sym e) ∙ (or-none (s.id == id) (contains ids id) (sym (with-has ids s.id id) ∙ h)).0))

pub first-is : (seen : List Sighting) (s : Sighting) (id : ℕ) → s.id ≡ id → contains (doubled_of seen) id ≡ false → In s seen → first_of seen id s.number ≡ Some s.contents
unfolding first_of doubled_of
first-is [] s id e h in_seen = absurd in_seen
first-is (x ∷ seen) s id e h in_seen = ⊎_elim here (λ (r : In s seen). there (first-is seen s id e rest r)) in_seen
  where
    rest : contains (doubled_of seen) id ≡ false
    rest = doubled-grows (first_of seen x.id x.number) x (doubled_of seen) id h

    there : first_of seen id s.number ≡ Some s.contents → earlier (first_of seen id s.number) (if x.id == id && x.number == s.number then Some x.contents else None) ≡ Some s.contents
    there r = first-kept (first_of seen id s.number) _ s.contents r

    new : (y : Sighting) → y ≡ s → contains (doubled_with (first_of seen y.id y.number) y (doubled_of seen)) id ≡ false → earlier (first_of seen id y.number) (if y.id == id && y.number == y.number then Some y.contents else None) ≡ Some y.contents
    new y q k =
        let at : y.id ≡ id = ap (λ (z : Sighting). z.id) q ∙ e in
        ap (λ (t : Bool). earlier (first_of seen id y.number) (if t then Some y.contents else None)) (ap₂ (λ (a b : Bool). a && b) (same-to y.id id at) (same-to y.number y.number refl))
        ∙ (ap (λ (n : ℕ). earlier (first_of seen n y.number) (Some y.contents)) (sym at)
        ∙ first-new (first_of seen y.id y.number) y (doubled_of seen) id at k)

    here : s ≡ x → earlier (first_of seen id s.number) (if x.id == id && x.number == s.number then Some x.contents else None) ≡ Some s.contents
    here q = subst (λ (z : Sighting). earlier (first_of seen id z.number) (if x.id == id && x.number == z.number then Some x.contents else None) ≡ Some z.contents) (sym q) (new x (sym q) h)

-- ---- states that were

pub once-seen : (past : List Router) (level : Level) (id : ℕ) → contains (doubled_in past level) id ≡ false → (s t : Sighting) → s.id ≡ id → t.id ≡ id → s.number ≡ t.number → In s (sightings_of past level) → In t (sightings_of past level) → s.contents ≡ t.contents
once-seen past level id h s t a b n x y =
    same_Some s.contents t.contents
    (sym (first-is (sightings_of past level) s id a h x) ∙ (ap (λ (m : ℕ). first_of (sightings_of past level) id m) n ∙ first-is (sightings_of past level) t id b h y))

pub past-here : (past : List Router) (r : Router) (level : Level) (id : ℕ) (cell : Cell) → id / 65536 ≡ r.config.system → find (book_of r level).cells id ≡ Some cell → is_live cell.rank ≡ true → In (sighting id cell) (sightings_of (r ∷ past) level)
past-here past r level id cell own at live = has-more (sighting id cell) (own_lsps r.config.system (book_of r level).cells) (sightings_of past level) (has-own r.config.system id cell (book_of r level).cells own at live)

pub past-there : (past : List Router) (r : Router) (level : Level) (s : Sighting) → In s (sightings_of past level) → In s (sightings_of (r ∷ past) level)
past-there past r level s h = has-before s (own_lsps r.config.system (book_of r level).cells) (sightings_of past level) h
