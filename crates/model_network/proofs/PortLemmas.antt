-- What is kept of a link's hellos, by what happens.
use Rattle.std.proofs.Common.{◌≡◌, ◌≢◌, ℕ, ◌+◌, ◌*◌, ◌≤◌, ⊎_elim, List, ◌++◌, Option, Some, refl, sym, ap, ◌∙◌, subst, arith, le_trans, le_of_eq}
use Rattle.isis_tlv.specs.declared.three_way.Adj.{Adj}
use Rattle.isis_tlv.specs.declared.three_way.Adj.TheVariants.{Up}
use Rattle.model_router.specs.Routers.{extended_of}
use Rattle.model_router.specs.AdjacencyLaws.{Bond, no_bond, IsBond, Tie, no_tie, ended}
use Rattle.model_router.specs.Maps.{find}
use Rattle.model_network.specs.Networks.{Datagram}
use Rattle.model_network.specs.Ports.{Port, name_of, In, Hails, TellsBoot, Recalls, IsHail, Reason, Hellos, Uncrossed}
use Rattle.model_network.proofs.InLemmas.{in-old, in-split}

some-one : (a b : ℕ × ℕ) → ◌≡◌ {A = Option (ℕ × ℕ)} (Some a) (Some b) → a ≡ b
some-one a b e = cc

-- a name tells one boot
pub one-boot : (f : Port) (y z : ℕ) → name_of f y ≡ name_of f z → y ≡ z
one-boot f y z e = let k : 256 * y + (f.place + 1) ≡ 256 * z + (f.place + 1) = ap (λ (n : ℕ × ℕ). n.1) e in omega (arith, k)

pub one-name : (f : Port) (y z : ℕ) → ◌≡◌ {A = Option (ℕ × ℕ)} (Some (name_of f y)) (Some (name_of f z)) → y ≡ z
one-name f y z e = one-boot f y z (some-one _ _ e)

-- the boot of a name that is told is at most the present one
pub told : (f : Port) (y z : ℕ) → TellsBoot f y (name_of f z) → z ≤ y
told f y z t = le_trans (le_of_eq (one-boot f z t.boot t.name_is)) t.past

some-boot : (a b : ℕ) → ◌≡◌ {A = Option ℕ} (Some a) (Some b) → a ≡ b
some-boot a b e = cc

-- whom an end keeps is the other end in a boot that was
pub keeps-past : (e : Port) (x : ℕ) (m : Tie) (f : Port) (y k : ℕ) (ds : List Datagram) → Hellos e x m f y k ds → (z : ℕ) → m.bond.names ≡ Some (name_of f z) → z ≤ y
keeps-past e x m f y k ds h z a = let c = h.kept (name_of f z) a in le_trans (le_of_eq (one-boot f z c.boot c.name_is)) (h.past c.boot c.recalls)

-- its boot is the one that is kept
pub keeps-boot : (e : Port) (x : ℕ) (m : Tie) (f : Port) (y k : ℕ) (ds : List Datagram) → Hellos e x m f y k ds → (z : ℕ) → m.bond.names ≡ Some (name_of f z) → m.boot ≡ Some z
keeps-boot e x m f y k ds h z a = let c = h.kept (name_of f z) a in c.kept ∙ ap (λ (n : ℕ). Some n) (sym (one-boot f z c.boot c.name_is))

-- what an end remembers at least, where it keeps the other in a boot
pub recalled : (e : Port) (x : ℕ) (m : Tie) (f : Port) (y k : ℕ) (ds : List Datagram) → Hellos e x m f y k ds → (least z : ℕ) → Recalls f m least → m.bond.names ≡ Some (name_of f z) → least ≤ z
recalled e x m f y k ds h least z r a =
    let c = h.kept (name_of f z) a in
    let same : r.boot ≡ c.boot = some-boot r.boot c.boot (sym r.recalls ∙ c.recalls) in
    le_trans r.least_is (le_of_eq (same ∙ sym (one-boot f z c.boot c.name_is)))

-- ---- the list grows by what others send

pub reason-more : (e : Port) (x : ℕ) (m : Tie) (f : Port) (k : ℕ) (ds more : List Datagram) → Reason e x m f k ds → Reason e x m f k (ds ++ more)
reason-more e x m f k ds more r = record { hello = r.hello; state = r.state; extended = r.extended; was_sent = in-old r.hello ds more r.was_sent; hails = r.hails; keeps = r.keeps }

pub hellos-more : (e : Port) (x : ℕ) (m : Tie) (f : Port) (y k : ℕ) (ds more : List Datagram) → ((d : Datagram) → In d more → d.sender ≢ e.router) → Hellos e x m f y k ds → Hellos e x m f y k (ds ++ more)
hellos-more e x m f y k ds more foreign h = record {
  bond = h.bond;
  kept = h.kept;
  past = h.past;
  named = λ d s p n i hail. ⊎_elim (λ (o : In d ds). h.named d s p n o hail) (λ (o : In d more). absurd (foreign d o hail.sender)) (in-split d ds more i);
  reason = λ up. reason-more e x m f k ds more (h.reason up);
}

-- ---- the list grows by what the end itself sends

pub record Own (e : Port) (x : ℕ) (m : Tie) (k : ℕ) (more : List Datagram) : Type 0 where
  pub boot : (d : Datagram) → In d more → d.boot ≡ x
  pub sender : (d : Datagram) → In d more → d.sender ≡ e.router
  pub bond : (d : Datagram) (s : Adj) (p : ℕ) (n : Option (ℕ × ℕ)) → In d more → Hails e k d s p n → m.bond ≡ record { state = s; names = n }
  pub own : (d : Datagram) (s : Adj) (p : ℕ) (n : Option (ℕ × ℕ)) → In d more → Hails e k d s p n → p ≡ extended_of x e.place

pub hellos-own : (e : Port) (x : ℕ) (m : Tie) (f : Port) (y k : ℕ) (ds more : List Datagram) → Own e x m k more → Hellos e x m f y k ds → Hellos e x m f y k (ds ++ more)
hellos-own e x m f y k ds more own h = record {
  bond = h.bond;
  kept = h.kept;
  past = h.past;
  named = λ d s p n i hail. ⊎_elim (λ (o : In d ds). h.named d s p n o hail) (λ (o : In d more). fresh d s p n o hail) (in-split d ds more i);
  reason = λ up. reason-more e x m f k ds more (h.reason up);
}
  where
    fresh : (d : Datagram) (s : Adj) (p : ℕ) (n : Option (ℕ × ℕ)) → In d more → Hails e k d s p n → IsHail e x m f y d s p n
    fresh d s p n o hail =
        let same : m.bond ≡ record { state = s; names = n } = own.bond d s p n o hail in
        let names : m.bond.names ≡ n = ap (λ (b : Bond). b.names) same in
        record {
          own = own.own d s p n o hail ∙ ap (λ (b : ℕ). extended_of b e.place) (sym (own.boot d o));
          bond = subst IsBond same h.bond;
          other = λ name a. let c = h.kept name (names ∙ a) in record { boot = c.boot; name_is = c.name_is; past = h.past c.boot c.recalls };
          kept = λ z b a. let c = h.kept (name_of f z) (names ∙ a) in record { boot = c.boot; recalls = c.recalls; least_is = le_of_eq (one-boot f z c.boot c.name_is) };
        }

-- ---- the other end's boot is a later one

pub later-boot : (f : Port) (y z : ℕ) (n : ℕ × ℕ) → y ≤ z → TellsBoot f y n → TellsBoot f z n
later-boot f y z n l t = record { boot = t.boot; name_is = t.name_is; past = le_trans t.past l }

pub hellos-later : (e : Port) (x : ℕ) (m : Tie) (f : Port) (y z k : ℕ) (ds : List Datagram) → y ≤ z → Hellos e x m f y k ds → Hellos e x m f z k ds
hellos-later e x m f y z k ds l h = record {
  bond = h.bond;
  kept = h.kept;
  past = λ boot a. le_trans (h.past boot a) l;
  named = λ d s p n i hail. let g = h.named d s p n i hail in record { own = g.own; bond = g.bond; other = λ name a. later-boot f y z name l (g.other name a); kept = g.kept };
  reason = h.reason;
}

-- ---- the end's adjacency ends, and what it remembers stays

pub no-bond : IsBond no_bond
no-bond = record { down = λ e. refl; names = λ e. refl }

pub hellos-ended : (e : Port) (x : ℕ) (m : Tie) (f : Port) (y k : ℕ) (ds : List Datagram) → Hellos e x m f y k ds → Hellos e x (ended m) f y k ds
hellos-ended e x m f y k ds h = record {
  bond = no-bond;
  kept = λ n a. absurd (cc);
  past = h.past;
  named = λ d s p n i hail. let g = h.named d s p n i hail in record {
    own = g.own;
    bond = g.bond;
    other = g.other;
    kept = λ z b a. let r = g.kept z b a in record { boot = r.boot; recalls = r.recalls; least_is = r.least_is };
  };
  reason = λ up. absurd (cc);
}

-- ---- the end restarts in a boot in which it sent nothing

pub hellos-anew : (e : Port) (x new : ℕ) (m : Tie) (f : Port) (y k : ℕ) (ds : List Datagram) → ((d : Datagram) → In d ds → d.sender ≡ e.router → d.boot ≢ new) → Hellos e x m f y k ds → Hellos e new no_tie f y k ds
hellos-anew e x new m f y k ds unsent h = record {
  bond = no-bond;
  kept = λ n a. absurd (cc);
  past = λ boot a. absurd (cc);
  named = λ d s p n i hail. let g = h.named d s p n i hail in record { own = g.own; bond = g.bond; other = g.other; kept = λ z b a. absurd (unsent d i hail.sender b) };
  reason = λ up. absurd (cc);
}

-- ---- the end takes a hello of the other, of a boot that was, and at least the one that it remembers

-- whom it keeps then, if anybody, is the other end in that boot
pub record Mindful (f : Port) (old : Tie) (boot : ℕ) (new : Tie) : Type 0 where
  pub bond : IsBond new.bond
  pub recalls : find new.boots f.system ≡ Some boot
  pub least : (was : ℕ) → find old.boots f.system ≡ Some was → was ≤ boot
  pub names : (n : ℕ × ℕ) → new.bond.names ≡ Some n → n ≡ name_of f boot
  pub kept : (n : ℕ × ℕ) → new.bond.names ≡ Some n → new.boot ≡ Some boot

pub hellos-minds : (e : Port) (x : ℕ) (m new : Tie) (boot : ℕ) (f : Port) (y k : ℕ) (ds : List Datagram) → boot ≤ y → Mindful f m boot new
    → (new.bond.state ≡ Up → Reason e x new f k ds) → Hellos e x m f y k ds → Hellos e x new f y k ds
hellos-minds e x m new boot f y k ds was minds why h = record {
  bond = minds.bond;
  kept = λ n a. record { boot = boot; name_is = minds.names n a; kept = minds.kept n a; recalls = minds.recalls };
  past = λ b a. le_trans (le_of_eq (some-boot b boot (sym a ∙ minds.recalls))) was;
  named = λ d s p n i hail. let g = h.named d s p n i hail in record {
    own = g.own;
    bond = g.bond;
    other = g.other;
    kept = λ z b a. let r = g.kept z b a in record { boot = boot; recalls = minds.recalls; least_is = le_trans r.least_is (minds.least r.boot r.recalls) };
  };
  reason = why;
}

-- ---- hellos that cross

pub uncrossed-flip : (e f : Port) (k : ℕ) (ds : List Datagram) → Uncrossed e f k ds → Uncrossed f e k ds
uncrossed-flip e f k ds h = record { none = λ d g s t p q z u i j a b l r. h.none g d t s q p u z j i b a r l }

pub uncrossed-more : (e f : Port) (k : ℕ) (ds more : List Datagram) → ((d : Datagram) → In d more → d.sender ≢ e.router) → ((d : Datagram) → In d more → d.sender ≢ f.router) → Uncrossed e f k ds → Uncrossed e f k (ds ++ more)
uncrossed-more e f k ds more fe ff h = record {
  none = λ d g s t p q z u i j a b l r.
      ⊎_elim (λ (o : In d ds). ⊎_elim (λ (n : In g ds). h.none d g s t p q z u o n a b l r) (λ (n : In g more). ff g n b.sender) (in-split g ds more j)) (λ (o : In d more). fe d o a.sender) (in-split d ds more i);
}

-- what an end sends crosses nothing: whoever names it names no boot past its present one
pub uncrossed-own : (e : Port) (x : ℕ) (f : Port) (y k : ℕ) (n : Tie) (ds more : List Datagram) → ((d : Datagram) → In d more → d.sender ≢ f.router) → ((d : Datagram) → In d more → d.boot ≡ x)
    → Hellos f y n e x k ds → Uncrossed e f k ds → Uncrossed e f k (ds ++ more)
uncrossed-own e x f y k n ds more ff boots far h = record {
  none = λ d g s t p q z u i j a b l r.
      ⊎_elim (λ (v : In g ds). ⊎_elim (λ (o : In d ds). h.none d g s t p q z u o v a b l r)
      (λ (o : In d more). let past : u ≤ x = told e x u ((far.named g t q (Some (name_of e u)) v b).other (name_of e u) refl) in let now = boots d o in omega (arith, past, now, l)) (in-split d ds more i))
      (λ (v : In g more). ff g v b.sender) (in-split g ds more j);
}
