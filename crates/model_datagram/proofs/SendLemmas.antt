-- Each entry with a key of a router may be sent.
use Rattle.std.proofs.Common.{◌≡◌, ℕ, ◌^◌, ◌<◌, Bool, true, false, List, Option, Some, None, refl, sym, subst, arith}
use Rattle.std.proofs.lemmas.Bool.Decides.{nat_tests}
use Rattle.isis_base.specs.declared.level.Level.{Level}
use Rattle.model_router.specs.Both.{Both, at}
use Rattle.model_router.specs.Ranks.{number_of, is_live, is_purge, live_rank, purge_rank}
use Rattle.model_router.specs.Waits.{no_waits}
use Rattle.model_router.specs.Cells.{Cell, Heard, kept, purged}
use Rattle.model_router.specs.Books.{cell_at}
use Rattle.model_router.specs.Configs.{Config}
use Rattle.model_router.specs.Routers.{Router, level_of, book_of}
use Rattle.model_router.specs.OwnLsps.{issue_cell}
use Rattle.model_router.specs.Deeds.{Content, content_of}
use Rattle.model_router.specs.Events.{Event, LspHeard}
use Rattle.model_router.specs.Steps.{step}
use Rattle.model_router.specs.Hearings.{Source, Taken, Made, hearing}
use Rattle.model_router.specs.Good.{IsGood, IsGoodEvent, IsGoodRouter, IsTelling}
use Rattle.model_datagram.specs.Lsps.{given_octets}
use Rattle.model_datagram.specs.LspLaws.{TellsLive, IsLiveLsp, IsPurge, TellsKept, TellsEvent, IsSendable, AreSendable}
use Rattle.model_router.proofs.StepWays.{step-course}
use Rattle.model_router.proofs.GoodSteps.{step-good}
use Rattle.model_router.proofs.BondLemmas.{step-stays}
use Rattle.model_router.proofs.ContentLemmas.{Fact, course-facts}
use Rattle.model_datagram.proofs.IssueLemmas.{issue-tells, given-good}
use Rattle.model_datagram.proofs.KeptLemmas.{purged-tells}
use Rattle.isis_base.specs.declared.pdu_kind.PduKind.TheVariants as kind
use Rattle.std.proofs.Common.{[], ◌∷◌}
use Rattle.std.specs.List.{AllByRecursion}
use Rattle.model_router.specs.Routers.{Circuit}
use Rattle.model_router.specs.Datagrams.{Sent, PointHello, LanHello, Lsp, Csnp, Psnp}
use Rattle.model_router.specs.Events.{Reply, Done, Dropped, Send}
use Rattle.model_router.specs.Sorted.{IsSorted}
use Rattle.model_router.specs.Good.{IsGoodCell}
use Rattle.model_router.specs.ReplyLaws.{AllSent, WasHeld, IsExact, IsReplyExact, IsFine, IsReplyFine}
use Rattle.model_router.proofs.BookLemmas.{test}
use Rattle.model_router.proofs.ExactLemmas.{step-exact}
use Rattle.model_router.proofs.FineLemmas.{step-fine}
use Rattle.model_datagram.specs.Said.{ReadsBack, CanRead}
use Rattle.model_datagram.specs.Senders.{IsSender}
use Rattle.model_datagram.specs.LspLaws.{ReadsUpdate}
use Rattle.model_datagram.proofs.LspLemmas.{lsp-reads}
use Rattle.model_datagram.proofs.PurgeLemmas.{purge-reads}
use Rattle.model_datagram.proofs.SnpLemmas.{csnp-reads, psnp-reads}

-- an entry of a key and content, with a second left and no flag
abbrev plain : ℕ → Content → Cell
plain rank content = record { rank = rank; checksum = content.checksum; flags = content.flags; left = 1; octets = content.octets; srm = 0; ssn = 0; waits = no_waits }

-- a cell that tells itself, by its key and content alone
from-plain : (key : Option (List ℕ)) (level : Level) (id : ℕ) (c : Cell) → TellsLive key level id (plain c.rank (content_of c)) → TellsLive key level id c
from-plain key level id c t = record {
  lifetime = t.lifetime;
  tlvs = t.tlvs;
  begins = t.begins;
  lives = t.lives;
  short = t.short;
  some = t.some;
  summed = t.summed;
  authentic = t.authentic;
}

to-plain : (key : Option (List ℕ)) (level : Level) (id : ℕ) (c : Cell) → TellsLive key level id c → TellsLive key level id (plain c.rank (content_of c))
to-plain key level id c t = record {
  lifetime = t.lifetime;
  tlvs = t.tlvs;
  begins = t.begins;
  lives = t.lives;
  short = t.short;
  some = t.some;
  summed = t.summed;
  authentic = t.authentic;
}

purge-from : (level : Level) (id : ℕ) (c : Cell) → IsPurge level id (plain c.rank (content_of c)) → IsPurge level id c
purge-from level id c p = record { eight = p.eight; purge = p.purge; some = p.some; summed = p.summed; begins = p.begins; alone = p.alone }

purge-to : (level : Level) (id : ℕ) (c : Cell) → IsPurge level id c → IsPurge level id (plain c.rank (content_of c))
purge-to level id c p = record { eight = p.eight; purge = p.purge; some = p.some; summed = p.summed; begins = p.begins; alone = p.alone }

-- ---- the fact that is kept

-- what a key and content may be, under an LSP ID and a number of the standard's sizes
record Sends (key : Option (List ℕ)) (level : Level) (id rank : ℕ) (content : Content) : Type 0 where
  live : is_live rank ≡ true → TellsLive key level id (plain rank content)
  purge : is_purge rank ≡ true → IsPurge level id (plain rank content)

abbrev Kept : Option (List ℕ) → Level → ℕ → ℕ → Content → Type 0
Kept key level id rank content = id < 2 ^ 64 → rank < 2 ^ 33 → Sends key level id rank content

dead-live : {A : Type 0} → (rank : ℕ) → is_purge rank ≡ true → is_live rank ≡ true → A
dead-live rank p l = absurd (grind (arith, nat_tests, p, l))

purge-is : (number : ℕ) → is_purge (purge_rank number) ≡ true
purge-is number = grind (arith, nat_tests)

live-is : (number : ℕ) → is_purge (live_rank number) ≡ true → {A : Type 0} → A
live-is number p = absurd (grind (arith, nat_tests, p))

lower : (rank : ℕ) → is_live rank ≡ true → purge_rank (number_of rank) < 2 ^ 33 → rank < 2 ^ 33
lower rank live h = let k : rank < purge_rank (number_of rank) = grind (arith, nat_tests, live) in omega (arith, k, h)

-- the purge of a live LSP that may be sent may be sent
buries : (key : Option (List ℕ)) (level : Level) (id : ℕ) (c : Cell) → is_live c.rank ≡ true → Kept key level id c.rank (content_of c) → Kept key level id (purged c).rank (content_of (purged c))
buries key level id c live k eight bounded =
    let sends = k eight (lower c.rank live bounded) in
    let old : IsLiveLsp key level id (plain c.rank (content_of c)) = record { eight = eight; live = live; left = omega arith; fits = omega arith; tells = sends.live live } in
    record {
      live = λ l. dead-live (purge_rank (number_of c.rank)) (purge-is (number_of c.rank)) l;
      purge = λ _. let p = purged-tells key level id (plain c.rank (content_of c)) old in record { eight = p.eight; purge = p.purge; some = p.some; summed = p.summed; begins = p.begins; alone = p.alone };
    }

-- what is read or issued may be sent
comes : (leaks : Router → Level → List (ℕ × ℕ)) (attached : Router → Bool) (r : Router) (event : Event) (level : Level) → IsGoodRouter r → IsTelling r → TellsEvent r.config event → (id rank : ℕ) (content : Content) → Source (given_octets leaks attached) r event level id rank content → Kept (at r.config.keys level) level id rank content
comes leaks attached r event level good telling told id rank content (Taken place from h e i k c) eight bounded =
    let tells : TellsKept r.config (LspHeard level from h) = subst (λ (x : Event). TellsEvent r.config x) e told in
    rw (i, k, c) (record {
      live = λ l. to-plain-kept h (tells.0 l);
      purge = λ p. purge-kept h (tells.1 p);
    })
  where
    to-plain-kept : (h : Heard) → TellsLive (at r.config.keys level) level h.id (kept h) → TellsLive (at r.config.keys level) level h.id (plain h.rank (content_of (kept h)))
    to-plain-kept h t = to-plain (at r.config.keys level) level h.id (kept h) t

    purge-kept : (h : Heard) → IsPurge level h.id (kept h) → IsPurge level h.id (plain h.rank (content_of (kept h)))
    purge-kept h p = purge-to level h.id (kept h) p
comes leaks attached r event level good telling told id rank content (Made now number contents config own k c) eight bounded =
    rw (k, c) (record {
      live = λ l. to-plain (at r.config.keys level) level id (issue_cell (given_octets leaks attached) now level id number contents)
          (subst (λ (by : Config). TellsLive (at by.keys level) level id (issue_cell (given_octets leaks attached) now level id number contents)) config
          (issue-tells leaks attached now level id number contents (omega (arith, bounded, k))
          (rw config (own.fits good.config telling))));
      purge = λ p. live-is number p;
    })

-- ---- a step

whole : (key : Option (List ℕ)) (level : Level) (id : ℕ) (c : Cell) → IsGood id (Some c) → (0 < c.rank → Kept key level id c.rank (content_of c)) → IsSendable key level id c
whole key level id c good k = record {
  live = λ l. record {
    eight = good.0;
    live = l;
    left = (let one = good.1.left in omega (arith, one));
    fits = good.1.fits;
    tells = from-plain key level id c ((k (some l) good.0 good.1.bounded).live l);
  };
  purge = λ p. purge-from level id c ((k (some-purge p) good.0 good.1.bounded).purge p);
}
  where
    some : is_live c.rank ≡ true → 0 < c.rank
    some l = grind (arith, nat_tests, l)

    some-purge : is_purge c.rank ≡ true → 0 < c.rank
    some-purge p = grind (arith, nat_tests, p)

parts : (key : Option (List ℕ)) (level : Level) (id : ℕ) (c : Cell) → IsSendable key level id c → Kept key level id c.rank (content_of c)
parts key level id c s eight bounded = record {
  live = λ l. to-plain key level id c (s.live l).tells;
  purge = λ p. purge-to level id c (s.purge p);
}

facts-of : (r : Router) (level : Level) → AreSendable r → (id : ℕ) → Fact (Kept (at r.config.keys level) level) (buries (at r.config.keys level) level) id (cell_at (book_of r level) id)
facts-of r level s id = by-cell (cell_at (book_of r level) id) refl
  where
    by-cell : (o : Option Cell) → cell_at (book_of r level) id ≡ o → Fact (Kept (at r.config.keys level) level) (buries (at r.config.keys level) level) id o
    by-cell None e = tt
    by-cell (Some c) e = λ _. parts (at r.config.keys level) level id c (s level id c e)

pub step-sendable : (leaks : Router → Level → List (ℕ × ℕ)) (attached : Router → Bool) (r : Router) (event : Event) → IsGoodRouter r → IsTelling r → IsGoodEvent event → TellsEvent r.config event → AreSendable r → AreSendable (step (given_octets leaks attached) r event).router
step-sendable leaks attached r event good telling sound told s level id cell e =
    let given = given_octets leaks attached in
    let t = (step given r event).router in
    let key = at r.config.keys level in
    let facts = course-facts (Kept key level) (buries key level) (hearing given r event level) (comes leaks attached r event level good telling told) (given-good leaks attached, sound, good.config) (level_of r level) (level_of t level) ((step-course given r event).on level) (facts-of r level s) in
    let after = step-good given r event (given-good leaks attached) sound good in
    let stays = step-stays given r event in
    subst (λ (keys : Both (Option (List ℕ))). IsSendable (at keys level) level id cell) (sym stays.keys)
    (whole key level id cell (subst (IsGood id) e ((after.on level).at id)) (subst (Fact (Kept key level) (buries key level) id) e (facts id)))

-- ---- what a step sends

-- what is held with the rank and content of an LSP that is sent tells of it
alike : (key : Option (List ℕ)) (level : Level) (id : ℕ) (held sent : Cell) → held.rank ≡ sent.rank → content_of held ≡ content_of sent → id < 2 ^ 64 → IsGoodCell sent → IsSendable key level id held → IsSendable key level id sent
alike key level id held sent r k eight good s = whole key level id sent (eight, good)
    (λ some. subst (λ (content : Content). Kept key level id sent.rank content) k (subst (λ (rank : ℕ). Kept key level id rank (content_of held)) r (parts key level id held s)))

live-or-purge : (rank : ℕ) → 0 < rank → is_purge rank ≡ false → is_live rank ≡ true
live-or-purge rank some e = grind (arith, nat_tests, some, e)

lsp-back : (by config : Config) (on c : Circuit) (boot place : ℕ) → boot < 2 ^ 32 → (level : Level) (id : ℕ) (cell : Cell) → IsSender config → 0 < cell.rank → IsSendable (at config.keys level) level id cell → CanRead by on config c (kind.Lsp level) → ReadsBack by on config boot place c (Lsp level id cell)
lsp-back by config on c boot place low_boot level id cell sender some s can = test (λ (purge : Bool). is_purge cell.rank ≡ purge → ReadsBack by on config boot place c (Lsp level id cell)) (is_purge cell.rank)
    (λ _ p. purge-reads by config on c boot place low_boot level id cell sender.system (s.purge p) can)
    (λ _ l. lsp-reads by config on c boot place low_boot level id cell sender.system (s.live (live-or-purge cell.rank some l)) can) refl

held-back : (t : Router) (by : Config) (on c : Circuit) (boot place : ℕ) → boot < 2 ^ 32 → (level : Level) (id : ℕ) (cell : Cell) → IsSender t.config → AreSendable t → WasHeld (cell_at (book_of t level) id) cell → (id < 2 ^ 64) × IsGoodCell cell × (0 < cell.rank) → CanRead by on t.config c (kind.Lsp level) → ReadsBack by on t.config boot place c (Lsp level id cell)
held-back t by on c boot place low_boot level id cell sender all held fine can = by-held (cell_at (book_of t level) id) refl held
  where
    by-held : (o : Option Cell) → cell_at (book_of t level) id ≡ o → WasHeld o cell → ReadsBack by on t.config boot place c (Lsp level id cell)
    by-held None e h = absurd h
    by-held (Some old) e h = lsp-back by t.config on c boot place low_boot level id cell sender fine.2 (alike (at t.config.keys level) level id old cell h.0 h.1 fine.0 fine.1 (all level id old e)) can

sent-back : (t : Router) (by : Config) (on c : Circuit) (boot place : ℕ) → boot < 2 ^ 32 → IsSender t.config → AreSendable t → (s : Sent) → IsExact t s → IsFine s → ReadsUpdate by on t.config boot place c s
sent-back t by on c boot place low_boot sender all (PointHello state extended names) held fine e can = absurd (cc)
sent-back t by on c boot place low_boot sender all (LanHello level lan snpas) held fine e can = absurd (cc)
sent-back t by on c boot place low_boot sender all (Lsp level id cell) held fine e can = held-back t by on c boot place low_boot level id cell sender all held fine can
sent-back t by on c boot place low_boot sender all (Csnp level start end entries) held fine e can = csnp-reads by t.config on c boot place low_boot level start end entries sender fine.0 fine.1 fine.2 can
sent-back t by on c boot place low_boot sender all (Psnp level entries) held fine e can = psnp-reads by t.config on c boot place low_boot level entries sender fine can

out-back : (t : Router) (by : Config) (on c : Circuit) (boot place : ℕ) → boot < 2 ^ 32 → IsSender t.config → AreSendable t → (out : List Sent) → AllByRecursion (IsExact t) out → AllByRecursion IsFine out → AllByRecursion (ReadsUpdate by on t.config boot place c) out
out-back t by on c boot place low_boot sender all [] held fine = tt
out-back t by on c boot place low_boot sender all (s ∷ out) held fine = (sent-back t by on c boot place low_boot sender all s held.0 fine.0, out-back t by on c boot place low_boot sender all out held.1 fine.1)

reply-back : (t : Router) (by : Config) (on c : Circuit) (boot place : ℕ) → boot < 2 ^ 32 → IsSender t.config → AreSendable t → (reply : Reply) → IsReplyExact t reply → IsReplyFine reply → AllSent (ReadsUpdate by on t.config boot place c) reply
reply-back t by on c boot place low_boot sender all Done held fine = tt
reply-back t by on c boot place low_boot sender all (Dropped cause) held fine = tt
reply-back t by on c boot place low_boot sender all (Send out) held fine = out-back t by on c boot place low_boot sender all out held fine

pub step-reads : (leaks : Router → Level → List (ℕ × ℕ)) (attached : Router → Bool) (r : Router) (event : Event) (by : Config) (on c : Circuit) (boot place : ℕ) → boot < 2 ^ 32 → IsSorted r → IsGoodRouter r → IsTelling r → IsGoodEvent event → TellsEvent r.config event → AreSendable r → IsSender (step (given_octets leaks attached) r event).router.config → AllSent (ReadsUpdate by on (step (given_octets leaks attached) r event).router.config boot place c) (step (given_octets leaks attached) r event).reply
step-reads leaks attached r event by on c boot place low_boot sorted good telling sound told all sender =
    let given = given_octets leaks attached in
    reply-back (step given r event).router by on c boot place low_boot sender (step-sendable leaks attached r event good telling sound told all) (step given r event).reply (step-exact given r event sorted) (step-fine given r event sorted good sound)
