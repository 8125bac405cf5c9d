use Rattle.std.proofs.Common.{◌≡◌, ℕ, ◌-◌, ◌==◌, map, Option, IfSome, sym, subst}
use Rattle.isis_base.specs.declared.level.Level.{Level}
use Rattle.model_router.specs.Books.{Book}
use Rattle.model_router.specs.Routers as routers
use Rattle.router_core.specs.declared.due.LevelDue.{LevelDue}
use Rattle.router_core.specs.Due.{IsDueAt, IsLevelDue}
use Rattle.router_core.proofs.DueLemmas.{hello-due, one-due, two-due}
use Rattle.model_router.specs.Places.{nth}
use Rattle.model_router.specs.Routers.{Circuit}
use Rattle.model_router.specs.Datagrams.{Sent}
use Rattle.model_datagram.specs.Datagrams.{datagram}
use Rattle.flag_sync.specs.BookStates.{book_of}
use Rattle.router_sending.specs.Sends.{Sends}
use Rattle.router_core.specs.Sending.{all_due}
use Rattle.router_core.proofs.IdleLemmas.{from-some}
use Rattle.isis_base.specs.declared.level.Level.TheVariants as level
use Rattle.model_router.specs.Good.{IsGoodBook}
use Rattle.router_core.proofs.SendingLemmas.{may-of, all-out}
use Rattle.router_core.proofs.parts.Parts.datagrams_due.Goals as goal

-- src/pull.rt
pub put_due_hellos-requires-clause-due : goal.put_due_hellos-requires-clause-due
put_due_hellos-requires-clause-due c = from-some (λ x. c.args.due.hello ≡ (x.hello == 0)) (nth c.args.self.now.circuits (c.args.circuit - 1)) c.on-on.result.now c.on-on.ensures (hello-due c.args.self.now (c.args.circuit - 1) c.args.due c.requires.due)

-- src/pull.rt
pub put_level-requires-clause-good : goal.put_level-requires-clause-good
put_level-requires-clause-good c = subst IsGoodBook (sym c.book-one.ensures.book) (c.requires.reached.speaking.good.on level.One)

-- src/pull.rt
pub put_level-requires-clause-may : goal.put_level-requires-clause-may
put_level-requires-clause-may c = may-of c.args.self.now level.One _ c.book-one.result.now c.book-one.ensures.book c.requires.reached.speaking c.sendable_law.ensures

-- src/pull.rt
pub put_level-requires-2-clause-good : goal.put_level-requires-2-clause-good
put_level-requires-2-clause-good c = subst IsGoodBook (sym c.book-two.ensures.book) (c.requires.reached.speaking.good.on level.Two)

-- src/pull.rt
pub put_level-requires-2-clause-may : goal.put_level-requires-2-clause-may
put_level-requires-2-clause-may c = may-of c.args.self.now level.Two _ c.book-two.result.now c.book-two.ensures.book c.requires.reached.speaking c.sendable_law.ensures

-- src/pull.rt
pub returns : goal.returns
returns c =
    subst (λ (o : Option Circuit). IfSome o (λ x. c.put_level-2.new.out ≡ map (λ (says : Sent). datagram c.args.self.now.config c.args.self.now.boot (c.args.circuit - 1) x says) (all_due c.args.self.now (c.args.circuit - 1) x))) (sym c.on-on.ensures)
    (subst (λ (n : ℕ). c.put_level-2.new.out ≡ map (λ (says : Sent). datagram c.args.self.now.config c.args.self.now.boot (n - 1) c.on-on.result.now says) (all_due c.args.self.now (n - 1) c.on-on.result.now)) c.sender-sender.ensures.circuit
    (all-out c.sender-sender.result c.args.self.now c.on-on.result.now (book_of c.book-one.result.now) (book_of c.book-two.result.now)
    c.new-out.result c.put_due_hellos.new.out c.put_level.new.out c.put_level-2.new.out sends c.book-one.ensures.book c.book-two.ensures.book c.new-out.ensures
    (c.in_ok-put_due_hellos.ensures c.args.self.now sends)
    (c.in_ok-put_level.ensures c.args.self.now.config c.args.self.now.boot sends one)
    (c.in_ok-put_level-2.ensures c.args.self.now.config c.args.self.now.boot sends two)))
  where
    sends : Sends c.sender-sender.result c.args.self.now.config c.args.self.now.boot (c.sender-sender.result.circuit - 1) c.on-on.result.now
    sends = subst (λ (n : ℕ). Sends c.sender-sender.result c.args.self.now.config c.args.self.now.boot (n - 1) c.on-on.result.now) (sym c.sender-sender.ensures.circuit)
        (from-some (λ x. Sends c.sender-sender.result c.args.self.now.config c.args.self.now.boot (c.args.circuit - 1) x) (nth c.args.self.now.circuits (c.args.circuit - 1)) c.on-on.result.now c.on-on.ensures c.sender-sender.ensures.sends)

    at-level : (l : Level) (book : Book) (d : LevelDue) → book ≡ routers.book_of c.args.self.now l → IsDueAt c.args.self.now (c.args.circuit - 1) l d → IsLevelDue c.args.self.now.config (c.sender-sender.result.circuit - 1) c.on-on.result.now l book d
    at-level l book d e is =
        subst (λ (n : ℕ). IsLevelDue c.args.self.now.config (n - 1) c.on-on.result.now l book d) (sym c.sender-sender.ensures.circuit)
        (subst (λ (b : Book). IsLevelDue c.args.self.now.config (c.args.circuit - 1) c.on-on.result.now l b d) (sym e)
        (from-some (λ x. IsLevelDue c.args.self.now.config (c.args.circuit - 1) x l (routers.book_of c.args.self.now l) d) (nth c.args.self.now.circuits (c.args.circuit - 1)) c.on-on.result.now c.on-on.ensures is))

    one : IsLevelDue c.args.self.now.config (c.sender-sender.result.circuit - 1) c.on-on.result.now level.One (book_of c.book-one.result.now) c.args.due.one
    one = at-level level.One (book_of c.book-one.result.now) c.args.due.one c.book-one.ensures.book (one-due c.args.self.now (c.args.circuit - 1) c.args.due c.requires.due)

    two : IsLevelDue c.args.self.now.config (c.sender-sender.result.circuit - 1) c.on-on.result.now level.Two (book_of c.book-two.result.now) c.args.due.two
    two = at-level level.Two (book_of c.book-two.result.now) c.args.due.two c.book-two.ensures.book (two-due c.args.self.now (c.args.circuit - 1) c.args.due c.requires.due)
