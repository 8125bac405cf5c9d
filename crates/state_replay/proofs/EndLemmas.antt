-- How reading and replaying end.
use Rattle.std.proofs.Common.{◌≡◌, ◌∙◌, ℕ, ◌+◌, ◌<◌, ◌≤◌, Bool, List, ◌∷◌, ◌++◌, Result, Ok, Err, IfOk, IfErr, inl, inr, refl, sym, ap, subst}
use Rattle.std.specs.Prelude.{◌⊎◌, IsOkAnd}
use Rattle.daemon_config.specs.Config.{config_of}
use Rattle.daemon_config.specs.declared.settings.Settings.{Settings}
use Rattle.isis_edge.specs.Told.{Took}
use Rattle.isis_edge.proofs.ToldLemmas.{Took-more}
use Rattle.line_cuts.specs.Words.{lines_of}
use Rattle.line_source.specs.declared.fault.LineFault.{LineFault}
use Rattle.line_source.specs.declared.fault.LineFault.TheVariants as line
use Rattle.line_source.specs.declared.lines.LineRead.{LineRead}
use Rattle.line_source.specs.Lines.{IsTooLong}
use Rattle.model_router.specs.Routers.{Router}
use Rattle.model_router.specs.Starts.{start}
use Rattle.router_desk.specs.Configs as desk
use Rattle.state_text.specs.States.{IsStateText}
use Rattle.state_replay.specs.declared.fault.StateFault.{StateFault}
use Rattle.state_replay.specs.declared.fault.StateFault.TheVariants as fault
use Rattle.state_replay.specs.declared.front.Front.{Front}
use Rattle.state_replay.specs.Ends.{IsRefused, IsStoppedIn, IsStateAfter, IsStateOf, IfGave, StateEndsOn}
use Rattle.state_replay.specs.Faults.{line_fault, IsConfigFault}
use Rattle.state_replay.specs.Fronts.{IsSoFar, IsFront}
use Rattle.state_replay.specs.Inputs.{IsOpened}
use Rattle.state_replay.specs.Replays.{IsReplayed, AreAll, IsOutside, IsStopped, IsLineFault, IsCause}
use Rattle.state_replay.proofs.FrontLemmas.{front-long-line}
use Rattle.state_replay.proofs.LineLemmas.{begins-more}
use Rattle.state_replay.proofs.ReplayLemmas.{replayed-wait}

-- ---- a line wasn't read

abbrev IfLong : LineFault → (mid now pending : List ℕ) → Type 0
IfLong why mid now pending =
    ◌≡◌ {A = Result LineRead LineFault} (Err why) (Err line.TooLong) → (octets : List ℕ) × Took mid now octets × IsTooLong (pending ++ octets)

abbrev IsTaken : (mid now : List ℕ) → Type 0
IsTaken mid now = (octets : List ℕ) × Took mid now octets

-- before the head of a journal
pub front-fault : (gave mid now input pending : List ℕ) (ended : Bool) (front : Front) (why : LineFault) (end : StateFault) → Took gave mid input → IsSoFar input front pending
    → IfLong why mid now pending → IsTaken mid now → end ≡ line_fault why
    → (octets : List ℕ) × Took gave now octets × ((boot most : ℕ) → IsRefused boot most octets ended end)
front-fault gave mid now input pending ended front line.Read end took h long taken is =
    (input ++ taken.0, Took-more gave mid now input taken.0 took taken.1, λ boot most. subst (IsRefused boot most (input ++ taken.0) ended) (sym is) tt)
front-fault gave mid now input pending ended front line.OutOfMemory end took h long taken is =
    (input ++ taken.0, Took-more gave mid now input taken.0 took taken.1, λ boot most. subst (IsRefused boot most (input ++ taken.0) ended) (sym is) tt)
front-fault gave mid now input pending ended front line.TooLong end took h long taken is =
    let more = long refl in (
      input ++ more.0,
      Took-more gave mid now input more.0 took more.1,
      λ boot most. subst (IsRefused boot most (input ++ more.0) ended) (sym is) (inl (front-long-line input pending more.0 front h more.2)),
    )

-- among the entries of a journal
pub entries-fault : (gave mid now pending octets rest : List ℕ) (before r : Router) (head most done : ℕ) (why : LineFault) (end : StateFault) → Took gave mid octets
    → IsReplayed before r (pending ++ octets) rest done → done < most → IfLong why mid now rest → IsTaken mid now → end ≡ line_fault why
    → (all : List ℕ) × Took gave now all × (IsOutside end ⊎ IsStopped before (pending ++ all) head most end)
entries-fault gave mid now pending octets rest before r head most done line.Read end took h few long taken is =
    (octets ++ taken.0, Took-more gave mid now octets taken.0 took taken.1, inl (inl is))
entries-fault gave mid now pending octets rest before r head most done line.OutOfMemory end took h few long taken is =
    (octets ++ taken.0, Took-more gave mid now octets taken.0 took taken.1, inl (inr is))
entries-fault gave mid now pending octets rest before r head most done line.TooLong end took h few long taken is =
    let more = long refl in (
      octets ++ more.0,
      Took-more gave mid now octets more.0 took more.1,
      inr (record {
        done = done;
        few = few;
        r = r;
        rest = rest ++ more.0;
        replayed = replayed-wait before r pending octets rest more.0 done h;
        cause = inl (is, more.2);
      }),
    )

-- a line that was read ends the replay
pub line-stops : (pending octets rest more line text behind : List ℕ) (before r : Router) (head most done : ℕ) (why : StateFault)
    → IsReplayed before r (pending ++ octets) rest done → done < most → lines_of (rest ++ more) ≡ line ∷ lines_of behind → text ≡ line
    → (why ≡ fault.OutOfMemory) ⊎ IsLineFault head (done + 1) r text why
    → IsOutside why ⊎ IsStopped before (pending ++ (octets ++ more)) head most why
line-stops pending octets rest more line text behind before r head most done why h few is same (inl memory) = inl (inr memory)
line-stops pending octets rest more line text behind before r head most done why h few is same (inr bad) = inr (record {
  done = done;
  few = few;
  r = r;
  rest = rest ++ more;
  replayed = replayed-wait before r pending octets rest more done h;
  cause = inr (line, behind, is, subst (λ (t : List ℕ). IsLineFault head (done + 1) r t why) same bad);
})

-- ---- a router's state after its journal

module _ (gave now pending : List ℕ) (ended : Bool) (first r : Router) (head most : ℕ) where
  abbrev Replayed : ℕ → Type 0
  Replayed done = (octets rest : List ℕ) × Took gave now octets × IsReplayed first r (pending ++ octets) rest done × AreAll most done ended rest

  abbrev Stopped : StateFault → Type 0
  Stopped why = (octets : List ℕ) × Took gave now octets × (IsOutside why ⊎ IsStopped first (pending ++ octets) head most why)

  abbrev After : List ℕ → Type 0
  After text = (octets : List ℕ) × Took gave now octets × IsStateAfter first most (pending ++ octets) ended text

  pub after-ok : (made : Result (List ℕ) StateFault) (end : Result ℕ StateFault) → IfOk made (λ text. IsOkAnd end (λ done. IsStateText done r text))
      → IfOk end Replayed → IfOk end (λ done. done ≤ most) → IfOk made After
  after-ok (Ok text) (Ok done) is replayed few =
      let (octets, rest, took, h, all) = replayed in
      (octets, took, record { rest = rest; done = done; few = few; r = r; replayed = h; all = all; is = is })
  after-ok (Ok text) (Err why) is replayed few = absurd is
  after-ok (Err why) end is replayed few = tt

  pub after-err : (made : Result (List ℕ) StateFault) (end : Result ℕ StateFault) → IfErr made (λ why. (why ≡ fault.OutOfMemory) ⊎ (end ≡ Err why))
      → IfOk end Replayed → IfErr end Stopped → IfErr made Stopped
  after-err (Ok text) end why replayed stopped = tt
  after-err (Err why) (Ok done) (inl memory) replayed stopped = (replayed.0, replayed.2, inl (inr memory))
  after-err (Err why) (Err other) (inl memory) replayed stopped = (stopped.0, stopped.1, inl (inr memory))
  after-err (Err why) end (inr is) replayed stopped = subst (λ (e : Result ℕ StateFault). IfErr e Stopped) is stopped

pub after-read : (Risen : Type 0) (made : Result (List ℕ) StateFault) (end : Result ℕ StateFault) → IfErr made (λ why. (why ≡ fault.OutOfMemory) ⊎ (end ≡ Err why))
    → (end ≡ Err fault.Read → Risen) → made ≡ Err fault.Read → Risen
after-read Risen (Ok text) end why rose is = absurd (by is)
  where
    by : ◌≡◌ {A = Result (List ℕ) StateFault} (Ok text) (Err fault.Read) → ⊥
    by k = cc
after-read Risen (Err why) end (inl memory) rose is = absurd (by (sym memory ∙ same is))
  where
    same : ◌≡◌ {A = Result (List ℕ) StateFault} (Err why) (Err fault.Read) → why ≡ fault.Read
    same k = cc

    by : fault.OutOfMemory ≡ fault.Read → ⊥
    by k = cc
after-read Risen (Err why) end (inr end-is) rose is = rose (end-is ∙ ap (λ (w : StateFault). Err w) (same is))
  where
    same : ◌≡◌ {A = Result (List ℕ) StateFault} (Err why) (Err fault.Read) → why ≡ fault.Read
    same k = cc

-- ---- an input

-- a replay that was stopped refuses the input
refused : (boot most : ℕ) (input : List ℕ) (ended : Bool) (why : StateFault) → IsStoppedIn boot most input why → IsRefused boot most input ended why
refused boot most input ended fault.TooLong s = inr s
refused boot most input ended (fault.Form line) s = s
refused boot most input ended (fault.Event entry) s = s
refused boot most input ended (fault.Reply entry) s = s
refused boot most input ended fault.Read s = tt
refused boot most input ended fault.OutOfMemory s = tt
refused boot most input ended fault.Write s = none s.stopped.cause
  where
    none : IsCause s.line s.stopped.done s.stopped.r s.stopped.rest fault.Write → ⊥
    none (inl (is, long)) = cc
    none (inr (line, behind, begins, bad)) = bad
refused boot most input ended (fault.Head at) s = absurd (none s.stopped.cause)
  where
    none : IsCause s.line s.stopped.done s.stopped.r s.stopped.rest (fault.Head at) → ⊥
    none (inl (is, long)) = cc
    none (inr (line, behind, begins, bad)) = bad
refused boot most input ended (fault.Config what key) s = absurd (none s.stopped.cause)
  where
    none : IsCause s.line s.stopped.done s.stopped.r s.stopped.rest (fault.Config what key) → ⊥
    none (inl (is, long)) = cc
    none (inr (line, behind, begins, bad)) = bad

pub opened : (input pending more text : List ℕ) (boot : ℕ) (front : Front) (router : Router) → IsFront input front pending → text ≡ front.text
    → (settings : Settings) × (config_of text ≡ Ok settings) × (router ≡ start (desk.config_of settings.config) boot (desk.circuits_of settings.config))
    → IsOpened boot (input ++ more) (pending ++ more) (front.lines + 1) router
opened input pending more text boot front router h same (settings, says, is) = record {
  front = h.lines;
  at = record { begins = begins-more input pending more _ h.at.begins; none = h.at.none };
  counted = ap (λ (n : ℕ). n + 1) h.counted;
  settings = settings;
  says = ap config_of (sym (same ∙ h.text_is)) ∙ says;
  start_is = is;
}

pub config-refused : (input pending text : List ℕ) (boot most : ℕ) (ended : Bool) (front : Front) (why : StateFault) → IsFront input front pending → text ≡ front.text
    → (why ≡ fault.OutOfMemory) ⊎ IsConfigFault (config_of text) why → IsRefused boot most input ended why
config-refused input pending text boot most ended front why h same (inl memory) = subst (IsRefused boot most input ended) (sym memory) tt
config-refused input pending text boot most ended front why h same (inr bad) = by why bad
  where
    by : (w : StateFault) → IsConfigFault (config_of text) w → IsRefused boot most input ended w
    by (fault.Config what key) says = record { front = h.lines; journal = pending; at = h.at; says = ap config_of (sym (same ∙ h.text_is)) ∙ says }
    by fault.Read b = absurd b
    by fault.TooLong b = absurd b
    by (fault.Head line) b = absurd b
    by (fault.Form line) b = absurd b
    by (fault.Event entry) b = absurd b
    by (fault.Reply entry) b = absurd b
    by fault.Write b = absurd b
    by fault.OutOfMemory b = absurd b

module _ (gave mid now input pending text : List ℕ) (boot most : ℕ) (ended : Bool) (front : Front) (router : Router) (took : Took gave mid input)
    (h : IsFront input front pending) (same : text ≡ front.text)
    (begun : (settings : Settings) × (config_of text ≡ Ok settings) × (router ≡ start (desk.config_of settings.config) boot (desk.circuits_of settings.config))) where
  pub state-ok : (result : Result (List ℕ) StateFault)
      → IfOk result (λ made. (octets : List ℕ) × Took mid now octets × IsStateAfter router most (pending ++ octets) ended made)
      → IfOk result (λ made. IfGave gave now (λ octets. IsStateOf boot most octets ended made))
  state-ok (Ok made) (octets, more, after) = (
    input ++ octets,
    Took-more gave mid now input octets took more,
    record { journal = pending ++ octets; line = front.lines + 1; first = router; opened = opened input pending octets text boot front router h same begun; after = after },
  )
  state-ok (Err why) is = tt

  pub state-err : (result : Result (List ℕ) StateFault)
      → IfErr result (λ why. (octets : List ℕ) × Took mid now octets × (IsOutside why ⊎ IsStopped router (pending ++ octets) (front.lines + 1) most why))
      → IfErr result (λ why. IfGave gave now (λ octets. IsRefused boot most octets ended why))
  state-err (Ok made) is = tt
  state-err (Err why) (octets, more, cause) = (input ++ octets, Took-more gave mid now input octets took more, by cause)
    where
      stopped : (w : StateFault) → IsStopped router (pending ++ octets) (front.lines + 1) most w → IsRefused boot most (input ++ octets) ended w
      stopped w s = refused boot most (input ++ octets) ended w (record { journal = pending ++ octets; line = front.lines + 1; first = router; opened = opened input pending octets text boot front router h same begun; stopped = s })

      by : IsOutside why ⊎ IsStopped router (pending ++ octets) (front.lines + 1) most why → IsRefused boot most (input ++ octets) ended why
      by (inl (inl read)) = subst (IsRefused boot most (input ++ octets) ended) (sym read) tt
      by (inl (inr memory)) = subst (IsRefused boot most (input ++ octets) ended) (sym memory) tt
      by (inr s) = stopped why s

-- ---- what is written

pub write-refused : (gave now put put' : List ℕ) (boot most : ℕ) (ended : Bool) (why : StateFault) → IfGave gave now (λ octets. IsRefused boot most octets ended why) → put' ≡ put
    → IfGave gave now (λ octets. StateEndsOn boot most octets ended put put' (Err why))
write-refused gave now put put' boot most ended why (octets, took, bad) same = (octets, took, inl (bad, same))
