-- An entry more of a journal.
use Rattle.std.proofs.Common.{◌≡◌, ◌∙◌, ℕ, suc, ◌+◌, List, [], ◌∷◌, ◌++◌, length, Some, refl, sym, ap, subst, arith}
use Rattle.std.proofs.lemmas.List.{append_assoc, append-nil, length-append, map-append}
use Rattle.model_router.specs.Routers.{Router}
use Rattle.router_core.specs.Givens.{given}
use Rattle.journal_text.specs.declared.entry.WovenEntry.{WovenEntry}
use Rattle.journal_text.specs.Entries as journal
use Rattle.line_cuts.specs.Words.{words_of, lines_of}
use Rattle.line_source.specs.Lines.{IsUncut}
use Rattle.weave_model.specs.Entries.{Entry, next, replay}
use Rattle.weave_model.specs.Faults.{IsGood, AreGood}
use Rattle.weave_replay.specs.Entries.{entry_of}
use Rattle.state_replay.specs.Inputs.{Begins}
use Rattle.state_replay.specs.Replays.{AreEntries, modelled, IsReplayed}
use Rattle.state_replay.proofs.LineLemmas.{begins-more, begins-line, begins-rest}

entries-more : (number : ℕ) (lines : List (List ℕ)) (es : List WovenEntry) (line : List ℕ) (e : WovenEntry) → AreEntries number lines es
    → journal.entry_of (number + length es) (words_of line) ≡ Some e → AreEntries number (lines ++ line ∷ []) (es ++ e ∷ [])
entries-more number [] [] line e read one =
    let same : number + 0 ≡ number = omega arith in
    (subst (λ (n : ℕ). journal.entry_of n (words_of line) ≡ Some e) same one, tt)
entries-more number [] (x ∷ es) line e read one = absurd read
entries-more number (l ∷ lines) [] line e read one = absurd read
entries-more number (l ∷ lines) (x ∷ es) line e read one =
    let same : number + suc (length es) ≡ (number + 1) + length es = omega arith in
    (read.0, entries-more (number + 1) lines es line e read.1 (subst (λ (n : ℕ). journal.entry_of n (words_of line) ≡ Some e) same one))

replay-more : (r : Router) (es : List Entry) (e : Entry) → replay given r (es ++ e ∷ []) ≡ next given (replay given r es) e.deed
replay-more r [] e = refl
replay-more r (x ∷ es) e = replay-more (next given r x.deed) es e

good-more : (r : Router) (es : List Entry) (e : Entry) → AreGood given r es → IsGood given (replay given r es) e → AreGood given r (es ++ e ∷ [])
good-more r [] e g h = (h, tt)
good-more r (x ∷ es) e g h = (g.0, good-more (next given r x.deed) es e g.1 h)

pub replayed-none : (r : Router) (journal : List ℕ) → IsReplayed r r (journal ++ []) journal 0
replayed-none r journal = record {
  lines = [];
  begins = ap lines_of (append-nil journal);
  entries = [];
  read = tt;
  counted = refl;
  good = tt;
  after_is = refl;
}

-- octets more
pub replayed-wait : (before r : Router) (pending octets rest more : List ℕ) (done : ℕ) → IsReplayed before r (pending ++ octets) rest done
    → IsReplayed before r (pending ++ (octets ++ more)) (rest ++ more) done
replayed-wait before r pending octets rest more done h = record {
  lines = h.lines;
  begins = subst (λ (t : List ℕ). Begins t h.lines (rest ++ more)) (append_assoc pending octets more) (begins-more (pending ++ octets) rest more h.lines h.begins);
  entries = h.entries;
  read = h.read;
  counted = h.counted;
  good = h.good;
  after_is = h.after_is;
}

pub replayed-rest : (before r : Router) (pending octets rest more line : List ℕ) (done : ℕ) → IsReplayed before r (pending ++ octets) rest done
    → lines_of (rest ++ more) ≡ line ∷ [] → IsReplayed before r (pending ++ (octets ++ more)) line done × IsUncut line
replayed-rest before r pending octets rest more line done h e =
    let last = begins-rest (pending ++ octets) rest more line h.lines h.begins e in (
      record {
        lines = h.lines;
        begins = subst (λ (t : List ℕ). Begins t h.lines line) (append_assoc pending octets more) last.0;
        entries = h.entries;
        read = h.read;
        counted = h.counted;
        good = h.good;
        after_is = h.after_is;
      },
      last.1,
    )

pub replayed-more : (before r r' : Router) (pending octets rest more line behind : List ℕ) (done : ℕ) (e : WovenEntry) → IsReplayed before r (pending ++ octets) rest done
    → lines_of (rest ++ more) ≡ line ∷ lines_of behind → journal.entry_of (done + 1) (words_of line) ≡ Some e → IsGood given r (entry_of e) → r' ≡ next given r (entry_of e).deed
    → IsReplayed before r' (pending ++ (octets ++ more)) behind (done + 1)
replayed-more before r r' pending octets rest more line behind done e h is said good now =
    let counted = h.counted in
    let number : done + 1 ≡ 1 + length h.entries = omega (arith, counted) in
    let long = length-append h.entries (e ∷ []) in
    let all : modelled (h.entries ++ e ∷ []) ≡ modelled h.entries ++ entry_of e ∷ [] = map-append entry_of h.entries (e ∷ []) in
    record {
      lines = h.lines ++ line ∷ [];
      begins = subst (λ (t : List ℕ). Begins t (h.lines ++ line ∷ []) behind) (append_assoc pending octets more)
          (begins-line (pending ++ octets) rest more line behind h.lines h.begins is);
      entries = h.entries ++ e ∷ [];
      read = entries-more 1 h.lines h.entries line e h.read (subst (λ (n : ℕ). journal.entry_of n (words_of line) ≡ Some e) number said);
      counted = omega (arith, counted, long);
      good = subst (AreGood given before) (sym all)
          (good-more before (modelled h.entries) (entry_of e) h.good (subst (λ (s : Router). IsGood given s (entry_of e)) h.after_is good));
      after_is = now ∙ (ap (λ (s : Router). next given s (entry_of e).deed) h.after_is
          ∙ (sym (replay-more before (modelled h.entries) (entry_of e)) ∙ ap (replay given before) (sym all)));
    }
