use Rattle.std.proofs.Common.{◌≡◌, ◌++◌, drop}
use Rattle.weave_core.specs.Fits.{sent_by}
use Rattle.weave_core.specs.Posts.{AreKept}
use Rattle.weave_core.proofs.medium.send_all.Given as goal

abbrev pub invariant-loop-letter : goal.invariant-loop-letter
invariant-loop-letter l = record {
  kept : AreKept l.fn.posts.items l.fn.sent.items → AreKept l.posts.items l.sent.items;
  sent : l.sent.items ++ sent_by l.party (drop l.letter-index l.letters) ≡ l.fn.sent.items ++ sent_by l.party l.letters;
}
