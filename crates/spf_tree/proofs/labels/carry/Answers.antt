use Rattle.spf_tree.proofs.LabelLemmas.{place_names}
use Rattle.spf_tree.proofs.labels.carry.Goals as goal

pub get_at-requires : goal.get_at-requires
get_at-requires c = place_names c.args.old.now c.args.marks.now c.args.place c.args.node c.requires.marks c.requires.place
