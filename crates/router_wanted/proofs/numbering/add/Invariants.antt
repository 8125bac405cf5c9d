use Rattle.std.proofs.Common.{◌≡◌, ◌+◌, ◌*◌, ◌++◌, ◌≤◌, length, map, reverse}
use Rattle.model_router.specs.Numbers.{node_number}
use Rattle.router_wanted.specs.Parts.{counted}
use Rattle.router_wanted.specs.Views.{wanted_of}
use Rattle.router_wanted.proofs.numbering.add.Given as goal

-- those added and those that are left are all, and at most 256
abbrev pub invariant-loop-tlvs : goal.invariant-loop-tlvs
invariant-loop-tlvs l =
    (map wanted_of l.list.items ++ counted l.first l.flags (256 * node_number l.node) l.number (reverse l.parts.items)
    ≡ map wanted_of l.initial.list.items ++ counted l.first l.flags (256 * node_number l.node) 0 (reverse l.initial.parts.items))
    × (l.number + length l.parts.items ≤ 256)

abbrev pub decreases-loop-tlvs : goal.decreases-loop-tlvs
decreases-loop-tlvs l = length l.parts.items
