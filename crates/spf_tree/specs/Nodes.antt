-- Nodes as numbers.

use Rattle.std.specs.Prelude.{ℕ, ◌%◌, ◌==◌, Bool}
use Rattle.isis_base.specs.declared.identifiers.SystemId.{SystemId}
use Rattle.isis_base.specs.declared.identifiers.NodeId.{NodeId}
use Rattle.isis_base.specs.Identifiers.{lsp_number}

-- a node as a number: that of its LSP number 0 (own)
unfoldable pub node_number : NodeId → ℕ
node_number node = lsp_number (record { node = node; number = 0 })

-- a system as a number: that of the node that it is itself, of pseudonode number 0 (ISO 10589 7.2.3)
abbrev pub system_node : SystemId → ℕ
system_node system = node_number (record { system = system; pseudonode = 0 })

-- whether the number is that of a system: its pseudonode number is 0 (ISO 10589 7.2.3)
abbrev pub is_system : ℕ → Bool
is_system node = node % 65536 == 0
