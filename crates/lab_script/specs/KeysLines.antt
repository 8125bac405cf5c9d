-- The lines of a keys script, a table of forms (own).
use Rattle.std.specs.Prelude.{ℕ, List, [], ◌∷◌, codes}
use Rattle.lab_script.specs.declared.line.KeysLine.{KeysLine}
use Rattle.lab_script.specs.declared.line.KeysLine.TheVariants.{Router, Link, Issue, Pass}
use Rattle.lab_script.specs.Fields.{name_of, id_of, key_of, copy_of}
use Rattle.line_cuts.specs.Forms.{Form, field, field_of_two, done, of_forms}

-- `router NAME` (own)
abbrev pub router_form : Form KeysLine
router_form = field name_of λ name. done (Router name)

-- `link NAME NAME` (own)
abbrev pub link_form : Form KeysLine
link_form = field name_of λ first. field name_of λ second. done (Link first second)

-- `issue NAME LSPID NUMBER live|purged` (own)
abbrev pub issue_form : Form KeysLine
issue_form =
    field name_of λ router. field id_of λ id. field_of_two key_of λ key. done (Issue router id key)

-- `pass COPY NAME NAME` (own)
abbrev pub pass_form : Form KeysLine
pass_form = field copy_of λ copy. field name_of λ from. field name_of λ to. done (Pass copy from to)

abbrev pub keys_forms : List (List ℕ × Form KeysLine)
keys_forms =
    (codes "router", router_form) ∷
    (codes "link", link_form) ∷
    (codes "issue", issue_form) ∷
    (codes "pass", pass_form) ∷
    []

-- the line of these words; none where they have no form
abbrev pub line_of : Form KeysLine
line_of = of_forms keys_forms
