-- The words of reasons.
use Rattle.std.specs.Prelude.{ℕ, List, codes}
use Rattle.lab_script.specs.declared.reason.Reason.{Reason}
use Rattle.lab_script.specs.declared.reason.Reason.TheVariants.{Head, Form, Late, Name, Again, NotOn, NotSent}

-- a reason's word (own)
abbrev pub reason_word : Reason → List ℕ
reason_word Head = codes "head"
reason_word Form = codes "form"
reason_word Late = codes "late"
reason_word Name = codes "name"
reason_word Again = codes "again"
reason_word NotOn = codes "not-on"
reason_word NotSent = codes "not-sent"
