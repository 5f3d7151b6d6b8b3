use Rattle.lic_kind.proofs.KindLemmas.{kind_of-dropped, kind_of-white, kind_of-mark, is_dropped-Dropped, is_whitespace-Blank, is_mark-Mark}
use Rattle.lic_kind.proofs.laws.tables_decide_kinds.Goals as goal

pub returns-clause-dropped : goal.returns-clause-dropped
returns-clause-dropped c = λ d. (kind_of-dropped d, is_dropped-Dropped d)

pub returns-clause-blank : goal.returns-clause-blank
returns-clause-blank c = λ d. (kind_of-white d, is_whitespace-Blank d)

pub returns-clause-mark : goal.returns-clause-mark
returns-clause-mark c = λ d. (kind_of-mark d, is_mark-Mark d)
