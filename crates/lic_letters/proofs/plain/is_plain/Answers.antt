use Rattle.std.proofs.Common.{ℕ, List, sym, subst}
use Rattle.std.proofs.lemmas.Str.{chars-IsAscii}
use Rattle.lic_kind.specs.LineRules.{rules_of}
use Rattle.lic_trim.specs.Lines.{cut_of, whole_line}
use Rattle.lic_trim.specs.Spaces.{TakesSpaces}
use Rattle.lic_letters.proofs.plain.is_plain.Goals as goal

pub returns-then-is_ascii : goal.returns-then-is_ascii
returns-then-is_ascii c = λ yes utf8.
    let line : List ℕ = c.args.line.now in
    subst (λ l. TakesSpaces (cut_of (rules_of c.args.rules.now) whole_line l) l) (sym (chars-IsAscii line c.if-is_ascii.ensures.cases)) (c.takes_spaces.ensures yes)
