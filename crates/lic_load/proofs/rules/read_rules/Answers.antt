use Rattle.std.proofs.Common.{◌≡◌, IfOk, subst}
use Rattle.lic_kind.specs.LineRules.{rules_of}
use Rattle.lic_kind.specs.RuleFiles.{lines_of, rules_in}
use Rattle.lic_load.proofs.Files.{kept}
use Rattle.lic_load.proofs.rules.read_rules.Goals as goal

pub returns-in-Ok-clause-rules : goal.returns-in-Ok-clause-rules
returns-in-Ok-clause-rules c =
    kept _ c.read.result c.map_err.result (λ rules. rules_of rules ≡ rules_in (lines_of c.args.bytes.now)) c.map_err.ensures.cases
    (subst (λ bytes. IfOk c.read.result (λ rules. rules_of rules ≡ rules_in (lines_of bytes))) c.in-Ok.ensures.cases.0 c.read.ensures.rules)
