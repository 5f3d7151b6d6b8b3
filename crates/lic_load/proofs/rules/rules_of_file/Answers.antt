use Rattle.std.proofs.Common.{◌≡◌, ◌⊎◌, inr, subst, sym}
use Rattle.lic_kind.specs.LineRules.{rules_of}
use Rattle.lic_kind.specs.RuleFiles.{lines_of, IsFirstFault, out_of_memory}
use Rattle.lic_load.specs.Causes.{IsFileFault}
use Rattle.lic_load.specs.Loading.{AreRulesOfFile, IsFaultOfRules}
use Rattle.lic_load.proofs.Files.{turned}
use Rattle.lic_load.proofs.rules.rules_of_file.Goals as goal

pub returns-clause-refused : goal.returns-clause-refused
returns-clause-refused g c =
    let bytes = c.as_slice.result.now in
    turned _ c.read_rules.result c.map_err.result (IsFileFault bytes (λ fault. IsFirstFault (lines_of bytes) fault ⊎ (fault ≡ out_of_memory)))
    IsFaultOfRules c.map_err.ensures.cases (λ e y is p. subst IsFaultOfRules (sym is) (inr (bytes, p))) c.read_rules.ensures.refused
