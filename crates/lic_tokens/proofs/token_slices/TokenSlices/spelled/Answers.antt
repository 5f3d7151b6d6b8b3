use Rattle.std.proofs.Math.Logic.{∥∥₁_elim}
use Rattle.std.specs.Coded.{Coded-set, coded_ℕ, coded_list}
use Rattle.lic_tokens.proofs.token_slices.TokenSlices.spelled.Goals as goal

pub returns : goal.returns
returns c = ∥∥₁_elim c.args.self.now.kept (Coded-set (coded_list coded_ℕ) _ _) (λ kept. kept.spells)
