use Rattle.std.proofs.Common.{◌≡◌, ℕ, Option, Some, None, string_bytes, refl, rules, sym, subst}
use Rattle.std.specs.Prelude.{IfNone}
use Rattle.lic_arguments.specs.Arguments.{IsNamed, IsUnnamed}
use Rattle.lic_arguments.specs.declared.after.After.{After}
use Rattle.lic_arguments.specs.declared.fault.ArgumentFault.TheVariants.{NoTemplate}
use Rattle.lic_arguments.proofs.arguments.ask_of.Goals as goal

pub returns-in_default-number_of-clause-fault : goal.returns-in_default-number_of-clause-fault
returns-in_default-number_of-clause-fault c =
    let same : string_bytes c.in_ok-id.id ≡ c.in-Some.after.id.now = search rules in
    let unnamed : (k : ℕ) → ¬ (IsNamed c.args.set.now c.in-Some.after.id.now k) =
    none c.number_of.result c.in_default-number_of.not-Some c.number_of.ensures.none in
    subst (λ (o : Option After). IsUnnamed c.args.set.now o (NoTemplate c.in_ok-id.id)) (sym c.in-Some.is) (same, unnamed)
  where
    none : (o : Option ℕ) → ((x : ℕ) → o ≡ Some x → ⊥)
        → IfNone o ((k : ℕ) → ¬ (IsNamed c.args.set.now c.in-Some.after.id.now k)) → (k : ℕ)
        → ¬ (IsNamed c.args.set.now c.in-Some.after.id.now k)
    none None _ h = h
    none (Some x) other h = absurd (other x refl)
