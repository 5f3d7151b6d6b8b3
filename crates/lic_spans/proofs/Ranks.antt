-- The order of kinds.
use Rattle.std.proofs.Common.{◌≡◌, ℕ, zero, suc, true, false, refl, sym, ap, subst, ◌∙◌}
use Rattle.std.proofs.lemmas.Bool.{false≢true}
use denote.Enum.Bare.{sameb}
use Rattle.lic_spans.specs.contracts.span.SpanKind.{the_type}
use Rattle.lic_spans.specs.declared.span.SpanKind.{SpanKind}
use Rattle.lic_spans.specs.declared.span.SpanKind.TheVariants.{End, Place, Letters, Blanks}
use Rattle.lic_spans.specs.Spans.{rank}

abbrev kind_at : ℕ → SpanKind
kind_at zero = End
kind_at (suc zero) = Place
kind_at (suc (suc zero)) = Letters
kind_at (suc (suc (suc n))) = Blanks

kind_at-rank : (k : SpanKind) → kind_at (rank k) ≡ k
kind_at-rank End = refl
kind_at-rank Place = refl
kind_at-rank Letters = refl
kind_at-rank Blanks = refl

-- two kinds of one place in the order are one
pub rank-same : (j k : SpanKind) → rank j ≡ rank k → j ≡ k
rank-same j k e = sym (kind_at-rank j) ∙ ap kind_at e ∙ kind_at-rank k

itself : (k : SpanKind) → sameb the_type k k ≡ true
itself End = refl
itself Place = refl
itself Letters = refl
itself Blanks = refl

-- kinds that the code's test finds different are not the same
pub same_kind : (j k : SpanKind) → sameb the_type j k ≡ false → j ≡ k → ⊥
same_kind j k other e = false≢true (sym other ∙ subst (λ x. sameb the_type j x ≡ true) e (itself j))
