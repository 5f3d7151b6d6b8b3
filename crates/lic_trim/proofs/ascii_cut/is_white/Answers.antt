use Rattle.std.proofs.Common.{◌≡◌, ℕ, false, inl, inr, sym, ◌∙◌}
use Rattle.std.specs.Char.{is_whitespace}
use Rattle.std.proofs.lemmas.Bool.{cases_Bool}
use Rattle.lic_kind.specs.Kinds.{kind_of}
use Rattle.lic_kind.specs.declared.Kind.{Kind}
use Rattle.lic_kind.specs.declared.Kind.TheVariants as kind
use Rattle.lic_kind.specs.contracts.Kind.{the_type}
use Rattle.lic_kind.proofs.KindLemmas.{kind_of-white, is_whitespace-Blank}
use Rattle.lic_trim.proofs.ascii_cut.is_white.Goals as goal
use denote.Enum.Bare.{sameb}

dark : (byte : ℕ) → (kind_of byte ≡ kind.Blank → ⊥) → false ≡ is_whitespace byte
dark byte other = elim (cases_Bool (is_whitespace byte)) [
  | inl white ↦ absurd (other (kind_of-white byte white))
  | inr none ↦ sym none
]

at : (byte : ℕ) (k : Kind) → kind_of byte ≡ k → sameb the_type k kind.Blank ≡ is_whitespace byte
at byte kind.Blank is = sym (is_whitespace-Blank byte is)
at byte kind.Dropped is = dark byte (λ e. let both : kind.Dropped ≡ kind.Blank = sym is ∙ e in cc)
at byte kind.Mark is = dark byte (λ e. let both : kind.Mark ≡ kind.Blank = sym is ∙ e in cc)
at byte kind.Word is = dark byte (λ e. let both : kind.Word ≡ kind.Blank = sym is ∙ e in cc)

pub returns : goal.returns
returns c = c.eq.ensures ∙ at c.args.byte c.kind_of.result (sym c.kind_of.ensures)
