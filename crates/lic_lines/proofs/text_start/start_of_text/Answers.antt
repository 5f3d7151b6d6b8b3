use Rattle.std.proofs.Common.{◌≡◌, sym, ◌∙◌, ⊎_elim, get_or}
use Rattle.lic_kind.specs.Kinds.{kind_of}
use Rattle.lic_kind.specs.declared.Kind.{Kind}
use Rattle.lic_kind.specs.declared.Kind.TheVariants as kind
use Rattle.lic_trim.proofs.ItemLemmas.{none}
use Rattle.lic_lines.proofs.TextStarts.{front_blank}
use Rattle.lic_lines.proofs.text_start.start_of_text.Goals as goal

pub returns-in-Blank : goal.returns-in-Blank
returns-in-Blank c =
    let neither : (k : Kind) → kind_of (get_or c.args.text.now 0 none).char ≡ k → (kind.Blank ≡ k → ⊥) → (kind.Dropped ≡ k → ⊥) → ⊥ =
    λ k is no_blank no_dropped. ⊎_elim (λ b. no_blank (sym b ∙ c.kind_of.ensures ∙ is)) (λ d. no_dropped (sym d ∙ c.kind_of.ensures ∙ is)) c.in-Blank.is in
    λ rules after_blank. front_blank rules after_blank c.args.text.now none c.requires
    (λ is. neither kind.Word is (λ e. cc) (λ e. cc)) (λ is. neither kind.Mark is (λ e. cc) (λ e. cc))
