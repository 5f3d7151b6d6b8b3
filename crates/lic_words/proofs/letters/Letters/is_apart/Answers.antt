use Rattle.std.proofs.Common.{ℕ, List, not, length, inl, inr, eq-eqb, ne_eqb, sym, ap, ◌∙◌}
use Rattle.std.specs.Str.{chars}
use Rattle.std.proofs.lemmas.Bool.{cases_eq}
use Rattle.std.proofs.lemmas.Str.{IsUtf8-from_is_utf8}
use Rattle.lic_words.specs.Spelling.{gapped_from, apart_after}
use Rattle.lic_words.proofs.Sequences.{apart_after-gap}
use Rattle.lic_words.proofs.ReadLetters.{none_left, apart_left}
use Rattle.lic_words.proofs.letters.Letters.is_apart.Goals as goal

pub returns-then-self : goal.returns-then-self
returns-then-self c = λ none.
    let cs : List ℕ = chars c.args.self.now.rest.now in
    c.if-self.true ∙ sym (ap (λ b. apart_after b cs) c.if-self.true
    ∙ apart_after-gap c.args.self.now.last cs (ap (λ b. gapped_from c.args.self.now.last b cs) (sym c.if-self.true) ∙ none))

pub returns-else-self : goal.returns-else-self
returns-else-self c = λ none.
    let last = c.args.self.now.last in
    let bs : List ℕ = c.args.self.now.rest.now in
    elim (cases_eq (length bs) 0) [
      | inl end ↦
          ap not (c.is_empty.ensures ∙ eq-eqb (length bs) 0 end) ∙ sym c.if-self.false ∙ ap (apart_after c.args.self.now.is_apart) (sym (none_left bs end))
      | inr some ↦
          ap not (c.is_empty.ensures ∙ ne_eqb (length bs) 0 some)
          ∙ sym (apart_left last c.args.self.now.is_apart bs (IsUtf8-from_is_utf8 bs c.args.self.now.text) some none)
    ]
