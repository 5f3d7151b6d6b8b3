use Rattle.std.proofs.Common.{◌≡◌, ℕ, List, [], Bor, length, get_or, string_bytes, ap, subst, sym, ◌∙◌, arith}
use Rattle.std.specs.Str.{chars}
use Rattle.std.proofs.lemmas.List.{length-map}
use Rattle.lic_kind.specs.RuleTexts.{read_in, characters_in}
use Rattle.lic_kind.specs.declared.rule_text.RuleText.{RuleText}
use Rattle.lic_kind.proofs.TextsLemmas.{same_at}
use Rattle.lic_kind.proofs.texts.Texts.text.Goals as goal

pub returns-in-Fixed : goal.returns-in-Fixed
returns-in-Fixed c =
    let texts : List (Bor (List ℕ) × Bor (List ℕ)) = c.in-Fixed.texts.now in
    let many : length (characters_in c.args.self.now.held) ≡ length texts =
    ap (λ h. length (characters_in h)) c.in-Fixed.is ∙ length-map texts (λ t. t.1.now) in
    same_at {A = Bor (List ℕ) × Bor (List ℕ)} (λ t. chars t.0.now) (λ t. t.1.now) texts c.args.i _
    (subst (λ h. read_in h ≡ characters_in h) c.in-Fixed.is c.args.self.now.same) (omega (arith, c.requires, many))
    ∙ ap (λ h. get_or (characters_in h) c.args.i []) (sym c.in-Fixed.is)

pub returns-in-Owned : goal.returns-in-Owned
returns-in-Owned c =
    let texts : List RuleText = c.in-Owned.texts.items in
    let many : length (characters_in c.args.self.now.held) ≡ length texts =
    ap (λ h. length (characters_in h)) c.in-Owned.is ∙ length-map texts (λ t. t.characters.items) in
    let here : chars c.as_str.result.now ≡ chars (string_bytes (get_or texts c.args.i c.index.result.now).string) =
    ap chars (c.as_str.ensures.value ∙ ap (λ (t : RuleText). string_bytes t.string) c.index.ensures) in
    here
    ∙ same_at {A = RuleText} (λ t. chars (string_bytes t.string)) (λ t.
    t.characters.items) texts c.args.i c.index.result.now
    (subst (λ h. read_in h ≡ characters_in h) c.in-Owned.is c.args.self.now.same) (omega (arith, c.requires, many))
    ∙ ap (λ h. get_or (characters_in h) c.args.i []) (sym c.in-Owned.is)
