-- Texts that are held in two forms.
use Rattle.std.proofs.Common.{◌≡◌, ℕ, ◌<◌, List, [], ◌∷◌, length, get_or, map, string_bytes, refl, sym, ap, ap₂, ◌∙◌}
use Rattle.std.specs.Str.{chars}
use Rattle.lic_kind.specs.declared.rule_text.RuleText.{RuleText}
use Rattle.std.proofs.lemmas.List.{get_or-map}

-- two forms of the same elements are the same at each slot
pub same_at : {A : Type 0} (f g : A → List ℕ) (xs : List A) (i : ℕ) (d : A) → map f xs ≡ map g xs → i < length xs → f (get_or xs i d) ≡ get_or (map g xs) i []
same_at f g xs i d same within = sym (get_or-map f xs i d [] within) ∙ ap (λ l. get_or l i []) same

-- the strings of a file have the characters that are held
pub all_same : (texts : List RuleText) → map (λ t. chars (string_bytes t.string)) texts ≡ map (λ t. t.characters.items) texts
all_same [] = refl
all_same (t ∷ texts) = ap₂ (λ x xs. x ∷ xs) t.same (all_same texts)
