-- Characters one by one, without the dropped ones.
use Rattle.std.proofs.Common.{◌≡◌, ℕ, Bool, true, List, [], ◌∷◌, ◌++◌, map, refl, ap, ◌∙◌, append-nil, not}
use Rattle.std.proofs.lemmas.Bool.{cond-false}
use Rattle.std.proofs.lemmas.List.{map-append}
use Rattle.std.proofs.lemmas.List.Elements.{filter-append}
use Rattle.lic_kind.specs.Kinds.{is_dropped}
use Rattle.lic_trim.specs.Sources.{unplaced, without_dropped}
use Rattle.lic_trim.specs.declared.source.SourceChar.{SourceChar}

pub map-itself : {A : Type 0} (xs : List A) → map (λ x. x) xs ≡ xs
map-itself [] = refl
map-itself (x ∷ xs) = ap (λ l. x ∷ l) (map-itself xs)

abbrev keeps : SourceChar → Bool
keeps s = not (is_dropped s.char)

pub one_dropped : (cs : List ℕ) (c : ℕ) → is_dropped c ≡ true → without_dropped (unplaced (cs ++ c ∷ [])) ≡ without_dropped (unplaced cs)
one_dropped cs c drops =
    ap without_dropped (map-append _ cs (c ∷ [])) ∙ filter-append keeps (unplaced cs) (unplaced (c ∷ []))
    ∙ ap (λ l. without_dropped (unplaced cs) ++ l) (cond-false (not (is_dropped c)) (unplaced (c ∷ [])) [] (ap not drops))
    ∙ append-nil (without_dropped (unplaced cs))
