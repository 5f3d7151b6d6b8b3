-- White space at the ends of texts.
use Rattle.std.proofs.Common.{◌≡◌, ◌+◌, ◌&&◌, Bool, true, false, cond, List, [], ◌∷◌, ◌++◌, drop, refl, sym, ap, ap₂, subst, ◌∙◌}
use Rattle.std.specs.Char.{is_whitespace}
use Rattle.std.proofs.lemmas.List.{drop-drop}
use Rattle.lic_ere.specs.Located.{Located}
use Rattle.lic_elements.specs.Texts.{spaces, trim_start, trim_end, kept_before, are_spaces, begins_in_space, ends_in_space}

trim_start-space : (x : Located) (after : List Located) → is_whitespace x.1 ≡ true → trim_start (x ∷ after) ≡ trim_start after
trim_start-space x after h = ap (λ b. drop (cond b (1 + spaces after) 0) (x ∷ after)) h ∙ sym (drop-drop (spaces after) 1 (x ∷ after))

pub trim_front_turn : (rest : List Located) (x : Located) (after total : List Located) → rest ≡ x ∷ after
    → is_whitespace x.1 ≡ true → trim_start rest ≡ total → trim_start after ≡ total
trim_front_turn rest x after total all h so_far = sym (trim_start-space x after h) ∙ ap trim_start (sym all) ∙ so_far

trim_end-space : (before : List Located) (x : Located) → is_whitespace x.1 ≡ true → trim_end (before ++ x ∷ []) ≡ trim_end before
trim_end-space [] x h = rw h refl
trim_end-space (y ∷ ys) x h = ap (kept_before y) (trim_end-space ys x h)

kept_before-some : (y : Located) (ys : List Located) (x : Located) → kept_before y (ys ++ x ∷ []) ≡ y ∷ (ys ++ x ∷ [])
kept_before-some y [] x = refl
kept_before-some y (z ∷ ys) x = refl

trim_end-other : (before : List Located) (x : Located) → is_whitespace x.1 ≡ false → trim_end (before ++ x ∷ []) ≡ before ++ x ∷ []
trim_end-other [] x h = rw h refl
trim_end-other (y ∷ ys) x h = ap (kept_before y) (trim_end-other ys x h) ∙ kept_before-some y ys x

pub trim_end_turn : (front before : List Located) (x : Located) (total : List Located) → front ≡ before ++ x ∷ []
    → is_whitespace x.1 ≡ true → trim_end front ≡ total → trim_end before ≡ total
trim_end_turn front before x total all h so_far = sym (trim_end-space before x h) ∙ ap trim_end (sym all) ∙ so_far

pub trim_end_stop : (front before : List Located) (x : Located) (total : List Located) → front ≡ before ++ x ∷ []
    → is_whitespace x.1 ≡ false → trim_end front ≡ total → front ≡ total
trim_end_stop front before x total all h so_far = all ∙ sym (trim_end-other before x h) ∙ ap trim_end (sym all) ∙ so_far

-- ---- what is trimmed is white space alone

abbrev pub FrontTrimmed : List Located → List Located → Type 0
FrontTrimmed all rest = (space : List Located) × (all ≡ space ++ rest) × (are_spaces space ≡ true) × (begins_in_space rest ≡ false)

abbrev pub EndTrimmed : List Located → List Located → Type 0
EndTrimmed all front = (space : List Located) × (all ≡ front ++ space) × (are_spaces space ≡ true) × (ends_in_space front ≡ false)

front_by : (x : Located) (after : List Located) (b : Bool) → is_whitespace x.1 ≡ b
    → FrontTrimmed after (trim_start after) → FrontTrimmed (x ∷ after) (trim_start (x ∷ after))
front_by x after true h more =
    subst (FrontTrimmed (x ∷ after)) (sym (trim_start-space x after h)) (x ∷ more.0, ap (λ l. x ∷ l) more.1, ap₂ (λ p q. p && q) h more.2, more.3)
front_by x after false h more =
    let same : trim_start (x ∷ after) ≡ x ∷ after = ap (λ b. drop (cond b (1 + spaces after) 0) (x ∷ after)) h in
    subst (FrontTrimmed (x ∷ after)) (sym same) ([], refl, refl, h)

pub front_trimmed : (all : List Located) → FrontTrimmed all (trim_start all)
front_trimmed [] = ([], refl, refl, refl)
front_trimmed (x ∷ after) = front_by x after (is_whitespace x.1) refl (front_trimmed after)

space_by : (x : Located) (after : List Located) (b : Bool) → is_whitespace x.1 ≡ b → EndTrimmed after [] → EndTrimmed (x ∷ after) (cond b [] (x ∷ []))
space_by x after true h more = (x ∷ more.0, ap (λ l. x ∷ l) more.1, ap₂ (λ p q. p && q) h more.2, refl)
space_by x after false h more = (more.0, ap (λ l. x ∷ l) more.1, more.2, h)

end_by : (x : Located) (after front : List Located) → EndTrimmed after front → EndTrimmed (x ∷ after) (kept_before x front)
end_by x after [] more = space_by x after (is_whitespace x.1) refl more
end_by x after (y ∷ ys) more = (more.0, ap (λ l. x ∷ l) more.1, more.2, more.3)

pub end_trimmed : (all : List Located) → EndTrimmed all (trim_end all)
end_trimmed [] = ([], refl, refl, refl)
end_trimmed (x ∷ after) = end_by x after (trim_end after) (end_trimmed after)
