-- What is round a piece in its lines is what the markup says.
use Rattle.std.proofs.Common.{◌≡◌, ℕ, Bool, true, false, cond, ◌==◌, ◌&&◌, ◌||◌, List, [], ◌∷◌, ◌++◌, map, reverse, refl, sym, ap, ◌∙◌, append_assoc, append-nil}
use Rattle.std.proofs.lemmas.List.{reverse-append}
use Rattle.lic_ere.specs.Located.{Located}
use Rattle.lic_pieces.specs.declared.pieces.Next.TheVariants as next
use Rattle.lic_elements.specs.Signs.{new_line}
use Rattle.lic_elements.specs.Rules as rules
use Rattle.lic_elements.specs.Elements.{Element, text, rule, refused}
use Rattle.lic_markup.specs.Lines.{is_space, at_line_start, line_ends, line_ends_in, counts_as, next_of, ends_line, next_after}
use Rattle.lic_markup.specs.Templates.{Sign, character, signs_in, signs_of, is_clear, opens_line, first_rule, follows}

-- ---- to the end of the line

line_ends-signs : (following : Bool) (piece : List Located) (ss : List Sign) → following ≡ is_clear ss
    → line_ends following piece ≡ is_clear (map (λ x. character x.1) piece ++ ss)
line_ends-signs following [] ss e = e
line_ends-signs following (x ∷ piece) ss e = ap (λ b. x.1 == new_line || (is_space x.1 && b)) (line_ends-signs following piece ss e)

line_ends_in-signs : (es : List Element) → line_ends_in es ≡ is_clear (signs_of es)
line_ends_in-signs [] = refl
line_ends_in-signs (text piece ∷ es) = line_ends-signs (line_ends_in es) piece (signs_of es) (line_ends_in-signs es)
line_ends_in-signs (rule (rules.variable name original offset pattern) ∷ es) = refl
line_ends_in-signs (rule (rules.begin offset) ∷ es) = line_ends_in-signs es
line_ends_in-signs (rule (rules.finish offset) ∷ es) = line_ends_in-signs es
line_ends_in-signs (refused e ∷ es) = line_ends_in-signs es

counts_as-first : (e : Element) (es : List Element) → counts_as e ≡ first_rule (e ∷ es)
counts_as-first (text piece) es = refl
counts_as-first (rule (rules.variable name original offset pattern)) es = refl
counts_as-first (rule (rules.begin offset)) es = refl
counts_as-first (rule (rules.finish offset)) es = refl
counts_as-first (refused e) es = refl

next_of-signs : (after : List Element) → next_of after ≡ cond (is_clear (signs_of after)) next.LineEnd (first_rule after)
next_of-signs [] = refl
next_of-signs (e ∷ es) = ap (λ b. cond b next.LineEnd (counts_as e)) (line_ends_in-signs (e ∷ es))
    ∙ ap (λ n. cond (is_clear (signs_of (e ∷ es))) next.LineEnd n) (counts_as-first e es)

-- what follows a piece
pub follows-is : (piece : List Located) (after : List Element) → next_after piece (next_of after) ≡ follows piece after
follows-is piece after = by_end (ends_line piece)
  where
    by_end : (b : Bool) → cond b next.LineEnd (next_of after) ≡ cond (b || is_clear (signs_of after)) next.LineEnd (first_rule after)
    by_end true = refl
    by_end false = next_of-signs after

-- ---- from the start of the line

turned : (x : Sign) (xs back : List Sign) → reverse (x ∷ xs) ++ back ≡ reverse xs ++ x ∷ back
turned x xs back = ap (λ (l : List Sign). l ++ back) (reverse-append (x ∷ []) xs) ∙ append_assoc (reverse xs) (x ∷ []) back

other_way : (a b : Bool) → (a && b) ≡ (b && a)
other_way true true = refl
other_way true false = refl
other_way false true = refl
other_way false false = refl

at_line_start-signs : (so_far : Bool) (piece : List Located) (back : List Sign) → so_far ≡ is_clear back
    → at_line_start so_far piece ≡ is_clear (reverse (map (λ x. character x.1) piece) ++ back)
at_line_start-signs so_far [] back e = e
at_line_start-signs so_far (x ∷ piece) back e =
    at_line_start-signs (x.1 == new_line || (so_far && is_space x.1)) piece (character x.1 ∷ back)
    (ap (λ b. x.1 == new_line || b) (other_way so_far (is_space x.1) ∙ ap (λ b. is_space x.1 && b) e))
    ∙ ap is_clear (sym (turned (character x.1) (map (λ y. character y.1) piece) back))

signs_of-append : (before after : List Element) → signs_of (before ++ after) ≡ signs_of before ++ signs_of after
signs_of-append [] after = refl
signs_of-append (e ∷ before) after =
    ap (λ ss. signs_in e ++ ss) (signs_of-append before after)
    ∙ sym (append_assoc (signs_in e) (signs_of before) (signs_of after))

opens_line-next : (before : List Element) (e : Element) → opens_line (before ++ e ∷ []) ≡ is_clear (reverse (signs_in e) ++ reverse (signs_of before))
opens_line-next before e =
    ap is_clear
    (ap reverse (signs_of-append before (e ∷ []) ∙ ap (λ ss. signs_of before ++ ss) (append-nil (signs_in e))) ∙ reverse-append (signs_of before) (signs_in e))

pub opens-text : (so_far : Bool) (before : List Element) (piece : List Located) → so_far ≡ opens_line before
    → at_line_start so_far piece ≡ opens_line (before ++ text piece ∷ [])
opens-text so_far before piece e = at_line_start-signs so_far piece (reverse (signs_of before)) e ∙ sym (opens_line-next before (text piece))

pub opens-variable : (before : List Element) (name original : List ℕ) (offset : ℕ) (pattern : List ℕ)
    → false ≡ opens_line (before ++ rule (rules.variable name original offset pattern) ∷ [])
opens-variable before name original offset pattern = sym (opens_line-next before (rule (rules.variable name original offset pattern)))

pub opens-begin : (so_far : Bool) (before : List Element) (offset : ℕ) → so_far ≡ opens_line before
    → so_far ≡ opens_line (before ++ rule (rules.begin offset) ∷ [])
opens-begin so_far before offset e = e ∙ sym (opens_line-next before (rule (rules.begin offset)))

pub opens-finish : (so_far : Bool) (before : List Element) (offset : ℕ) → so_far ≡ opens_line before
    → so_far ≡ opens_line (before ++ rule (rules.finish offset) ∷ [])
opens-finish so_far before offset e = e ∙ sym (opens_line-next before (rule (rules.finish offset)))
