-- What follows each element in its line, from the last element on.
use Rattle.std.proofs.Common.{◌≡◌, eqb, Bool, true, false, ◌&&◌, ◌||◌, List, [], ◌∷◌, ◌++◌, map, refl, sym, ap, ◌∙◌}
use Rattle.lic_pieces.specs.declared.pieces.Next.{Next}
use Rattle.lic_ere.specs.Located.{Located}
use Rattle.lic_elements.specs.Signs.{new_line}
use Rattle.lic_markup.specs.Lines.{at_line_start, ends_line, is_space}
use Rattle.lic_elements.specs.Elements.{Element}

-- the elements alone
abbrev pub passed : List (Element × Next) → List Element
passed ps = map (λ p. p.0) ps

pub ends_line-last : (before : List Located) (x : Located) → ends_line (before ++ x ∷ []) ≡ eqb x.1 new_line
ends_line-last [] x = refl
ends_line-last (y ∷ []) x = refl
ends_line-last (y ∷ z ∷ zs) x = ends_line-last (z ∷ zs) x

-- ---- the start of a line, from its end on

-- one character after others
at_line_start-last : (so_far : Bool) (before : List Located) (x : Located)
    → at_line_start so_far (before ++ x ∷ []) ≡ (eqb x.1 new_line || (at_line_start so_far before && is_space x.1))
at_line_start-last so_far [] x = refl
at_line_start-last so_far (y ∷ ys) x = at_line_start-last (eqb y.1 new_line || (so_far && is_space y.1)) ys x

feed : (ends before space : Bool) → ends ≡ true → (ends || (before && space)) ≡ true
feed true before space e = refl
feed false before space e = cc

dark : (ends before space : Bool) → ends ≡ false → space ≡ false → (ends || (before && space)) ≡ false
dark false true false e h = refl
dark false false false e h = refl
dark false before true e h = cc
dark true before space e h = cc

light : (ends before space : Bool) → ends ≡ false → space ≡ true → (ends || (before && space)) ≡ before
light false true true e h = refl
light false false true e h = refl
light false before false e h = cc
light true before space e h = cc

module _ (so_far : Bool) (piece front before : List Located) (x : Located) (is : front ≡ before ++ x ∷ [])
    (known : at_line_start so_far front ≡ at_line_start so_far piece) where
  split : (eqb x.1 new_line || (at_line_start so_far before && is_space x.1)) ≡ at_line_start so_far piece
  split = sym (at_line_start-last so_far before x) ∙ ap (at_line_start so_far) (sym is) ∙ known

  pub line_starts : eqb x.1 new_line ≡ true → true ≡ at_line_start so_far piece
  line_starts ends = sym (feed (eqb x.1 new_line) (at_line_start so_far before) (is_space x.1) ends) ∙ split

  pub line_has_text : eqb x.1 new_line ≡ false → is_space x.1 ≡ false → false ≡ at_line_start so_far piece
  line_has_text goes dark_there = sym (dark (eqb x.1 new_line) (at_line_start so_far before) (is_space x.1) goes dark_there) ∙ split

  pub line_continues : eqb x.1 new_line ≡ false → is_space x.1 ≡ true → at_line_start so_far before ≡ at_line_start so_far piece
  line_continues goes space = sym (light (eqb x.1 new_line) (at_line_start so_far before) (is_space x.1) goes space) ∙ split
