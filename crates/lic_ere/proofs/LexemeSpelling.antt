-- The lexemes that are read are those that are spelled.
use Rattle.std.proofs.Common.{◌≡◌, ℕ, zero, suc, Bool, true, false, cond, List, [], ◌∷◌, length, drop, Option, Some, None, Result, Ok, Err, inl, inr, refl, ap, sym, subst, ◌∙◌, ne_eqb}
use Rattle.std.specs.Prelude.{◌==◌, ◌||◌, ◌≢◌}
use Rattle.std.specs.List.{AllByRecursion}
use Rattle.std.specs.Option.{option_map}
use Rattle.std.specs.Char.{is_ascii_punctuation}
use Rattle.std.proofs.lemmas.Bool.{cases_eq, eqb-true}
use Rattle.std.proofs.lemmas.List.{nil_from_length}
use Rattle.lic_ere.specs.declared.lexeme.bounds.Bounds.{Bounds}
use Rattle.lic_ere.specs.declared.fault.EreFault.{EreFault}
use Rattle.lic_ere.specs.declared.fault.EreCause.TheVariants.{UnknownEscape, AnchorInside}
use Rattle.lic_ere.specs.Signs.{dollar, open_paren, close_paren, star, plus, dot, question_mark, open_bracket, backslash, caret, open_brace, vertical_bar}
use Rattle.lic_ere.specs.Sets.{Brackets}
use Rattle.lic_ere.specs.Trees.{any, set, letters_tree}
use Rattle.lic_ere.specs.Located.{Located, with_remaining}
use Rattle.lic_ere.specs.Faults.{fault_at, map_ok, ◌>>=◌}
use Rattle.lic_ere.specs.Bounds.{bounds_at}
use Rattle.lic_ere.specs.Brackets.{bracket_at}
use Rattle.lic_ere.specs.Lexemes.{Lexeme, unit, sign, opening, closing, bar, anchor, bounds, counted_sign, escaped_at, lexeme_at, and_then, lexemes}
use Rattle.lic_ere.specs.Spelling.{IsBounds, signs, IsLexeme, any_letter, any_number, one_or_more, one_or_none, counted, uncounted, opens, closes, divides, bracket, escaped, begins, ends, ordinary, AreLexemes, no_lexeme, one_lexeme}
use Rattle.lic_ere.proofs.BoundSpelling.{IsBounds-read, bounds_at-spelled}
use Rattle.lic_ere.proofs.BracketSpelling.{IsBracket-read, bracket_at-spelled}
use Rattle.lic_ere.proofs.ReadingLemmas.{lexemes-skipped}

-- a lexeme, and the characters after it
abbrev pub read_of : Located → List Located → Result (Lexeme × List Located) EreFault
read_of x after = map_ok (with_remaining after) (lexeme_at x after)

-- the same with the character that it is
at_sign : (x : Located) (after : List Located) (s : ℕ) → x.1 ≡ s → read_of x after ≡ read_of (x.0, s) after
at_sign x after s e = ap (λ c. read_of (x.0, c) after) e

pub ordinary_is : (x : Located) (after : List Located) → AllByRecursion (λ s. x.1 ≢ s) signs → lexeme_at x after ≡ Ok (unit (letters_tree x.1), 0)
unfolding lexeme_at
ordinary_is x after all =
    let t0 : (x.1 == dot) ≡ false = ne_eqb x.1 dot all.0 in
    let t1 : (x.1 == star) ≡ false = ne_eqb x.1 star all.1.0 in
    let t2 : (x.1 == plus) ≡ false = ne_eqb x.1 plus all.1.1.0 in
    let t3 : (x.1 == question_mark) ≡ false = ne_eqb x.1 question_mark all.1.1.1.0 in
    let t4 : (x.1 == open_brace) ≡ false = ne_eqb x.1 open_brace all.1.1.1.1.0 in
    let t5 : (x.1 == open_paren) ≡ false = ne_eqb x.1 open_paren all.1.1.1.1.1.0 in
    let t6 : (x.1 == close_paren) ≡ false = ne_eqb x.1 close_paren all.1.1.1.1.1.1.0 in
    let t7 : (x.1 == vertical_bar) ≡ false = ne_eqb x.1 vertical_bar all.1.1.1.1.1.1.1.0 in
    let t8 : (x.1 == open_bracket) ≡ false = ne_eqb x.1 open_bracket all.1.1.1.1.1.1.1.1.0 in
    let t9 : (x.1 == backslash) ≡ false = ne_eqb x.1 backslash all.1.1.1.1.1.1.1.1.1.0 in
    let t10 : (x.1 == caret) ≡ false = ne_eqb x.1 caret all.1.1.1.1.1.1.1.1.1.1.0 in
    let t11 : (x.1 == dollar) ≡ false = ne_eqb x.1 dollar all.1.1.1.1.1.1.1.1.1.1.1.0 in
    rw (t0, t1, t2, t3, t4, t5, t6, t7, t8, t9, t10, t11) refl

ordinary_at : (x : Located) (after : List Located) → AllByRecursion (λ s. x.1 ≢ s) signs → read_of x after ≡ Ok (unit (letters_tree x.1), after)
ordinary_at x after all = ap (map_ok (with_remaining after)) (ordinary_is x after all)

-- ---- what is spelled is read

counted_gives : (after rest : List Located) (b : Bounds) (o : Option (Bounds × ℕ))
    → option_map (with_remaining after) o ≡ Some (b, rest) → with_remaining after (counted_sign o) ≡ (sign (Some b), rest)
counted_gives after rest b None e = absurd cc
counted_gives after rest b (Some y) e = ap (λ (o : Option (Bounds × List Located)). elim o [ Some p ↦ (sign (Some p.0), p.1) | None ↦ (sign (Some b), rest) ]) e

uncounted_gives : (after : List Located) (o : Option (Bounds × ℕ)) → bounds_at after ≡ o
    → ((more : List Located) (b : Bounds) → IsBounds after more b → ⊥)
    → with_remaining after (counted_sign o) ≡ (sign None, after)
uncounted_gives after None was none = refl
uncounted_gives after (Some y) was none =
    absurd (none (drop y.1 after) y.0
    (bounds_at-spelled after (drop y.1 after) y.0 (ap (option_map (with_remaining after)) was)))

bracket_gives : (after rest : List Located) (b : Brackets) (r : Result (Brackets × ℕ) EreFault)
    → map_ok (with_remaining after) r ≡ Ok (b, rest)
    → map_ok (with_remaining after) (r >>= λ y. Ok (unit (set y.0), y.1)) ≡ Ok (unit (set b), rest)
bracket_gives after rest b (Err d) e = absurd cc
bracket_gives after rest b (Ok y) e = ap (map_ok (λ (p : Brackets × List Located). (unit (set p.0), p.1))) e

pub lexeme_read : {x : Located} {after rest : List Located} {l : Lexeme} → IsLexeme x after rest l → read_of x after ≡ Ok (l, rest)
unfolding lexeme_at
lexeme_read (any_letter {x = x} {rest = rest} e) = at_sign x rest dot e
lexeme_read (any_number {x = x} {rest = rest} e) = at_sign x rest star e
lexeme_read (one_or_more {x = x} {rest = rest} e) = at_sign x rest plus e
lexeme_read (one_or_none {x = x} {rest = rest} e) = at_sign x rest question_mark e
lexeme_read (counted {x = x} {after = after} {rest = rest} {b = b} e is) =
    at_sign x after open_brace e ∙ ap (λ (p : Lexeme × List Located). Ok p) (counted_gives after rest b (bounds_at after) (IsBounds-read after rest b is))
lexeme_read (uncounted {x = x} {rest = rest} e none) =
    at_sign x rest open_brace e ∙ ap (λ (p : Lexeme × List Located). Ok p) (uncounted_gives rest (bounds_at rest) refl none)
lexeme_read (opens {x = x} {rest = rest} e) = at_sign x rest open_paren e
lexeme_read (closes {x = x} {rest = rest} e) = at_sign x rest close_paren e
lexeme_read (divides {x = x} {rest = rest} e) = at_sign x rest vertical_bar e
lexeme_read (bracket {x = x} {after = after} {rest = rest} {b = b} e is) =
    at_sign x after open_bracket e ∙ bracket_gives after rest b (bracket_at x.0 after) (IsBracket-read x.0 is)
lexeme_read (escaped {x = x} {y = y} {rest = rest} e mark) = at_sign x (y ∷ rest) backslash e ∙ rw mark refl
lexeme_read (begins {x = x} {rest = rest} e first) = at_sign x rest caret e ∙ ap (λ p. read_of (p, caret) rest) first
lexeme_read (ends {x = x} e) = at_sign x [] dollar e
lexeme_read (ordinary {x = x} {rest = rest} all) = ordinary_at x rest all

and_then_read : (x : Located) (after rest : List Located) (l : Lexeme) (ls : List (ℕ × Lexeme))
    (r : Result (Lexeme × ℕ) EreFault) → map_ok (with_remaining after) r ≡ Ok (l, rest)
    → lexemes 0 rest ≡ record { found = ls; fault = None }
    → and_then x.0 r (λ taken. lexemes taken after) ≡ record { found = (x.0, l) ∷ ls; fault = None }
and_then_read x after rest l ls (Err d) e others = absurd cc
and_then_read x after rest l ls (Ok y) e others =
    let one : y.0 ≡ l = ap (λ (r : Result (Lexeme × List Located) EreFault). elim r [ Ok z ↦ z.0 | Err d ↦ l ]) e in
    let two : drop y.1 after ≡ rest = ap (λ (r : Result (Lexeme × List Located) EreFault). elim r [ Ok z ↦ z.1 | Err d ↦ rest ]) e in
    let left : lexemes y.1 after ≡ record { found = ls; fault = None } = lexemes-skipped y.1 after ∙ ap (lexemes 0) two ∙ others in
    (λ i. record { found = (x.0, one i) ∷ (left i).found; fault = (left i).fault })

-- the lexemes that are spelled are read
pub are_read : {cs : List Located} {ls : List (ℕ × Lexeme)} → AreLexemes cs ls → lexemes 0 cs ≡ record { found = ls; fault = None }
unfolding lexemes
are_read no_lexeme = refl
are_read (one_lexeme {x = x} {after = after} {rest = rest} {l = l} {ls = ls} is others) =
    and_then_read x after rest l ls (lexeme_at x after) (lexeme_read is) (are_read others)

-- ---- what is read is spelled

-- which sign a character is
pub data Begins (c : ℕ) : Type 0 where
  is_dot : c ≡ dot → Begins c
  is_star : c ≡ star → Begins c
  is_plus : c ≡ plus → Begins c
  is_question_mark : c ≡ question_mark → Begins c
  is_open_brace : c ≡ open_brace → Begins c
  is_open_paren : c ≡ open_paren → Begins c
  is_close_paren : c ≡ close_paren → Begins c
  is_vertical_bar : c ≡ vertical_bar → Begins c
  is_open_bracket : c ≡ open_bracket → Begins c
  is_backslash : c ≡ backslash → Begins c
  is_caret : c ≡ caret → Begins c
  is_dollar : c ≡ dollar → Begins c
  is_other : AllByRecursion (λ s. c ≢ s) signs → Begins c

pub which : (c : ℕ) → Begins c
which c =
    elim (cases_eq c dot) [
      | inl e ↦ is_dot e
      | inr n0 ↦
          elim (cases_eq c star) [
            | inl e ↦ is_star e
            | inr n1 ↦
                elim (cases_eq c plus) [
                  | inl e ↦ is_plus e
                  | inr n2 ↦
                      elim (cases_eq c question_mark) [
                        | inl e ↦ is_question_mark e
                        | inr n3 ↦
                            elim (cases_eq c open_brace) [
                              | inl e ↦ is_open_brace e
                              | inr n4 ↦
                                  elim (cases_eq c open_paren) [
                                    | inl e ↦ is_open_paren e
                                    | inr n5 ↦
                                        elim (cases_eq c close_paren) [
                                          | inl e ↦ is_close_paren e
                                          | inr n6 ↦
                                              elim (cases_eq c vertical_bar) [
                                                | inl e ↦ is_vertical_bar e
                                                | inr n7 ↦
                                                    elim (cases_eq c open_bracket) [
                                                      | inl e ↦ is_open_bracket e
                                                      | inr n8 ↦
                                                          elim (cases_eq c backslash) [
                                                            | inl e ↦ is_backslash e
                                                            | inr n9 ↦
                                                                elim (cases_eq c caret) [
                                                                  | inl e ↦ is_caret e
                                                                  | inr n10 ↦
                                                                      elim (cases_eq c dollar) [
                                                                        | inl e ↦ is_dollar e
                                                                        | inr n11 ↦
                                                                            is_other (
                                                                              n0,
                                                                              (
                                                                                n1,
                                                                                (
                                                                                  n2,
                                                                                  (
                                                                                    n3,
                                                                                    (
                                                                                      n4,
                                                                                      (
                                                                                        n5,
                                                                                        (
                                                                                          n6,
                                                                                          (
                                                                                            n7,
                                                                                            (
                                                                                              n8,
                                                                                              (n9, (n10, (n11, tt))),
                                                                                            ),
                                                                                          ),
                                                                                        ),
                                                                                      ),
                                                                                    ),
                                                                                  ),
                                                                                ),
                                                                              ),
                                                                            )
                                                                      ]
                                                                ]
                                                          ]
                                                    ]
                                              ]
                                        ]
                                  ]
                            ]
                      ]
                ]
          ]
    ]

pub or_none : (b : Bool) → (b || false) ≡ b
or_none true = refl
or_none false = refl

same_pair : (p q : Lexeme × List Located) → ◌≡◌ {A = Result (Lexeme × List Located) EreFault} (Ok p) (Ok q) → p ≡ q
same_pair p q e = ap (λ (r : Result (Lexeme × List Located) EreFault). elim r [ Ok z ↦ z | Err d ↦ q ]) e

module _ (x : Located) (after rest : List Located) (l : Lexeme) where
  -- what is spelled so is what was read
  this : (p : Lexeme × List Located) → IsLexeme x after p.1 p.0
      → ◌≡◌ {A = Result (Lexeme × List Located) EreFault} (Ok p) (Ok (l, rest)) → IsLexeme x after rest l
  this p is e = subst (λ (q : Lexeme × List Located). IsLexeme x after q.1 q.0) (same_pair p (l, rest) e) is

  by_bounds : x.1 ≡ open_brace → (o : Option (Bounds × ℕ)) → bounds_at after ≡ o
      → ◌≡◌ {A = Result (Lexeme × List Located) EreFault} (Ok (with_remaining after (counted_sign o))) (Ok (l, rest))
      → IsLexeme x after rest l
  by_bounds e None was is =
      this (sign None, after) (uncounted e (λ more b spelled. let read : option_map (with_remaining after) (bounds_at after)
      ≡ Some (b, more) = IsBounds-read after more b spelled in
      let none : option_map (with_remaining after) (bounds_at after) ≡ None =
      ap (option_map (with_remaining after)) was in absurd cc)) is
  by_bounds e (Some y) was is =
      this (sign (Some y.0), drop y.1 after) (counted e (bounds_at-spelled after (drop y.1 after) y.0 (ap (option_map (with_remaining after)) was))) is

  by_bracket : x.1 ≡ open_bracket → (r : Result (Brackets × ℕ) EreFault) → bracket_at x.0 after ≡ r
      → map_ok (with_remaining after) (r >>= λ y. Ok (unit (set y.0), y.1)) ≡ Ok (l, rest) → IsLexeme x after rest l
  by_bracket e (Err d) was is = absurd cc
  by_bracket e (Ok y) was is =
      this (unit (set y.0), drop y.1 after) (bracket e (bracket_at-spelled x.0 after (drop y.1 after) y.0 (ap (map_ok (with_remaining after)) was))) is

  by_first : x.1 ≡ caret → (t : Bool) → ((x.0 == 0) || false) ≡ t
      → map_ok (with_remaining after) (cond t (Ok (anchor, 0)) (Err (fault_at x.0 AnchorInside))) ≡ Ok (l, rest)
      → IsLexeme x after rest l
  by_first e true first is = this (anchor, after) (begins e (eqb-true _ _ (sym (or_none (x.0 == 0)) ∙ first))) is
  by_first e false first is = absurd cc

  by_last : x.1 ≡ dollar → (t : Bool) → (length after == 0) ≡ t
      → map_ok (with_remaining after) (cond t (Ok (anchor, 0)) (Err (fault_at x.0 AnchorInside))) ≡ Ok (l, rest)
      → IsLexeme x after rest l
  by_last e true last is =
      this (anchor, after) (subst (λ (cs : List Located). IsLexeme x cs cs anchor) (sym (nil_from_length after (eqb-true _ _ last))) (ends e)) is
  by_last e false last is = absurd cc

escaped_was : (x : Located) (after rest : List Located) (l : Lexeme) → x.1 ≡ backslash
    → map_ok (with_remaining after) (escaped_at x.0 after) ≡ Ok (l, rest) → IsLexeme x after rest l
escaped_was x [] rest l e is = absurd cc
escaped_was x (y ∷ more) rest l e is = by_test (is_ascii_punctuation y.1) refl is
  where
    by_test : (t : Bool) → is_ascii_punctuation y.1 ≡ t
        → map_ok (with_remaining (y ∷ more)) (cond t (Ok (unit (letters_tree y.1), 1)) (Err (fault_at x.0 UnknownEscape)))
        ≡ Ok (l, rest) → IsLexeme x (y ∷ more) rest l
    by_test true mark is = this x (y ∷ more) rest l (unit (letters_tree y.1), more) (escaped e mark) is
    by_test false mark is = absurd cc

pub lexeme_was : (x : Located) (after rest : List Located) (l : Lexeme) → Begins x.1 → read_of x after ≡ Ok (l, rest) → IsLexeme x after rest l
unfolding lexeme_at
lexeme_was x after rest l (is_dot e) is = this x after rest l (unit any, after) (any_letter e) (sym (at_sign x after dot e) ∙ is)
lexeme_was x after rest l (is_star e) is = this x after rest l (sign (Some (bounds 0 None)), after) (any_number e) (sym (at_sign x after star e) ∙ is)
lexeme_was x after rest l (is_plus e) is = this x after rest l (sign (Some (bounds 1 None)), after) (one_or_more e) (sym (at_sign x after plus e) ∙ is)
lexeme_was x after rest l (is_question_mark e) is =
    this x after rest l (sign (Some (bounds 0 (Some 1))), after) (one_or_none e)
    (sym (at_sign x after question_mark e) ∙ is)
lexeme_was x after rest l (is_open_brace e) is = by_bounds x after rest l e (bounds_at after) refl (sym (at_sign x after open_brace e) ∙ is)
lexeme_was x after rest l (is_open_paren e) is = this x after rest l (opening, after) (opens e) (sym (at_sign x after open_paren e) ∙ is)
lexeme_was x after rest l (is_close_paren e) is = this x after rest l (closing, after) (closes e) (sym (at_sign x after close_paren e) ∙ is)
lexeme_was x after rest l (is_vertical_bar e) is = this x after rest l (bar, after) (divides e) (sym (at_sign x after vertical_bar e) ∙ is)
lexeme_was x after rest l (is_open_bracket e) is = by_bracket x after rest l e (bracket_at x.0 after) refl (sym (at_sign x after open_bracket e) ∙ is)
lexeme_was x after rest l (is_backslash e) is = escaped_was x after rest l e (sym (at_sign x after backslash e) ∙ is)
lexeme_was x after rest l (is_caret e) is = by_first x after rest l e ((x.0 == 0) || false) refl (sym (at_sign x after caret e) ∙ is)
lexeme_was x after rest l (is_dollar e) is = by_last x after rest l e (length after == 0) refl (sym (at_sign x after dollar e) ∙ is)
lexeme_was x after rest l (is_other all) is = this x after rest l (unit (letters_tree x.1), after) (ordinary all) (sym (ordinary_at x after all) ∙ is)

-- the lexemes that are read are spelled
pub are_spelled : (skip : ℕ) (cs : List Located) → (lexemes skip cs).fault ≡ None → AreLexemes (drop skip cs) (lexemes skip cs).found
unfolding lexemes
are_spelled zero [] e = no_lexeme
are_spelled (suc skip) [] e = no_lexeme
are_spelled (suc skip) (x ∷ cs) e = are_spelled skip cs e
are_spelled zero (x ∷ cs) e = by_result (lexeme_at x cs) refl (λ taken f. are_spelled taken cs f) e
  where
    by_result : (r : Result (Lexeme × ℕ) EreFault) → lexeme_at x cs ≡ r
        → ((taken : ℕ) → (lexemes taken cs).fault ≡ None → AreLexemes (drop taken cs) (lexemes taken cs).found)
        → (and_then x.0 r (λ taken. lexemes taken cs)).fault ≡ None → AreLexemes (x ∷ cs) (and_then x.0 r (λ taken. lexemes taken cs)).found
    by_result (Err d) was others e = absurd cc
    by_result (Ok y) was others e = one_lexeme (lexeme_was x cs (drop y.1 cs) y.0 (which x.1) (ap (map_ok (with_remaining cs)) was)) (others y.1 e)
