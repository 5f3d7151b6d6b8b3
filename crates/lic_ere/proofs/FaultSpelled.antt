-- Where no lexeme can be read, none is spelled, by the fault that is reported.
use Rattle.std.proofs.Common.{◌≡◌, ℕ, zero, suc, ◌+◌, ◌≤◌, ◌<◌, Bool, true, false, cond, not, List, [], ◌∷◌, length, drop, Option, Some, None, Result, Ok, Err, refl, ap, sym, subst, ◌∙◌, arith}
use Rattle.std.specs.Prelude.{◌==◌, ◌&&◌, ◌||◌, ◌≢◌, nat_lt}
use Rattle.std.specs.Char.{is_ascii_punctuation}
use Rattle.std.proofs.lemmas.Bool.{eqb-true}
use Rattle.std.proofs.lemmas.Bool.Decides.{nat_tests}
use Rattle.lic_ere.specs.declared.class.Member.{Member}
use Rattle.lic_ere.specs.declared.fault.EreFault.{EreFault}
use Rattle.lic_ere.specs.declared.fault.EreCause.TheVariants.{BracketExtension, RangeOutOfOrder, UnknownEscape, AnchorInside}
use Rattle.lic_ere.specs.Signs.{dollar, open_paren, close_paren, star, plus, dot, question_mark, dash, open_bracket, backslash, close_bracket, caret, open_brace, vertical_bar}
use Rattle.lic_ere.specs.Sets.{Brackets}
use Rattle.lic_ere.specs.Trees.{set, letters_tree}
use Rattle.lic_ere.specs.Located.{Located, further, with_remaining}
use Rattle.lic_ere.specs.Faults.{fault_at, map_ok, ◌>>=◌}
use Rattle.lic_ere.specs.Brackets.{begins_extension, single_at, range_at, member_at, members_at, complement_at, bracket_at}
use Rattle.lic_ere.specs.Lexemes.{Lexeme, unit, anchor, escaped_at, lexeme_at, and_then, lexemes}
use Rattle.lic_ere.specs.Spelling.{continues_as_range}
use Rattle.lic_ere.specs.FirstFaults as faults
use Rattle.lic_ere.specs.FirstFaults.{IsFaultyMember, extension, out_of_order, extension_last, AreFaultyMembers, AreFaultyFirstMembers, IsFaultyBracket, IsNoLexeme, faulty_bracket, ends_in_backslash, unknown_escape, caret_inside, dollar_inside, BeginWith}
use Rattle.lic_ere.proofs.BracketSpelling.{begins-IsExtension, and_split, is_not_this, one_spelled}
use Rattle.lic_ere.proofs.LexemeSpelling.{Begins, is_dot, is_star, is_plus, is_question_mark, is_open_brace, is_open_paren, is_close_paren, is_vertical_bar, is_open_bracket, is_backslash, is_caret, is_dollar, is_other, which, or_none, lexeme_was, ordinary_is}

abbrev failed : {A : Type 0} → EreFault → Result A EreFault
failed e = Err e

pub same_fault : {A : Type 0} (d e : EreFault) → ◌≡◌ {A = Result A EreFault} (Err d) (Err e) → d ≡ e
same_fault d e h = ap (λ o. elim o [ Ok x ↦ d | Err f ↦ f ]) h

pub not_failed : {A B : Type 0} (x : A) (e : EreFault) → ◌≡◌ {A = Result A EreFault} (Ok x) (Err e) → B
not_failed {A = A} x e h = absurd (never h)
  where
    never : ◌≡◌ {A = Result A EreFault} (Ok x) (Err e) → ⊥
    never h = cc

pub map_ok-failed : {A B : Type 0} (f : A → B) (r : Result A EreFault) (e : EreFault) → map_ok f r ≡ Err e → r ≡ Err e
map_ok-failed f (Ok x) e is = not_failed (f x) e is
map_ok-failed f (Err d) e is = ap (λ d. Err d) (same_fault d e is)

-- ---- brackets

single_by : (x : Located) (after : List Located) (e : EreFault) (t : Bool) → begins_extension x.1 after ≡ t → continues_as_range after ≡ false
    → cond t (Err (fault_at x.0 BracketExtension)) (Ok (record { first = x.1; last = x.1 })) ≡ failed {A = Member} e
    → IsFaultyMember (x ∷ after) e
single_by x after e true begins alone is = subst (IsFaultyMember (x ∷ after)) (same_fault _ e is) (extension alone (begins-IsExtension x.1 after begins))
single_by x after e false begins alone is = not_failed (record { first = x.1; last = x.1 }) e is

range_by : (x h y : Located) (after : List Located) (e : EreFault) (t u : Bool) → h.1 ≡ dash → y.1 ≢ close_bracket
    → nat_lt y.1 x.1 ≡ t → begins_extension y.1 after ≡ u
    → cond t (Err (fault_at x.0 RangeOutOfOrder)) (cond u (Err (fault_at y.0 BracketExtension))
    (Ok (record { first = x.1; last = y.1 }))) ≡ failed {A = Member} e → IsFaultyMember (x ∷ h ∷ y ∷ after) e
range_by x h y after e true u hyphen ne order begins is =
    let lt : y.1 < x.1 = grind (arith, nat_tests) in
    subst (IsFaultyMember (x ∷ h ∷ y ∷ after)) (same_fault _ e is) (out_of_order hyphen ne lt)
range_by x h y after e false true hyphen ne order begins is =
    let le : x.1 ≤ y.1 = grind (arith, nat_tests) in
    subst (IsFaultyMember (x ∷ h ∷ y ∷ after)) (same_fault _ e is) (extension_last hyphen ne le (begins-IsExtension y.1 after begins))
range_by x h y after e false false hyphen ne order begins is = not_failed (record { first = x.1; last = y.1 }) e is

member_by : (x h y : Located) (after : List Located) (e : EreFault) (t : Bool) → (h.1 == dash && not (y.1 == close_bracket)) ≡ t
    → cond t (map_ok (λ m. (m, 2)) (range_at x y after)) (map_ok (λ m. (m, 0)) (single_at x (h ∷ y ∷ after))) ≡ failed {A = Member × ℕ} e
    → IsFaultyMember (x ∷ h ∷ y ∷ after) e
member_by x h y after e true continues is =
    let both = and_split (h.1 == dash) (y.1 == close_bracket) continues in
    range_by x h y after e (nat_lt y.1 x.1) (begins_extension y.1 after) (eqb-true _ _ both.0) (is_not_this y.1 close_bracket both.1) refl refl
    (map_ok-failed (λ m. (m, 2)) (range_at x y after) e is)
member_by x h y after e false continues is =
    single_by x (h ∷ y ∷ after) e (begins_extension x.1 (h ∷ y ∷ after)) refl continues (map_ok-failed (λ m. (m, 0)) (single_at x (h ∷ y ∷ after)) e is)

member_fault : (x : Located) (after : List Located) (e : EreFault) → member_at x after ≡ Err e → IsFaultyMember (x ∷ after) e
unfolding member_at
member_fault x [] e is = single_by x [] e (begins_extension x.1 []) refl refl (map_ok-failed (λ m. (m, 0)) (single_at x []) e is)
member_fault x (h ∷ []) e is = single_by x (h ∷ []) e (begins_extension x.1 (h ∷ [])) refl refl (map_ok-failed (λ m. (m, 0)) (single_at x (h ∷ [])) e is)
member_fault x (h ∷ y ∷ after) e is = member_by x h y after e (h.1 == dash && not (y.1 == close_bracket)) refl is

-- a member, and those after it
abbrev then_members : ℕ → List Located → Result (Member × ℕ) EreFault → Result (List Member × ℕ) EreFault
then_members offset xs r = r >>= λ m. map_ok (λ ms. (m.0 ∷ ms.0, 1 + ms.1)) (members_at offset false m.1 xs)

Faulty : ℕ → List Located → Type 0
Faulty offset xs = (n : ℕ) (e : EreFault) → members_at offset false n xs ≡ Err e → AreFaultyMembers offset (drop n xs) e

later_by : (offset : ℕ) (x : Located) (xs : List Located) (e : EreFault) (t : Bool) → (x.1 == close_bracket) ≡ t
    → ((n : ℕ) (d : EreFault) → members_at offset false n xs ≡ Err d → AreFaultyMembers offset (drop n xs) d)
    → (r : Result (Member × ℕ) EreFault) → member_at x xs ≡ r
    → cond t (Ok ([], 1)) (then_members offset xs r) ≡ failed {A = List Member × ℕ} e → AreFaultyMembers offset (x ∷ xs) e
later_by offset x xs e true closes all r was is = not_failed ([], 1) e is
later_by offset x xs e false closes all (Err d) was is =
    faults.this (is_not_this x.1 close_bracket closes)
    (subst (IsFaultyMember (x ∷ xs)) (same_fault d e is) (member_fault x xs d was))
later_by offset x xs e false closes all (Ok m) was is =
    faults.later (is_not_this x.1 close_bracket closes) (one_spelled x xs m.0 m.1 was)
    (all m.1 e (map_ok-failed (λ ms. (m.0 ∷ ms.0, 1 + ms.1)) (members_at offset false m.1 xs) e is))

members_fault : (offset : ℕ) (xs : List Located) → Faulty offset xs
unfolding Faulty members_at
members_fault offset [] zero e is = subst (AreFaultyMembers offset []) (same_fault _ e is) faults.not_closed
members_fault offset [] (suc n) e is = subst (AreFaultyMembers offset []) (same_fault _ e is) faults.not_closed
members_fault offset (x ∷ xs) (suc n) e is = members_fault offset xs n e (map_ok-failed (further 1) (members_at offset false n xs) e is)
members_fault offset (x ∷ xs) zero e is = later_by offset x xs e (x.1 == close_bracket) refl (members_fault offset xs) (member_at x xs) refl is

first_by : (offset : ℕ) (x : Located) (xs : List Located) (e : EreFault) (r : Result (Member × ℕ) EreFault) → member_at x xs ≡ r
    → then_members offset xs r ≡ failed {A = List Member × ℕ} e → AreFaultyFirstMembers offset (x ∷ xs) e
unfolding Faulty
first_by offset x xs e (Err d) was is = faults.this (subst (IsFaultyMember (x ∷ xs)) (same_fault d e is) (member_fault x xs d was))
first_by offset x xs e (Ok m) was is =
    faults.later (one_spelled x xs m.0 m.1 was)
    (members_fault offset xs m.1 e (map_ok-failed (λ ms. (m.0 ∷ ms.0, 1 + ms.1)) (members_at offset false m.1 xs) e is))

first_fault : (offset : ℕ) (cs : List Located) (e : EreFault) → members_at offset true 0 cs ≡ Err e → AreFaultyFirstMembers offset cs e
unfolding members_at
first_fault offset [] e is = subst (AreFaultyFirstMembers offset []) (same_fault _ e is) faults.not_closed
first_fault offset (x ∷ xs) e is = first_by offset x xs e (member_at x xs) refl is

caret_by : (offset : ℕ) (x : Located) (cs : List Located) (e : EreFault) (t : Bool) → (x.1 == caret) ≡ t
    → members_at offset true 0 (drop (cond {A = Bool × ℕ} t (true, 1) (false, 0)).1 (x ∷ cs)) ≡ Err e → IsFaultyBracket offset (x ∷ cs) e
caret_by offset x cs e true first is = faults.complement (eqb-true _ _ first) (first_fault offset cs e is)
caret_by offset x cs e false first is = faults.plain (is_not_this x.1 caret first) (first_fault offset (x ∷ cs) e is)

bracket_fault : (offset : ℕ) (cs : List Located) (e : EreFault) → bracket_at offset cs ≡ Err e → IsFaultyBracket offset cs e
unfolding bracket_at members_at
bracket_fault offset [] e is = subst (IsFaultyBracket offset []) (same_fault _ e is) faults.nothing
bracket_fault offset (x ∷ cs) e is =
    caret_by offset x cs e (x.1 == caret) refl
    (map_ok-failed (λ ms. (record { members = ms.0; complement = (complement_at (x ∷ cs)).0 }, (complement_at (x ∷ cs)).1 + ms.1))
    (members_at offset true 0 (drop (complement_at (x ∷ cs)).1 (x ∷ cs))) e is)

-- ---- lexemes

bracket_by : (x : Located) (after : List Located) (e : EreFault) → x.1 ≡ open_bracket → (r : Result (Brackets × ℕ) EreFault)
    → bracket_at x.0 after ≡ r → (r >>= λ b. Ok (unit (set b.0), b.1)) ≡ failed {A = Lexeme × ℕ} e → IsNoLexeme x after e
bracket_by x after e is_one (Ok b) was is = not_failed (unit (set b.0), b.1) e is
bracket_by x after e is_one (Err d) was is =
    faulty_bracket is_one (subst (IsFaultyBracket x.0 after) (same_fault d e is) (bracket_fault x.0 after d was))

escaped_by : (x : Located) (after : List Located) (e : EreFault) → x.1 ≡ backslash → escaped_at x.0 after ≡ Err e → IsNoLexeme x after e
escaped_by x [] e is_one is = subst (IsNoLexeme x []) (same_fault _ e is) (ends_in_backslash is_one)
escaped_by x (y ∷ after) e is_one is = by_test (is_ascii_punctuation y.1) refl is
  where
    by_test : (t : Bool) → is_ascii_punctuation y.1 ≡ t
        → cond t (Ok (unit (letters_tree y.1), 1)) (Err (fault_at x.0 UnknownEscape)) ≡ failed {A = Lexeme × ℕ} e → IsNoLexeme x (y ∷ after) e
    by_test true mark is = not_failed (unit (letters_tree y.1), 1) e is
    by_test false mark is = subst (IsNoLexeme x (y ∷ after)) (same_fault _ e is) (unknown_escape is_one mark)

caret_lexeme : (x : Located) (after : List Located) (e : EreFault) → x.1 ≡ caret → (t : Bool) → ((x.0 == 0) || false) ≡ t
    → cond t (Ok (anchor, 0)) (Err (fault_at x.0 AnchorInside)) ≡ failed {A = Lexeme × ℕ} e → IsNoLexeme x after e
caret_lexeme x after e is_one true first is = not_failed (anchor, 0) e is
caret_lexeme x after e is_one false first is =
    subst (IsNoLexeme x after) (same_fault _ e is) (caret_inside is_one (is_not_this x.0 0 (sym (or_none (x.0 == 0)) ∙ first)))

dollar_lexeme : (x : Located) (after : List Located) (e : EreFault) → x.1 ≡ dollar → (t : Bool) → (length after == 0) ≡ t
    → cond t (Ok (anchor, 0)) (Err (fault_at x.0 AnchorInside)) ≡ failed {A = Lexeme × ℕ} e → IsNoLexeme x after e
dollar_lexeme x after e is_one true last is = not_failed (anchor, 0) e is
dollar_lexeme x [] e is_one false last is = absurd cc
dollar_lexeme x (y ∷ after) e is_one false last is = subst (IsNoLexeme x (y ∷ after)) (same_fault _ e is) (dollar_inside is_one)

-- the same with the sign that the character is
pub with_sign : (x : Located) (after : List Located) (s : ℕ) → x.1 ≡ s → lexeme_at x after ≡ lexeme_at (x.0, s) after
with_sign x after s e = ap (λ c. lexeme_at (x.0, c) after) e

lexeme_fault : (x : Located) (after : List Located) (e : EreFault) → Begins x.1 → lexeme_at x after ≡ Err e → IsNoLexeme x after e
unfolding lexeme_at
lexeme_fault x after e (is_dot s) is = not_failed _ e (sym (with_sign x after dot s) ∙ is)
lexeme_fault x after e (is_star s) is = not_failed _ e (sym (with_sign x after star s) ∙ is)
lexeme_fault x after e (is_plus s) is = not_failed _ e (sym (with_sign x after plus s) ∙ is)
lexeme_fault x after e (is_question_mark s) is = not_failed _ e (sym (with_sign x after question_mark s) ∙ is)
lexeme_fault x after e (is_open_brace s) is = not_failed _ e (sym (with_sign x after open_brace s) ∙ is)
lexeme_fault x after e (is_open_paren s) is = not_failed _ e (sym (with_sign x after open_paren s) ∙ is)
lexeme_fault x after e (is_close_paren s) is = not_failed _ e (sym (with_sign x after close_paren s) ∙ is)
lexeme_fault x after e (is_vertical_bar s) is = not_failed _ e (sym (with_sign x after vertical_bar s) ∙ is)
lexeme_fault x after e (is_open_bracket s) is = bracket_by x after e s (bracket_at x.0 after) refl (sym (with_sign x after open_bracket s) ∙ is)
lexeme_fault x after e (is_backslash s) is = escaped_by x after e s (sym (with_sign x after backslash s) ∙ is)
lexeme_fault x after e (is_caret s) is = caret_lexeme x after e s ((x.0 == 0) || false) refl (sym (with_sign x after caret s) ∙ is)
lexeme_fault x after e (is_dollar s) is = dollar_lexeme x after e s (length after == 0) refl (sym (with_sign x after dollar s) ∙ is)
lexeme_fault x after e (is_other all) is = not_failed _ e (sym (ordinary_is x after all) ∙ is)

-- What comes after the lexemes that are read: nothing, or characters that begin with none.
abbrev pub Ends : List Located → Option EreFault → Type 0
Ends [] fault = fault ≡ None
Ends (x ∷ after) fault = (e : EreFault) × (fault ≡ Some e) × IsNoLexeme x after e

-- the lexemes that are read are spelled, up to the first offset where none is
pub spelled : (skip : ℕ) (cs : List Located)
    → (others : List Located) × BeginWith (drop skip cs) (lexemes skip cs).found others × Ends others (lexemes skip cs).fault
unfolding lexemes
spelled zero [] = ([], faults.no_lexeme, refl)
spelled (suc skip) [] = ([], faults.no_lexeme, refl)
spelled (suc skip) (x ∷ cs) = spelled skip cs
spelled zero (x ∷ cs) = by_result (lexeme_at x cs) refl (λ taken. spelled taken cs)
  where
    by_result : (r : Result (Lexeme × ℕ) EreFault) → lexeme_at x cs ≡ r
        → ((taken : ℕ) → (others : List Located) × BeginWith (drop taken cs) (lexemes taken cs).found others × Ends others (lexemes taken cs).fault)
        → (others : List Located) × BeginWith (x ∷ cs) (and_then x.0 r (λ taken. lexemes taken cs)).found others
        × Ends others (and_then x.0 r (λ taken. lexemes taken cs)).fault
    by_result (Err d) was later = (x ∷ cs, faults.no_lexeme, (d, refl, lexeme_fault x cs d (which x.1) was))
    by_result (Ok y) was later =
        let others = later y.1 in (
          others.0,
          faults.one_lexeme (lexeme_was x cs (drop y.1 cs) y.0 (which x.1) (ap (map_ok (with_remaining cs)) was)) others.1,
          others.2,
        )
