-- Where no lexeme is spelled, none is read, by the fault that decides.
use Rattle.std.proofs.Common.{◌≡◌, ℕ, ◌≤◌, ◌<◌, Bool, true, false, List, [], ◌∷◌, ◌++◌, length, drop, Some, Result, Ok, Err, refl, ap, ◌∙◌, arith, eq-eqb}
use Rattle.std.specs.Prelude.{◌==◌, ◌≢◌, nat_lt}
use Rattle.std.proofs.lemmas.Bool.{false≢true}
use Rattle.std.proofs.lemmas.Bool.Decides.{nat_tests}
use Rattle.lic_ere.specs.declared.class.Member.{Member}
use Rattle.lic_ere.specs.declared.fault.EreFault.{EreFault}
use Rattle.lic_ere.specs.declared.fault.EreCause.TheVariants.{BracketExtension, RangeOutOfOrder}
use Rattle.lic_ere.specs.Signs.{dollar, dash, open_bracket, backslash, close_bracket, caret}
use Rattle.lic_ere.specs.Sets.{Brackets}
use Rattle.lic_ere.specs.Trees.{set}
use Rattle.lic_ere.specs.Located.{Located, with_remaining}
use Rattle.lic_ere.specs.Faults.{fault_at, map_ok, ◌>>=◌}
use Rattle.lic_ere.specs.Brackets.{begins_extension, closes, member_at, members_at, bracket_at}
use Rattle.lic_ere.specs.Lexemes.{Lexeme, unit, Lexemes, lexeme_at, and_then, lexemes}
use Rattle.lic_ere.specs.Spelling.{continues_as_range, IsMember, IsLexeme}
use Rattle.lic_ere.specs.FirstFaults as faults
use Rattle.lic_ere.specs.FirstFaults.{IsFaultyMember, extension, out_of_order, extension_last, AreFaultyMembers, AreFaultyFirstMembers, IsFaultyBracket, IsNoLexeme, faulty_bracket, ends_in_backslash, unknown_escape, caret_inside, dollar_inside, BeginWith}
use Rattle.lic_ere.proofs.BracketLemmas.{following, members_of, members_turn, members_fail}
use Rattle.lic_ere.proofs.BracketSpelling.{not_this, IsExtension-begins, plain_is, complement_is, member_of, member_read, bracket_of}
use Rattle.lic_ere.proofs.LexemeSpelling.{lexeme_read}
use Rattle.lic_ere.proofs.ReadingLemmas.{lexemes-skipped}
use Rattle.lic_ere.proofs.FaultSpelled.{map_ok-failed, with_sign}

-- ---- brackets

alone_fails : (x : Located) (after : List Located) → continues_as_range after ≡ false → begins_extension x.1 after ≡ true
    → member_at x after ≡ Err (fault_at x.0 BracketExtension)
unfolding member_at
alone_fails x [] a b = absurd (false≢true b)
alone_fails x (h ∷ []) a b = rw b refl
alone_fails x (h ∷ y ∷ after) a b = rw (a, b) refl

order_fails : (x h y : Located) (after : List Located) → h.1 ≡ dash → y.1 ≢ close_bracket → y.1 < x.1
    → member_at x (h ∷ y ∷ after) ≡ Err (fault_at x.0 RangeOutOfOrder)
unfolding member_at
order_fails x h y after hyphen open_yet order =
    let one : (h.1 == dash) ≡ true = eq-eqb _ _ hyphen in
    let two : (y.1 == close_bracket) ≡ false = not_this y.1 close_bracket open_yet in
    let three : nat_lt y.1 x.1 ≡ true = grind (arith, nat_tests) in
    rw (one, two, three) refl

last_fails : (x h y : Located) (after : List Located) → h.1 ≡ dash → y.1 ≢ close_bracket → x.1 ≤ y.1
    → begins_extension y.1 after ≡ true → member_at x (h ∷ y ∷ after) ≡ Err (fault_at y.0 BracketExtension)
unfolding member_at
last_fails x h y after hyphen open_yet order begins =
    let one : (h.1 == dash) ≡ true = eq-eqb _ _ hyphen in
    let two : (y.1 == close_bracket) ≡ false = not_this y.1 close_bracket open_yet in
    let three : nat_lt y.1 x.1 ≡ false = grind (arith, nat_tests) in
    rw (one, two, three, begins) refl

member_fails : {x : Located} {after : List Located} {e : EreFault} → IsFaultyMember (x ∷ after) e → member_at x after ≡ Err e
member_fails (extension {x = x} {after = after} alone is) = alone_fails x after alone (IsExtension-begins is)
member_fails (out_of_order {x = x} {hyphen = h} {y = y} {after = after} a b c) = order_fails x h y after a b c
member_fails (extension_last {x = x} {hyphen = h} {y = y} {after = after} a b c is) = last_fails x h y after a b c (IsExtension-begins is)

this_fails : (offset : ℕ) (first : Bool) (x : Located) (after : List Located) (e : EreFault) → (not_closing : closes first x.1 ≡ false)
    → IsFaultyMember (x ∷ after) e → members_of offset first (x ∷ after) ≡ Err e
this_fails offset first x after e not_closing is =
    members_fail offset first x after not_closing (x ∷ after) e refl (ap (map_ok (with_remaining after)) (member_fails is))

members_fails : (offset : ℕ) {cs : List Located} {e : EreFault} → AreFaultyMembers offset cs e → members_of offset false cs ≡ Err e
unfolding members_at member_of
members_fails offset faults.not_closed = refl
members_fails offset (faults.this {x = x} {after = after} {e = e} ne is) = this_fails offset false x after e (not_this x.1 close_bracket ne) is
members_fails offset (faults.later {x = x} {after = after} {more = more} {m = m} ne is others) =
    members_turn offset false x after (not_this x.1 close_bracket ne) (x ∷ after) m more refl (member_read is) ∙ ap (following (m ∷ [])) (members_fails offset others)

first_later : (offset : ℕ) (cs more : List Located) (m : Member) (e : EreFault) → IsMember cs more m → members_of offset false more ≡ Err e
    → members_of offset true cs ≡ Err e
unfolding member_of
first_later offset [] more m e is others = elim is [ ]
first_later offset (x ∷ after) more m e is others =
    members_turn offset true x after refl (x ∷ after) m more refl (member_read is) ∙ ap (following (m ∷ [])) others

first_this : (offset : ℕ) (cs : List Located) (e : EreFault) → IsFaultyMember cs e → members_of offset true cs ≡ Err e
first_this offset [] e is = elim is [ ]
first_this offset (x ∷ after) e is = this_fails offset true x after e refl is

first_fails : (offset : ℕ) {cs : List Located} {e : EreFault} → AreFaultyFirstMembers offset cs e → members_of offset true cs ≡ Err e
unfolding members_at
first_fails offset faults.not_closed = refl
first_fails offset (faults.this {cs = cs} {e = e} is) = first_this offset cs e is
first_fails offset (faults.later {cs = cs} {more = more} {m = m} {e = e} is others) = first_later offset cs more m e is (members_fails offset others)

bracket_fails : (offset : ℕ) {cs : List Located} {e : EreFault} → IsFaultyBracket offset cs e → bracket_of offset cs ≡ Err e
unfolding bracket_at members_at
bracket_fails offset faults.nothing = refl
bracket_fails offset (faults.plain {x = x} {cs = cs} ne is) =
    plain_is offset x cs (not_this x.1 caret ne)
    ∙ ap (map_ok (λ y. (record { members = y.0; complement = false }, y.1))) (first_fails offset is)
bracket_fails offset (faults.complement {x = x} {cs = cs} e is) =
    complement_is offset x cs (eq-eqb _ _ e)
    ∙ ap (map_ok (λ y. (record { members = y.0; complement = true }, y.1))) (first_fails offset is)

-- ---- lexemes

lexeme_fails : {x : Located} {after : List Located} {e : EreFault} → IsNoLexeme x after e → lexeme_at x after ≡ Err e
unfolding lexeme_at
lexeme_fails (faulty_bracket {x = x} {after = after} {e = e} s is) =
    with_sign x after open_bracket s
    ∙ ap (λ (r : Result (Brackets × ℕ) EreFault). r >>= λ b. Ok (unit (set b.0), b.1))
    (map_ok-failed (with_remaining after) (bracket_at x.0 after) e (bracket_fails x.0 is))
lexeme_fails (ends_in_backslash {x = x} s) = with_sign x [] backslash s
lexeme_fails (unknown_escape {x = x} {y = y} {after = after} s not) = with_sign x (y ∷ after) backslash s ∙ rw not refl
lexeme_fails (caret_inside {x = x} {after = after} s inside) =
    let first : (x.0 == 0) ≡ false = not_this x.0 0 inside in
    with_sign x after caret s ∙ rw first refl
lexeme_fails (dollar_inside {x = x} {y = y} {after = after} s) =
    let last : (length (y ∷ after) == 0) ≡ false = not_this (length (y ∷ after)) 0 (λ h. absurd (omega (arith, h))) in
    with_sign x (y ∷ after) dollar s ∙ rw last refl

next_fails : (x : Located) (after : List Located) (e : EreFault) → lexeme_at x after ≡ Err e
    → lexemes 0 (x ∷ after) ≡ record { found = []; fault = Some e }
unfolding lexemes
next_fails x after e is = ap (λ (r : Result (Lexeme × ℕ) EreFault). and_then x.0 r (λ taken. lexemes taken after)) is

-- characters that begin with no lexeme
pub none_read : {x : Located} {after : List Located} {e : EreFault} → IsNoLexeme x after e → lexemes 0 (x ∷ after) ≡ record { found = []; fault = Some e }
none_read {x = x} {after = after} {e = e} is = next_fails x after e (lexeme_fails is)

-- lexemes before those that are read
abbrev pub before_these : List (ℕ × Lexeme) → Lexemes → Lexemes
before_these ls read = record { found = ls ++ read.found; fault = read.fault }

and_then_reads : (x : Located) (after more : List Located) (l : Lexeme) (r : Result (Lexeme × ℕ) EreFault)
    → map_ok (with_remaining after) r ≡ Ok (l, more)
    → and_then x.0 r (λ taken. lexemes taken after) ≡ before_these ((x.0, l) ∷ []) (lexemes 0 more)
and_then_reads x after more l (Err d) e = absurd cc
and_then_reads x after more l (Ok y) e =
    let one : y.0 ≡ l = ap (λ (r : Result (Lexeme × List Located) EreFault). elim r [ Ok z ↦ z.0 | Err d ↦ l ]) e in
    let two : drop y.1 after ≡ more = ap (λ (r : Result (Lexeme × List Located) EreFault). elim r [ Ok z ↦ z.1 | Err d ↦ more ]) e in
    let left : lexemes y.1 after ≡ lexemes 0 more = lexemes-skipped y.1 after ∙ ap (lexemes 0) two in
    (λ i. record { found = (x.0, one i) ∷ (left i).found; fault = (left i).fault })

-- the lexeme that characters begin with is read
pub one_read : {x : Located} {after more : List Located} {l : Lexeme} → IsLexeme x after more l
    → lexemes 0 (x ∷ after) ≡ before_these ((x.0, l) ∷ []) (lexemes 0 more)
unfolding lexemes
one_read {x = x} {after = after} {more = more} {l = l} is = and_then_reads x after more l (lexeme_at x after) (lexeme_read is)

-- the lexemes that characters begin with are read
pub begin_read : {cs others : List Located} {ls : List (ℕ × Lexeme)} → BeginWith cs ls others
    → lexemes 0 cs ≡ before_these ls (lexemes 0 others)
begin_read faults.no_lexeme = refl
begin_read (faults.one_lexeme {x = x} {l = l} is others) = one_read is ∙ ap (before_these ((x.0, l) ∷ [])) (begin_read others)
