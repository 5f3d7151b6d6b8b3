-- The brackets that are read are those that are spelled.
use Rattle.std.proofs.Common.{◌≡◌, ℕ, zero, suc, ◌+◌, ◌≤◌, Bool, true, false, cond, not, List, [], ◌∷◌, drop, Result, Ok, Err, refl, ap, sym, subst, ◌∙◌, arith, eq-eqb, inl, inr, ◌⊎◌}
use Rattle.std.specs.Prelude.{◌==◌, ◌&&◌, ◌||◌, ◌≢◌, nat_lt}
use Rattle.std.specs.Prelude.{IfOk}
use Rattle.std.proofs.lemmas.Bool.{eqb-true, false≢true}
use Rattle.std.proofs.lemmas.Bool.Decides.{nat_tests}
use Rattle.std.proofs.lemmas.List.{drop-drop}
use Rattle.lic_ere.specs.declared.class.Member.{Member}
use Rattle.lic_ere.specs.declared.fault.EreFault.{EreFault}
use Rattle.lic_ere.specs.declared.fault.EreCause.TheVariants.{BracketExtension}
use Rattle.lic_ere.specs.Signs.{dash, open_bracket, close_bracket, caret}
use Rattle.lic_ere.specs.Sets.{Brackets}
use Rattle.lic_ere.specs.declared.remaining.Remaining.{Remaining}
use Rattle.lic_ere.specs.Views.{left, seen}
use Rattle.lic_ere.specs.Located.{Located, further, with_remaining}
use Rattle.lic_ere.specs.Faults.{fault_at, Gives, map_ok, ◌>>=◌}
use Rattle.lic_ere.specs.Brackets.{begins_extension, single_at, range_at, member_at, members_at, complement_at, bracket_at}
use Rattle.lic_ere.specs.Spelling.{IsExtension, extension, continues_as_range, IsMember, alone, range, IsMembers, closed, further as one_further, IsFirstMembers, members, IsBracket, plain, complement}
use Rattle.lic_ere.proofs.FaultLemmas.{Gives-same, map_ok-same, map_ok-map_ok}
use Rattle.lic_ere.proofs.SetLemmas.{and_cases, and_true, or_cases, or_left, or_right}
use Rattle.lic_ere.proofs.BracketLemmas.{following, members_of, members_turn}

unfoldable pub member_of : Located → List Located → Result (Member × List Located) EreFault
member_of x after = map_ok (with_remaining after) (member_at x after)

pub not_this : (c d : ℕ) → c ≢ d → (c == d) ≡ false
not_this c d h = grind (arith, nat_tests)

pub is_not_this : (c d : ℕ) → (c == d) ≡ false → c ≢ d
is_not_this c d h = λ e. grind (arith, nat_tests)

-- ---- what denotes more than one character

three_of_one : (c a b d : ℕ) → (c == a || c == b || c == d) ≡ true → (c ≡ a) ⊎ ((c ≡ b) ⊎ (c ≡ d))
three_of_one c a b d e =
    elim (or_cases (c == a || c == b) (c == d) e) [
      | inl more ↦ (elim (or_cases (c == a) (c == b) more) [
        | inl t ↦ inl (eqb-true c a t)
        | inr t ↦ inr (inl (eqb-true c b t))
      ])
      | inr t ↦ inr (inr (eqb-true c d t))
    ]

pub begins-IsExtension : (c : ℕ) (rest : List Located) → begins_extension c rest ≡ true → IsExtension c rest
begins-IsExtension c [] e = absurd (false≢true e)
begins-IsExtension c (next ∷ rest) e =
    let (one, others) = and_cases (c == open_bracket) _ e in
    extension (eqb-true c open_bracket one) (three_of_one next.1 _ _ _ others)

one_of_three : (c a b d : ℕ) → (c ≡ a) ⊎ ((c ≡ b) ⊎ (c ≡ d)) → (c == a || c == b || c == d) ≡ true
one_of_three c a b d (inl e) = or_left (c == a || c == b) (c == d) (or_left (c == a) (c == b) (eq-eqb _ _ e))
one_of_three c a b d (inr (inl e)) = or_left (c == a || c == b) (c == d) (or_right (c == a) (c == b) (eq-eqb _ _ e))
one_of_three c a b d (inr (inr e)) = or_right (c == a || c == b) (c == d) (eq-eqb _ _ e)

pub IsExtension-begins : {c : ℕ} {rest : List Located} → IsExtension c rest → begins_extension c rest ≡ true
IsExtension-begins (extension {c = c} {next = next} e others) = and_true (c == open_bracket) _ (eq-eqb _ _ e) (one_of_three next.1 _ _ _ others)

begins_none : (c : ℕ) (rest : List Located) (b : Bool) → begins_extension c rest ≡ b → ¬ (IsExtension c rest) → b ≡ false
begins_none c rest true e none = absurd (none (begins-IsExtension c rest e))
begins_none c rest false e none = refl

not_begins : (c : ℕ) (rest : List Located) → ¬ (IsExtension c rest) → begins_extension c rest ≡ false
not_begins c rest none = begins_none c rest (begins_extension c rest) refl none

begins_not : (c : ℕ) (rest : List Located) → begins_extension c rest ≡ false → ¬ (IsExtension c rest)
begins_not c rest e is = absurd (false≢true (sym e ∙ IsExtension-begins is))

-- ---- what is spelled is read

alone_read : (x : Located) (rest : List Located) → continues_as_range rest ≡ false → begins_extension x.1 rest ≡ false
    → member_of x rest ≡ Ok (record { first = x.1; last = x.1 }, rest)
unfolding member_of member_at
alone_read x [] a b = refl
alone_read x (h ∷ []) a b = rw b refl
alone_read x (h ∷ y ∷ r) a b = rw (a, b) refl

range_read : (x h y : Located) (rest : List Located) → h.1 ≡ dash → y.1 ≢ close_bracket → x.1 ≤ y.1
    → begins_extension y.1 rest ≡ false → member_of x (h ∷ y ∷ rest) ≡ Ok (record { first = x.1; last = y.1 }, rest)
unfolding member_of member_at
range_read x h y rest hyphen open_yet order plain_end =
    let one : (h.1 == dash) ≡ true = eq-eqb _ _ hyphen in
    let two : (y.1 == close_bracket) ≡ false = not_this y.1 close_bracket open_yet in
    let three : nat_lt y.1 x.1 ≡ false = grind (arith, nat_tests) in
    rw (one, two, three, plain_end) refl

pub member_read : {x : Located} {after more : List Located} {m : Member} → IsMember (x ∷ after) more m → member_of x after ≡ Ok (m, more)
member_read (alone {x = x} {rest = rest} a b) = alone_read x rest a (not_begins x.1 rest b)
member_read (range {x = x} {hyphen = h} {y = y} {rest = rest} a b c d) = range_read x h y rest a b c (not_begins y.1 rest d)

members_read : (offset : ℕ) {cs rest : List Located} {ms : List Member} → IsMembers cs rest ms → members_of offset false cs ≡ Ok (ms, rest)
unfolding members_at member_of
members_read offset (closed {x = x} e) = let test : (x.1 == close_bracket) ≡ true = eq-eqb _ _ e in rw test refl
members_read offset (one_further {x = x} {after = after} {more = more} {m = m} ne is others) =
    members_turn offset false x after (not_this x.1 close_bracket ne) (x ∷ after) m more refl (member_read is) ∙ ap (following (m ∷ [])) (members_read offset others)

first_by : (offset : ℕ) (cs more rest : List Located) (m : Member) (ms : List Member) → IsMember cs more m
    → members_of offset false more ≡ Ok (ms, rest) → members_of offset true cs ≡ Ok (m ∷ ms, rest)
unfolding member_of
first_by offset [] more rest m ms is others = elim is [ ]
first_by offset (x ∷ after) more rest m ms is others =
    members_turn offset true x after refl (x ∷ after) m more refl (member_read is) ∙ ap (following (m ∷ [])) others

first_read : (offset : ℕ) {cs rest : List Located} {ms : List Member} → IsFirstMembers cs rest ms → members_of offset true cs ≡ Ok (ms, rest)
first_read offset (members {cs = cs} {more = more} {rest = rest} {m = m} {ms = ms} is others) = first_by offset cs more rest m ms is (members_read offset others)

sign_then : (offset : ℕ) (sign : Bool × ℕ) (cs : List Located)
    → map_ok (with_remaining cs) (map_ok (λ ms. (record { members = ms.0; complement = sign.0 }, sign.1 + ms.1))
    (members_at offset true 0 (drop sign.1 cs)))
    ≡ map_ok {A = List Member × List Located} {B =
    Brackets × List Located} (λ y. (record { members = y.0; complement = sign.0 }, y.1))
    (members_of offset true (drop sign.1 cs))
sign_then offset sign cs =
    map_ok-map_ok (with_remaining cs) (λ ms. (record { members = ms.0; complement = sign.0 }, sign.1 + ms.1)) (members_at offset true 0 (drop sign.1 cs))
    ∙ map_ok-same _ (λ ms. (record { members = ms.0; complement = sign.0 }, drop ms.1 (drop sign.1 cs)))
    (members_at offset true 0 (drop sign.1 cs)) (λ ms.
    ap (λ (l : List Located). (record { members = ms.0; complement = sign.0 }, l))
    (sym (drop-drop ms.1 sign.1 cs)))
    ∙ sym (map_ok-map_ok (λ y. (record { members = y.0; complement = sign.0 }, y.1)) (with_remaining (drop sign.1 cs)) (members_at offset true 0 (drop sign.1 cs)))

abbrev bracket_by : ℕ → Bool × ℕ → List Located → Result (Brackets × List Located) EreFault
bracket_by offset sign cs = map_ok (with_remaining cs)
    (map_ok (λ ms. (record { members = ms.0; complement = sign.0 }, sign.1 + ms.1))
    (members_at offset true 0 (drop sign.1 cs)))

abbrev with_sign : Bool → Result (List Member × List Located) EreFault → Result (Brackets × List Located) EreFault
with_sign sign r = map_ok (λ y. (record { members = y.0; complement = sign }, y.1)) r

-- a bracket, and what comes after it
abbrev pub bracket_of : ℕ → List Located → Result (Brackets × List Located) EreFault
bracket_of offset cs = map_ok (with_remaining cs) (bracket_at offset cs)

bracket_of-is : (offset : ℕ) (cs : List Located) → bracket_of offset cs ≡ bracket_by offset (complement_at cs) cs
unfolding bracket_at
bracket_of-is offset cs = refl

plain_sign : (x : Located) (cs : List Located) → (x.1 == caret) ≡ false → complement_at (x ∷ cs) ≡ (false, 0)
plain_sign x cs e = rw e refl

complement_sign : (x : Located) (cs : List Located) → (x.1 == caret) ≡ true → complement_at (x ∷ cs) ≡ (true, 1)
complement_sign x cs e = rw e refl

pub plain_is : (offset : ℕ) (x : Located) (cs : List Located) → (x.1 == caret) ≡ false → bracket_of offset (x ∷ cs) ≡ with_sign false (members_of offset true (x ∷ cs))
plain_is offset x cs e = bracket_of-is offset (x ∷ cs) ∙ ap (λ s. bracket_by offset s (x ∷ cs)) (plain_sign x cs e) ∙ sign_then offset (false, 0) (x ∷ cs)

pub complement_is : (offset : ℕ) (x : Located) (cs : List Located) → (x.1 == caret) ≡ true → bracket_of offset (x ∷ cs) ≡ with_sign true (members_of offset true cs)
complement_is offset x cs e = bracket_of-is offset (x ∷ cs) ∙ ap (λ s. bracket_by offset s (x ∷ cs)) (complement_sign x cs e) ∙ sign_then offset (true, 1) (x ∷ cs)

-- the bracket that is spelled is read
pub IsBracket-read : (offset : ℕ) {cs rest : List Located} {b : Brackets} → IsBracket cs rest b → bracket_of offset cs ≡ Ok (b, rest)
IsBracket-read offset (plain {x = x} {cs = cs} ne is) = plain_is offset x cs (not_this x.1 caret ne) ∙ ap (with_sign false) (first_read offset is)
IsBracket-read offset (complement {x = x} {cs = cs} e is) = complement_is offset x cs (eq-eqb _ _ e) ∙ ap (with_sign true) (first_read offset is)

-- ---- what is read is spelled

abbrev held : {A B : Type 0} → A × B → Result (A × B) EreFault → A × B
held p (Ok q) = q
held p (Err e) = p

abbrev found : {A B : Type 0} → A → B → Result (A × B) EreFault
found a b = Ok (a, b)

same_value : {A B : Type 0} (a c : A) (b d : B) → found a b ≡ found c d → a ≡ c
same_value a c b d e = ap (λ o. (held (a, b) o).0) e

same_rest : {A B : Type 0} (a c : A) (b d : B) → found a b ≡ found c d → b ≡ d
same_rest a c b d e = ap (λ o. (held (a, b) o).1) e

single_by : (x : Located) (rest more : List Located) (m : Member) (d : EreFault) (t : Bool) → begins_extension x.1 rest ≡ t
    → continues_as_range rest ≡ false → map_ok (with_remaining rest) (map_ok (λ m. (m, 0))
    (cond t (Err d) (Ok (record { first = x.1; last = x.1 })))) ≡ Ok (m, more)
    → IsMember (x ∷ rest) more m
single_by x rest more m d true e g is = absurd cc
single_by x rest more m d false e g is =
    let one : Member = record { first = x.1; last = x.1 } in
    subst (λ n. IsMember (x ∷ rest) more n) (same_value one m rest more is)
    (subst (λ l. IsMember (x ∷ rest) l one) (same_rest one m rest more is) (alone g (begins_not x.1 rest e)))

range_by : (x h y : Located) (rest more : List Located) (m : Member) (d f : EreFault) (t u : Bool) → h.1 ≡ dash → y.1 ≢ close_bracket
    → nat_lt y.1 x.1 ≡ t → begins_extension y.1 rest ≡ u
    → map_ok (with_remaining (h ∷ y ∷ rest))
    (map_ok (λ m. (m, 2)) (cond t (Err d)
    (cond u (Err f) (Ok (record { first = x.1; last = y.1 })))))
    ≡ Ok (m, more) → IsMember (x ∷ h ∷ y ∷ rest) more m
range_by x h y rest more m d f true u hyphen ne order e is = absurd cc
range_by x h y rest more m d f false true hyphen ne order e is = absurd cc
range_by x h y rest more m d f false false hyphen ne order e is =
    let both : Member = record { first = x.1; last = y.1 } in
    let le : x.1 ≤ y.1 = grind (arith, nat_tests) in
    subst (λ n. IsMember (x ∷ h ∷ y ∷ rest) more n) (same_value both m rest more is)
    (subst (λ l. IsMember (x ∷ h ∷ y ∷ rest) l both) (same_rest both m rest more is)
    (range hyphen ne le (begins_not y.1 rest e)))

pub and_split : (a b : Bool) → (a && not b) ≡ true → (a ≡ true) × (b ≡ false)
and_split true true h = absurd (false≢true h)
and_split true false h = (refl, refl)
and_split false b h = absurd (false≢true h)

member_by : (x h y : Located) (rest more : List Located) (m : Member) (t : Bool) → (h.1 == dash && not (y.1 == close_bracket)) ≡ t
    → map_ok (with_remaining (h ∷ y ∷ rest))
    (cond t (map_ok (λ m. (m, 2)) (range_at x y rest)) (map_ok (λ m. (m, 0)) (single_at x (h ∷ y ∷ rest))))
    ≡ Ok (m, more) → IsMember (x ∷ h ∷ y ∷ rest) more m
member_by x h y rest more m true e is =
    let both = and_split (h.1 == dash) (y.1 == close_bracket) e in
    range_by x h y rest more m _ _ (nat_lt y.1 x.1) (begins_extension y.1 rest) (eqb-true _ _ both.0) (is_not_this y.1 close_bracket both.1) refl refl is
member_by x h y rest more m false e is = single_by x (h ∷ y ∷ rest) more m _ (begins_extension x.1 (h ∷ y ∷ rest)) refl e is

member_spelled : (x : Located) (after more : List Located) (m : Member) → member_of x after ≡ Ok (m, more) → IsMember (x ∷ after) more m
unfolding member_of member_at
member_spelled x [] more m is = single_by x [] more m (fault_at x.0 BracketExtension) (begins_extension x.1 []) refl refl is
member_spelled x (h ∷ []) more m is = single_by x (h ∷ []) more m _ (begins_extension x.1 (h ∷ [])) refl refl is
member_spelled x (h ∷ y ∷ rest) more m is = member_by x h y rest more m (h.1 == dash && not (y.1 == close_bracket)) refl is

Spelled : ℕ → List Located → Type 0
Spelled offset xs = (n : ℕ) (ms : List Member) (k : ℕ) → members_at offset false n xs ≡ Ok (ms, k) → IsMembers (drop n xs) (drop k xs) ms

-- one character more
past_one : (x : Located) (xs cs : List Located) (ms ns : List Member) (j k : ℕ) → found ns (1 + j) ≡ found ms k
    → IsMembers cs (drop j xs) ns → IsMembers cs (drop k (x ∷ xs)) ms
past_one x xs cs ms ns j k e is =
    subst (λ l. IsMembers cs l ms)
    (drop-drop j 1 (x ∷ xs) ∙ ap (λ (i : ℕ). drop i (x ∷ xs)) (same_rest ns ms (1 + j) k e))
    (subst (λ l. IsMembers cs (drop j xs) l) (same_value ns ms (1 + j) k e) is)

skip_by : (x : Located) (xs cs : List Located) (ms : List Member) (k : ℕ) (r : Result (List Member × ℕ) EreFault)
    → ((ns : List Member) (j : ℕ) → r ≡ Ok (ns, j) → IsMembers cs (drop j xs) ns) → map_ok (further 1) r ≡ Ok (ms, k)
    → IsMembers cs (drop k (x ∷ xs)) ms
skip_by x xs cs ms k (Ok y) all e = past_one x xs cs ms y.0 y.1 k e (all y.0 y.1 refl)
skip_by x xs cs ms k (Err d) all e = absurd cc

-- a member, and the members after it
abbrev member_then : ℕ → List Located → Result (Member × ℕ) EreFault → Result (List Member × ℕ) EreFault
member_then offset xs r = r >>= λ m. map_ok (λ ms. (m.0 ∷ ms.0, 1 + ms.1)) (members_at offset false m.1 xs)

others_by : (x : Located) (xs : List Located) (m : Member) (j : ℕ) (ms : List Member) (k : ℕ)
    (r : Result (List Member × ℕ) EreFault) → IsMember (x ∷ xs) (drop j xs) m
    → ((ns : List Member) (i : ℕ) → r ≡ Ok (ns, i) → IsMembers (drop j xs) (drop i xs) ns)
    → map_ok {A = List Member × ℕ} {B = List Member × ℕ} (λ ms. (m ∷ ms.0, 1 + ms.1)) r ≡ Ok (ms, k)
    → IsFirstMembers (x ∷ xs) (drop k (x ∷ xs)) ms
others_by x xs m j ms k (Err d) is all e = absurd cc
others_by x xs m j ms k (Ok y) is all e =
    subst (λ l. IsFirstMembers (x ∷ xs) l ms) (drop-drop y.1 1 (x ∷ xs) ∙ ap (λ (i : ℕ). drop i (x ∷ xs)) (same_rest (m ∷ y.0) ms (1 + y.1) k e))
    (subst (λ l. IsFirstMembers (x ∷ xs) (drop y.1 xs) l) (same_value (m ∷ y.0) ms (1 + y.1) k e) (members is (all y.0 y.1 refl)))

then_by : (offset : ℕ) (x : Located) (xs : List Located) (ms : List Member) (k : ℕ) (r : Result (Member × ℕ) EreFault)
    → ((m : Member) (j : ℕ) → r ≡ Ok (m, j) → IsMember (x ∷ xs) (drop j xs) m)
    → ((j : ℕ) (ns : List Member) (i : ℕ) → members_at offset false j xs ≡ Ok (ns, i)
    → IsMembers (drop j xs) (drop i xs) ns) → member_then offset xs r ≡ Ok (ms, k)
    → IsFirstMembers (x ∷ xs) (drop k (x ∷ xs)) ms
then_by offset x xs ms k (Err d) is all e = absurd cc
then_by offset x xs ms k (Ok m) is all e = others_by x xs m.0 m.1 ms k (members_at offset false m.1 xs) (is m.0 m.1 refl) (all m.1) e

pub one_spelled : (x : Located) (xs : List Located) (m : Member) (j : ℕ) → member_at x xs ≡ Ok (m, j) → IsMember (x ∷ xs) (drop j xs) m
unfolding member_of
one_spelled x xs m j e = member_spelled x xs (drop j xs) m (ap (map_ok (with_remaining xs)) e)

not_first : (x : Located) (xs rest : List Located) (ms : List Member) → x.1 ≢ close_bracket → IsFirstMembers (x ∷ xs) rest ms → IsMembers (x ∷ xs) rest ms
not_first x xs rest ms ne (members is others) = one_further ne is others

closes_by : (offset : ℕ) (x : Located) (xs : List Located) (ms : List Member) (k : ℕ) (t : Bool) → (x.1 == close_bracket) ≡ t
    → ((j : ℕ) (ns : List Member) (i : ℕ) → members_at offset false j xs ≡ Ok (ns, i) → IsMembers (drop j xs) (drop i xs) ns)
    → cond t (Ok ([], 1)) (member_then offset xs (member_at x xs)) ≡ Ok (ms, k) → IsMembers (x ∷ xs) (drop k (x ∷ xs)) ms
closes_by offset x xs ms k true e all is =
    subst (λ l. IsMembers (x ∷ xs) l ms) (ap (λ (i : ℕ). drop i (x ∷ xs)) (same_rest [] ms 1 k is))
    (subst (λ l. IsMembers (x ∷ xs) xs l) (same_value [] ms 1 k is) (closed (eqb-true _ _ e)))
closes_by offset x xs ms k false e all is =
    not_first x xs (drop k (x ∷ xs)) ms (is_not_this x.1 close_bracket e)
    (then_by offset x xs ms k (member_at x xs) (one_spelled x xs) all is)

members_spelled : (offset : ℕ) (xs : List Located) → Spelled offset xs
unfolding Spelled members_at
members_spelled offset [] n ms k e = absurd cc
members_spelled offset (x ∷ xs) (suc n) ms k e = skip_by x xs (drop n xs) ms k (members_at offset false n xs) (members_spelled offset xs n) e
members_spelled offset (x ∷ xs) zero ms k e = closes_by offset x xs ms k (x.1 == close_bracket) refl (members_spelled offset xs) e

first_spelled : (offset : ℕ) (cs : List Located) (ms : List Member) (k : ℕ) → members_at offset true 0 cs ≡ Ok (ms, k) → IsFirstMembers cs (drop k cs) ms
unfolding members_at Spelled
first_spelled offset [] ms k e = absurd cc
first_spelled offset (x ∷ xs) ms k e = then_by offset x xs ms k (member_at x xs) (one_spelled x xs) (members_spelled offset xs) e

first_of_spelled : (offset : ℕ) (cs rest : List Located) (ms : List Member) → members_of offset true cs ≡ Ok (ms, rest) → IsFirstMembers cs rest ms
first_of_spelled offset cs rest ms e = by_result (members_at offset true 0 cs) refl e
  where
    by_result : (r : Result (List Member × ℕ) EreFault) → members_at offset true 0 cs ≡ r → map_ok (with_remaining cs) r ≡ Ok (ms, rest) → IsFirstMembers cs rest ms
    by_result (Ok y) was e = subst (λ l. IsFirstMembers cs l ms) (same_rest y.0 ms (drop y.1 cs) rest e)
        (subst (λ l. IsFirstMembers cs (drop y.1 cs) l) (same_value y.0 ms (drop y.1 cs) rest e)
        (first_spelled offset cs y.0 y.1 was))
    by_result (Err d) was e = absurd cc

sign_was : (sign : Bool) (r : Result (List Member × List Located) EreFault) (b : Brackets) (rest : List Located)
    → with_sign sign r ≡ Ok (b, rest)
    → (ms : List Member) × (r ≡ Ok (ms, rest)) × (record { members = ms; complement = sign } ≡ b)
sign_was sign (Ok y) b rest e =
    let made : Brackets = record { members = y.0; complement = sign } in
    (y.0, ap (λ (l : List Located). Ok (y.0, l)) (same_rest made b y.1 rest e), same_value made b y.1 rest e)
sign_was sign (Err d) b rest e = absurd cc

caret_by : (offset : ℕ) (x : Located) (cs rest : List Located) (b : Brackets) (t : Bool) → (x.1 == caret) ≡ t
    → bracket_of offset (x ∷ cs) ≡ Ok (b, rest) → IsBracket (x ∷ cs) rest b
caret_by offset x cs rest b true e is =
    let was = sign_was true (members_of offset true cs) b rest (sym (complement_is offset x cs e) ∙ is) in
    subst (λ c. IsBracket (x ∷ cs) rest c) was.2 (complement (eqb-true _ _ e) (first_of_spelled offset cs rest was.0 was.1))
caret_by offset x cs rest b false e is =
    let was = sign_was false (members_of offset true (x ∷ cs)) b rest (sym (plain_is offset x cs e) ∙ is) in
    subst (λ c. IsBracket (x ∷ cs) rest c) was.2 (plain (is_not_this x.1 caret e) (first_of_spelled offset (x ∷ cs) rest was.0 was.1))

-- the bracket that is read is spelled
pub bracket_at-spelled : (offset : ℕ) (cs rest : List Located) (b : Brackets) → bracket_of offset cs ≡ Ok (b, rest) → IsBracket cs rest b
unfolding bracket_at members_at
bracket_at-spelled offset [] rest b is = absurd cc
bracket_at-spelled offset (x ∷ cs) rest b is = caret_by offset x cs rest b (x.1 == caret) refl is

-- ---- no set is named

no_class : (x y : Located) (cs rest : List Located) (m : Member) → x.1 ≡ 0x5B → (y.1 ≡ 0x3A) ⊎ ((y.1 ≡ 0x2E) ⊎ (y.1 ≡ 0x3D)) → IsMember (x ∷ y ∷ cs) rest m → ⊥
no_class x y cs rest m e others (alone a b) = b (extension e others)
no_class x y cs rest m e (inl f) (range a b c d) = absurd (omega (arith, a, f))
no_class x y cs rest m e (inr (inl f)) (range a b c d) = absurd (omega (arith, a, f))
no_class x y cs rest m e (inr (inr f)) (range a b c d) = absurd (omega (arith, a, f))

no_class_first : (x y : Located) (cs rest : List Located) (ms : List Member) → x.1 ≡ 0x5B
    → (y.1 ≡ 0x3A) ⊎ ((y.1 ≡ 0x2E) ⊎ (y.1 ≡ 0x3D)) → IsFirstMembers (x ∷ y ∷ cs) rest ms → ⊥
no_class_first x y cs rest ms e others (members {more = more} {m = m} is more_of_them) = no_class x y cs more m e others is

-- no bracket begins with `[:`, `[.` or `[=`
pub bracket_names_none : (x y : Located) (cs rest : List Located) (b : Brackets) → x.1 ≡ 0x5B
    → (y.1 ≡ 0x3A) ⊎ ((y.1 ≡ 0x2E) ⊎ (y.1 ≡ 0x3D)) → IsBracket (x ∷ y ∷ cs) rest b → ⊥
bracket_names_none x y cs rest b e others (plain {ms = ms} ne is) = no_class_first x y cs rest ms e others is
bracket_names_none x y cs rest b e others (complement f is) = absurd (omega (arith, e, f))

-- ---- what the reader of the code gives

pub is_spelled : (offset : ℕ) (cs : List Located) (result : Result (Brackets × Remaining) EreFault)
    → Gives seen result (bracket_of offset cs) → IfOk result (λ x. IsBracket cs (left x.1) x.0)
is_spelled offset cs (Ok x) given = bracket_at-spelled offset cs (left x.1) x.0 given
is_spelled offset cs (Err e) given = tt

pub is_read : (offset : ℕ) (cs : List Located) (result : Result (Brackets × Remaining) EreFault) (b : Brackets)
    (rest : List Located) → IsBracket cs rest b → Gives seen result (bracket_of offset cs)
    → Gives seen result (Ok (b, rest))
is_read offset cs result b rest is given = Gives-same seen result (bracket_of offset cs) (Ok (b, rest)) (IsBracket-read offset is) given
