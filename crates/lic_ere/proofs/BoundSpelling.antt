-- The bounds that are read are those that are spelled.
use Rattle.std.proofs.Common.{◌≡◌, ℕ, ◌<◌, ◌≤◌, Bool, true, false, cond, List, [], ◌∷◌, ◌++◌, length, map, drop, Option, Some, None, refl, ap, sym, subst, ◌∙◌, arith, eq-eqb, ne_eqb}
use Rattle.std.specs.Prelude.{◌==◌, ◌||◌, ◌&&◌, nat_lt, nat_le}
use Rattle.std.specs.Option.{IfSome, option_map, option_and_then}
use Rattle.std.specs.List.{AllByRecursion}
use Rattle.std.specs.Char.{is_ascii_digit}
use Rattle.std.specs.Str.Parse.{digits_value}
use Rattle.std.proofs.lemmas.Bool.{eqb-true}
use Rattle.std.proofs.lemmas.Bool.Decides.{nat_tests}
use Rattle.std.proofs.lemmas.List.{drop_at, length-map}
use Rattle.lic_ere.specs.declared.lexeme.bounds.Bounds.{Bounds}
use Rattle.lic_ere.specs.Signs.{comma, close_brace}
use Rattle.lic_ere.specs.declared.remaining.Remaining.{Remaining}
use Rattle.lic_ere.specs.Views.{left, seen}
use Rattle.lic_ere.specs.Located.{Located, further, with_remaining}
use Rattle.lic_ere.specs.Lexemes.{bounds}
use Rattle.lic_ere.specs.Bounds.{digits, number_at, closed_bounds, upper_bound, after_min, bounds_at}
use Rattle.lic_ere.proofs.FaultLemmas.{with_remaining-further}
use Rattle.lic_ere.specs.Spelling.{IsNumber, IsBounds, exactly, at_least, between}

-- ---- what is spelled is read

digits_again : (ds : List Located) (next : Located) (rest : List Located)
    → AllByRecursion (λ d. is_ascii_digit d.1 ≡ true) ds → is_ascii_digit next.1 ≡ false
    → digits (ds ++ next ∷ rest) ≡ map (λ d. d.1) ds
digits_again [] next rest all stop = rw stop refl
digits_again (d ∷ ds) next rest all stop = rw all.0 (ap (λ es. d.1 ∷ es) (digits_again ds next rest all.1 stop))

in_bound : (n v : ℕ) → 0 < n → v ≤ 65535 → (n == 0 || nat_lt 65535 v) ≡ false
in_bound n v some small = grind (arith, nat_tests)

abbrev held : {A : Type 0} → A × List Located → Option (A × List Located) → A × List Located
held p None = p
held p (Some q) = q

abbrev found : {A : Type 0} → A → List Located → Option (A × List Located)
found a r = Some (a, r)

same_value : {A : Type 0} (a b : A) (r s : List Located) → found a r ≡ found b s → a ≡ b
same_value a b r s e = ap (λ o. (held (a, r) o).0) e

same_rest : {A : Type 0} (a b : A) (r s : List Located) → found a r ≡ found b s → r ≡ s
same_rest a b r s e = ap (λ o. (held (a, r) o).1) e

-- what a number in front gives
number_again : (cs : List Located) (m : ℕ) (next : Located) (rest : List Located) → IsNumber cs (next ∷ rest) m
    → is_ascii_digit next.1 ≡ false → option_map (with_remaining cs) (number_at cs) ≡ Some (m, next ∷ rest)
unfolding number_at
number_again cs m next rest is stop =
    let same : digits cs ≡ map (λ d. d.1) is.text = ap digits is.parts ∙ digits_again is.text next rest is.digits stop in
    let value : digits_value 10 (digits cs) ≡ m = ap (digits_value 10) same ∙ sym is.value in
    let count : length (digits cs) ≡ length is.text = ap length same ∙ length-map is.text (λ d. d.1) in
    let test = in_bound (length (digits cs)) (digits_value 10 (digits cs)) (omega (arith, is.some, count)) (omega (arith, is.small, value)) in
    let left : drop (length (digits cs)) cs ≡ next ∷ rest =
    ap (λ (n : ℕ). drop n cs) count ∙ ap (drop (length is.text)) is.parts
    ∙ drop_at is.text (next ∷ rest) (length is.text) refl in
    rw (test, value, left) refl

-- ---- one reading after another

abbrev following : {A B : Type 0} → List Located → Option (A × ℕ) → (A → List Located → Option (B × ℕ)) → Option (B × ℕ)
following cs o f = option_and_then (λ m. option_map (further m.1) (f m.0 (drop m.1 cs))) o

map-further : {B : Type 0} (n : ℕ) (cs : List Located) (o : Option (B × ℕ))
    → option_map (with_remaining cs) (option_map (further n) o) ≡ option_map (with_remaining (drop n cs)) o
map-further n cs None = refl
map-further n cs (Some b) = ap (λ x. Some x) (with_remaining-further n cs b)

following-reads : {A B : Type 0} (cs : List Located) (o : Option (A × ℕ)) (f : A → List Located → Option (B × ℕ)) (a : A)
    (rest : List Located) → option_map (with_remaining cs) o ≡ Some (a, rest)
    → option_map (with_remaining cs) (following cs o f) ≡ option_map (with_remaining rest) (f a rest)
following-reads cs None f a rest e = absurd cc
following-reads cs (Some y) f a rest e =
    let one : y.0 ≡ a = same_value y.0 a (drop y.1 cs) rest e in
    let two : drop y.1 cs ≡ rest = same_rest y.0 a (drop y.1 cs) rest e in
    map-further y.1 cs (f y.0 (drop y.1 cs)) ∙ (λ i. option_map (with_remaining (two i)) (f (one i) (two i)))

following-was : {A B : Type 0} (cs : List Located) (o : Option (A × ℕ)) (f : A → List Located → Option (B × ℕ)) (b : B)
    (end : List Located) → option_map (with_remaining cs) (following cs o f) ≡ Some (b, end)
    → (a : A) × (rest : List Located) × (option_map (with_remaining cs) o ≡ Some (a, rest))
    × (option_map (with_remaining rest) (f a rest) ≡ Some (b, end))
following-was cs None f b end e = absurd cc
following-was cs (Some y) f b end e = (y.0, drop y.1 cs, refl, sym (map-further y.1 cs (f y.0 (drop y.1 cs))) ∙ e)

brace_no_digit : (c : ℕ) → c ≡ close_brace → is_ascii_digit c ≡ false
brace_no_digit c e = rw e refl

comma_no_digit : (c : ℕ) → c ≡ comma → is_ascii_digit c ≡ false
comma_no_digit c e = rw e refl

comma_no_brace : (c : ℕ) → c ≡ comma → (c == close_brace) ≡ false
comma_no_brace c e = rw e refl

-- what a digit in front excludes
digit_no_brace : (c : ℕ) → is_ascii_digit c ≡ true → (c == close_brace) ≡ false
digit_no_brace c e = grind (arith, nat_tests)

first_digit : (cs rest : List Located) (m : ℕ) → IsNumber cs rest m → (x : Located) × (more : List Located) × (cs ≡ x ∷ more) × (is_ascii_digit x.1 ≡ true)
first_digit cs rest m is = by_text is.text is.some is.digits is.parts
  where
    by_text : (ds : List Located) → 0 < length ds → AllByRecursion (λ d. is_ascii_digit d.1 ≡ true) ds
        → cs ≡ ds ++ rest → (x : Located) × (more : List Located) × (cs ≡ x ∷ more) × (is_ascii_digit x.1 ≡ true)
    by_text [] some all parts = absurd (omega arith)
    by_text (d ∷ ds) some all parts = (d, ds ++ rest, parts, all.0)

end_reads : (m : ℕ) (end : Located) (rest : List Located) → end.1 ≡ close_brace
    → option_map (with_remaining (end ∷ rest)) (after_min m (end ∷ rest)) ≡ Some (bounds m (Some m), rest)
end_reads m end rest e = let test : (end.1 == close_brace) ≡ true = eq-eqb _ _ e in rw test refl

comma_reads : (m : ℕ) (sep : Located) (rest : List Located) → sep.1 ≡ comma
    → option_map (with_remaining (sep ∷ rest)) (after_min m (sep ∷ rest)) ≡ option_map (with_remaining rest) (upper_bound m rest)
comma_reads m sep rest e =
    let test : (sep.1 == close_brace) ≡ false = comma_no_brace sep.1 e in
    let other : (sep.1 == comma) ≡ true = eq-eqb _ _ e in
    rw (test, other) (map-further 1 (sep ∷ rest) (upper_bound m rest))

at_least_reads : (m : ℕ) (end : Located) (rest : List Located) → end.1 ≡ close_brace
    → option_map (with_remaining (end ∷ rest)) (upper_bound m (end ∷ rest)) ≡ Some (bounds m None, rest)
unfolding upper_bound
at_least_reads m end rest e = let test : (end.1 == close_brace) ≡ true = eq-eqb _ _ e in rw test refl

upper-digit : (m : ℕ) (x : Located) (more : List Located) → is_ascii_digit x.1 ≡ true
    → upper_bound m (x ∷ more) ≡ following (x ∷ more) (number_at (x ∷ more)) (closed_bounds m)
unfolding upper_bound
upper-digit m x more d = let test = digit_no_brace x.1 d in rw test refl

closed_reads : (m n : ℕ) (end : Located) (rest : List Located) → m ≤ n → end.1 ≡ close_brace
    → option_map (with_remaining (end ∷ rest)) (closed_bounds m n (end ∷ rest)) ≡ Some (bounds m (Some n), rest)
closed_reads m n end rest le e =
    let test : (end.1 == close_brace) ≡ true = eq-eqb _ _ e in
    let order : nat_le m n ≡ true = grind (arith, nat_tests) in
    rw (test, order) refl

between_reads : (m n : ℕ) (more rest : List Located) (end : Located) → IsNumber more (end ∷ rest) n → m ≤ n
    → end.1 ≡ close_brace → option_map (with_remaining more) (upper_bound m more) ≡ Some (bounds m (Some n), rest)
between_reads m n more rest end is le e =
    let d = first_digit more (end ∷ rest) n is in
    ap (λ (cs : List Located). option_map (with_remaining cs) (upper_bound m cs)) d.2
    ∙ ap (option_map (with_remaining (d.0 ∷ d.1))) (upper-digit m d.0 d.1 d.3)
    ∙ ap (λ (cs : List Located). option_map (with_remaining cs) (following cs (number_at cs) (closed_bounds m))) (sym d.2)
    ∙ following-reads more (number_at more) (closed_bounds m) n (end ∷ rest) (number_again more n end rest is (brace_no_digit end.1 e))
    ∙ closed_reads m n end rest le e

-- the bounds that are spelled are read
pub IsBounds-read : (cs rest : List Located) (b : Bounds) → IsBounds cs rest b → option_map (with_remaining cs) (bounds_at cs) ≡ Some (b, rest)
unfolding bounds_at
IsBounds-read cs rest b (exactly {end = end} {m = m} is e) =
    following-reads cs (number_at cs) after_min m (end ∷ rest) (number_again cs m end rest is (brace_no_digit end.1 e)) ∙ end_reads m end rest e
IsBounds-read cs rest b (at_least {sep = sep} {end = end} {m = m} is s e) =
    following-reads cs (number_at cs) after_min m (sep ∷ end ∷ rest)
    (number_again cs m sep (end ∷ rest) is (comma_no_digit sep.1 s)) ∙ comma_reads m sep (end ∷ rest) s
    ∙ at_least_reads m end rest e
IsBounds-read cs rest b (between {more = more} {sep = sep} {end = end} {m = m} {n = n} is s are le e) =
    following-reads cs (number_at cs) after_min m (sep ∷ more) (number_again cs m sep more is (comma_no_digit sep.1 s))
    ∙ comma_reads m sep more s ∙ between_reads m n more rest end are le e

-- ---- what is read is spelled

digits_split : (cs : List Located)
    → (ds : List Located) × (cs ≡ ds ++ drop (length (digits cs)) cs)
    × AllByRecursion (λ d. is_ascii_digit d.1 ≡ true) ds × (map (λ d. d.1) ds ≡ digits cs)
digits_split [] = ([], refl, tt, refl)
digits_split (x ∷ cs) = by_test (is_ascii_digit x.1) refl (digits_split cs)
  where
    by_test : (b : Bool) → is_ascii_digit x.1 ≡ b
        → (ds : List Located) × (cs ≡ ds ++ drop (length (digits cs)) cs)
        × AllByRecursion (λ d. is_ascii_digit d.1 ≡ true) ds × (map (λ d. d.1) ds ≡ digits cs)
        → (ds : List Located) × (x ∷ cs ≡ ds ++ drop (length (cond b (x.1 ∷ digits cs) [])) (x ∷ cs))
        × AllByRecursion (λ d. is_ascii_digit d.1 ≡ true) ds × (map (λ d. d.1) ds ≡ cond b (x.1 ∷ digits cs) [])
    by_test true e h = (x ∷ h.0, ap (λ l. x ∷ l) h.1, (e, h.2), ap (λ l. x.1 ∷ l) h.3)
    by_test false e h = ([], refl, tt, refl)

number_by : (cs rest : List Located) (m n v : ℕ) (t : Bool) → (n == 0 || nat_lt 65535 v) ≡ t
    → option_map (with_remaining cs) (cond t None (Some (v, n))) ≡ Some (m, rest)
    → (0 < n) × (v ≤ 65535) × (v ≡ m) × (drop n cs ≡ rest)
number_by cs rest m n v true e is = absurd cc
number_by cs rest m n v false e is =
    let some : 0 < n = grind (arith, nat_tests) in
    let small : v ≤ 65535 = grind (arith, nat_tests) in
    (some, small, same_value v m (drop n cs) rest is, same_rest v m (drop n cs) rest is)

number_was : (cs rest : List Located) (m : ℕ) → option_map (with_remaining cs) (number_at cs) ≡ Some (m, rest) → IsNumber cs rest m
unfolding number_at
number_was cs rest m is =
    let n = length (digits cs) in
    let v = digits_value 10 (digits cs) in
    let by = number_by cs rest m n v (n == 0 || nat_lt 65535 v) refl is in
    let split = digits_split cs in
    let count : length split.0 ≡ length (digits cs) = sym (length-map split.0 (λ d. d.1)) ∙ ap length split.3 in
    record {
      text = split.0;
      parts = split.1 ∙ ap (λ l. split.0 ++ l) by.3;
      some = omega (arith, by.0, count);
      digits = split.2;
      value = sym by.2 ∙ ap (digits_value 10) (sym split.3);
      small = omega (arith, by.1, by.2);
    }

closed_by : (cs r rest : List Located) (m n : ℕ) (b : Bounds) (sep x : Located) (more : List Located) (t u : Bool)
    → IsNumber cs (sep ∷ more) m → sep.1 ≡ comma → IsNumber more (x ∷ r) n → (x.1 == close_brace) ≡ t → nat_le m n ≡ u
    → option_map (with_remaining (x ∷ r)) (cond (t && u) (Some (bounds m (Some n), 1)) None) ≡ Some (b, rest) → IsBounds cs rest b
closed_by cs r rest m n b sep x more true true is s are e le got =
    let order : m ≤ n = grind (arith, nat_tests) in
    subst (λ c. IsBounds cs rest c) (same_value (bounds m (Some n)) b r rest got)
    (subst (λ l. IsBounds cs l (bounds m (Some n))) (same_rest (bounds m (Some n)) b r rest got)
    (between is s are order (eqb-true _ _ e)))
closed_by cs r rest m n b sep x more true false is s are e le got = absurd cc
closed_by cs r rest m n b sep x more false true is s are e le got = absurd cc
closed_by cs r rest m n b sep x more false false is s are e le got = absurd cc

closed_was : (cs r rest : List Located) (m n : ℕ) (b : Bounds) (sep : Located) (more : List Located)
    → IsNumber cs (sep ∷ more) m → sep.1 ≡ comma → IsNumber more r n
    → option_map (with_remaining r) (closed_bounds m n r) ≡ Some (b, rest) → IsBounds cs rest b
closed_was cs [] rest m n b sep more is s are got = absurd cc
closed_was cs (x ∷ r) rest m n b sep more is s are got = closed_by cs r rest m n b sep x more (x.1 == close_brace) (nat_le m n) is s are refl refl got

upper_by : (cs rest : List Located) (m : ℕ) (b : Bounds) (sep x : Located) (r : List Located) (t : Bool)
    → IsNumber cs (sep ∷ x ∷ r) m → sep.1 ≡ comma → (x.1 == close_brace) ≡ t
    → option_map (with_remaining (x ∷ r))
    (cond t (Some (bounds m None, 1)) (following (x ∷ r) (number_at (x ∷ r)) (closed_bounds m))) ≡ Some (b, rest)
    → IsBounds cs rest b
upper_by cs rest m b sep x r true is s e got =
    subst (λ c. IsBounds cs rest c) (same_value (bounds m None) b r rest got)
    (subst (λ l. IsBounds cs l (bounds m None)) (same_rest (bounds m None) b r rest got)
    (at_least is s (eqb-true _ _ e)))
upper_by cs rest m b sep x r false is s e got =
    let was = following-was (x ∷ r) (number_at (x ∷ r)) (closed_bounds m) b rest got in
    closed_was cs was.1 rest m was.0 b sep (x ∷ r) is s (number_was (x ∷ r) was.1 was.0 was.2) was.3

upper_was : (cs rest : List Located) (m : ℕ) (b : Bounds) (sep : Located) (r : List Located) → IsNumber cs (sep ∷ r) m
    → sep.1 ≡ comma → option_map (with_remaining r) (upper_bound m r) ≡ Some (b, rest) → IsBounds cs rest b
unfolding upper_bound
upper_was cs rest m b sep [] is s got = absurd cc
upper_was cs rest m b sep (x ∷ r) is s got = upper_by cs rest m b sep x r (x.1 == close_brace) is s refl got

after_by : (cs rest : List Located) (m : ℕ) (b : Bounds) (x : Located) (r : List Located) (t u : Bool)
    → IsNumber cs (x ∷ r) m → (x.1 == close_brace) ≡ t → (x.1 == comma) ≡ u
    → option_map (with_remaining (x ∷ r))
    (cond t (Some (bounds m (Some m), 1)) (cond u (option_map (further 1) (upper_bound m r)) None))
    ≡ Some (b, rest) → IsBounds cs rest b
after_by cs rest m b x r true u is e s got =
    subst (λ c. IsBounds cs rest c) (same_value (bounds m (Some m)) b r rest got)
    (subst (λ l. IsBounds cs l (bounds m (Some m))) (same_rest (bounds m (Some m)) b r rest got)
    (exactly is (eqb-true _ _ e)))
after_by cs rest m b x r false true is e s got = upper_was cs rest m b x r is (eqb-true _ _ s) (sym (map-further 1 (x ∷ r) (upper_bound m r)) ∙ got)
after_by cs rest m b x r false false is e s got = absurd cc

after_was : (cs rest : List Located) (m : ℕ) (b : Bounds) (r : List Located) → IsNumber cs r m
    → option_map (with_remaining r) (after_min m r) ≡ Some (b, rest) → IsBounds cs rest b
after_was cs rest m b [] is got = absurd cc
after_was cs rest m b (x ∷ r) is got = after_by cs rest m b x r (x.1 == close_brace) (x.1 == comma) is refl refl got

-- the bounds that are read are spelled
pub bounds_at-spelled : (cs rest : List Located) (b : Bounds) → option_map (with_remaining cs) (bounds_at cs) ≡ Some (b, rest) → IsBounds cs rest b
unfolding bounds_at
bounds_at-spelled cs rest b got =
    let was = following-was cs (number_at cs) after_min b rest got in
    after_was cs rest was.0 b was.1 (number_was cs was.1 was.0 was.2) was.3

-- ---- what the readers of the code give

-- `m}`
pub exactly_gives : (cs more rest : List Located) (m : ℕ) (x : Located)
    → Some (m, more) ≡ option_map (with_remaining cs) (number_at cs) → more ≡ x ∷ rest → x.1 ≡ close_brace
    → Some (bounds m (Some m), rest) ≡ option_map (with_remaining cs) (bounds_at cs)
unfolding bounds_at
exactly_gives cs more rest m x number all e =
    sym (following-reads cs (number_at cs) after_min m more (sym number)
    ∙ ap (λ (l : List Located). option_map (with_remaining l) (after_min m l)) all ∙ end_reads m x rest e)

-- `m,`
pub comma_gives : (cs more rest : List Located) (m : ℕ) (x : Located) (found : Option (Bounds × List Located))
    → Some (m, more) ≡ option_map (with_remaining cs) (number_at cs) → more ≡ x ∷ rest → x.1 ≡ comma
    → found ≡ option_map (with_remaining rest) (upper_bound m rest) → found ≡ option_map (with_remaining cs) (bounds_at cs)
unfolding bounds_at
comma_gives cs more rest m x found number all e is =
    is ∙ sym (following-reads cs (number_at cs) after_min m more (sym number)
    ∙ ap (λ (l : List Located). option_map (with_remaining l) (after_min m l)) all ∙ comma_reads m x rest e)

-- `n}` after m and a comma
pub upper_gives : (cs after more rest : List Located) (m n : ℕ) (x y : Located) → cs ≡ x ∷ after
    → (x.1 ≡ close_brace → ⊥) → Some (n, more) ≡ option_map (with_remaining cs) (number_at cs) → more ≡ y ∷ rest
    → y.1 ≡ close_brace → m ≤ n → Some (bounds m (Some n), rest) ≡ option_map (with_remaining cs) (upper_bound m cs)
unfolding upper_bound
upper_gives cs after more rest m n x y begins no_brace number all e le =
    let test : (x.1 == close_brace) ≡ false = ne_eqb x.1 close_brace no_brace in
    let first : upper_bound m (x ∷ after) ≡ following (x ∷ after) (number_at (x ∷ after)) (closed_bounds m) = rw test refl in
    sym (ap (λ (l : List Located). option_map (with_remaining l) (upper_bound m l)) begins
    ∙ ap (option_map (with_remaining (x ∷ after))) first
    ∙ ap (λ (l : List Located). option_map (with_remaining l) (following l (number_at l) (closed_bounds m))) (sym begins)
    ∙ following-reads cs (number_at cs) (closed_bounds m) n more (sym number)
    ∙ ap (λ (l : List Located). option_map (with_remaining l) (closed_bounds m n l)) all
    ∙ closed_reads m n y rest le e)

pub is_spelled : (cs : List Located) (result : Option (Bounds × Remaining))
    → option_map seen result ≡ option_map (with_remaining cs) (bounds_at cs)
    → IfSome result (λ x. IsBounds cs (left x.1) x.0)
is_spelled cs None given = tt
is_spelled cs (Some x) given = bounds_at-spelled cs (left x.1) x.0 (sym given)

pub is_read : (cs : List Located) (result : Option (Bounds × Remaining)) (b : Bounds) (rest : List Located)
    → IsBounds cs rest b → option_map seen result ≡ option_map (with_remaining cs) (bounds_at cs)
    → option_map seen result ≡ Some (b, rest)
is_read cs result b rest is given = given ∙ IsBounds-read cs rest b is
