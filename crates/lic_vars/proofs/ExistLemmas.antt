-- A match has values: what the moves of its template can make of its letters has a least record.
use Rattle.std.proofs.Common.{◌≡◌, ℕ, zero, suc, ◌+◌, ◌*◌, ◌≤◌, ◌⊎◌, inl, inr, ◌==◌, ◌&&◌, Bool, true, false, Option, Some, None, List, [], ◌∷◌, ◌++◌, length, drop, refl, sym, ap, ◌∙◌, subst, arith, if◌then◌else◌, eqb-true}
use Rattle.std.proofs.lemmas.Bool.{and_parts, cases_Bool, true≢false}
use Rattle.std.proofs.lemmas.List.{length-drop}
use Rattle.lic_words.specs.Words.{Word, blank}
use Rattle.lic_words.specs.Expressions.{Expression, Language, tidy}
use Rattle.lic_words.specs.Letters.{letters_in}
use Rattle.lic_words.specs.Spelling.{Gap, Spells, gapped, sequence_of}
use Rattle.lic_norm.specs.Tokens.{TokenValue}
use Rattle.lic_markup.specs.Parts.{Nodes}
use Rattle.lic_set.specs.Sets.{Known}
use Rattle.lic_set.specs.Matches.{IsMatch, letters_between}
use Rattle.lic_set.specs.declared.triple.Triple.{Triple}
use Rattle.lic_vars.specs.Derivations.{Derivation, record_of, word_of}
use Rattle.lic_vars.specs.Moves.{Move, text, variable, optional, moves}
use Rattle.lic_vars.specs.Making.{LeastOf, Makes, ends, writes, picks, enters, skips}
use Rattle.lic_vars.specs.Values.{Assigned, AreValues, nodes_of}
use Rattle.lic_vars.proofs.Ways.{State, fits, pick, read_word}
use Rattle.lic_vars.proofs.ReadLemmas.{read-append, read-split, read-within}
use Rattle.lic_vars.proofs.SpellLemmas.{gapped-letters, read-spells, read_letter, spells-read}
use Rattle.lic_vars.proofs.DescribedLemmas.{derivation-of-word}
use Rattle.lic_vars.proofs.MakingLemmas.{least-derivation, made-by}
use Rattle.lic_vars.proofs.DecideLemmas.{Decided, decided-both, decided-language}
use Rattle.lic_vars.proofs.FoundLemmas.{Found, least, none, found-if, found-next, found-or, found-same}

-- ---- the words of a number of letters and blanks that can be read

-- a word that can be read, with a record that it gives with the state after it
abbrev Reading : ℕ → List (Gap × ℕ) → Bool → (Word → State → List ℕ → Type 0) → List ℕ → Type 0
Reading n left apart Q r = (w : Word) × (length w ≤ n) × (s : State) × (read_word w left apart ≡ Some s) × Q w s r

-- the next letter, and then such a word
abbrev Next : ℕ → List (Gap × ℕ) → Bool → (Word → State → List ℕ → Type 0) → List ℕ → Type 0
Next n [] apart Q r = ⊥
Next n (p ∷ left) apart Q r = (((p.1 == blank) ≡ false) × (fits p.0 apart ≡ true)) × Reading n left false (λ w. Q (p.1 ∷ w)) r

-- no letter, or a blank first, or the next letter
abbrev First : ℕ → List (Gap × ℕ) → Bool → (Word → State → List ℕ → Type 0) → List ℕ → Type 0
First n left apart Q r = Q [] (left, apart) r ⊎ (Reading n left true (λ w. Q (blank ∷ w)) r ⊎ Next n left apart Q r)

picked : (b m : Bool) (x y : Option State) (s : State) → pick b m x y ≡ Some s
    → ((b ≡ true) × (x ≡ Some s)) ⊎ ((b ≡ false) × (m ≡ true) × (y ≡ Some s))
picked true m x y s e = inl (refl, e)
picked false true x y s e = inr (refl, refl, e)
picked false false x y s e = absurd cc

read_blank : (w : Word) (left : List (Gap × ℕ)) (apart : Bool) → read_word (blank ∷ w) left apart ≡ read_word w left true
read_blank w [] apart = refl
read_blank w (p ∷ left) apart = refl

nothing_read : (left : List (Gap × ℕ)) (apart : Bool) (Q : Word → State → List ℕ → Type 0) (s : State) (r : List ℕ)
    → read_word [] left apart ≡ Some s → Q [] s r → Q [] (left, apart) r
nothing_read left apart Q s r e h = let same : s ≡ (left, apart) = cc in subst (λ t. Q [] t r) same h

reading_of : (n : ℕ) (left : List (Gap × ℕ)) (apart : Bool) (Q : Word → State → List ℕ → Type 0) (r : List ℕ) → First n left apart Q r → Reading (suc n) left apart Q r
reading_of n left apart Q r (inl h) = ([], omega arith, (left, apart), refl, h)
reading_of n left apart Q r (inr (inl (w, short, s, e, h))) = (blank ∷ w, omega (arith, short), s, read_blank w left apart ∙ e, h)
reading_of n [] apart Q r (inr (inr h)) = absurd h
reading_of n (p ∷ left) apart Q r (inr (inr (fit, (w, short, s, e, h)))) = (p.1 ∷ w, omega (arith, short), s, read_letter p left w apart fit.0 fit.1 ∙ e, h)

first_of : (n : ℕ) (left : List (Gap × ℕ)) (apart : Bool) (Q : Word → State → List ℕ → Type 0) (r : List ℕ) → Reading (suc n) left apart Q r → First n left apart Q r
first_of n left apart Q r ([], short, s, e, h) = inl (nothing_read left apart Q s r e h)
first_of n [] apart Q r (c ∷ w, short, s, e, h) = by (picked (c == blank) false (read_word w [] true) None s e)
  where
    by : ((c == blank) ≡ true × (read_word w [] true ≡ Some s)) ⊎ ((c == blank) ≡ false × (false ≡ true) × (None ≡ Some s)) → First n [] apart Q r
    by (inl is) = inr (inl (w, omega (arith, short), s, is.1, subst (λ x. Q (x ∷ w) s r) (eqb-true c blank is.0) h))
    by (inr other) = absurd (true≢false (sym other.1))
first_of n (p ∷ left) apart Q r (c ∷ w, short, s, e, h) =
    by (picked (c == blank) (c == p.1 && fits p.0 apart) (read_word w (p ∷ left) true) (read_word w left false) s e)
  where
    by : ((c == blank) ≡ true × (read_word w (p ∷ left) true ≡ Some s)) ⊎ ((c == blank) ≡ false × ((c == p.1 && fits p.0 apart) ≡ true) × (read_word w left false ≡ Some s))
        → First n (p ∷ left) apart Q r
    by (inl is) = inr (inl (w, omega (arith, short), s, is.1, subst (λ x. Q (x ∷ w) s r) (eqb-true c blank is.0) h))
    by (inr is) =
        let both = and_parts (c == p.1) (fits p.0 apart) is.1 in
        let same = eqb-true c p.1 both.0 in
        inr (inr ((subst (λ x. (x == blank) ≡ false) same is.0, both.1), (w, omega (arith, short), s, is.2, subst (λ x. Q (x ∷ w) s r) same h)))

found_reading : (n : ℕ) (left : List (Gap × ℕ)) (apart : Bool) (Q : Word → State → List ℕ → Type 0) → ((w : Word) (s : State) → Found (Q w s))
    → Found (Reading n left apart Q)
found_reading zero left apart Q each =
    found-same (Q [] (left, apart)) (Reading 0 left apart Q) (λ r h. ([], omega arith, (left, apart), refl, h)) from (each [] (left, apart))
  where
    from : (r : List ℕ) → Reading 0 left apart Q r → Q [] (left, apart) r
    from r ([], short, s, e, h) = nothing_read left apart Q s r e h
    from r (c ∷ w, short, s, e, h) = absurd (omega (arith, short))
found_reading (suc n) [] apart Q each =
    found-same (First n [] apart Q) (Reading (suc n) [] apart Q) (reading_of n [] apart Q) (first_of n [] apart Q)
    (found-or _ _ (each [] ([], apart)) (found-or _ _ (found_reading n [] true (λ w. Q (blank ∷ w)) (λ w. each (blank ∷ w))) (none (λ r h. h))))
found_reading (suc n) (p ∷ left) apart Q each =
    found-same (First n (p ∷ left) apart Q) (Reading (suc n) (p ∷ left) apart Q) (reading_of n (p ∷ left) apart Q) (first_of n (p ∷ left) apart Q)
    (found-or _ _ (each [] (p ∷ left, apart)) (found-or _ _ (found_reading n (p ∷ left) true (λ w. Q (blank ∷ w)) (λ w. each (blank ∷ w)))
    (found-if _ _ (decided-both _ _ (is_bool (p.1 == blank) false) (is_bool (fits p.0 apart) true))
    (λ h. found_reading n left false (λ w. Q (p.1 ∷ w)) (λ w. each (p.1 ∷ w))))))
  where
    is_bool : (a b : Bool) → Decided (a ≡ b)
    is_bool true true = inl refl
    is_bool false false = inl refl
    is_bool true false = inr true≢false
    is_bool false true = inr (λ e. true≢false (sym e))

-- a tidy word has few blanks
short : (w : Word) → ((u v : Word) → w ≡ u ++ blank ∷ blank ∷ v → ⊥) → length w ≤ 2 * letters_in w + 1
short [] not_two = omega arith
short (c ∷ []) not_two = omega arith
short (c ∷ d ∷ w) not_two =
    by (cases_Bool (c == blank)) (cases_Bool (d == blank))
    (short (d ∷ w) (λ u v e. not_two (c ∷ u) v (ap (λ x. c ∷ x) e))) (short w (λ u v e. not_two (c ∷ d ∷ u) v (ap (λ x. c ∷ d ∷ x) e)))
  where
    by : ((c == blank) ≡ true) ⊎ ((c == blank) ≡ false) → ((d == blank) ≡ true) ⊎ ((d == blank) ≡ false)
        → length (d ∷ w) ≤ 2 * letters_in (d ∷ w) + 1 → length w ≤ 2 * letters_in w + 1 → length (c ∷ d ∷ w) ≤ 2 * letters_in (c ∷ d ∷ w) + 1
    by (inr letter) _ later last =
        let count : letters_in (c ∷ d ∷ w) ≡ suc (letters_in (d ∷ w)) = ap (λ b. if b then letters_in (d ∷ w) else suc (letters_in (d ∷ w))) letter in
        omega (arith, count, later)
    by (inl is) (inl next) later last =
        let e = eqb-true c blank is in let f = eqb-true d blank next in absurd (not_two [] w cc)
    by (inl is) (inr letter) later last =
        let count : letters_in (c ∷ d ∷ w) ≡ letters_in (d ∷ w) = ap (λ b. if b then letters_in (d ∷ w) else suc (letters_in (d ∷ w))) is in
        let next : letters_in (d ∷ w) ≡ suc (letters_in w) = ap (λ b. if b then letters_in w else suc (letters_in w)) letter in
        omega (arith, count, next, last)

-- ---- what moves make of the letters that are left

abbrev Finishes : List Move → List (Gap × ℕ) → Bool → List ℕ → Type 0
Finishes ms left apart r = (w : Word) × Makes ms r w × (after : Bool) × (read_word w left apart ≡ Some ([], after))

-- what one move leaves
abbrev Leaves : (u : Word) (ms : List Move) (left : List (Gap × ℕ)) (apart : Bool) (q : List ℕ) → Type 0
Leaves u ms left apart q = (s : State) × (read_word u left apart ≡ Some s) × Finishes ms s.0 s.1 q

left_by : (u w v : Word) (ms : List Move) (left : List (Gap × ℕ)) (apart after : Bool) (q : List ℕ) → v ≡ u ++ w → Makes ms q w
    → read_word v left apart ≡ Some ([], after) → Leaves u ms left apart q
left_by u w v ms left apart after q is makes e =
    let parts = read-split u w left apart ([], after) (ap (λ x. read_word x left apart) (sym is) ∙ e) in
    (parts.0, parts.1, (w, makes, after, parts.2))

module _ (ms : List Move) (left : List (Gap × ℕ)) (apart : Bool) (rest : (s : State) → Found (Finishes ms s.0 s.1)) where
  -- a text
  text_leaves : (u : Word) (r : List ℕ) → Finishes (text u ∷ ms) left apart r → Leaves u ms left apart r
  text_leaves u r (v, makes, after, e) = by v makes e
    where
      by : (v : Word) → Makes (text u ∷ ms) r v → read_word v left apart ≡ Some ([], after) → Leaves u ms left apart r
      by v (writes w is f) e = left_by u w v ms left apart after r is f e

  text_found : (u : Word) → Found (Finishes (text u ∷ ms) left apart)
  text_found u = by (read_word u left apart) refl
    where
      by : (o : Option State) → read_word u left apart ≡ o → Found (Finishes (text u ∷ ms) left apart)
      by None e = none (λ r f. let l = text_leaves u r f in let g = l.1 in absurd cc)
      by (Some s) e = found-same (Finishes ms s.0 s.1) (Finishes (text u ∷ ms) left apart)
          (λ r f. (u ++ f.0, writes f.0 refl f.1, f.2, read-append u f.0 left apart s e ∙ f.3))
          (λ r f. let l = text_leaves u r f in let g = l.1 in let same : l.0 ≡ s = cc in subst (λ t. Finishes ms t.0 t.1 r) same l.2)
          (rest s)

  -- a variable
  module _ (name : List ℕ) (re : Expression) where
    abbrev Given : Word → State → List ℕ → Type 0
    Given w s r = Language (tidy re) w × ((q : List ℕ) × (r ≡ letters_in w ∷ q) × Finishes ms s.0 s.1 q)

    abbrev bound : ℕ
    bound = 2 * length left + 1

    given : (r : List ℕ) → Finishes (variable name re ∷ ms) left apart r → Reading bound left apart Given r
    given r (v, makes, after, e) = by r v makes e
      where
        by : (r : List ℕ) (v : Word) → Makes (variable name re ∷ ms) r v → read_word v left apart ≡ Some ([], after) → Reading bound left apart Given r
        by _ v (picks {r = q} u w l is f) e =
            let leaves = left_by u w v ms left apart after q is f e in
            (u, omega (arith, short u l.1.not_two, read-within u left apart leaves.0 leaves.1), leaves.0, leaves.1, (l, (q, refl, leaves.2)))

    finish_given : (r : List ℕ) → Reading bound left apart Given r → Finishes (variable name re ∷ ms) left apart r
    finish_given r (u, few, s, e, (l, (q, same, (w, makes, after, f)))) =
        (u ++ w, subst (λ x. Makes (variable name re ∷ ms) x (u ++ w)) (sym same) (picks u w l refl makes), after, read-append u w left apart s e ∙ f)

    variable_found : Found (Finishes (variable name re ∷ ms) left apart)
    variable_found = found-same (Reading bound left apart Given) (Finishes (variable name re ∷ ms) left apart) finish_given given
        (found_reading bound left apart Given
        (λ w s. found-if (Language (tidy re) w) _ (decided-language (tidy re) w) (λ l. found-next (letters_in w) (Finishes ms s.0 s.1) (rest s))))

  -- an optional part
  module _ (n : ℕ) (skipped : Found (Finishes (drop n ms) left apart)) where
    abbrev Either : List ℕ → Type 0
    Either r = ((q : List ℕ) × (r ≡ 0 ∷ q) × Finishes ms left apart q) ⊎ ((q : List ℕ) × (r ≡ 1 ∷ q) × Finishes (drop n ms) left apart q)

    finish_either : (r : List ℕ) → Either r → Finishes (optional n ∷ ms) left apart r
    finish_either r (inl (q, same, (w, makes, after, e))) = (w, subst (λ x. Makes (optional n ∷ ms) x w) (sym same) (enters makes), after, e)
    finish_either r (inr (q, same, (w, makes, after, e))) = (w, subst (λ x. Makes (optional n ∷ ms) x w) (sym same) (skips makes), after, e)

    either_of : (r : List ℕ) → Finishes (optional n ∷ ms) left apart r → Either r
    either_of r (w, makes, after, e) = by r w makes e
      where
        by : (r : List ℕ) (w : Word) → Makes (optional n ∷ ms) r w → read_word w left apart ≡ Some ([], after) → Either r
        by _ w (enters {r = q} f) e = inl (q, refl, (w, f, after, e))
        by _ w (skips {r = q} f) e = inr (q, refl, (w, f, after, e))

    optional_found : Found (Finishes (optional n ∷ ms) left apart)
    optional_found = found-same Either (Finishes (optional n ∷ ms) left apart) finish_either either_of
        (found-or _ _ (found-next 0 (Finishes ms left apart) (rest (left, apart))) (found-next 1 (Finishes (drop n ms) left apart) skipped))

-- no move
ended : (left : List (Gap × ℕ)) (apart after : Bool) (r : List ℕ) (w : Word) → Makes [] r w → read_word w left apart ≡ Some ([], after) → left ≡ []
ended left apart after _ _ ends e = let same : (left, apart) ≡ ([], after) = cc in ap (λ (s : State). s.0) same

end_found : (left : List (Gap × ℕ)) (apart : Bool) → Found (Finishes [] left apart)
end_found [] apart = least [] (record { is = ([], ends, apart, refl); least = λ q f. tt })
end_found (p ∷ left) apart = none (λ r f. let e = ended (p ∷ left) apart f.2 r f.0 f.1 f.3 in absurd cc)

found-finishes : (k : ℕ) (ms : List Move) → length ms ≤ k → (left : List (Gap × ℕ)) (apart : Bool) → Found (Finishes ms left apart)
found-finishes k [] h left apart = end_found left apart
found-finishes zero (m ∷ ms) h left apart = absurd (omega (arith, h))
found-finishes (suc k) (text u ∷ ms) h left apart = text_found ms left apart (λ s. found-finishes k ms (omega (arith, h)) s.0 s.1) u
found-finishes (suc k) (variable name re ∷ ms) h left apart = variable_found ms left apart (λ s. found-finishes k ms (omega (arith, h)) s.0 s.1) name re
found-finishes (suc k) (optional n ∷ ms) h left apart =
    optional_found ms left apart (λ s. found-finishes k ms (omega (arith, h)) s.0 s.1) n (found-finishes k (drop n ms) (omega (arith, h, length-drop n ms)) left apart)

-- ---- the values of a match

module _ (ns : Nodes) (ts : List (List ℕ)) where
  finishes_by : (q : List ℕ) (w : Word) → Makes (moves ns) q w → Spells w ts → Finishes (moves ns) (gapped ts) false q
  finishes_by q w makes spells =
      let read = spells-read (gapped ts) w (gapped-letters blank false (sequence_of ts)) spells in
      (w, makes, read.0, read.1)

  least_by : Derivation ns ts → Found (Finishes (moves ns) (gapped ts) false) → (r : List ℕ) × LeastOf (moves ns) (λ w. Spells w ts) r
  least_by d (none never) = absurd (never (record_of ns d.choice) (finishes_by _ (word_of ns d.choice) (made-by ns d.choice d.allowed) d.spells))
  least_by d (least r h) = (
    r,
    record {
      word = h.is.0;
      makes = h.is.1;
      is = read-spells h.is.0 (gapped ts) h.is.2 (gapped-letters blank false (sequence_of ts)) h.is.3;
      least = λ q w makes spells. h.least q (finishes_by q w makes spells);
    },
  )

pub values-exist : (set : List Known) (tokens : List TokenValue) (t : Triple) → IsMatch set tokens t → (values : List Assigned) × AreValues set tokens t values
values-exist set tokens t h =
    let ns : Nodes = nodes_of h.known in
    let ts : List (List ℕ) = letters_between tokens t.first t.last in
    let some = derivation-of-word ns ts (h.described.1, h.described.2, h.described.3) in
    let found = least_by ns ts some (found-finishes (length (moves ns)) (moves ns) (omega arith) (gapped ts) false) in
    let d = least-derivation ns ts (λ w. Spells w ts) found.0 (λ w. (λ s. s, λ s. s)) found.1 in
    (_, record { known = h.known; number = h.number; derivation = d.0; least = d.1; same = refl })
