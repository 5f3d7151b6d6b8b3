-- The first tokens of all matches, and the longest match from each.
use Rattle.std.proofs.Common.{◌≡◌, ℕ, zero, suc, ◌+◌, ◌-◌, ◌<◌, ◌≤◌, ◌==◌, Bool, true, false, max, List, [], ◌∷◌, length, Option, None, refl, sym, ap, ◌∙◌, subst, ⊎_elim, arith}
use Rattle.std.specs.List.{Contains, filter, range_with_len, slice_range}
use Rattle.std.proofs.lemmas.Bool.{false≢true, cases_lt, cond-true, cond-false, cond_both, eqb-true, eq-eqb}
use Rattle.lic_norm.specs.Tokens.{TokenValue}
use Rattle.lic_set.specs.Sets.{Known}
use Rattle.lic_find.specs.Bounds.{letters_of, begins_one, firsts_from, longest_end, letters_of_longest}
use Rattle.lic_find.specs.Among.{HaveAllMatches}
use Rattle.lic_find.specs.Firsts.{NotedFirst, IsFirstFrom}
use Rattle.lic_find.specs.Listing.{matches_of, matches_after, is_after}
use Rattle.lic_set.specs.Matches.{AreMatches, IsMatch, triple_at}
use Rattle.lic_set.specs.declared.triple.Triple.{Triple}
use Rattle.lic_find.proofs.AmongLemmas.{either_test}
use Rattle.lic_find.proofs.LetterLemmas.{letters_of-longer}
use Rattle.lic_find.proofs.Triples.{Contains-nil, Contains-head, Contains-tail, Contains-cons_cases}

-- numbers from one on, of which only some pass
module _ (p : ℕ → Bool) where
  filter_range-none : (a n : ℕ) → ((i : ℕ) → a ≤ i → i < a + n → p i ≡ false) → filter p (range_with_len a n) ≡ []
  filter_range-none a zero none = refl
  filter_range-none a (suc n) none =
      cond-false (p a) _ _ (none a (omega arith) (omega arith)) ∙ filter_range-none (a + 1) n (λ i low high. none i (omega arith) (omega arith))

  filter_range-next : (a n j m : ℕ) → ((i : ℕ) → a ≤ i → i < j → p i ≡ false) → a ≤ j → j + suc m ≡ a + n → p j ≡ true →
      filter p (range_with_len a n) ≡ j ∷ filter p (range_with_len (j + 1) m)
  filter_range-next a zero j m none low fits passes = absurd (omega arith)
  filter_range-next a (suc n) j m none low fits passes =
      ⊎_elim
      (λ (before : a < j).
      cond-false (p a) _ _ (none a (omega arith) before)
      ∙ filter_range-next (a + 1) n j m (λ i low' high. none i (omega arith) high) (omega arith) (omega arith) passes)
      (λ (not_before : j ≤ a).
      let here : j ≡ a = omega arith in
      let count : n ≡ m = omega arith in
      cond-true (p a) _ _ (ap p (sym here) ∙ passes) ∙ ap (λ x. x ∷ filter p (range_with_len (x + 1) n)) (sym here)
      ∙ ap (λ x. j ∷ filter p (range_with_len (j + 1) x)) count)
      (cases_lt a j)

-- whether a match of a list begins with a token
begins_one-true : (matches : List Triple) (first : ℕ) (t : Triple) → Contains matches t → t.first ≡ first → begins_one matches first ≡ true
begins_one-true [] first t there here = absurd (Contains-nil t there)
begins_one-true (s ∷ matches) first t there here =
    ⊎_elim
    (λ (e : s ≡ t).
    either_test (s.first == first) (begins_one matches first) (λ b. b ≡ true) (λ passes. refl)
    (λ fails. absurd (false≢true (sym fails ∙ eq-eqb s.first first (ap (λ u. u.first) e ∙ here)))))
    (λ k.
    either_test (s.first == first) (begins_one matches first) (λ b. b ≡ true) (λ passes. refl) (λ fails. begins_one-true matches first t k here))
    (Contains-cons_cases s matches t there)

begins_one-false : (matches : List Triple) (first : ℕ) → ((t : Triple) → Contains matches t → t.first ≡ first → ⊥) → begins_one matches first ≡ false
begins_one-false [] first none = refl
begins_one-false (s ∷ matches) first none =
    either_test (s.first == first) (begins_one matches first) (λ b. b ≡ false)
    (λ same. absurd (none s (Contains-head s matches) (eqb-true s.first first same)))
    (λ other. begins_one-false matches first (λ t k. none t (Contains-tail s matches t k)))

-- the end of the longest of the matches
longest_end-least : (matches : List Triple) (first : ℕ) → first ≤ longest_end matches first
longest_end-least [] first = omega arith
longest_end-least (s ∷ matches) first =
    let more : first ≤ longest_end matches first = longest_end-least matches first in
    cond_both (s.first == first) (max (s.last + 1) (longest_end matches first))
    (longest_end matches first) (λ n. first ≤ n) (λ passes. omega arith) (λ fails. more)

longest_end-most : (matches : List Triple) (first end : ℕ) → first ≤ end
    → ((t : Triple) → Contains matches t → t.first ≡ first → t.last + 1 ≤ end) → longest_end matches first ≤ end
longest_end-most [] first end low ended = low
longest_end-most (s ∷ matches) first end low ended =
    let more : longest_end matches first ≤ end = longest_end-most matches first end low (λ t k. ended t (Contains-tail s matches t k)) in
    cond_both (s.first == first) (max (s.last + 1) (longest_end matches first)) (longest_end matches first) (λ n. n ≤ end)
    (λ same. let here : s.last + 1 ≤ end = ended s (Contains-head s matches) (eqb-true s.first first same) in omega arith) (λ other. more)

filter-all : (matches : List Triple) → filter (is_after None) matches ≡ matches
filter-all [] = refl
filter-all (t ∷ matches) = ap (λ ts. t ∷ ts) (filter-all matches)

-- all matches, as a list that is filtered no more
all_matches : (set : List Known) (tokens : List TokenValue) → matches_after set tokens None ≡ matches_of set tokens
unfolding matches_after
all_matches set tokens = filter-all (matches_of set tokens)

-- fewer begin from a later token on
length-filter_range : (p : ℕ → Bool) (k a n : ℕ) → length (filter p (range_with_len (a + k) n)) ≤ length (filter p (range_with_len a (k + n)))
length-filter_range p zero a n =
    let same : a + 0 ≡ a = omega arith in
    let count : 0 + n ≡ n = omega arith in
    let equal : length (filter p (range_with_len (a + 0) n)) ≡ length (filter p (range_with_len a (0 + n))) =
    ap (λ x. length (filter p (range_with_len x n))) same ∙ ap (λ x. length (filter p (range_with_len a x))) (sym count) in
    omega arith
length-filter_range p (suc k) a n =
    let same : a + suc k ≡ a + 1 + k = omega arith in
    let count : suc k + n ≡ suc (k + n) = omega arith in
    let shorter : length (filter p (range_with_len (a + 1 + k) n)) ≤ length (filter p (range_with_len (a + 1) (k + n))) = length-filter_range p k (a + 1) n in
    let more : length (filter p (range_with_len (a + 1) (k + n))) ≤ length (filter p (range_with_len a (suc (k + n)))) =
    cond_both (p a) (a ∷ filter p (range_with_len (a + 1) (k + n))) (filter p (range_with_len (a + 1) (k + n)))
    (λ xs. length (filter p (range_with_len (a + 1) (k + n))) ≤ length xs) (λ passes. omega arith) (λ fails. omega arith) in
    let left : length (filter p (range_with_len (a + suc k) n)) ≡ length (filter p (range_with_len (a + 1 + k) n)) =
    ap (λ x. length (filter p (range_with_len x n))) same in
    let right : length (filter p (range_with_len a (suc k + n))) ≡ length (filter p (range_with_len a (suc (k + n)))) =
    ap (λ x. length (filter p (range_with_len a x))) count in
    omega arith

-- fewer matches begin from a later token on
pub firsts_from-fewer : (set : List Known) (tokens : List TokenValue) (from later : ℕ) → from ≤ later → later ≤ length tokens
    → length (firsts_from set tokens later) ≤ length (firsts_from set tokens from)
unfolding firsts_from
firsts_from-fewer set tokens from later order within =
    let p : ℕ → Bool = begins_one (matches_of set tokens) in
    let n : ℕ = length tokens - later in
    let k : ℕ = later - from in
    let count : k + n ≡ length tokens - from = omega arith in
    let low : from + k ≡ later = omega arith in
    let fewer : length (filter p (range_with_len (from + k) n)) ≤ length (filter p (range_with_len from (k + n))) = length-filter_range p k from n in
    let left : length (filter p (range_with_len (from + k) n)) ≡ length (filter p (range_with_len later n)) =
    ap (λ x. length (filter p (range_with_len x n))) low in
    let right : length (filter p (range_with_len from (k + n))) ≡ length (filter p (range_with_len from (length tokens - from))) =
    ap (λ x. length (filter p (range_with_len from x))) count in
    omega arith

module _ (set : List Known) (tokens : List TokenValue) (listed : (after : Option Triple) → AreMatches set tokens after (matches_after set tokens after)) where
  match_in : (t : Triple) → Contains (matches_of set tokens) t → IsMatch set tokens t
  match_in t there = (((listed None).exact t).0 (subst (λ ts. Contains ts t) (sym (all_matches set tokens)) there)).0

  in_matches : (t : Triple) → IsMatch set tokens t → Contains (matches_of set tokens) t
  in_matches t m = subst (λ ts. Contains ts t) (all_matches set tokens) (((listed None).exact t).1 (m, tt))

  begins : (t : Triple) → IsMatch set tokens t → begins_one (matches_of set tokens) t.first ≡ true
  begins t m = begins_one-true (matches_of set tokens) t.first t (in_matches t m) refl

  begins_not : (first : ℕ) → ((t : Triple) → IsMatch set tokens t → t.first ≡ first → ⊥) → begins_one (matches_of set tokens) first ≡ false
  begins_not first none = begins_one-false (matches_of set tokens) first (λ t there here. none t (match_in t there) here)

  -- from here on no match begins
  pub firsts_from-none : (from : ℕ) → ((t : Triple) → IsMatch set tokens t → from ≤ t.first → ⊥) → firsts_from set tokens from ≡ []
  unfolding firsts_from
  firsts_from-none from none =
      filter_range-none (begins_one (matches_of set tokens)) from (length tokens - from)
      (λ i low high. begins_not i (λ t m here. none t m (omega arith)))

  module _ (kept : List ℕ) (from : ℕ) (noted : NotedFirst) (is : IsFirstFrom set tokens kept from noted) where
    begins_here : (i : ℕ) → i ≤ noted.first → ((j : ℕ) → i ≤ j → j < noted.first → begins_one (matches_of set tokens) j ≡ false) →
        firsts_from set tokens i ≡ noted.first ∷ firsts_from set tokens (noted.first + 1)
    unfolding firsts_from
    begins_here i low none =
        let (last, template, m) = is.begins in
        let order : noted.first ≤ last = m.0.order in
        let within : last < length tokens = m.0.within in
        filter_range-next (begins_one (matches_of set tokens)) i (length tokens - i) noted.first (length tokens - (noted.first + 1))
        none low (omega arith) (begins (triple_at noted.first last template) m.0)

    -- from here on the first is this one, where it is so for all matches
    pub firsts_from-next : HaveAllMatches set tokens kept → firsts_from set tokens from ≡ noted.first ∷ firsts_from set tokens (noted.first + 1)
    firsts_from-next all =
        begins_here from is.low
        (λ i low high. begins_not i (λ t n here. let late : noted.first ≤ t.first = is.passed t (n, all t n) (omega arith) in omega arith))

    -- it is one of the first tokens of all matches
    pub firsts_from-more : suc (length (firsts_from set tokens (noted.first + 1))) ≤ length (firsts_from set tokens from)
    firsts_from-more =
        let (last, template, m) = is.begins in
        let order : noted.first ≤ last = m.0.order in
        let within : last < length tokens = m.0.within in
        let here : firsts_from set tokens noted.first ≡ noted.first ∷ firsts_from set tokens (noted.first + 1) =
        begins_here noted.first (omega arith) (λ i low high. absurd (omega arith)) in
        let fewer : length (firsts_from set tokens noted.first) ≤ length (firsts_from set tokens from) =
        firsts_from-fewer set tokens from noted.first is.low (omega arith) in
        let count : length (firsts_from set tokens noted.first) ≡ suc (length (firsts_from set tokens (noted.first + 1))) = ap length here in
        omega arith

  -- the longest match ends where all matches have ended
  pub letters_of_longest-ended : (first end : ℕ) → first ≤ end → ((t : Triple) → IsMatch set tokens t → t.first ≡ first → t.last + 1 ≤ end)
      → letters_of_longest set tokens first ≤ letters_of (slice_range tokens first end)
  unfolding letters_of_longest
  letters_of_longest-ended first end order ended =
      letters_of-longer tokens first (longest_end (matches_of set tokens) first) end (longest_end-least (matches_of set tokens) first)
      (longest_end-most (matches_of set tokens) first end order (λ t there here. ended t (match_in t there) here))
