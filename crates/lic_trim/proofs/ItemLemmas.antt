-- Forms of items, over source characters.
use Rattle.std.proofs.Common.{◌≡◌, ℕ, ◌+◌, ◌-◌, ◌<◌, ◌≤◌, Bool, true, false, cond, not, ◌&&◌, ◌==◌, List, [], ◌∷◌, ◌++◌, Option, Some, None, ◌⊎◌, length, take, drop, map, get_or, refl, sym, ap, ap₂, ◌∙◌, subst, ⊎_elim, add-one, drop-cons, arith}
use Rattle.std.specs.Prelude.{if◌then◌else◌, nat_le, find, option_to_list}
use Rattle.std.specs.List.{list_all, position_or_len, prefix_len, slice_split, onto_first, before_first}
use Rattle.std.specs.Option.{option_map_or}
use Rattle.std.specs.Int.{is_in_range}
use Rattle.std.specs.Char.{is_whitespace, is_ascii_digit}
use Rattle.std.proofs.lemmas.Bool.{false≢true, and_from, and_parts, le-leb, leb-true, eqb-true, eq-eqb, cases_Bool, cond-true, cond-false}
use Rattle.std.proofs.lemmas.List.{take-map, drop-map, length-map, length-append, length-drop, length-take-le, take_more, map-append, length-take, take_rest, take_all, take-append-le, drop-append-le, drop_all}
use Rattle.std.proofs.lemmas.List.Sums.{passes_at_first}
use Rattle.std.proofs.lemmas.List.Folds.{list_all-map}
use Rattle.lic_trim.specs.Texts.{ends_in}
use Rattle.lic_trim.specs.Sources.{SourceChar, chars_of}
use Rattle.lic_kind.specs.LineRules.{LineRules}
use Rattle.lic_trim.specs.Lines.{is_number, is_item_form, is_copyright_sign, lets_item, item_length}
use Rattle.lic_trim.proofs.PieceEnds.{ends_in-snoc}
use Rattle.lic_trim.proofs.TextLemmas.{same_truth}

abbrev pub char_of : SourceChar → ℕ
char_of s = s.char

abbrev pub none : SourceChar
none = record { char = 0; start = 0; end = 0 }

pub in_range : (low high n : ℕ) → low ≤ n → n ≤ high → is_in_range low high n ≡ true
in_range low high n from to = and_from (nat_le low n) (nat_le n high) (le-leb low n from) (le-leb n high to)

-- a number of characters and what all of them are
pub all_in_range : (low high : ℕ) (p : ℕ → Bool) (text : List SourceChar) (b : Bool) → low ≤ length text
    → length text ≤ high → b ≡ list_all (λ s. p s.char) text
    → b ≡ (is_in_range low high (length (chars_of text)) && list_all p (chars_of text))
all_in_range low high p text b from to value =
    value ∙ sym (list_all-map p char_of text)
    ∙ ap (λ r. r && list_all p (chars_of text)) (sym (ap (is_in_range low high) (length-map text char_of) ∙ in_range low high (length text) from to))

-- one character
pub all_of_one : (p : ℕ → Bool) (text : List SourceChar) (b : Bool) → length text ≡ 1
    → b ≡ list_all (λ s. p s.char) text → b ≡ ((length (chars_of text) == 1) && list_all p (chars_of text))
all_of_one p text b one value =
    value ∙ sym (list_all-map p char_of text) ∙ ap (λ n. (n == 1) && list_all p (chars_of text)) (sym (length-map text char_of ∙ one))

pub test_of_one : (p : ℕ → Bool) (text : List SourceChar) (b : Bool) → length text ≡ 1
    → b ≡ p (get_or text 0 none).char → b ≡ ((length (chars_of text) == 1) && list_all p (chars_of text))
test_of_one p [] b one value = absurd (omega arith)
test_of_one p (s ∷ []) b one value = value ∙ at (p s.char)
  where
    at : (x : Bool) → x ≡ (x && true)
    at true = refl
    at false = refl
test_of_one p (s ∷ t ∷ text) b one value = absurd (omega arith)

-- the last character, and those before it
pub ends_in_chars : (last : ℕ → Bool) (before : List ℕ → Bool) (text : List SourceChar) → 0 < length text
    → ends_in last before (chars_of text)
    ≡ (last (get_or text (length text - 1) none).char && before (chars_of (take (length text - 1) text)))
ends_in_chars last before text some =
    let n = length text - 1 in
    let all : n + 1 ≡ length text = omega arith in
    let split : text ≡ take n text ++ get_or text n none ∷ [] =
    sym (ap (λ m. take m text) all ∙ take_all (length text) text (omega arith))
    ∙ take_more text n none (omega arith) in
    ap (λ l. ends_in last before (map char_of l)) split
    ∙ ap (ends_in last before) (map-append char_of (take n text) (get_or text n none ∷ []))
    ∙ ends_in-snoc last before (chars_of (take n text)) (get_or text n none).char

-- ---- numbers with full stops between them, where n digits were met since the last one
abbrev pub numbers_after : ℕ → List ℕ → Bool
numbers_after n [] = is_in_range 1 3 n
numbers_after n (c ∷ cs) = if c == 0x2E then is_in_range 1 3 n && numbers_after 0 cs else (is_ascii_digit c && numbers_after (n + 1) cs)

-- whether the first part is one with n digits before it, and the others are numbers
abbrev with_digits : ℕ → List (List ℕ) → Bool
with_digits n [] = false
with_digits n (part ∷ parts) = (is_in_range 1 3 (n + length part) && list_all is_ascii_digit part) && list_all is_number parts

and_true : (b : Bool) → b ≡ ((b && true))
and_true true = refl
and_true false = refl

split_some : (cs : List ℕ) → 0 < length (slice_split (λ d. d == 0x2E) cs)
split_some [] = omega arith
split_some (d ∷ cs) = ⊎_elim
    (λ stop. omega (arith, ap length (cond-true (d == 0x2E) ([] ∷ slice_split (λ e. e == 0x2E) cs) (onto_first d (slice_split (λ e. e == 0x2E) cs)) stop)))
    (λ other. omega (
      arith,
      ap length
          (cond-false (d == 0x2E) ([] ∷ slice_split (λ e. e == 0x2E) cs)
          (onto_first d (slice_split (λ e. e == 0x2E) cs)) other),
      onto_some d (slice_split (λ e. e == 0x2E) cs),
    ))
    (cases_Bool (d == 0x2E))
  where
    onto_some : (d : ℕ) (parts : List (List ℕ)) → 0 < length (onto_first d parts)
    onto_some d [] = omega arith
    onto_some d (part ∷ parts) = omega arith

no_digits : (parts : List (List ℕ)) → 0 < length parts → with_digits 0 parts ≡ list_all is_number parts
no_digits [] some = absurd (omega arith)
no_digits (part ∷ parts) some = let same : 0 + length part ≡ length part = omega arith in
    ap (λ m. (is_in_range 1 3 m && list_all is_ascii_digit part) && list_all is_number parts) same

one_digit : (n c : ℕ) (parts : List (List ℕ)) → 0 < length parts → (is_ascii_digit c && with_digits (n + 1) parts) ≡ with_digits n (onto_first c parts)
one_digit n c [] some = absurd (omega arith)
one_digit n c (part ∷ parts) some =
    let same : n + 1 + length part ≡ n + length (c ∷ part) = omega arith in
    swap (is_ascii_digit c) (is_in_range 1 3 (n + 1 + length part)) (list_all is_ascii_digit part) (list_all is_number parts)
    ∙ ap (λ m. (is_in_range 1 3 m && (is_ascii_digit c && list_all is_ascii_digit part)) && list_all is_number parts) same
  where
    swap : (d a b e : Bool) → (d && ((a && b) && e)) ≡ ((a && (d && b)) && e)
    swap true a b e = refl
    swap false true b e = refl
    swap false false b e = refl

numbers_after_is : (n : ℕ) (cs : List ℕ) → numbers_after n cs ≡ with_digits n (slice_split (λ c. c == 0x2E) cs)
numbers_after_is n [] = let same : n ≡ n + 0 = omega arith in
    ap (is_in_range 1 3) same ∙ and_true (is_in_range 1 3 (n + 0)) ∙ and_true (is_in_range 1 3 (n + 0) && true)
numbers_after_is n (c ∷ cs) =
    let parts = slice_split (λ d. d == 0x2E) cs in
    let same : n ≡ n + 0 = omega arith in
    ⊎_elim
    (λ stop.
    cond-true (c == 0x2E) _ _ stop
    ∙ ap₂ (λ a b. a && b) (ap (is_in_range 1 3) same ∙ and_true (is_in_range 1 3 (n + 0))) (numbers_after_is 0 cs ∙ no_digits parts (split_some cs))
    ∙ ap (with_digits n) (sym (cond-true (c == 0x2E) ([] ∷ parts) (onto_first c parts) stop)))
    (λ other.
    cond-false (c == 0x2E) _ _ other
    ∙ ap (λ b. is_ascii_digit c && b) (numbers_after_is (n + 1) cs)
    ∙ one_digit n c parts (split_some cs)
    ∙ ap (with_digits n) (sym (cond-false (c == 0x2E) ([] ∷ parts) (onto_first c parts) other)))
    (cases_Bool (c == 0x2E))

-- texts of numbers, read from their front
pub numbers_is : (cs : List ℕ) → numbers_after 0 cs ≡ list_all is_number (slice_split (λ c. c == 0x2E) cs)
numbers_is cs = numbers_after_is 0 cs ∙ no_digits (slice_split (λ c. c == 0x2E) cs) (split_some cs)

-- a step of that
pub numbers_step : (n : ℕ) (text : List SourceChar) (i : ℕ) → i < length text
    → numbers_after n (chars_of (drop i text))
    ≡ numbers_after n ((get_or text i none).char ∷ chars_of (drop (i + 1) text))
numbers_step n text i lt = ap (λ l. numbers_after n (chars_of l)) (rest text i lt)
  where
    rest : (xs : List SourceChar) (i : ℕ) → i < length xs → drop i xs ≡ get_or xs i none ∷ drop (i + 1) xs
    rest xs i lt = rw (add-one, drop-cons xs i none) refl

-- ---- what comes after an item form

prefix_append : (p : ℕ → Bool) (xs ys : List ℕ) → prefix_len p xs < length xs → prefix_len p (xs ++ ys) ≡ prefix_len p xs
prefix_append p [] ys lt = absurd (omega arith)
prefix_append p (x ∷ xs) ys lt =
    ⊎_elim
    (λ yes.
    cond-true (p x) _ _ yes
    ∙ ap (λ n. 1 + n) (prefix_append p xs ys (omega (arith, cond-true (p x) (1 + prefix_len p xs) 0 yes)))
    ∙ sym (cond-true (p x) (1 + prefix_len p xs) 0 yes))
    (λ no'. cond-false (p x) _ _ no' ∙ sym (cond-false (p x) (1 + prefix_len p xs) 0 no'))
    (cases_Bool (p x))

prefix_all : (p : ℕ → Bool) (xs ys : List ℕ) → length xs ≤ prefix_len p xs → length xs ≤ prefix_len p (xs ++ ys)
prefix_all p [] ys all = omega arith
prefix_all p (x ∷ xs) ys all =
    ⊎_elim
    (λ yes. omega (
      arith,
      cond-true (p x) (1 + prefix_len p (xs ++ ys)) 0 yes,
      cond-true (p x) (1 + prefix_len p xs) 0 yes,
      prefix_all p xs ys (omega (arith, cond-true (p x) (1 + prefix_len p xs) 0 yes)),
    ))
    (λ no'. absurd (omega (arith, cond-false (p x) (1 + prefix_len p xs) 0 no')))
    (cases_Bool (p x))

-- the test of what comes first after the white space
abbrev pub lets : List ℕ → List ℕ → Bool
lets form text = option_map_or (λ d. not (is_copyright_sign form && is_ascii_digit d)) (find (λ d. not (is_whitespace d)) text) false

pub item_after : (rules : LineRules) (line past : List ℕ) (end : ℕ) → end ≡ position_or_len is_whitespace line → end < length line
    → item_length rules (line ++ past) ≡ cond (rules.items && is_item_form (take end line) && lets (take end line) (drop (end + 1) line ++ past)) end 0
item_after rules line past end is within =
    let text = line ++ past in
    let index : position_or_len is_whitespace text ≡ end =
    prefix_append (λ c. not (is_whitespace c)) line past (subst (λ n. n < length line) is within) ∙ sym is in
    let form : before_first is_whitespace text ≡ take end line = ap (λ n. take n text) index ∙ take-append-le end line past (omega arith) in
    let long : length (take end line) ≡ end = length-take-le end line (omega arith) in
    let c = get_or line end 0 in
    let white : is_whitespace c ≡ true =
    ap (λ n. is_whitespace (get_or line n 0)) is
    ∙ passes_at_first is_whitespace line 0 (subst (λ n. n < length line) is within) in
    let next : drop end line ≡ c ∷ drop (end + 1) line = rw (add-one, drop-cons line end 0) refl in
    let rest : drop end text ≡ c ∷ (drop (end + 1) line ++ past) = drop-append-le end line past (omega arith) ∙ ap (λ l. l ++ past) next in
    let allowed : lets_item (take end line) (drop (length (take end line)) text) ≡ lets (take end line) (drop (end + 1) line ++ past) =
    ap (λ n. lets_item (take end line) (drop n text)) long ∙ ap (lets_item (take end line)) rest
    ∙ ap (λ b. b && lets (take end line) (drop (end + 1) line ++ past)) white in
    ap (λ f. cond (rules.items && is_item_form f && lets_item f (drop (length f) text)) (length f) 0) form
    ∙ ap₂ (λ b n. cond (rules.items && is_item_form (take end line) && b) n 0) allowed long

-- the same, over source characters
pub item_value : (rules : LineRules) (line : List SourceChar) (past : List ℕ) (end : ℕ)
    → end ≡ position_or_len is_whitespace (chars_of line) → end < length line
    → item_length rules (chars_of line ++ past)
    ≡ cond (rules.items && is_item_form (chars_of (take end line))
    && lets (chars_of (take end line))
    (chars_of (take (length line - (end + 1)) (drop (end + 1) line)) ++ past)) end 0
item_value rules line past end is within =
    let many : length (chars_of line) ≡ length line = length-map line char_of in
    let front : take end (chars_of line) ≡ chars_of (take end line) = take-map char_of end line in
    let rest : drop (end + 1) (chars_of line) ≡ chars_of (take (length line - (end + 1)) (drop (end + 1) line)) =
    drop-map char_of (end + 1) line ∙ ap chars_of (sym (take_rest line (end + 1))) in
    item_after rules (chars_of line) past end is (omega arith)
    ∙ (λ i. cond (rules.items && is_item_form (front i) && lets (front i) (rest i ++ past)) end 0)

pub item_on : (a b c : Bool) (n : ℕ) → a ≡ true → b ≡ true → c ≡ true → n ≡ cond (a && b && c) n 0
item_on true true true n on form lets' = refl
item_on false b c n on form lets' = absurd (false≢true on)
item_on true false c n on form lets' = absurd (false≢true form)
item_on true true false n on form lets' = absurd (false≢true lets')

pub item_off : (a b c : Bool) (n : ℕ) → (b && c) ≡ false → 0 ≡ cond (a && b && c) n 0
item_off false b c n off = refl
item_off true false c n off = refl
item_off true true false n off = refl
item_off true true true n off = absurd (false≢true (sym off))

lets_short : (form text : List ℕ) → length text ≤ 1 → lets_item form text ≡ false
lets_short form [] h = refl
lets_short form (c ∷ []) h = never (is_whitespace c)
  where
    never : (b : Bool) → (b && false) ≡ false
    never true = refl
    never false = refl
lets_short form (c ∷ d ∷ text) h = absurd (omega arith)

-- no item where no white space follows in the line
pub item_none : (rules : LineRules) (line past : List ℕ) → length line ≤ position_or_len is_whitespace line
    → length past ≤ 1 → item_length rules (line ++ past) ≡ 0
item_none rules line past all few =
    let text = line ++ past in
    let m = position_or_len is_whitespace text in
    let long : length text ≡ length line + length past = length-append line past in
    let reaches : length line ≤ m = prefix_all (λ c. not (is_whitespace c)) line past all in
    let form = before_first is_whitespace text in
    let form_long : length line ≤ length form = omega (arith, length-take m text) in
    let short : length (drop (length form) text) ≤ 1 = omega (arith, length-drop (length form) text) in
    let none' : lets_item form (drop (length form) text) ≡ false = lets_short form (drop (length form) text) short in
    ap (λ b. cond (rules.items && is_item_form form && b) (length form) 0) none'
    ∙ cond-false ((rules.items && is_item_form form) && false) (length form) 0 (never (rules.items && is_item_form form))
  where
    never : (b : Bool) → (b && false) ≡ false
    never true = refl
    never false = refl

pub few_after : (past : Option ℕ) → length (option_to_list past) ≤ 1
few_after None = omega arith
few_after (Some c) = omega arith

-- ---- the first character that is not white space
pub find_here : (text : List SourceChar) (past : List ℕ) (i : ℕ) → i < length text → is_whitespace (get_or text i none).char ≡ false
    → find (λ c. not (is_whitespace c)) (chars_of (drop i text) ++ past) ≡ Some (get_or text i none).char
find_here text past i lt dark =
    let rest : drop i text ≡ get_or text i none ∷ drop (i + 1) text = rw (add-one, drop-cons text i none) refl in
    ap (λ l. find (λ c. not (is_whitespace c)) (chars_of l ++ past)) rest
    ∙ cond-true (not (is_whitespace (get_or text i none).char)) _ _ (ap not dark)

pub find_later : (text : List SourceChar) (past : List ℕ) (i : ℕ) → i < length text → is_whitespace (get_or text i none).char ≡ true
    → find (λ c. not (is_whitespace c)) (chars_of (drop i text) ++ past) ≡ find (λ c. not (is_whitespace c)) (chars_of (drop (i + 1) text) ++ past)
find_later text past i lt white =
    let rest : drop i text ≡ get_or text i none ∷ drop (i + 1) text = rw (add-one, drop-cons text i none) refl in
    ap (λ l. find (λ c. not (is_whitespace c)) (chars_of l ++ past)) rest
    ∙ cond-false (not (is_whitespace (get_or text i none).char)) _ _ (ap not white)

-- ---- what the loop over numbers says

pub not_many : (n : ℕ) → (n < 1) ⊎ ((1 ≤ n) × (3 < n)) → is_in_range 1 3 n ≡ false
not_many n out = same_truth (is_in_range 1 3 n) false
    (λ h. let parts = and_parts (nat_le 1 n) (nat_le n 3) h in
    let low : 1 ≤ n = leb-true 1 n parts.0 in
    let high : n ≤ 3 = leb-true n 3 parts.1 in
    absurd (⊎_elim {C = ⊥} (λ few. omega arith) (λ many. let more : 3 < n = many.1 in omega arith) out))
    (λ h. absurd (false≢true h))

pub numbers_stop : (n : ℕ) (text : List SourceChar) (i : ℕ) → i < length text → (get_or text i none).char ≡ 0x2E
    → is_in_range 1 3 n ≡ false → numbers_after n (chars_of (drop i text)) ≡ false
numbers_stop n text i lt stop out =
    let c = (get_or text i none).char in
    numbers_step n text i lt
    ∙ cond-true (c == 0x2E) _ _ (eq-eqb c 0x2E stop)
    ∙ ap (λ b. b && numbers_after 0 (chars_of (drop (i + 1) text))) out

pub numbers_other : (n : ℕ) (text : List SourceChar) (i : ℕ) → i < length text → ((get_or text i none).char ≡ 0x2E → ⊥)
    → is_ascii_digit (get_or text i none).char ≡ false → numbers_after n (chars_of (drop i text)) ≡ false
numbers_other n text i lt other out =
    let c = (get_or text i none).char in
    numbers_step n text i lt
    ∙ cond-false (c == 0x2E) _ _ (same_truth (c == 0x2E) false (λ h. absurd (other (eqb-true c 0x2E h))) (λ h. absurd (false≢true h)))
    ∙ ap (λ b. b && numbers_after (n + 1) (chars_of (drop (i + 1) text))) out

pub numbers_end : (n : ℕ) (text : List SourceChar) (i : ℕ) → length text ≤ i → numbers_after n (chars_of (drop i text)) ≡ is_in_range 1 3 n
numbers_end n text i all = ap (λ l. numbers_after n (chars_of l)) (drop_all i text all)
