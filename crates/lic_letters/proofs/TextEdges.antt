-- The first two characters of what a line has between its white space of ASCII, and the last two.
use Rattle.std.proofs.Common.{◌≡◌, ℕ, zero, suc, ◌+◌, ◌<◌, ◌≤◌, true, false, ◌||◌, List, [], ◌∷◌, ◌++◌, length, take, drop, get_or, refl, sym, ap, ap₂, subst, ◌∙◌, ⊎_elim, arith, length-take, length-drop, append_assoc, append-nil, take_at}
use Rattle.std.specs.Prelude.{nat_le, chars, IsUtf8, IsAscii}
use Rattle.std.specs.Str.{IsCharBoundary, IsAsciiWhitespaceBelow, IsAsciiWhitespaceFrom}
use Rattle.std.specs.Int.{is_in_range}
use Rattle.std.specs.Char.{IsScalar, encode_utf8, is_ascii_whitespace, is_whitespace}
use Rattle.std.specs.List.{AllByRecursion}
use Rattle.std.proofs.lemmas.Bool.{false≢true, and_parts, or_cases, leb-true, cases_lt}
use Rattle.std.proofs.lemmas.Bool.Decides.{nat_tests}
use Rattle.std.proofs.lemmas.List.{get_or_past, get_or-take, get_or-drop, take-append-drop}
use Rattle.std.proofs.lemmas.Str.{IsUtf8-past_char, IsUtf8-take, IsUtf8-drop, IsUtf8-encode, IsUtf8-from_ascii, IsCharBoundary-start, IsCharBoundary-end, IsCharBoundary-after_ascii, IsCharBoundary-before_ascii, IsCharBoundary-at_seam, chars-append, chars-IsAscii, chars_past_char, chars_from_encodes, encodes-append, encodes-chars}
use Rattle.lic_trim.specs.PlainEdges.{HasEdges}

-- ---- white space of ASCII

within_range : (low high c : ℕ) → is_in_range low high c ≡ true → (low ≤ c) × (c ≤ high)
within_range low high c inside =
    let parts = and_parts (nat_le low c) (nat_le c high) inside in
    (leb-true low c parts.0, leb-true c high parts.1)

white_control : (c : ℕ) → 9 ≤ c → c ≤ 13 → is_whitespace c ≡ true
white_control c low high = grind (arith, nat_tests)

ascii_white : (c : ℕ) → is_ascii_whitespace c ≡ true → (c < 128) × (is_whitespace c ≡ true)
ascii_white c white =
    ⊎_elim
    (λ control. ⊎_elim
    (λ first. let bounds = within_range 9 10 c first in (omega arith, white_control c (omega arith) (omega arith)))
    (λ second. let bounds = within_range 12 13 c second in (omega arith, white_control c (omega arith) (omega arith)))
    (or_cases (is_in_range 9 10 c) (is_in_range 12 13 c) control))
    (λ blank.
    let bounds = within_range 32 32 c blank in
    let same : 32 ≡ c = omega arith in
    (omega arith, subst (λ d. is_whitespace d ≡ true) same refl))
    (or_cases (is_in_range 9 10 c || is_in_range 12 13 c) (is_in_range 32 32 c) white)

abbrev AreWhite : List ℕ → Type 0
AreWhite bytes = (i : ℕ) → i < length bytes → is_ascii_whitespace (get_or bytes i 0) ≡ true

white_is_ascii : (bytes : List ℕ) → AreWhite bytes → IsAscii bytes
white_is_ascii bytes each i =
    ⊎_elim
    (λ lt. (ascii_white (get_or bytes i 0) (each i lt)).0)
    (λ le. let past : get_or bytes i 0 ≡ 0 = get_or_past bytes i 0 le in omega (arith, past))
    (cases_lt i (length bytes))

all_white : (bytes : List ℕ) → AreWhite bytes → AllByRecursion (λ w. is_whitespace w ≡ true) bytes
all_white [] each = tt
all_white (b ∷ bytes) each = ((ascii_white b (each 0 (omega arith))).1, all_white bytes (λ i lt. each (suc i) (omega arith)))

-- what comes before a character at the end of a text
before_char : (text front : List ℕ) (c : ℕ) → IsUtf8 text → IsScalar c → text ≡ front ++ encode_utf8 c → IsUtf8 front
before_char text front c utf8 scalar is =
    subst IsUtf8 (ap (take (length front)) is ∙ take_at front (encode_utf8 c) (length front) refl)
    (IsUtf8-take text (length front) utf8 (IsCharBoundary-at_seam text front (encode_utf8 c) is (IsUtf8-encode c scalar)))

-- ---- a line, and the text between its white space, which begins at m

module _ (line text : List ℕ) (m : ℕ) (utf8 : IsUtf8 line) (is : text ≡ take (length text) (drop m line))
    (below : IsAsciiWhitespaceBelow line m) (from : IsAsciiWhitespaceFrom (drop m line) (length text)) where
  abbrev rest : List ℕ
  rest = drop m line

  abbrev n : ℕ
  n = length text

  within : m ≤ length line
  within = ⊎_elim
      (λ lt. absurd (false≢true (ap is_ascii_whitespace (sym (get_or_past line (length line) 0 (omega arith))) ∙ below (length line) lt)))
      (λ le. le)
      (cases_lt (length line) m)

  front_at : IsCharBoundary line m
  front_at = by m below within
    where
      by : (k : ℕ) → IsAsciiWhitespaceBelow line k → k ≤ length line → IsCharBoundary line k
      by zero white le = IsCharBoundary-start line utf8
      by (suc k) white le =
          let next : k + 1 ≡ suc k = omega arith in
          subst (IsCharBoundary line) next
          (IsCharBoundary-after_ascii line k utf8 (omega arith) (ascii_white (get_or line k 0) (white k (omega arith))).0)

  rest_utf8 : IsUtf8 rest
  rest_utf8 = IsUtf8-drop line m utf8 front_at

  back_at : IsCharBoundary rest n
  back_at = ⊎_elim
      (λ lt. IsCharBoundary-before_ascii rest n lt (ascii_white (get_or rest n 0) (from n (omega arith) lt)).0)
      (λ le.
      let same : length rest ≡ n = omega (arith, le, ap length is, length-take n rest) in
      subst (IsCharBoundary rest) same (IsCharBoundary-end rest))
      (cases_lt n (length rest))

  text_utf8 : IsUtf8 text
  text_utf8 = subst IsUtf8 (sym is) (IsUtf8-take rest n rest_utf8 back_at)

  lead_white : AreWhite (take m line)
  lead_white i lt =
      let low : i < m = omega (arith, lt, length-take m line) in
      ap is_ascii_whitespace (get_or-take m line i 0 low) ∙ below i low

  tail_white : AreWhite (drop n rest)
  tail_white i lt =
      ap is_ascii_whitespace (get_or-drop n rest i 0) ∙ from (n + i) (omega arith) (omega (arith, lt, length-drop n rest))

  line_chars : chars line ≡ take m line ++ (chars text ++ drop n rest)
  line_chars =
      let front = take m line in
      let back = drop n rest in
      let front_ascii = white_is_ascii front lead_white in
      let parts : line ≡ front ++ (text ++ back) =
      sym (take-append-drop m line) ∙ ap (λ l. front ++ l) (sym (take-append-drop n rest) ∙ ap (λ l. l ++ back) (sym is)) in
      ap chars parts
      ∙ chars-append front (text ++ back) (IsUtf8-from_ascii front front_ascii)
      ∙ ap₂ (λ k l. k ++ l) (chars-IsAscii front front_ascii)
      (chars-append text back text_utf8 ∙ ap (λ l. chars text ++ l) (chars-IsAscii back (white_is_ascii back tail_white)))

  module _ (one two less least : List ℕ) (first second before last : ℕ)
      (to_first : text ≡ encode_utf8 first ++ one) (to_second : one ≡ encode_utf8 second ++ two)
      (to_last : text ≡ less ++ encode_utf8 last) (to_before : less ≡ least ++ encode_utf8 before)
      (scalar : IsScalar last) (scalar' : IsScalar before)
      (first_dark : is_whitespace first ≡ false) (last_dark : is_whitespace last ≡ false) where
    begins : chars text ≡ first ∷ second ∷ chars two
    begins =
        let one_utf8 = IsUtf8-past_char text one first text_utf8 to_first in
        chars_past_char text one first text_utf8 to_first ∙ ap (λ l. first ∷ l) (chars_past_char one two second one_utf8 to_second)

    ends : chars text ≡ chars least ++ before ∷ last ∷ []
    ends =
        let last_two = before ∷ last ∷ [] in
        let less_utf8 = before_char text less last text_utf8 scalar to_last in
        let least_utf8 = before_char less least before less_utf8 scalar' to_before in
        sym (chars_from_encodes (chars least ++ last_two) text text_utf8
        (encodes-append (chars least) last_two ∙ ap₂ (λ k l. k ++ (encode_utf8 before ++ l)) (encodes-chars least least_utf8) (append-nil (encode_utf8 last))
        ∙ sym (append_assoc least (encode_utf8 before) (encode_utf8 last)) ∙ ap (λ l. l ++ encode_utf8 last) (sym to_before) ∙ sym to_last))

    pub edges_of : HasEdges (chars line) first second before last
    edges_of = record {
      lead = take m line;
      tail = drop n rest;
      past = chars two;
      ahead = chars least;
      all = line_chars ∙ ap (λ l. take m line ++ (l ++ drop n rest)) begins;
      end = sym begins ∙ ends;
      lead_white = all_white (take m line) lead_white;
      tail_white = all_white (drop n rest) tail_white;
      first_dark = first_dark;
      last_dark = last_dark;
    }
