-- Lines one after another of which nothing but white space is taken.
use Rattle.std.proofs.Common.{◌≡◌, ◌≢◌, ◌⊎◌, ℕ, ◌+◌, ◌-◌, ◌<◌, ◌≤◌, Bool, true, false, ◌==◌, ⊎_elim, List, [], ◌∷◌, ◌++◌, length, take, drop, get_or, inl, inr, refl, sym, ap, subst, ◌∙◌, arith, lit<, All, Some, append_assoc, length-append, length-take-le, take-add, take-take, take_at, eqb-true, eq-eqb}
use Rattle.std.specs.Prelude.{chars, IsUtf8, encode_utf8_all}
use Rattle.std.specs.Char.{encode_utf8, len_utf8}
use Rattle.std.specs.List.{AllByRecursion, onto_first}
use Rattle.std.proofs.Math.Seq.{get_or-append_seam}
use Rattle.std.proofs.lemmas.Bool.{cond-true, cond-false, cases_Bool}
use Rattle.std.proofs.lemmas.List.{drop-take, get_or-append-add, get_or-drop, get_or-take, take_more}
use Rattle.std.proofs.lemmas.List.Elements.{All-nil, All-cons, All-head, All-tail, All-get_or, All-from_get_or}
use Rattle.std.specs.Str.{IsCharBoundary}
use Rattle.std.proofs.lemmas.Str.{IsCharBoundary-after_ascii, IsCharBoundary-before_ascii, IsCharBoundary-from_take, IsUtf8-nil, IsUtf8-append, IsUtf8-drop, IsUtf8-take, encodes-chars, chars-append, chars-nil, chars-IsAscii, encode_ascii, length-encode, len_utf8_bounds}
use Rattle.std.proofs.lemmas.Str.Ascii.{IsAscii-cons, IsAscii-nil}
use Rattle.memchr.specs.Find.{IsFirstByte, is_byte}
use Rattle.lic_kind.specs.LineRules.{LineRules}
use Rattle.lic_trim.specs.declared.source.SourceChar.{SourceChar}
use Rattle.lic_trim.specs.Texts.{cut_after}
use Rattle.lic_trim.specs.Lines.{cut_of, whole_line}
use Rattle.lic_trim.specs.Sources.{chars_of, lines_of, placed}
use Rattle.lic_trim.specs.Spaces.{TakesSpaces}
use Rattle.lic_trim.proofs.AsciiLemmas.{chars_of-placed}
use Rattle.lic_letters.specs.PlainLines.{IsPlainLine, ArePlainLines}
use Rattle.lic_letters.specs.Simple.{TakeSpaces}

-- ---- parts

module _ {A : Type 0} (ends : A → Bool) where
  cut_some : (xs : List A) (x : A) → ends x ≡ true → (p : List A) × (ps : List (List A)) × (cut_after ends (xs ++ x ∷ []) ≡ p ∷ ps)
  cut_some [] x e = (x ∷ [], [], cond-true (ends x) _ _ e)
  cut_some (z ∷ xs) x e =
      ⊎_elim
      (λ yes. (z ∷ [], _, cond-true (ends z) _ _ yes))
      (λ none. let some = cut_some xs x e in (z ∷ some.0, some.1, cond-false (ends z) _ _ none ∙ ap (onto_first z) some.2))
      (cases_Bool (ends z))

  cut_after-end : (xs : List A) (x : A) (ys : List A) → ends x ≡ true → cut_after ends (xs ++ x ∷ ys) ≡ cut_after ends (xs ++ x ∷ []) ++ cut_after ends ys
  cut_after-end [] x ys e = cond-true (ends x) _ _ e ∙ ap (λ l. l ++ cut_after ends ys) (sym (cond-true (ends x) ((x ∷ []) ∷ []) (onto_first x []) e))
  cut_after-end (z ∷ xs) x ys e =
      let rest = cut_after-end xs x ys e in
      let some = cut_some xs x e in
      ⊎_elim
      (λ yes. cond-true (ends z) _ _ yes ∙ ap (λ l. (z ∷ []) ∷ l) rest
      ∙ ap (λ l. l ++ cut_after ends ys)
      (sym (cond-true (ends z) ((z ∷ []) ∷ cut_after ends (xs ++ x ∷ []))
      (onto_first z (cut_after ends (xs ++ x ∷ []))) yes)))
      (λ none.
      cond-false (ends z) _ _ none ∙ ap (onto_first z) (rest ∙ ap (λ l. l ++ cut_after ends ys) some.2)
      ∙ ap (λ l. l ++ cut_after ends ys)
      (ap (onto_first z) (sym some.2)
      ∙ sym (cond-false (ends z) ((z ∷ []) ∷ cut_after ends (xs ++ x ∷ []))
      (onto_first z (cut_after ends (xs ++ x ∷ []))) none)))
      (cases_Bool (ends z))

-- ---- a line

-- none of these bytes is U+000A
abbrev HasNoFeed : List ℕ → Type 0
HasNoFeed bytes = (k : ℕ) → k < length bytes → get_or bytes k 0 ≢ 0x0A

feed_encoded : encode_utf8 0x0A ≡ 0x0A ∷ []
feed_encoded = encode_ascii 0x0A (lit< tt)

encoded-no_feed : (cs : List ℕ) → HasNoFeed (encode_utf8_all cs) → All (λ c. c ≢ 0x0A) cs
encoded-no_feed [] none = All-nil (λ c. c ≢ 0x0A)
encoded-no_feed (c ∷ cs) none =
    let here = encode_utf8 c in
    let rest = encode_utf8_all cs in
    let long : 0 < length here = omega (arith, length-encode c, len_utf8_bounds c) in
    All-cons (λ d. d ≢ 0x0A) c cs
    (λ is.
    let bytes : here ≡ 0x0A ∷ [] = ap encode_utf8 is ∙ feed_encoded in
    none 0 (omega (arith, length-append here rest)) (ap (λ l. get_or (l ++ rest) 0 0) bytes))
    (encoded-no_feed cs (λ k lt at. none (length here + k) (omega (arith, length-append here rest)) (get_or-append-add here rest k 0 ∙ at)))

chars-no_feed : (bytes : List ℕ) → IsUtf8 bytes → All (λ c. c ≢ 0x0A) bytes → All (λ c. c ≢ 0x0A) (chars bytes)
chars-no_feed bytes text none =
    let each : HasNoFeed bytes = λ k lt. All-get_or (λ c. c ≢ 0x0A) bytes k 0 lt none in
    encoded-no_feed (chars bytes) (subst HasNoFeed (sym (encodes-chars bytes text)) each)

feed_chars : chars (0x0A ∷ []) ≡ 0x0A ∷ []
feed_chars = chars-IsAscii (0x0A ∷ []) (IsAscii-cons 0x0A [] (lit< tt) IsAscii-nil)

-- the characters of a text that ends in U+000A
module _ (text front : List ℕ) (utf8 : IsUtf8 text) (ends : text ≡ front ++ 0x0A ∷ []) where
  front_utf8 : IsUtf8 front
  front_utf8 =
      let n = length front in
      let feed : get_or text n 0 ≡ 0x0A = ap (λ l. get_or l n 0) ends ∙ get_or-append_seam front 0x0A [] 0 in
      let lt : n < length text = omega (arith, ap length ends, length-append front (0x0A ∷ [])) in
      subst IsUtf8 (ap (take n) ends ∙ take_at front (0x0A ∷ []) n refl) (IsUtf8-take text n utf8 (IsCharBoundary-before_ascii text n lt (omega (arith, feed))))

  pub ended_chars : chars text ≡ chars front ++ 0x0A ∷ []
  ended_chars = ap chars ends ∙ chars-append front (0x0A ∷ []) front_utf8 ∙ ap (λ l. chars front ++ l) feed_chars

-- a first U+000A ends a line
pub found_line : (bytes : List ℕ) (slot : ℕ) → IsFirstByte (is_byte 0x0A) bytes (Some slot)
    → (take (slot + 1) bytes ≡ take slot bytes ++ 0x0A ∷ []) × All (λ c. c ≢ 0x0A) (take slot bytes)
found_line bytes slot h =
    let lt : slot < length bytes = h.0.high in
    let at : get_or bytes slot 0 ≡ 0x0A = eqb-true (get_or bytes slot 0) 0x0A h.1 in
    let front = take slot bytes in
    let none : HasNoFeed front = λ k less is.
    let inside : k < slot = omega (arith, length-take-le slot bytes (omega arith)) in
    h.0.before k (omega arith) inside (eq-eqb _ _ (sym (get_or-take slot bytes k 0 inside) ∙ is)) in
    (take_more bytes slot 0 lt ∙ ap (λ b. front ++ b ∷ []) at, All-from_get_or (λ c. c ≢ 0x0A) front 0 none)

pub feed_found : (bytes : List ℕ) (slot : ℕ) → IsFirstByte (is_byte 0x0A) bytes (Some slot) → get_or bytes (slot + 1 - 1) 0 ≡ 0x0A
feed_found bytes slot h =
    let same : slot + 1 - 1 ≡ slot = omega arith in
    ap (λ i. get_or bytes i 0) same ∙ eqb-true (get_or bytes slot 0) 0x0A h.1

-- a line ends in U+000A: in a text in UTF-8 that goes on after it, it is in UTF-8 by itself
pub line_utf8 : (bytes rest : List ℕ) (at n done : ℕ) → rest ≡ drop at bytes → 0 < n → at + n ≤ done → done ≤ length bytes
    → IsUtf8 (take done bytes) → IsUtf8 (take at bytes) → get_or rest (n - 1) 0 ≡ 0x0A → IsUtf8 (take n rest)
line_utf8 bytes rest at n done same some le within utf8 before feed =
    let text = take done bytes in
    let front = take (at + n) bytes in
    let last : ℕ = at + (n - 1) in
    let in_bytes : get_or bytes last 0 ≡ 0x0A = sym (get_or-drop at bytes (n - 1) 0) ∙ ap (λ l. get_or l (n - 1) 0) (sym same) ∙ feed in
    let in_text : get_or text last 0 ≡ 0x0A = get_or-take done bytes last 0 (omega (arith, some, le)) ∙ in_bytes in
    let long : length text ≡ done = length-take-le done bytes within in
    let slot : last + 1 ≡ at + n = omega (arith, some) in
    let end : IsCharBoundary text (at + n) =
    subst (IsCharBoundary text) slot (IsCharBoundary-after_ascii text last utf8 (omega (arith, some, le, long)) (omega (arith, in_text))) in
    let front_utf8 : IsUtf8 front = subst IsUtf8 (take-take (at + n) done bytes le) (IsUtf8-take text (at + n) utf8 end) in
    let inside : at ≤ length front = omega (arith, le, within, length-take-le (at + n) bytes (omega (arith, le, within))) in
    let begin : IsCharBoundary front at =
    IsCharBoundary-from_take front at front_utf8 inside (subst IsUtf8 (sym (take-take at (at + n) bytes (omega arith))) before) in
    subst IsUtf8 (drop-take at n bytes ∙ ap (take n) (sym same)) (IsUtf8-drop front at front_utf8 begin)

pub plain_found : (rules : LineRules) (bytes : List ℕ) (slot : ℕ) → IsFirstByte (is_byte 0x0A) bytes (Some slot) → IsUtf8 (take (slot + 1) bytes)
    → TakesSpaces (cut_of rules whole_line (chars (take (slot + 1) bytes))) (chars (take (slot + 1) bytes)) → IsPlainLine rules (take (slot + 1) bytes)
plain_found rules bytes slot h utf8 takes =
    let found = found_line bytes slot h in
    record {
      front = take slot bytes;
      no_feed = found.1;
      ends = found.0;
      utf8 = utf8;
      takes = takes;
    }

-- ---- source characters

placed_both : (at : ℕ) (xs ys : List ℕ) → (m : ℕ) × (placed at (xs ++ ys) ≡ placed at xs ++ placed m ys)
placed_both at [] ys = (at, refl)
placed_both at (x ∷ xs) ys =
    let here : SourceChar = record { char = x; start = at; end = at + len_utf8 x } in
    let more = placed_both (at + len_utf8 x) xs ys in
    (more.0, ap (λ l. here ∷ l) more.1)

other : (c : ℕ) → c ≢ 0x0A → (c == 0x0A) ≡ false
other c ne = elim (cases_Bool (c == 0x0A)) [
  | inl is ↦ absurd (ne (eqb-true c 0x0A is))
  | inr none ↦ none
]

-- one U+000A at the end makes one line
line_alone : (at : ℕ) (cs : List ℕ) → All (λ c. c ≢ 0x0A) cs → lines_of (placed at (cs ++ 0x0A ∷ [])) ≡ placed at (cs ++ 0x0A ∷ []) ∷ []
line_alone at [] none = refl
line_alone at (c ∷ cs) none =
    let here : SourceChar = record { char = c; start = at; end = at + len_utf8 c } in
    cond-false (c == 0x0A) _ _ (other c (All-head (λ d. d ≢ 0x0A) c cs none))
    ∙ ap (onto_first here) (line_alone (at + len_utf8 c) cs (All-tail (λ d. d ≢ 0x0A) c cs none))

abbrev AreEnded : List SourceChar → Type 0
AreEnded source = (source ≡ []) ⊎ ((front : List SourceChar) × (feed : SourceChar) × (feed.char ≡ 0x0A) × (source ≡ front ++ feed ∷ []))

lines_both : (before after : List SourceChar) → AreEnded before → lines_of (before ++ after) ≡ lines_of before ++ lines_of after
lines_both before after (inl none) = ap (λ l. lines_of (l ++ after)) none ∙ ap (λ l. lines_of l ++ lines_of after) (sym none)
lines_both before after (inr (front, feed, is, same)) =
    ap (λ l. lines_of (l ++ after)) same ∙ ap lines_of (append_assoc front (feed ∷ []) after)
    ∙ cut_after-end (λ (s : SourceChar). s.char == 0x0A) front feed after (eq-eqb feed.char 0x0A is)
    ∙ ap (λ l. lines_of l ++ lines_of after) (sym same)

all_both : (P : List SourceChar → Type 0) (xs ys : List (List SourceChar)) → AllByRecursion P xs → AllByRecursion P ys → AllByRecursion P (xs ++ ys)
all_both P [] ys h k = k
all_both P (x ∷ xs) ys h k = (h.0, all_both P xs ys h.1 k)

-- ---- lines

module _ (rules : LineRules) where
  pub none_plain : ArePlainLines rules []
  none_plain = record {
    utf8 = IsUtf8-nil;
    ended = inl refl;
    takes = λ at. subst (λ l. TakeSpaces rules (placed at l)) (sym chars-nil) tt;
  }

  ended_source : (lines : List ℕ) → ArePlainLines rules lines → (at : ℕ) → AreEnded (placed at (chars lines))
  ended_source lines are at = elim are.ended [
    | inl none ↦ inl (ap (λ l. placed at (chars l)) none ∙ ap (placed at) chars-nil)
    | inr (front, ends) ↦
        let parts = placed_both at (chars front) (0x0A ∷ []) in
        inr (
          placed at (chars front),
          (record { char = 0x0A; start = parts.0; end = parts.0 + len_utf8 0x0A }),
          refl,
          ap (placed at) (ended_chars lines front are.utf8 ends) ∙ parts.1,
        )
  ]

  pub one_more : (lines line : List ℕ) → ArePlainLines rules lines → IsPlainLine rules line → ArePlainLines rules (lines ++ line)
  one_more lines line are is = record {
    utf8 = IsUtf8-append lines line are.utf8 is.utf8;
    ended = inr (lines ++ is.front, ap (λ l. lines ++ l) is.ends ∙ sym (append_assoc lines is.front (0x0A ∷ [])));
    takes = λ at.
        let parts = placed_both at (chars lines) (chars line) in
        let own : chars line ≡ chars is.front ++ 0x0A ∷ [] = ended_chars line is.front is.utf8 is.ends in
        let alone : lines_of (placed parts.0 (chars line)) ≡ placed parts.0 (chars line) ∷ [] =
        ap (λ l. lines_of (placed parts.0 l)) own
        ∙ line_alone parts.0 (chars is.front) (chars-no_feed is.front (front_utf8 line is.front is.utf8 is.ends) is.no_feed)
        ∙ ap (λ l. placed parts.0 l ∷ []) (sym own) in
        let all : lines_of (placed at (chars (lines ++ line))) ≡ lines_of (placed at (chars lines)) ++ placed parts.0 (chars line) ∷ [] =
        ap (λ l. lines_of (placed at l)) (chars-append lines line are.utf8) ∙ ap lines_of parts.1
        ∙ lines_both (placed at (chars lines)) (placed parts.0 (chars line)) (ended_source lines are at)
        ∙ ap (λ l. lines_of (placed at (chars lines)) ++ l) alone in
        let takes : (List SourceChar → Type 0) = λ l. TakesSpaces (cut_of rules whole_line (chars_of l)) (chars_of l) in
        subst (AllByRecursion takes) (sym all)
        (all_both takes (lines_of (placed at (chars lines))) (placed parts.0 (chars line) ∷ []) (are.takes at)
        (subst (λ l. TakesSpaces (cut_of rules whole_line l) l) (sym (chars_of-placed parts.0 (chars line))) is.takes, tt));
  }

  pub next_plain : (bytes rest : List ℕ) (at n : ℕ) → rest ≡ drop at bytes → ArePlainLines rules (take at bytes) → IsPlainLine rules (take n rest)
      → ArePlainLines rules (take (at + n) bytes)
  next_plain bytes rest at n same are is =
      subst (ArePlainLines rules) (ap (λ l. take at bytes ++ take n l) same ∙ sym (take-add at n bytes)) (one_more (take at bytes) (take n rest) are is)
