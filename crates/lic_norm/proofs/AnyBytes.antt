-- The source characters of any bytes, read from the start.
use Rattle.std.proofs.Common.{◌≡◌, ◌≢◌, ◌⊎◌, ℕ, zero, suc, ◌+◌, ◌-◌, ◌<◌, ◌≤◌, Bool, true, false, List, [], ◌∷◌, ◌++◌, length, take, drop, get_or, Option, Some, None, refl, sym, ap, ap₂, subst, ◌∙◌, append_assoc, append-nil, arith, inl, inr, ⊎_elim, length-append, length-take, true≢false, take-append-drop, take_at, drop_at, All}
use Rattle.std.specs.Prelude.{find, is_some, unwrap_or, slice_index}
use Rattle.std.specs.Option.{option_map_or}
use Rattle.std.specs.Char.{len_utf8, encode_utf8, IsScalar}
use Rattle.std.specs.Str.{IsUtf8, is_utf8, chars, encode_utf8_all, all_scalars, StartsWithNoChar, IsAscii}
use Rattle.std.proofs.lemmas.Bool.{cases_Bool, cases_lt, cond-true, cond-false, false_from_ne_true, and_parts}
use Rattle.std.proofs.lemmas.Str.{IsUtf8-from_is_utf8, is_utf8-from_IsUtf8, IsUtf8-encode, length-encode, len_utf8_bounds, len_utf8_ascii, encode_same, chars_past_char, chars-nil, inside_one, encode_ascii, chars_from_encodes, IsUtf8-from_ascii, chars-IsAscii}
use Rattle.std.proofs.lemmas.Str.Ascii.{IsAscii-cons, IsAscii-nil}
use Rattle.std.proofs.lemmas.List.Elements.{All-nil, All-cons, All-head, All-tail, All-drop}
use Rattle.std.proofs.Math.Seq.{get_or-append_seam}
use Rattle.lic_trim.specs.Sources.{placed, chars_of}
use Rattle.lic_trim.specs.declared.source.SourceChar.{SourceChar}
use Rattle.lic_norm.specs.Sources.{width_of_first, first_width, first_char, source_after, source_of, AreSourceChars}

-- a character begins these bytes
pub record Begins (bytes : List ℕ) : Type 0 where
  pub c : ℕ
  pub rest : List ℕ
  pub scalar : IsScalar c
  pub parts : bytes ≡ encode_utf8 c ++ rest

-- a character begins a prefix of bytes that is UTF-8
begins_front : (bytes : List ℕ) (n : ℕ) → 0 < n → 0 < length bytes → IsUtf8 (take n bytes) → (b : Begins bytes) × (len_utf8 b.c ≤ n)
begins_front bytes n some more u = by u.0 u.1.0 u.1.1
  where
    by : (cs : List ℕ) → all_scalars cs ≡ true → encode_utf8_all cs ≡ take n bytes → (b : Begins bytes) × (len_utf8 b.c ≤ n)
    by [] s e = absurd (omega (arith, ap length e, length-take n bytes))
    by (c ∷ cs) s e = (
      record {
        c = c;
        rest = encode_utf8_all cs ++ drop n bytes;
        scalar = (and_parts _ _ s).0;
        parts = sym (take-append-drop n bytes) ∙ ap (λ l. l ++ drop n bytes) (sym e) ∙ append_assoc (encode_utf8 c) (encode_utf8_all cs) (drop n bytes);
      },
      omega (arith, ap length e, length-append (encode_utf8 c) (encode_utf8_all cs), length-encode c, length-take n bytes),
    )

-- ---- the first that passes of four widths

abbrev widths : List ℕ
widths = 1 ∷ 2 ∷ 3 ∷ 4 ∷ []

hit : (test : ℕ → Bool) (n : ℕ) (ns : List ℕ) → test n ≡ true → find test (n ∷ ns) ≡ Some n
hit test n ns is = cond-true (test n) (Some n) (find test ns) is

miss : (test : ℕ → Bool) (n : ℕ) (ns : List ℕ) → test n ≡ false → find test (n ∷ ns) ≡ find test ns
miss test n ns is = cond-false (test n) (Some n) (find test ns) is

least_width : (test : ℕ → Bool) (w : ℕ) → 1 ≤ w → w ≤ 4 → test w ≡ true → ((n : ℕ) → 1 ≤ n → n < w → test n ≡ false) → find test widths ≡ Some w
least_width test zero low high is none = absurd (omega arith)
least_width test (suc zero) low high is none = hit test 1 (2 ∷ 3 ∷ 4 ∷ []) is
least_width test (suc (suc zero)) low high is none = miss test 1 (2 ∷ 3 ∷ 4 ∷ []) (none 1 (omega arith) (omega arith)) ∙ hit test 2 (3 ∷ 4 ∷ []) is
least_width test (suc (suc (suc zero))) low high is none =
    miss test 1 (2 ∷ 3 ∷ 4 ∷ []) (none 1 (omega arith) (omega arith)) ∙ miss test 2 (3 ∷ 4 ∷ []) (none 2 (omega arith) (omega arith)) ∙ hit test 3 (4 ∷ []) is
least_width test (suc (suc (suc (suc zero)))) low high is none =
    miss test 1 (2 ∷ 3 ∷ 4 ∷ []) (none 1 (omega arith) (omega arith))
    ∙ miss test 2 (3 ∷ 4 ∷ []) (none 2 (omega arith) (omega arith))
    ∙ miss test 3 (4 ∷ []) (none 3 (omega arith) (omega arith))
    ∙ hit test 4 [] is
least_width test (suc (suc (suc (suc (suc w))))) low high is none = absurd (omega arith)

no_width : (test : ℕ → Bool) → test 1 ≡ false → test 2 ≡ false → test 3 ≡ false → test 4 ≡ false → find test widths ≡ None
no_width test one two three four = miss test 1 (2 ∷ 3 ∷ 4 ∷ []) one ∙ miss test 2 (3 ∷ 4 ∷ []) two ∙ miss test 3 (4 ∷ []) three ∙ miss test 4 [] four

-- ---- whether a character begins some bytes

abbrev passes : List ℕ → ℕ → Bool
passes bytes n = is_utf8 (take n bytes)

width_of_char : (c : ℕ) (rest : List ℕ) → IsScalar c → width_of_first (encode_utf8 c ++ rest) ≡ Some (len_utf8 c)
width_of_char c rest scalar =
    let bytes = encode_utf8 c ++ rest in
    let wide = len_utf8_bounds c in
    let some : 0 < length bytes = omega (arith, length-append (encode_utf8 c) rest, length-encode c, wide) in
    let own : take (len_utf8 c) bytes ≡ encode_utf8 c = take_at (encode_utf8 c) rest (len_utf8 c) (length-encode c) in
    least_width (passes bytes) (len_utf8 c) wide.0 wide.1 (is_utf8-from_IsUtf8 _ (subst IsUtf8 (sym own) (IsUtf8-encode c scalar)))
    (λ n low less. false_from_ne_true (passes bytes n)
    (λ is.
    let first = begins_front bytes n (omega arith) some (IsUtf8-from_is_utf8 _ is) in
    let same = (encode_same c first.0.c rest first.0.rest first.0.parts).0 in
    absurd (omega (arith, ap len_utf8 same, first.1))))

no_width_of : (bytes : List ℕ) → 0 < length bytes → StartsWithNoChar bytes → width_of_first bytes ≡ None
no_width_of bytes some none = no_width (passes bytes) (fails 1 (omega arith)) (fails 2 (omega arith)) (fails 3 (omega arith)) (fails 4 (omega arith))
  where
    fails : (n : ℕ) → 0 < n → passes bytes n ≡ false
    fails n low = false_from_ne_true (passes bytes n)
        (λ is. let b = (begins_front bytes n low some (IsUtf8-from_is_utf8 _ is)).0 in none b.c b.rest b.scalar b.parts)

pub begins_or_not : (bytes : List ℕ) → 0 < length bytes → Begins bytes ⊎ StartsWithNoChar bytes
begins_or_not bytes some = at (width_of_first bytes) refl
  where
    front : (n : ℕ) → 0 < n → passes bytes n ≡ true → Begins bytes ⊎ StartsWithNoChar bytes
    front n low is = inl (begins_front bytes n low some (IsUtf8-from_is_utf8 _ is)).0

    at : (w : Option ℕ) → width_of_first bytes ≡ w → Begins bytes ⊎ StartsWithNoChar bytes
    at None is = inr (λ c rest scalar parts. true≢false (ap is_some (sym (ap width_of_first parts ∙ width_of_char c rest scalar)) ∙ ap is_some is))
    at (Some w) is = elim (cases_Bool (passes bytes 1)) [
      | inl one ↦ front 1 (omega arith) one
      | inr no_one ↦ elim (cases_Bool (passes bytes 2)) [
        | inl two ↦ front 2 (omega arith) two
        | inr no_two ↦ elim (cases_Bool (passes bytes 3)) [
          | inl three ↦ front 3 (omega arith) three
          | inr no_three ↦ elim (cases_Bool (passes bytes 4)) [
            | inl four ↦ front 4 (omega arith) four
            | inr no_four ↦ absurd (true≢false (ap is_some (sym is) ∙ ap is_some (no_width (passes bytes) no_one no_two no_three no_four)))
          ]
        ]
      ]
    ]

-- ---- the first source character and the others

-- the source characters after a character are those of what follows it
after_all : (front rest : List ℕ) (at : ℕ) → source_after (length front) at (front ++ rest) ≡ source_after 0 (at + length front) rest
after_all [] rest at = ap (λ n. source_after 0 n rest) (let e : at ≡ at + 0 = omega arith in e)
after_all (b ∷ front) rest at =
    after_all front rest (at + 1)
    ∙ ap (λ n. source_after 0 n rest) (let e : at + 1 + length front ≡ at + length (b ∷ front) = omega arith in e)

pub source_of-none : (at : ℕ) → source_of at [] ≡ []
unfolding source_of
source_of-none at = refl

pub source_of-char : (at c : ℕ) (rest : List ℕ) → IsScalar c
    → source_of at (encode_utf8 c ++ rest)
    ≡ (record { char = c; start = at; end = at + len_utf8 c }) ∷ source_of (at + len_utf8 c) rest
unfolding source_of
source_of-char at c rest scalar = by (encode_utf8 c) refl
  where
    own : chars (take (len_utf8 c) (encode_utf8 c ++ rest)) ≡ c ∷ []
    own = ap chars (take_at (encode_utf8 c) rest (len_utf8 c) (length-encode c))
        ∙ chars_past_char (encode_utf8 c) [] c (IsUtf8-encode c scalar) (sym (append-nil (encode_utf8 c))) ∙ ap (λ l. c ∷ l) chars-nil

    by : (front : List ℕ) → encode_utf8 c ≡ front
        → source_after 0 at (encode_utf8 c ++ rest)
        ≡ (record { char = c; start = at; end = at + len_utf8 c }) ∷ source_after 0 (at + len_utf8 c) rest
    by [] e = absurd (omega (arith, ap length e, length-encode c, len_utf8_bounds c))
    by (b ∷ front) e =
        let bytes = encode_utf8 c ++ rest in
        let same : bytes ≡ b ∷ (front ++ rest) = ap (λ l. l ++ rest) e in
        let found : width_of_first (b ∷ (front ++ rest)) ≡ Some (len_utf8 c) = ap width_of_first (sym same) ∙ width_of_char c rest scalar in
        let width : first_width (b ∷ (front ++ rest)) ≡ len_utf8 c = ap (λ o. unwrap_or o 1) found in
        let char : first_char (b ∷ (front ++ rest)) ≡ c =
        ap (λ o. option_map_or (λ n. slice_index (chars (take n (b ∷ (front ++ rest)))) 0) o 0xFFFD) found
        ∙ ap (λ l. slice_index (chars (take (len_utf8 c) l)) 0) (sym same) ∙ ap (λ l. slice_index l 0) own in
        let long : len_utf8 c - 1 ≡ length front = omega (arith, ap length e, length-encode c) in
        ap (source_after 0 at) same
        ∙ ap₂ (λ d w. (record { char = d; start = at; end = at + w }) ∷ source_after (w - 1) (at + 1) (front ++ rest)) char width
        ∙ ap (λ l. (record { char = c; start = at; end = at + len_utf8 c }) ∷ l)
        (ap (λ n. source_after n (at + 1) (front ++ rest)) long ∙ after_all front rest (at + 1)
        ∙ ap (λ n. source_after 0 n rest) (let e : at + 1 + length front ≡ at + len_utf8 c = omega (arith, long, len_utf8_bounds c) in e))

pub source_of-byte : (at b : ℕ) (rest : List ℕ) → StartsWithNoChar (b ∷ rest)
    → source_of at (b ∷ rest) ≡ (record { char = 0xFFFD; start = at; end = at + 1 }) ∷ source_of (at + 1) rest
unfolding source_of
source_of-byte at b rest none =
    let found = no_width_of (b ∷ rest) (omega arith) none in
    ap (λ (o : Option ℕ). (record {
      char =
          option_map_or (λ n. slice_index (chars (take n (b ∷ rest))) 0) o 0xFFFD;
      start = at;
      end =
          at + unwrap_or o 1;
    }) ∷ source_after (unwrap_or o 1 - 1) (at + 1) rest) found

pub source_of-AreSourceChars : (at : ℕ) (bytes : List ℕ) → AreSourceChars at bytes (source_of at bytes)
source_of-AreSourceChars at bytes = within (length bytes) at bytes (omega arith)
  where
    within : (n at : ℕ) (bytes : List ℕ) → length bytes ≤ n → AreSourceChars at bytes (source_of at bytes)
    within n at [] short = subst (AreSourceChars at []) (sym (source_of-none at)) (AreSourceChars.no_bytes at)
    within zero at (b ∷ bytes) short = absurd (omega arith)
    within (suc n) at (b ∷ bytes) short =
        elim (begins_or_not (b ∷ bytes) (omega arith)) [
          | inl first ↦
              let less : length first.rest ≤ n =
              omega (
                arith,
                ap length first.parts,
                length-append (encode_utf8 first.c) first.rest,
                length-encode first.c,
                len_utf8_bounds first.c,
              ) in
              subst (AreSourceChars at (b ∷ bytes)) (sym (ap (source_of at) first.parts ∙ source_of-char at first.c first.rest first.scalar))
              (AreSourceChars.a_char at (b ∷ bytes) first.c first.rest _ first.scalar first.parts (within n (at + len_utf8 first.c) first.rest less))
          | inr none ↦ subst (AreSourceChars at (b ∷ bytes)) (sym (source_of-byte at b bytes none))
              (AreSourceChars.a_byte at b bytes _ none (within n (at + 1) bytes (omega arith)))
        ]

-- and no other list is read so
pub AreSourceChars-same : {at : ℕ} {bytes : List ℕ} {cs : List SourceChar} → AreSourceChars at bytes cs → cs ≡ source_of at bytes
AreSourceChars-same (AreSourceChars.no_bytes at) = sym (source_of-none at)
AreSourceChars-same (AreSourceChars.a_char at bytes c rest cs scalar came read) =
    ap (λ l. (record { char = c; start = at; end = at + len_utf8 c }) ∷ l) (AreSourceChars-same read)
    ∙ sym (ap (source_of at) came ∙ source_of-char at c rest scalar)
AreSourceChars-same (AreSourceChars.a_byte at b rest cs none read) =
    ap (λ l. (record { char = 0xFFFD; start = at; end = at + 1 }) ∷ l) (AreSourceChars-same read) ∙ sym (source_of-byte at b rest none)

-- ---- cuts that go through no character

-- characters before some bytes are read first
pub source_of-chars : (at : ℕ) (cs : List ℕ) (rest : List ℕ) → all_scalars cs ≡ true
    → source_of at (encode_utf8_all cs ++ rest) ≡ placed at cs ++ source_of (at + length (encode_utf8_all cs)) rest
source_of-chars at [] rest scalars = ap (λ n. source_of n rest) (let e : at ≡ at + 0 = omega arith in e)
source_of-chars at (c ∷ cs) rest scalars =
    let both : IsScalar c × (all_scalars cs ≡ true) = and_parts _ _ scalars in
    let later = encode_utf8_all cs in
    let next : at + len_utf8 c + length later ≡ at + length (encode_utf8 c ++ later) = omega (arith, length-append (encode_utf8 c) later, length-encode c) in
    ap (source_of at) (append_assoc (encode_utf8 c) later rest) ∙ source_of-char at c (later ++ rest) both.0
    ∙ ap (λ l. (record { char = c; start = at; end = at + len_utf8 c }) ∷ l)
    (source_of-chars (at + len_utf8 c) cs rest both.1 ∙ ap (λ n. placed (at + len_utf8 c) cs ++ source_of n rest) next)

pub source_of-text : (at : ℕ) (text rest : List ℕ) → IsUtf8 text → source_of at (text ++ rest) ≡ placed at (chars text) ++ source_of (at + length text) rest
source_of-text at text rest u =
    ap (λ l. source_of at (l ++ rest)) (sym u.1.1) ∙ source_of-chars at u.0 rest u.1.0
    ∙ ap₂ (λ cs n. placed at cs ++ source_of (at + n) rest) (chars_from_encodes u.0 text u u.1.1) (ap length u.1.1)

pub source_of-utf8 : (at : ℕ) (text : List ℕ) → IsUtf8 text → source_of at text ≡ placed at (chars text)
source_of-utf8 at text u =
    ap (source_of at) (sym (append-nil text)) ∙ source_of-text at text [] u
    ∙ ap (λ l. placed at (chars text) ++ l) (source_of-none (at + length text)) ∙ append-nil (placed at (chars text))

-- where one list continues after another
parts_after : (zs xs ws ys : List ℕ) → xs ++ ys ≡ zs ++ ws → length zs ≤ length xs → (mid : List ℕ) × (xs ≡ zs ++ mid) × (ws ≡ mid ++ ys)
parts_after [] xs ws ys e le = (xs, refl, sym e)
parts_after (z ∷ zs) [] ws ys e le = absurd (omega arith)
parts_after (z ∷ zs) (x ∷ xs) ws ys e le =
    let rest = parts_after zs xs ws ys (ap (drop 1) e) (omega arith) in
    (rest.0, ap₂ (λ a l. a ∷ l) (ap (λ l. get_or l 0 0) e) rest.1, rest.2)

-- what begins no character begins none where it ends sooner
no_char_sooner : (front rest : List ℕ) → StartsWithNoChar (front ++ rest) → StartsWithNoChar front
no_char_sooner front rest none = λ c past scalar parts.
    none c (past ++ rest) scalar (ap (λ l. l ++ rest) parts ∙ append_assoc (encode_utf8 c) past rest)

-- No character goes over an ASCII byte: what comes before it is read by itself.
pub source_of-before_ascii : (at : ℕ) (front : List ℕ) (b : ℕ) (rest : List ℕ) → b < 128
    → source_of at (front ++ b ∷ rest) ≡ source_of at front ++ source_of (at + length front) (b ∷ rest)
source_of-before_ascii at front b rest ascii = by (source_of-AreSourceChars at (front ++ b ∷ rest)) front refl
  where
    nothing : (at : ℕ) → source_of at (b ∷ rest) ≡ source_of at [] ++ source_of (at + 0) (b ∷ rest)
    nothing at = ap₂ (λ l n. l ++ source_of n (b ∷ rest)) (sym (source_of-none at)) (let e : at ≡ at + 0 = omega arith in e)

    -- a character that begins before the ASCII byte ends before it
    ends_before : (c : ℕ) (front past : List ℕ) → 0 < length front → front ++ b ∷ rest ≡ encode_utf8 c ++ past → len_utf8 c ≤ length front
    ends_before c front past some parts = ⊎_elim
        (λ (over : length front < len_utf8 c).
        let bytes = front ++ b ∷ rest in
        let at_b : get_or bytes (length front) 0 ≡ b = get_or-append_seam front b rest 0 in
        let same : c ≡ b = inside_one c past bytes (length front) parts (omega (arith, length-encode c)) (omega arith) ∙ at_b in
        absurd (omega (arith, len_utf8_ascii c (omega arith))))
        (λ (within : len_utf8 c ≤ length front). within)
        (cases_lt (length front) (len_utf8 c))

    by : {at : ℕ} {bytes : List ℕ} {cs : List SourceChar} → AreSourceChars at bytes cs → (front : List ℕ)
        → bytes ≡ front ++ b ∷ rest → source_of at bytes
        ≡ source_of at front ++ source_of (at + length front) (b ∷ rest)
    by (AreSourceChars.no_bytes at) front parts = absurd (omega (arith, ap length parts, length-append front (b ∷ rest)))
    by (AreSourceChars.a_char at bytes c past cs scalar came read) [] parts = ap (source_of at) parts ∙ nothing at
    by (AreSourceChars.a_char at bytes c past cs scalar came read) (x ∷ front) parts =
        let whole = x ∷ front in
        let le : length (encode_utf8 c) ≤ length whole = omega (arith, length-encode c, ends_before c whole past (omega arith) (sym parts ∙ came)) in
        let cut = parts_after (encode_utf8 c) whole past (b ∷ rest) (sym parts ∙ came) le in
        let mid = cut.0 in
        let long : at + len_utf8 c + length mid ≡ at + length whole = omega (arith, ap length cut.1, length-append (encode_utf8 c) mid, length-encode c) in
        let first : SourceChar = record { char = c; start = at; end = at + len_utf8 c } in
        ap (source_of at) came ∙ source_of-char at c past scalar
        ∙ ap (λ l. first ∷ l) (by read mid cut.2 ∙ ap (λ n. source_of (at + len_utf8 c) mid ++ source_of n (b ∷ rest)) long)
        ∙ ap (λ l. l ++ source_of (at + length whole) (b ∷ rest)) (sym (ap (source_of at) cut.1 ∙ source_of-char at c mid scalar))
    by (AreSourceChars.a_byte at a past cs none read) [] parts = ap (source_of at) parts ∙ nothing at
    by (AreSourceChars.a_byte at a past cs none read) (x ∷ front) parts =
        let same : a ≡ x = ap (λ l. get_or l 0 0) parts in
        let later : past ≡ front ++ b ∷ rest = ap (drop 1) parts in
        let first : SourceChar = record { char = 0xFFFD; start = at; end = at + 1 } in
        let long : at + 1 + length front ≡ at + length (x ∷ front) = omega arith in
        let none' : StartsWithNoChar (x ∷ front) = no_char_sooner (x ∷ front) (b ∷ rest) (subst StartsWithNoChar parts none) in
        source_of-byte at a past none
        ∙ ap (λ l. first ∷ l) (by read front later ∙ ap (λ n. source_of (at + 1) front ++ source_of n (b ∷ rest)) long)
        ∙ ap (λ l. l ++ source_of (at + length (x ∷ front)) (b ∷ rest)) (sym (source_of-byte at x front none'))

-- an ASCII byte is a character by itself
pub source_of-ascii : (at b : ℕ) (rest : List ℕ) → b < 128 → source_of at (b ∷ rest) ≡ (record { char = b; start = at; end = at + 1 }) ∷ source_of (at + 1) rest
source_of-ascii at b rest ascii =
    let all : IsAscii (b ∷ []) = IsAscii-cons b [] ascii IsAscii-nil in
    source_of-text at (b ∷ []) rest (IsUtf8-from_ascii (b ∷ []) all)
    ∙ ap (λ cs. placed at cs ++ source_of (at + 1) rest) (chars-IsAscii (b ∷ []) all)
    ∙ ap (λ w. (record { char = b; start = at; end = at + w }) ∷ source_of (at + 1) rest) (len_utf8_ascii b ascii)

-- where no byte is this ASCII byte, no character is
pub source_of-has_none : (at b : ℕ) (bytes : List ℕ) → b < 0xFFFD → b < 128 → All (λ a. a ≢ b) bytes → All (λ c. c ≢ b) (chars_of (source_of at bytes))
source_of-has_none at b bytes other ascii none = by (source_of-AreSourceChars at bytes) none
  where
    IsOther : ℕ → Type 0
    IsOther a = a ≢ b

    by : {at : ℕ} {bytes : List ℕ} {cs : List SourceChar} → AreSourceChars at bytes cs → All IsOther bytes → All IsOther (chars_of cs)
    by (AreSourceChars.no_bytes at) none = All-nil IsOther
    by (AreSourceChars.a_char at bytes c rest cs scalar came read) none =
        All-cons IsOther c (chars_of cs)
        (λ same.
        let first : bytes ≡ b ∷ rest = came ∙ ap (λ d. encode_utf8 d ++ rest) same ∙ ap (λ l. l ++ rest) (encode_ascii b ascii) in
        All-head IsOther b rest (subst (All IsOther) first none) refl)
        (by read (subst (All IsOther)
        (ap (drop (len_utf8 c)) came ∙ drop_at (encode_utf8 c) rest (len_utf8 c) (length-encode c))
        (All-drop IsOther (len_utf8 c) bytes none)))
    by (AreSourceChars.a_byte at a rest cs nothing read) none =
        All-cons IsOther 0xFFFD (chars_of cs) (λ same. absurd (omega (arith, same)))
        (by read (All-tail IsOther a rest none))
