-- The tokens of spans of a text of simple characters, which is spelled byte for byte, are its first tokens.
use Rattle.std.proofs.Common.{◌≡◌, ◌⊎◌, ℕ, zero, suc, ◌+◌, ◌<◌, ◌≤◌, Bool, true, false, ◌&&◌, ◌==◌, if◌then◌else◌, List, [], ◌∷◌, ◌++◌, length, map, get_or, inl, inr, refl, sym, ap, ap₂, ◌∙◌, arith}
use Rattle.std.specs.Prelude.{◌/◌, ◌%◌, encode_utf8_all, chars, IsUtf8, replicate}
use Rattle.std.specs.Char.{encode_utf8, len_utf8}
use Rattle.std.proofs.lemmas.Bool.{cases_lt}
use Rattle.std.proofs.lemmas.List.{length-replicate}
use Rattle.std.proofs.lemmas.Str.{encode_ascii, length-encode, len_utf8_ascii, len_utf8_bounds, encodes-chars}
use Rattle.lic_kind.specs.declared.Kind.{Kind}
use Rattle.lic_kind.specs.declared.Kind.TheVariants as kind
use Rattle.lic_kind.specs.Kinds.{kind_of, is_word_kind, is_mark_kind}
use Rattle.lic_kind.specs.LineRules.{LineRules}
use Rattle.lic_trim.specs.declared.source.SourceChar.{SourceChar}
use Rattle.lic_trim.specs.Sources.{placed}
use Rattle.lic_lines.specs.declared.cell.Cell.{Cell}
use Rattle.lic_lines.specs.declared.cell.Cell.TheVariants.{Blank, Mark, Word}
use Rattle.lic_lines.specs.Cells.{cell_of}
use Rattle.lic_lines.specs.Streaks.{same_mark}
use Rattle.lic_lines.specs.Tokens.{tokens_after}
use Rattle.lic_lines.proofs.Gaps.{is_mark}
use Rattle.lic_letters.specs.Bytes as bytes
use Rattle.lic_columns.specs.Known.{known_of}
use Rattle.lic_columns.specs.Marks as taken
use Rattle.lic_letters.specs.Simple.{IsAlone, AreSimple, in_place, all_in_place}
use Rattle.lic_columns.specs.SpanTokens.{span_tokens}
use Rattle.lic_columns.specs.Tokens.{text_spans}
use Rattle.lic_columns.proofs.FirstTokens.{next}
use Rattle.lic_columns.proofs.Separators.{same_first, unmarked, is_gone, parted}
use Rattle.lic_letters.proofs.InPlace.{offsets_size}
use Rattle.lic_letters.proofs.FirstBytes.{Starts, encoded_two, encoded_three, encoded_four, starts}
use Rattle.lic_columns.proofs.FlagCells.{marks, mark_at, AreSame, kept_are}
use Rattle.lic_columns.proofs.LineTokens.{byte_char, mark_flag}
use Rattle.lic_columns.proofs.WideTokens.{pieces, exploded, IsOfWideCells, tokens_of_wide_cells}
use Rattle.lic_columns.proofs.WideTexts.{differs, more_of, more_bytes, size_is, wide_cells, shape_of, AsciiShape, PlainShape, MarkShape}

-- ---- the marks of a text, each byte by itself

abbrev dull_cell : ℕ → Bool → Cell
dull_cell b true = Mark (record { char = b; start = 0; end = 0 })
dull_cell b false = Blank

-- a mark for each byte in whose place a mark is spelled, known from others by the byte of the source
abbrev dull : List ℕ → List ℕ → List Cell
dull [] spelled = []
dull (b ∷ source) [] = []
dull (b ∷ source) (d ∷ spelled) = dull_cell b (bytes.is_mark d) ∷ dull source spelled

dull_mark : (b : ℕ) (t : Bool) → is_mark (dull_cell b t) ≡ t
dull_mark b true = refl
dull_mark b false = refl

dull_marks : (source spelled : List ℕ) → length source ≡ length spelled → marks (dull source spelled) ≡ map bytes.is_mark spelled
dull_marks [] [] e = refl
dull_marks [] (d ∷ spelled) e = absurd (omega (arith, e))
dull_marks (b ∷ source) [] e = absurd (omega (arith, e))
dull_marks (b ∷ source) (d ∷ spelled) e = ap₂ (λ t l. t ∷ l) (dull_mark b (bytes.is_mark d)) (dull_marks source spelled (omega (arith, e)))

dull_pair : (b c : ℕ) (t u : Bool) → ((is_mark (dull_cell b t) && is_mark (dull_cell c u)) && (b == c)) ≡ same_mark (dull_cell b t) (dull_cell c u)
dull_pair b c true true = refl
dull_pair b c true false = refl
dull_pair b c false u = refl

dull_last : (b : ℕ) (t v : Bool) → ((is_mark (dull_cell b t) && false) && v) ≡ same_mark (dull_cell b t) Blank
dull_last b true v = refl
dull_last b false v = refl

dull_at : (source spelled : List ℕ) → length source ≡ length spelled → (k : ℕ)
    → ((is_mark (get_or (dull source spelled) k Blank) && is_mark (get_or (dull source spelled) (suc k) Blank)) && (get_or source k 0 == get_or source (suc k) 0))
    ≡ same_mark (get_or (dull source spelled) k Blank) (get_or (dull source spelled) (suc k) Blank)
dull_at [] spelled e k = refl
dull_at (b ∷ source) [] e k = absurd (omega (arith, e))
dull_at (b ∷ []) (d ∷ spelled) e zero = dull_last b (bytes.is_mark d) (b == 0)
dull_at (b ∷ c ∷ source) (d ∷ []) e zero = absurd (omega (arith, e))
dull_at (b ∷ c ∷ source) (d ∷ f ∷ spelled) e zero = dull_pair b c (bytes.is_mark d) (bytes.is_mark f)
dull_at (b ∷ source) (d ∷ spelled) e (suc k) = dull_at source spelled (omega (arith, e)) k

dull_same : (source spelled : List ℕ) → length source ≡ length spelled → AreSame source (dull source spelled)
dull_same source spelled e = λ k.
    ap₂ (λ t u. (t && u) && (get_or source k 0 == get_or source (suc k) 0)) (mark_at (dull source spelled) k) (mark_at (dull source spelled) (suc k))
    ∙ dull_at source spelled e k

-- ---- the first byte of a character, and the others

abbrev byte_mark : ℕ → Cell
byte_mark b = dull_cell b true

-- a byte inside a character is not the same as one that begins the next
next_apart : (n : ℕ) (source spelled : List ℕ) → 128 ≤ n → n < 192 → Starts source → same_mark (byte_mark n) (next (dull source spelled)) ≡ false
next_apart n [] spelled low high h = refl
next_apart n (b ∷ source) [] low high h = refl
next_apart n (b ∷ source) (d ∷ spelled) low high h = go (bytes.is_mark d)
  where
    go : (t : Bool) → same_mark (byte_mark n) (dull_cell b t) ≡ false
    go false = refl
    go true = elim h [
      | inl small ↦ differs n b (λ e. omega (arith, e, small))
      | inr large ↦ differs n b (λ e. omega (arith, e, large))
    ]

-- ---- marks that are no separators

gone_none : (t a : Bool) → is_gone t false false a ≡ false
gone_none true a = refl
gone_none false a = refl

gone_first : (q : Bool) → is_gone false false q false ≡ false
gone_first true = refl
gone_first false = refl

gone_second : (q a : Bool) → is_gone false q false a ≡ false
gone_second true a = refl
gone_second false a = refl

parted-two : (two : Bool) (cells : List Cell) → parted two false cells ≡ parted false false cells
parted-two two [] = refl
parted-two true (x ∷ cells) = refl
parted-two false (x ∷ cells) = refl

kept_step : (t o : Bool) (s : SourceChar) (cells : List Cell) → is_gone t o (same_first (Mark s ∷ cells)) (same_first cells) ≡ false
    → marks (parted t o (Mark s ∷ cells)) ≡ true ∷ marks (parted o (same_first (Mark s ∷ cells)) cells)
kept_step t o s cells e = ap (λ g. is_mark (unmarked g (Mark s)) ∷ marks (parted o (same_first (Mark s ∷ cells)) cells)) e

module _ (t : Bool) (a b : SourceChar) (cells : List Cell) (first : same_mark (Mark a) (Mark b) ≡ false) where
  two_kept : same_mark (Mark b) (next cells) ≡ false → marks (parted t false (Mark a ∷ Mark b ∷ cells)) ≡ true ∷ true ∷ marks (parted false false cells)
  two_kept last =
      kept_step t false a (Mark b ∷ cells) (ap (λ h. is_gone t false h (same_first (Mark b ∷ cells))) first ∙ gone_none t (same_first (Mark b ∷ cells)))
      ∙ ap (λ h. true ∷ marks (parted false h (Mark b ∷ cells))) first
      ∙ ap (λ l. true ∷ l)
      (kept_step false false b cells (ap (λ h. is_gone false false h (same_first cells)) last ∙ gone_none false (same_first cells))
      ∙ ap (λ h. true ∷ marks (parted false h cells)) last)

  three_kept : (c : SourceChar) (others : List Cell) → cells ≡ Mark c ∷ others → same_mark (Mark c) (next others) ≡ false
      → marks (parted t false (Mark a ∷ Mark b ∷ cells)) ≡ true ∷ true ∷ true ∷ marks (parted false false others)
  three_kept c others is last =
      let q = same_mark (Mark b) (Mark c) in
      ap (λ l. marks (parted t false (Mark a ∷ Mark b ∷ l))) is
      ∙ kept_step t false a (Mark b ∷ Mark c ∷ others) (ap (λ h. is_gone t false h q) first ∙ gone_none t q)
      ∙ ap (λ h. true ∷ marks (parted false h (Mark b ∷ Mark c ∷ others))) first
      ∙ ap (λ l. true ∷ l)
      (kept_step false false b (Mark c ∷ others) (ap (λ h. is_gone false false q h) last ∙ gone_first q)
      ∙ ap (λ l. true ∷ l)
      (kept_step false q c others (ap (λ h. is_gone false q h (same_first others)) last ∙ gone_second q (same_first others))
      ∙ ap (λ h. true ∷ marks (parted q h others)) last
      ∙ ap (λ l. true ∷ marks l) (parted-two q others)))

-- ---- the marks of a character beside its cell

abbrev cells_at : ℕ → List ℕ → List Cell
cells_at at cs = map cell_of (placed at cs)

abbrev dull_of : List ℕ → List Cell
dull_of cs = dull (encode_utf8_all cs) (all_in_place cs)

-- the marks without separators, byte for byte and by characters, after two such tests
abbrev AreKept : Bool → Bool → ℕ → List ℕ → Type 0
AreKept t o at cs = marks (parted t o (dull_of cs)) ≡ marks (exploded (more_bytes cs) (parted t o (cells_at at cs)))

-- a mark is the same as the one before it only in ASCII
abbrev MayBeSame : Bool → List ℕ → Type 0
MayBeSame o [] = Unit {0}
MayBeSame o (c ∷ cs) = 128 ≤ c → o ≡ false

may_not : (cs : List ℕ) → MayBeSame false cs
may_not [] = tt
may_not (c ∷ cs) = λ big. refl

map-pieces : (x y : Cell) (n : ℕ) (rest others : List Cell) → is_mark x ≡ is_mark y → marks rest ≡ marks others
    → marks (pieces x n rest) ≡ marks (pieces y n others)
map-pieces x y zero rest others e h = h
map-pieces x y (suc n) rest others e h = ap₂ (λ t l. t ∷ l) e (map-pieces x y n rest others e h)

unmarked-none : (g : Bool) (x : Cell) → is_mark x ≡ false → is_mark (unmarked g x) ≡ false
unmarked-none g Blank h = refl
unmarked-none g (Word s) h = refl
unmarked-none g (Mark s) h = absurd cc

none_same : (x y : Cell) → is_mark x ≡ false → same_mark x y ≡ false
none_same Blank y h = refl
none_same (Word s) y h = refl
none_same (Mark s) y h = absurd cc

dull_blanks : (l t source spelled : List ℕ) → length l ≡ length t → ((k : ℕ) → k < length t → bytes.is_mark (get_or t k 0) ≡ false)
    → dull (l ++ source) (t ++ spelled) ≡ pieces Blank (length t) (dull source spelled)
dull_blanks [] [] source spelled e none = refl
dull_blanks [] (d ∷ t) source spelled e none = absurd (omega (arith, e))
dull_blanks (b ∷ l) [] source spelled e none = absurd (omega (arith, e))
dull_blanks (b ∷ l) (d ∷ t) source spelled e none =
    ap₂ (λ m r. dull_cell b m ∷ r) (none zero (omega arith)) (dull_blanks l t source spelled (omega (arith, e)) (λ k lt. none (suc k) (omega (arith, lt))))

blanks_parted : (t o : Bool) (n : ℕ) (rest : List Cell) → parted t o (pieces Blank (suc n) rest) ≡ pieces Blank (suc n) (parted false false rest)
blanks_parted t o zero rest = ap (λ l. Blank ∷ l) (parted-two o rest)
blanks_parted t o (suc n) rest = ap (λ l. Blank ∷ l) (blanks_parted o false n rest)

module _ (at c : ℕ) (cs : List ℕ) (later : (t o : Bool) → MayBeSame o cs → AreKept t o (at + len_utf8 c) cs) (t o : Bool) where
  abbrev x : Cell
  x = cell_of (byte_char at c)

  abbrev others : List Cell
  others = cells_at (at + len_utf8 c) cs

  -- a character that is no mark
  plain_kept : PlainShape c → AreKept t o at (c ∷ cs)
  plain_kept is =
      let m = more_of c in
      let size : length (in_place c) ≡ suc m = is.size ∙ size_is c in
      let none = is.none at in
      ap (λ l. marks (parted t o l))
      (dull_blanks (encode_utf8 c) (in_place c) (encode_utf8_all cs) (all_in_place cs) (length-encode c ∙ sym is.size) is.plain
      ∙ ap (λ n. pieces Blank n (dull_of cs)) size)
      ∙ ap marks (blanks_parted t o m (dull_of cs))
      ∙ map-pieces Blank (unmarked (is_gone t o (same_first (x ∷ others)) (same_first others)) x) (suc m) (parted false false (dull_of cs))
      (exploded (more_bytes cs) (parted o (same_first (x ∷ others)) others))
      (sym (unmarked-none (is_gone t o (same_first (x ∷ others)) (same_first others)) x none))
      (later false false (may_not cs)
      ∙ ap (λ l. marks (exploded (more_bytes cs) l)) (sym (parted-two o others))
      ∙ ap (λ h. marks (exploded (more_bytes cs) (parted o h others))) (sym (none_same x (next others) none)))

-- ---- the first character

some_first : (l : List ℕ) → 0 < length l → (b : ℕ) × (bs : List ℕ) × (l ≡ b ∷ bs)
some_first [] h = absurd (omega arith)
some_first (b ∷ bs) h = (b, bs, refl)

-- beyond ASCII it begins in a byte that no other has
pub wide_lead : (c : ℕ) → 128 ≤ c → (b : ℕ) × (bs : List ℕ) × (encode_utf8 c ≡ b ∷ bs) × (192 ≤ b)
wide_lead c big = elim (cases_lt c 2048) [
  | inl small ↦ (192 + c / 64, (128 + c % 64) ∷ [], encoded_two c big small, omega arith)
  | inr more ↦ elim (cases_lt c 65536) [
    | inl small ↦ (224 + c / 4096, (128 + c / 64 % 64) ∷ (128 + c % 64) ∷ [], encoded_three c more small, omega arith)
    | inr most ↦ (240 + c / 262144, (128 + c / 4096 % 64) ∷ (128 + c / 64 % 64) ∷ (128 + c % 64) ∷ [], encoded_four c most, omega arith)
  ]
]

in_place_size : (c : ℕ) → PlainShape c ⊎ MarkShape c → length (in_place c) ≡ len_utf8 c
in_place_size c wide = elim wide [
  | inl is ↦ is.size
  | inr is ↦ ap length is.own ∙ length-replicate (len_utf8 c) is.letter
]

pub is_big : (c : ℕ) → PlainShape c ⊎ MarkShape c → 128 ≤ c
is_big c wide = elim wide [
  | inl is ↦ is.big
  | inr is ↦ is.big
]

-- a mark of ASCII is not the same as a character beyond ASCII, byte by byte and by characters
module _ (c : ℕ) (small : c < 128) (s : SourceChar) (is : s.char ≡ c) where
  wide_byte : (d : ℕ) (cs : List ℕ) → PlainShape d ⊎ MarkShape d → same_mark (byte_mark c) (next (dull_of (d ∷ cs))) ≡ false
  wide_byte d cs wide =
      let lead = wide_lead d (is_big d wide) in
      let first = some_first (in_place d) (omega (arith, in_place_size d wide, (len_utf8_bounds d).0)) in
      ap₂ (λ l p. same_mark (byte_mark c) (next (dull (l ++ encode_utf8_all cs) (p ++ all_in_place cs)))) lead.2 first.2
      ∙ go lead.0 lead.3 (bytes.is_mark first.0)
    where
      go : (b : ℕ) → 192 ≤ b → (t : Bool) → same_mark (byte_mark c) (dull_cell b t) ≡ false
      go b large false = refl
      go b large true = differs c b (λ e. omega (arith, e, small, large))

  wide_char : (q d : ℕ) (cs : List ℕ) → 128 ≤ d → same_mark (Mark s) (next (cells_at q (d ∷ cs))) ≡ false
  wide_char q d cs big = go (kind_of d)
    where
      go : (k : Kind) → same_mark (Mark s) (if is_word_kind k then Word (byte_char q d) else (if is_mark_kind k then Mark (byte_char q d) else Blank)) ≡ false
      go kind.Blank = refl
      go kind.Dropped = refl
      go kind.Word = refl
      go kind.Mark = differs s.char d (λ e. omega (arith, e, is, small, big))

  ascii_char : (q d : ℕ) → d < 128 → same_mark (byte_mark c) (dull_cell d (bytes.is_mark d)) ≡ same_mark (Mark s) (cell_of (byte_char q d))
  ascii_char q d low = ap (λ m. same_mark (byte_mark c) (dull_cell d m)) (mark_flag d (byte_char q d) refl low) ∙ go (kind_of d)
    where
      go : (k : Kind)
          → same_mark (byte_mark c) (dull_cell d (is_mark (if is_word_kind k then Word (byte_char q d) else (if is_mark_kind k then Mark (byte_char q d) else Blank))))
          ≡ same_mark (Mark s) (if is_word_kind k then Word (byte_char q d) else (if is_mark_kind k then Mark (byte_char q d) else Blank))
      go kind.Blank = refl
      go kind.Dropped = refl
      go kind.Word = refl
      go kind.Mark = ap (λ n. n == d) (sym is)

  -- the next is the same mark byte by byte exactly if it is by characters
  next_same : (q : ℕ) (cs : List ℕ) → AreSimple cs → same_mark (byte_mark c) (next (dull_of cs)) ≡ same_mark (Mark s) (next (cells_at q cs))
  next_same q [] are = refl
  next_same q (d ∷ cs) are = elim (shape_of d are.0) [
    | inl ascii ↦
        ap₂ (λ l p. same_mark (byte_mark c) (next (dull (l ++ encode_utf8_all cs) (p ++ all_in_place cs)))) (encode_ascii d ascii.small) ascii.own
        ∙ ascii_char q d ascii.small
    | inr wide ↦ wide_byte d cs wide ∙ sym (wide_char q d cs (is_big d wide))
  ]

  next_may : (cs : List ℕ) → AreSimple cs → MayBeSame (same_mark (byte_mark c) (next (dull_of cs))) cs
  next_may [] are = tt
  next_may (d ∷ cs) are = λ big. next_same 0 (d ∷ cs) are ∙ wide_char 0 d cs big

alone_same : (c q : ℕ) (s : SourceChar) (cs : List ℕ) → s.char ≡ c → 128 ≤ c → kind_of c ≡ kind.Mark → IsAlone c cs → same_mark (Mark s) (next (cells_at q cs)) ≡ false
alone_same c q s [] is big mark alone = refl
alone_same c q s (d ∷ cs) is big mark alone = go (kind_of d)
  where
    go : (k : Kind) → same_mark (Mark s) (if is_word_kind k then Word (byte_char q d) else (if is_mark_kind k then Mark (byte_char q d) else Blank)) ≡ false
    go kind.Blank = refl
    go kind.Dropped = refl
    go kind.Word = refl
    go kind.Mark = differs s.char d (λ e. alone big mark (sym is ∙ e))

abbrev byte_source : ℕ → SourceChar
byte_source b = record { char = b; start = 0; end = 0 }

below_four : (c : ℕ) → len_utf8 c ≤ 3 → c < 65536
below_four c few = elim (cases_lt c 65536) [
  | inl small ↦ small
  | inr most ↦ absurd (omega (arith, few, length-encode c, ap length (encoded_four c most)))
]

-- the bytes of a quote or a dash beyond ASCII
pub record MarkBytes (c : ℕ) (cs : List ℕ) : Type 0 where
  pub kept : (t : Bool) → marks (parted t false (dull_of (c ∷ cs))) ≡ marks (pieces (byte_mark 0) (suc (more_of c)) (parted false false (dull_of cs)))
  pub first : same_first (dull_of (c ∷ cs)) ≡ false

mark_bytes : (c : ℕ) (cs : List ℕ) → MarkShape c → MarkBytes c cs
mark_bytes c cs is = elim (cases_lt c 2048) [
  | inl small ↦
      let size : len_utf8 c ≡ 2 = sym (length-encode c) ∙ ap length (encoded_two c is.big small) in
      let more : suc (more_of c) ≡ 2 = sym (size_is c) ∙ size in
      let own : in_place c ≡ is.letter ∷ is.letter ∷ [] = is.own ∙ ap (λ n. replicate n is.letter) size in
      let a = 192 + c / 64 in
      let b = 128 + c % 64 in
      let cells : dull_of (c ∷ cs) ≡ byte_mark a ∷ byte_mark b ∷ dull_of cs =
      ap₂ (λ l p. dull (l ++ encode_utf8_all cs) (p ++ all_in_place cs)) (encoded_two c is.big small) own
      ∙ ap (λ m. dull_cell a m ∷ dull_cell b m ∷ dull_of cs) is.mark in
      let apart : same_mark (byte_mark a) (byte_mark b) ≡ false = differs a b (λ e. omega (arith, e)) in
      record {
        kept = λ t. ap (λ l. marks (parted t false l)) cells
            ∙ two_kept t (byte_source a) (byte_source b) (dull_of cs) apart
            (next_apart b (encode_utf8_all cs) (all_in_place cs) (omega arith) (omega arith) (starts cs))
            ∙ ap (λ n. marks (pieces (byte_mark 0) n (parted false false (dull_of cs)))) (sym more);
        first = ap same_first cells ∙ apart;
      }
  | inr big ↦
      let few : c < 65536 = below_four c is.width in
      let size : len_utf8 c ≡ 3 = sym (length-encode c) ∙ ap length (encoded_three c big few) in
      let more : suc (more_of c) ≡ 3 = sym (size_is c) ∙ size in
      let own : in_place c ≡ is.letter ∷ is.letter ∷ is.letter ∷ [] = is.own ∙ ap (λ n. replicate n is.letter) size in
      let a = 224 + c / 4096 in
      let b = 128 + c / 64 % 64 in
      let d = 128 + c % 64 in
      let cells : dull_of (c ∷ cs) ≡ byte_mark a ∷ byte_mark b ∷ byte_mark d ∷ dull_of cs =
      ap₂ (λ l p. dull (l ++ encode_utf8_all cs) (p ++ all_in_place cs)) (encoded_three c big few) own
      ∙ ap (λ m. dull_cell a m ∷ dull_cell b m ∷ dull_cell d m ∷ dull_of cs) is.mark in
      let apart : same_mark (byte_mark a) (byte_mark b) ≡ false = differs a b (λ e. omega (arith, e)) in
      record {
        kept = λ t. ap (λ l. marks (parted t false l)) cells
            ∙ three_kept t (byte_source a) (byte_source b) (byte_mark d ∷ dull_of cs) apart (byte_source d) (dull_of cs) refl
            (next_apart d (encode_utf8_all cs) (all_in_place cs) (omega arith) (omega arith) (starts cs))
            ∙ ap (λ n. marks (pieces (byte_mark 0) n (parted false false (dull_of cs)))) (sym more);
        first = ap same_first cells ∙ apart;
      }
]

ascii_dull : (c : ℕ) (cs : List ℕ) → AsciiShape c → dull_of (c ∷ cs) ≡ dull_cell c (bytes.is_mark c) ∷ dull_of cs
ascii_dull c cs is = ap₂ (λ l p. dull (l ++ encode_utf8_all cs) (p ++ all_in_place cs)) (encode_ascii c is.small) is.own

plain_dull : (c : ℕ) (cs : List ℕ) → PlainShape c → dull_of (c ∷ cs) ≡ pieces Blank (suc (more_of c)) (dull_of cs)
plain_dull c cs is =
    dull_blanks (encode_utf8 c) (in_place c) (encode_utf8_all cs) (all_in_place cs) (length-encode c ∙ sym is.size) is.plain
    ∙ ap (λ n. pieces Blank n (dull_of cs)) (is.size ∙ size_is c)

first_same : (q : ℕ) (cs : List ℕ) → AreSimple cs → same_first (dull_of cs) ≡ same_first (cells_at q cs)
first_same q [] are = refl
first_same q (c ∷ cs) are = elim (shape_of c are.0) [
  | inl ascii ↦ ap same_first (ascii_dull c cs ascii)
      ∙ ap (λ m. same_mark (dull_cell c m) (next (dull_of cs))) (mark_flag c (byte_char q c) refl ascii.small) ∙ go ascii (kind_of c)
  | inr wide ↦ elim wide [
    | inl plain ↦ ap same_first (plain_dull c cs plain) ∙ sym (none_same (cell_of (byte_char q c)) (next (cells_at (q + len_utf8 c) cs)) (plain.none q))
    | inr mark ↦ (mark_bytes c cs mark).first
        ∙ sym (ap (λ x. same_mark x (next (cells_at (q + len_utf8 c) cs))) (mark.cell q)
        ∙ alone_same c (q + len_utf8 c) (byte_char q c) cs refl mark.big mark.kind are.1)
  ]
]
  where
    go : AsciiShape c → (k : Kind)
        → same_mark (dull_cell c (is_mark (if is_word_kind k then Word (byte_char q c) else (if is_mark_kind k then Mark (byte_char q c) else Blank)))) (next (dull_of cs))
        ≡ same_mark (if is_word_kind k then Word (byte_char q c) else (if is_mark_kind k then Mark (byte_char q c) else Blank)) (next (cells_at (q + len_utf8 c) cs))
    go ascii kind.Blank = refl
    go ascii kind.Dropped = refl
    go ascii kind.Word = refl
    go ascii kind.Mark = next_same c ascii.small (byte_char q c) refl (q + len_utf8 c) cs are.2

-- ---- all characters

unmarked-mark : (g : Bool) (s u : SourceChar) → is_mark (unmarked g (Mark s)) ≡ is_mark (unmarked g (Mark u))
unmarked-mark true s u = refl
unmarked-mark false s u = refl

module _ (at c : ℕ) (cs : List ℕ) (are : AreSimple (c ∷ cs)) (later : (t o : Bool) → MayBeSame o cs → AreKept t o (at + len_utf8 c) cs) (t o : Bool) where
  abbrev after : List Cell
  after = cells_at (at + len_utf8 c) cs

  abbrev ByCell : Cell → Cell → Type 0
  ByCell b y = marks (parted t o (b ∷ dull_of cs)) ≡ marks (exploded (0 ∷ more_bytes cs) (parted t o (y ∷ after)))

  other_cell : (y : Cell) → is_mark y ≡ false → ByCell Blank y
  other_cell y none =
      ap₂ (λ m l. m ∷ l) (sym (unmarked-none (is_gone t o (same_first (y ∷ after)) (same_first after)) y none))
      (later o false (may_not cs) ∙ ap (λ h. marks (exploded (more_bytes cs) (parted o h after))) (sym (none_same y (next after) none)))

  mark_cell : c < 128 → (s : SourceChar) → s.char ≡ c → ByCell (byte_mark c) (Mark s)
  mark_cell small s is =
      let h : same_first (byte_mark c ∷ dull_of cs) ≡ same_first (Mark s ∷ after) = next_same c small s is (at + len_utf8 c) cs are.2 in
      let a : same_first (dull_of cs) ≡ same_first after = first_same (at + len_utf8 c) cs are.2 in
      ap₂ (λ m l. m ∷ l)
      (ap₂ (λ u v. is_mark (unmarked (is_gone t o u v) (byte_mark c))) h a
      ∙ unmarked-mark (is_gone t o (same_first (Mark s ∷ after)) (same_first after)) (byte_source c) s)
      (later o (same_first (byte_mark c ∷ dull_of cs)) (next_may c small s is cs are.2)
      ∙ ap (λ u. marks (exploded (more_bytes cs) (parted o u after))) h)

  ascii_kept : AsciiShape c → AreKept t o at (c ∷ cs)
  ascii_kept is =
      let none : more_of c ≡ 0 = omega (arith, len_utf8_ascii c is.small) in
      ap (λ l. marks (parted t o l)) (ascii_dull c cs is)
      ∙ ap (λ m. marks (parted t o (dull_cell c m ∷ dull_of cs))) (mark_flag c (byte_char at c) refl is.small)
      ∙ go (kind_of c)
      ∙ ap (λ m. marks (exploded (m ∷ more_bytes cs) (parted t o (cell_of (byte_char at c) ∷ after)))) (sym none)
    where
      go : (k : Kind)
          → ByCell (dull_cell c (is_mark (if is_word_kind k then Word (byte_char at c) else (if is_mark_kind k then Mark (byte_char at c) else Blank))))
          (if is_word_kind k then Word (byte_char at c) else (if is_mark_kind k then Mark (byte_char at c) else Blank))
      go kind.Blank = other_cell Blank refl
      go kind.Dropped = other_cell Blank refl
      go kind.Word = other_cell (Word (byte_char at c)) refl
      go kind.Mark = mark_cell is.small (byte_char at c) refl

  mark_kept : MarkShape c → o ≡ false → AreKept t o at (c ∷ cs)
  mark_kept is first =
      let s = byte_char at c in
      let same = alone_same c (at + len_utf8 c) s cs refl is.big is.kind are.1 in
      ap (λ u. marks (parted t u (dull_of (c ∷ cs)))) first
      ∙ (mark_bytes c cs is).kept t
      ∙ map-pieces (byte_mark 0) (Mark s) (suc (more_of c)) (parted false false (dull_of cs)) (exploded (more_bytes cs) (parted false false after)) refl
      (later false false (may_not cs))
      ∙ sym (ap (λ y. marks (exploded (more_bytes (c ∷ cs)) (parted t o (y ∷ after)))) (is.cell at)
      ∙ ap (λ u. marks (exploded (more_bytes (c ∷ cs)) (parted t u (Mark s ∷ after)))) first
      ∙ ap (λ h. marks (pieces (unmarked (is_gone t false h (same_first after)) (Mark s)) (suc (more_of c)) (exploded (more_bytes cs) (parted false h after)))) same
      ∙ ap (λ g. marks (pieces (unmarked g (Mark s)) (suc (more_of c)) (exploded (more_bytes cs) (parted false false after)))) (gone_none t (same_first after)))

  char_kept : MayBeSame o (c ∷ cs) → AreKept t o at (c ∷ cs)
  char_kept may = elim (shape_of c are.0) [
    | inl ascii ↦ ascii_kept ascii
    | inr wide ↦ elim wide [
      | inl plain ↦ plain_kept at c cs later t o plain
      | inr mark ↦ mark_kept mark (may mark.big)
    ]
  ]

all_kept : (at : ℕ) (cs : List ℕ) → AreSimple cs → (t o : Bool) → MayBeSame o cs → AreKept t o at cs
all_kept at [] are t o may = refl
all_kept at (c ∷ cs) are t o may = char_kept at c cs are (all_kept (at + len_utf8 c) cs are.2) t o may

kept_is : (at : ℕ) (cs : List ℕ) → AreSimple cs
    → taken.without_separators (encode_utf8_all cs) (marks (exploded (more_bytes cs) (cells_at at cs)))
    ≡ marks (exploded (more_bytes cs) (parted false false (cells_at at cs)))
kept_is at cs are =
    let size = offsets_size cs are in
    ap (taken.without_separators (encode_utf8_all cs)) (sym (dull_marks (encode_utf8_all cs) (all_in_place cs) size ∙ (wide_cells at cs are).mark))
    ∙ kept_are (encode_utf8_all cs) (dull_of cs) (dull_same (encode_utf8_all cs) (all_in_place cs) size)
    ∙ all_kept at cs are false false (may_not cs)

pub simple_tokens_are : (rules : LineRules) (after_blank : Bool) (at : ℕ) (text : List ℕ) → IsUtf8 text → AreSimple (chars text)
    → span_tokens after_blank at at (known_of (all_in_place (chars text))).letters
    (text_spans rules.separators at text (known_of (all_in_place (chars text))))
    ≡ tokens_after rules after_blank (placed at (chars text))
simple_tokens_are rules after_blank at text utf8 are =
    let cs = chars text in
    let cells = cells_at at cs in
    let spelled = all_in_place cs in
    let wide = wide_cells at cs are in
    let is : IsOfWideCells at text spelled (more_bytes cs) cells (known_of spelled) = record {
      fit = wide.fit;
      letters = refl;
      word = wide.word;
      mark = wide.mark;
      kept = ap (λ l. taken.without_separators l (marks (exploded (more_bytes cs) cells))) (sym (encodes-chars text utf8)) ∙ kept_is at cs are;
    } in
    tokens_of_wide_cells at text spelled (more_bytes cs) cells (known_of spelled) is rules after_blank
