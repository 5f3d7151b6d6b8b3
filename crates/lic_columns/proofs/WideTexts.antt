-- The tokens of spans of a text of simple characters, which is spelled byte for byte, are its first tokens.
use Rattle.std.proofs.Common.{◌≡◌, ◌⊎◌, ℕ, zero, suc, ◌+◌, ◌-◌, ◌<◌, ◌≤◌, Bool, true, false, ◌&&◌, ◌||◌, ◌==◌, if◌then◌else◌, List, [], ◌∷◌, ◌++◌, length, take, drop, map, get_or, inl, inr, refl, sym, ap, ap₂, ◌∙◌, arith, subst, eqb-true}
use Rattle.std.specs.Prelude.{encode_utf8_all, replicate, nat_lt}
use Rattle.std.specs.Char.{len_utf8}
use Rattle.std.specs.List.{AllByRecursion}
use Rattle.std.proofs.lemmas.Bool.{cases_lt, lt-ltb, cond-true}
use Rattle.std.proofs.lemmas.List.{length-append}
use Rattle.std.proofs.lemmas.Str.{encode_ascii, len_utf8_ascii, len_utf8_bounds}
use Rattle.std.proofs.Math.Seq.{take-append_seam, drop-append_seam}
use Rattle.lic_kind.specs.declared.Kind.TheVariants as kind
use Rattle.lic_kind.specs.Kinds.{kind_of, is_word_kind, is_mark_kind, is_quote, is_dash, spell}
use Rattle.lic_kind.proofs.KindLemmas.{is_dash-quote, kind_of-dash, kind_of-quote}
use Rattle.lic_kind.proofs.LetterLemmas.{spell-dash, spell-quote}
use Rattle.lic_trim.specs.Sources.{placed}
use Rattle.lic_lines.specs.declared.cell.Cell.{Cell}
use Rattle.lic_lines.specs.declared.cell.Cell.TheVariants.{Blank, Mark, Word}
use Rattle.lic_lines.specs.Cells.{cell_of}
use Rattle.lic_lines.specs.Streaks.{same_family}
use Rattle.lic_lines.proofs.Gaps.{is_word, is_mark}
use Rattle.lic_letters.specs.Bytes as bytes
use Rattle.lic_letters.specs.Bytes.{letter}
use Rattle.lic_columns.specs.Marks.{is_joining}
use Rattle.lic_letters.specs.Simple.{IsOwnLetter, IsSimpleLetter, IsSimpleMark, IsSimple, AreSimple, in_place, all_in_place}
use Rattle.lic_columns.proofs.SpanLemmas.{CellFits}
use Rattle.lic_columns.proofs.FlagCells.{words, marks}
use Rattle.lic_letters.proofs.InPlace.{letter_is, letter_in_place, blank_in_place, mark_in_place, size-replicate, or-true}
use Rattle.lic_columns.proofs.LineTokens.{byte_char, byte_fits, word_flag, mark_flag}
use Rattle.lic_columns.proofs.TextLemmas.{apart_byte}
use Rattle.lic_columns.proofs.WideTokens.{IsWide, WideFit, pieces, exploded}

pub differs : (a n : ℕ) → (a ≡ n → ⊥) → (a == n) ≡ false
differs a n h = go (a == n) refl
  where
    go : (t : Bool) → (a == n) ≡ t → t ≡ false
    go false e = refl
    go true e = absurd (h (eqb-true a n e))

-- ---- bytes of words that are their own letters

own_at : (l : List ℕ) → AllByRecursion IsOwnLetter l → (k : ℕ) → k < length l → IsOwnLetter (get_or l k 0)
own_at [] h k lt = absurd (omega arith)
own_at (b ∷ bs) h zero lt = h.0
own_at (b ∷ bs) h (suc k) lt = own_at bs h.1 k (omega arith)

pub own_letters : (l : List ℕ) → AllByRecursion IsOwnLetter l → map letter l ≡ l
own_letters [] h = refl
own_letters (b ∷ bs) h = ap₂ (λ x l. x ∷ l) h.0.1 (own_letters bs h.1)

word_mark : (b : ℕ) → bytes.is_word b ≡ true → bytes.is_mark b ≡ false
word_mark b word = ap (λ t. t && bytes.is_mark b) (sym word) ∙ apart_byte b

quote_word : bytes.is_word 0x27 ≡ false
unfolding kind_of
quote_word = refl

dash_word : bytes.is_word 0x2D ≡ false
unfolding kind_of
dash_word = refl

no_word : (b n : ℕ) → bytes.is_word b ≡ true → bytes.is_word n ≡ false → b ≡ n → ⊥
no_word b n word none same = let clash : true ≡ false = sym word ∙ ap bytes.is_word same ∙ none in cc

own_plain : (b : ℕ) → IsOwnLetter b → is_joining (letter b) ≡ false
own_plain b is =
    ap is_joining is.1
    ∙ ap₂ (λ t u. t || u) (differs b 0x27 (no_word b 0x27 is.0 quote_word)) (differs b 0x2D (no_word b 0x2D is.0 dash_word))

first_plain : (l rest : List ℕ) → AllByRecursion IsOwnLetter l → 0 < length l → is_joining (letter (get_or (l ++ rest) 0 0)) ≡ false
first_plain [] rest h some = absurd (omega arith)
first_plain (b ∷ bs) rest h some = own_plain b h.0

-- ---- texts

-- the cells of characters, which are spelled byte for byte, fit these bytes, and so do their flags
pub record AreWideCells (at : ℕ) (spelled ms : List ℕ) (cells : List Cell) : Type 0 where
  pub fit : WideFit at spelled ms cells
  pub word : map bytes.is_word spelled ≡ words (exploded ms cells)
  pub mark : map bytes.is_mark spelled ≡ marks (exploded ms cells)

-- ---- a character of ASCII

byte_wide : (p b : ℕ) (text : List ℕ) (x : Cell) → CellFits p b x → IsWide p 0 (b ∷ text) x
byte_wide p b text Blank fits = tt
byte_wide p b text (Word s) fits = record {
  start = fits.byte.start;
  end = omega (arith, fits.byte.end);
  text = fits.byte.text;
  plain = fits.plain;
}
byte_wide p b text (Mark s) fits = record {
  start = fits.byte.start;
  end = omega (arith, fits.byte.end);
  text = fits.byte.text;
  mark = record { quote = ap is_quote fits.char ∙ fits.quote; dash = ap is_dash fits.char ∙ fits.dash };
  each = λ i lt. let e : i ≡ 0 = omega arith in ap (λ k. letter (get_or (b ∷ text) k 0)) e;
  joins = λ lt. absurd (omega arith);
}

ascii_first : (at c : ℕ) (spelled ms : List ℕ) (cells : List Cell) → c < 128 → AreWideCells (at + len_utf8 c) spelled ms cells
    → AreWideCells at (c ∷ spelled) (0 ∷ ms) (cell_of (byte_char at c) ∷ cells)
ascii_first at c spelled ms cells small rest =
    let one : at + len_utf8 c ≡ at + suc 0 = omega (arith, len_utf8_ascii c small) in
    let fits = byte_fits at c small in
    record {
      fit = (omega arith, byte_wide at c spelled (cell_of (byte_char at c)) fits, subst (λ n. WideFit n spelled ms cells) one rest.fit);
      word = ap₂ (λ t l. t ∷ l) (word_flag c (byte_char at c) refl small) rest.word;
      mark = ap₂ (λ t l. t ∷ l) (mark_flag c (byte_char at c) refl small) rest.mark;
    }

-- ---- a character beyond ASCII

run_flags : (f : Cell → Bool) (g : ℕ → Bool) (x : Cell) (l spelled : List ℕ) (rest : List Cell) → ((k : ℕ) → k < length l → g (get_or l k 0) ≡ f x)
    → map g spelled ≡ map f rest → map g (l ++ spelled) ≡ map f (pieces x (length l) rest)
run_flags f g x [] spelled rest is e = e
run_flags f g x (b ∷ bs) spelled rest is e =
    ap₂ (λ t l. t ∷ l) (is zero (omega arith)) (run_flags f g x bs spelled rest (λ k lt. is (suc k) (omega (arith, lt))) e)

-- the bytes in place of a character, beside its cell
pub record IsRun (at m : ℕ) (spelled : List ℕ) (x : Cell) : Type 0 where
  pub size : length spelled ≡ suc m
  pub wide : (rest : List ℕ) → IsWide at m (spelled ++ rest) x
  pub words : (k : ℕ) → k < length spelled → bytes.is_word (get_or spelled k 0) ≡ is_word x
  pub marks : (k : ℕ) → k < length spelled → bytes.is_mark (get_or spelled k 0) ≡ is_mark x

run_first : (at m : ℕ) (t spelled ms : List ℕ) (x : Cell) (cells : List Cell) → IsRun at m t x → AreWideCells (at + suc m) spelled ms cells
    → AreWideCells at (t ++ spelled) (m ∷ ms) (x ∷ cells)
run_first at m t spelled ms x cells run rest =
    let more = exploded ms cells in
    let past : drop (suc m) (t ++ spelled) ≡ spelled = ap (λ n. drop n (t ++ spelled)) (sym run.size) ∙ drop-append_seam t spelled in
    record {
      fit = (
        omega (arith, length-append t spelled, run.size),
        run.wide spelled,
        subst (λ r. WideFit (at + suc m) r ms cells) (sym past) rest.fit,
      );
      word = run_flags is_word bytes.is_word x t spelled more run.words rest.word ∙ ap (λ n. map is_word (pieces x n more)) run.size;
      mark = run_flags is_mark bytes.is_mark x t spelled more run.marks rest.mark ∙ ap (λ n. map is_mark (pieces x n more)) run.size;
    }

-- how many bytes more than one it has
abbrev pub more_of : ℕ → ℕ
more_of c = len_utf8 c - 1

pub size_is : (c : ℕ) → len_utf8 c ≡ suc (more_of c)
size_is c = omega (arith, (len_utf8_bounds c).0)

-- ---- a letter

letter_cell : (c at : ℕ) → kind_of c ≡ kind.Word → cell_of (byte_char at c) ≡ Word (byte_char at c)
letter_cell c at is = ap (λ k. if is_word_kind k then Word (byte_char at c) else (if is_mark_kind k then Mark (byte_char at c) else Blank)) is

letter_run : (at c : ℕ) → IsSimpleLetter c → IsRun at (more_of c) (encode_utf8_all (spell c)) (Word (byte_char at c))
letter_run at c is =
    let t = encode_utf8_all (spell c) in
    let size : length t ≡ suc (more_of c) = is.width ∙ size_is c in
    record {
      size = size;
      wide = λ rest. record {
        start = refl;
        end = ap (λ n. at + n) (size_is c);
        text = sym (own_letters t is.own) ∙ ap (map letter) (sym (take-append_seam t rest) ∙ ap (λ n. take n (t ++ rest)) size);
        plain = first_plain t rest is.own (omega (arith, size));
      };
      words = λ k lt. (own_at t is.own k lt).0;
      marks = λ k lt. word_mark (get_or t k 0) (own_at t is.own k lt).0;
    }

-- ---- white space

blank_cell_is : (c at : ℕ) → kind_of c ≡ kind.Blank → cell_of (byte_char at c) ≡ Blank
blank_cell_is c at is = ap (λ k. if is_word_kind k then Word (byte_char at c) else (if is_mark_kind k then Mark (byte_char at c) else Blank)) is

space_word : bytes.is_word 0x20 ≡ false
unfolding kind_of
space_word = refl

space_mark : bytes.is_mark 0x20 ≡ false
unfolding kind_of
space_mark = refl

replicated : (n v k : ℕ) → k < n → get_or (replicate n v) k 0 ≡ v
replicated zero v k lt = absurd (omega arith)
replicated (suc n) v zero lt = refl
replicated (suc n) v (suc k) lt = replicated n v k (omega arith)

blank_run : (at c : ℕ) → IsRun at (more_of c) (replicate (len_utf8 c) 0x20) Blank
blank_run at c = record {
  size = size-replicate (len_utf8 c) 0x20 ∙ size_is c;
  wide = λ rest. tt;
  words = λ k lt. ap bytes.is_word (replicated (len_utf8 c) 0x20 k (omega (arith, lt, size-replicate (len_utf8 c) 0x20))) ∙ space_word;
  marks = λ k lt. ap bytes.is_mark (replicated (len_utf8 c) 0x20 k (omega (arith, lt, size-replicate (len_utf8 c) 0x20))) ∙ space_mark;
}

-- ---- quotes and dashes

mark_cell_is : (c at : ℕ) → kind_of c ≡ kind.Mark → cell_of (byte_char at c) ≡ Mark (byte_char at c)
mark_cell_is c at is = ap (λ k. if is_word_kind k then Word (byte_char at c) else (if is_mark_kind k then Mark (byte_char at c) else Blank)) is

-- a letter of ASCII that is a mark of its own
pub record IsMarkOfAscii (l : ℕ) : Type 0 where
  pub small : l < 128
  pub letter : letter l ≡ l
  pub word : bytes.is_word l ≡ false
  pub mark : bytes.is_mark l ≡ true

quote_is : IsMarkOfAscii 0x27
unfolding kind_of is_quote
quote_is = record {
  small = omega arith;
  letter = letter_is 0x27 0x27 (omega arith) (spell-quote 0x27 refl) refl;
  word = refl;
  mark = refl;
}

dash_is : IsMarkOfAscii 0x2D
unfolding kind_of is_dash
dash_is = record {
  small = omega arith;
  letter = letter_is 0x2D 0x2D (omega arith) (spell-dash 0x2D refl) refl;
  word = refl;
  mark = refl;
}

first_replicated : (m l : ℕ) (rest : List ℕ) (i : ℕ) → i < suc m → get_or (replicate (suc m) l ++ rest) i 0 ≡ l
first_replicated m l rest zero lt = refl
first_replicated zero l rest (suc i) lt = absurd (omega arith)
first_replicated (suc m) l rest (suc i) lt = first_replicated m l rest i (omega arith)

mark_run : (at c l : ℕ) → IsMarkOfAscii l → spell c ≡ l ∷ [] → is_quote c ≡ (l == 0x27) → is_dash c ≡ (l == 0x2D)
    → same_family (Mark (byte_char at c)) (Mark (byte_char at c)) ≡ true → IsRun at (more_of c) (replicate (len_utf8 c) l) (Mark (byte_char at c))
mark_run at c l is spelled quote dash family =
    let m = more_of c in
    let size : len_utf8 c ≡ suc m = size_is c in
    let run : IsRun at m (replicate (suc m) l) (Mark (byte_char at c)) = record {
      size = size-replicate (suc m) l;
      wide = λ rest. record {
        start = refl;
        end = ap (λ n. at + n) size;
        text = ap encode_utf8_all spelled ∙ ap (λ x. x ++ []) (encode_ascii l is.small) ∙ ap (λ x. x ∷ []) (sym is.letter);
        mark = record { quote = quote ∙ ap (λ x. x == 0x27) (sym is.letter); dash = dash ∙ ap (λ x. x == 0x2D) (sym is.letter) };
        each = λ i lt. ap letter (first_replicated m l rest i lt);
        joins = λ lt. family;
      };
      words = λ k lt. ap bytes.is_word (replicated (suc m) l k (omega (arith, lt, size-replicate (suc m) l))) ∙ is.word;
      marks = λ k lt. ap bytes.is_mark (replicated (suc m) l k (omega (arith, lt, size-replicate (suc m) l))) ∙ is.mark;
    } in
    subst (λ n. IsRun at m (replicate n l) (Mark (byte_char at c))) (sym size) run

-- its letter, and what is known of it
pub record IsJoined (at c : ℕ) : Type 0 where
  pub kind : kind_of c ≡ kind.Mark
  pub letter : ℕ
  pub spelled : spell c ≡ letter ∷ []
  pub run : IsRun at (more_of c) (replicate (len_utf8 c) letter) (Mark (byte_char at c))
  pub mark : bytes.is_mark letter ≡ true

pub joined_mark : (at c : ℕ) → IsSimpleMark c → IsJoined at c
joined_mark at c is = elim is.joins [
  | inl quote ↦
      let no_dash = is_dash-quote c quote in
      record {
        kind = kind_of-quote c quote;
        letter = 0x27;
        spelled = spell-quote c quote;
        run = mark_run at c 0x27 quote_is (spell-quote c quote) quote no_dash (ap (λ t. (t && t) || (is_dash c && is_dash c)) quote);
        mark = quote_is.mark;
      }
  | inr dash ↦
      let no_quote : is_quote c ≡ false = go (is_quote c) refl dash in
      record {
        kind = kind_of-dash c dash;
        letter = 0x2D;
        spelled = spell-dash c dash;
        run = mark_run at c 0x2D dash_is (spell-dash c dash) no_quote dash
            (ap (λ t. (is_quote c && is_quote c) || (t && t)) dash ∙ or-true (is_quote c && is_quote c));
        mark = dash_is.mark;
      }
]
  where
    go : (t : Bool) → is_quote c ≡ t → is_dash c ≡ true → t ≡ false
    go false e dash = refl
    go true e dash = absurd (let clash : false ≡ true = sym (is_dash-quote c e) ∙ dash in cc)

-- ---- all characters of a text

abbrev pub more_bytes : List ℕ → List ℕ
more_bytes = map more_of

-- the cells of one character before those of others
abbrev StepsTo : ℕ → ℕ → List ℕ → Type 0
StepsTo at c cs = AreWideCells at (all_in_place (c ∷ cs)) (more_bytes (c ∷ cs)) (map cell_of (placed at (c ∷ cs)))

module _ (at c : ℕ) (cs : List ℕ)
    (rest : AreWideCells (at + len_utf8 c) (all_in_place cs) (more_bytes cs) (map cell_of (placed (at + len_utf8 c) cs))) where
  abbrev others : List Cell
  others = map cell_of (placed (at + len_utf8 c) cs)

  small_step : c < 128 → StepsTo at c cs
  small_step small =
      let none : more_of c ≡ 0 = omega (arith, len_utf8_ascii c small) in
      let own : in_place c ≡ c ∷ [] = cond-true (nat_lt c 128) _ _ (lt-ltb c 128 small) in
      subst (λ l. AreWideCells at (l ++ all_in_place cs) (more_bytes (c ∷ cs)) (cell_of (byte_char at c) ∷ others)) (sym own)
      (subst (λ m. AreWideCells at (c ∷ all_in_place cs) (m ∷ more_bytes cs) (cell_of (byte_char at c) ∷ others)) (sym none)
      (ascii_first at c (all_in_place cs) (more_bytes cs) others small rest))

  run_step : (t : List ℕ) (x : Cell) → in_place c ≡ t → cell_of (byte_char at c) ≡ x → IsRun at (more_of c) t x → StepsTo at c cs
  run_step t x offset cell run =
      let next : at + len_utf8 c ≡ at + suc (more_of c) = ap (λ n. at + n) (size_is c) in
      let here = subst (λ n. AreWideCells n (all_in_place cs) (more_bytes cs) others) next rest in
      subst (λ l. AreWideCells at (l ++ all_in_place cs) (more_bytes (c ∷ cs)) (cell_of (byte_char at c) ∷ others)) (sym offset)
      (subst (λ y. AreWideCells at (t ++ all_in_place cs) (more_bytes (c ∷ cs)) (y ∷ others)) (sym cell)
      (run_first at (more_of c) t (all_in_place cs) (more_bytes cs) x others run here))

  mark_step : 128 ≤ c → IsSimpleMark c → StepsTo at c cs
  mark_step big is =
      let j = joined_mark at c is in
      run_step (replicate (len_utf8 c) j.letter) (Mark (byte_char at c)) (mark_in_place c j.letter big j.kind j.spelled) (mark_cell_is c at j.kind) j.run

  step : IsSimple c → StepsTo at c cs
  step simple = elim (cases_lt c 128) [
    | inl small ↦ small_step small
    | inr big ↦ elim simple [
      | inl small ↦ small_step small
      | inr other ↦ elim other [
        | inl is ↦ run_step (encode_utf8_all (spell c)) (Word (byte_char at c)) (letter_in_place c big is.word) (letter_cell c at is.word) (letter_run at c is)
        | inr more ↦ elim more [
          | inl is ↦ run_step (replicate (len_utf8 c) 0x20) Blank (blank_in_place c big is) (blank_cell_is c at is) (blank_run at c)
          | inr is ↦ mark_step big is
        ]
      ]
    ]
  ]

pub wide_cells : (at : ℕ) (cs : List ℕ) → AreSimple cs → AreWideCells at (all_in_place cs) (more_bytes cs) (map cell_of (placed at cs))
wide_cells at [] are = record { fit = refl; word = refl; mark = refl }
wide_cells at (c ∷ cs) are = step at c cs (wide_cells (at + len_utf8 c) cs are.2) are.0

-- ---- the shape of a character

pub record AsciiShape (c : ℕ) : Type 0 where
  pub small : c < 128
  pub own : in_place c ≡ c ∷ []

-- beyond ASCII, and no mark
pub record PlainShape (c : ℕ) : Type 0 where
  pub big : 128 ≤ c
  pub none : (at : ℕ) → is_mark (cell_of (byte_char at c)) ≡ false
  pub size : length (in_place c) ≡ len_utf8 c
  pub plain : (k : ℕ) → k < length (in_place c) → bytes.is_mark (get_or (in_place c) k 0) ≡ false

-- a quote or a dash beyond ASCII
pub record MarkShape (c : ℕ) : Type 0 where
  pub big : 128 ≤ c
  pub width : len_utf8 c ≤ 3
  pub kind : kind_of c ≡ kind.Mark
  pub cell : (at : ℕ) → cell_of (byte_char at c) ≡ Mark (byte_char at c)
  pub letter : ℕ
  pub own : in_place c ≡ replicate (len_utf8 c) letter
  pub mark : bytes.is_mark letter ≡ true

abbrev pub Shape : ℕ → Type 0
Shape c = AsciiShape c ⊎ PlainShape c ⊎ MarkShape c

pub mark_shape : (c : ℕ) → 128 ≤ c → IsSimpleMark c → MarkShape c
mark_shape c big is =
    let j = joined_mark 0 c is in
    record {
      big = big;
      width = is.width;
      kind = j.kind;
      cell = λ at. mark_cell_is c at j.kind;
      letter = j.letter;
      own = mark_in_place c j.letter big j.kind j.spelled;
      mark = j.mark;
    }

plain_shape : (c : ℕ) (t : List ℕ) (x : ℕ → Cell) → 128 ≤ c → in_place c ≡ t → ((at : ℕ) → cell_of (byte_char at c) ≡ x at) → ((at : ℕ) → is_mark (x at) ≡ false)
    → IsRun 0 (more_of c) t (x 0) → PlainShape c
plain_shape c t x big own cell none run =
    let plain : (k : ℕ) → k < length t → bytes.is_mark (get_or t k 0) ≡ false = λ k lt. run.marks k lt ∙ none 0 in
    record {
      big = big;
      none = λ at. ap is_mark (cell at) ∙ none at;
      size = ap length own ∙ run.size ∙ sym (size_is c);
      plain = subst (λ l. (k : ℕ) → k < length l → bytes.is_mark (get_or l k 0) ≡ false) (sym own) plain;
    }

pub shape_of : (c : ℕ) → IsSimple c → Shape c
shape_of c simple = elim (cases_lt c 128) [
  | inl small ↦ inl (record { small = small; own = cond-true (nat_lt c 128) _ _ (lt-ltb c 128 small) })
  | inr big ↦ elim simple [
    | inl small ↦ absurd (omega (arith, small, big))
    | inr other ↦ elim other [
      | inl is ↦ inr (inl (plain_shape c (encode_utf8_all (spell c)) (λ at. Word (byte_char at c)) big (letter_in_place c big is.word)
          (λ at. letter_cell c at is.word) (λ at. refl) (letter_run 0 c is)))
      | inr more ↦ elim more [
        | inl is ↦ inr (inl (plain_shape c (replicate (len_utf8 c) 0x20) (λ at. Blank) big (blank_in_place c big is)
            (λ at. blank_cell_is c at is) (λ at. refl) (blank_run 0 c)))
        | inr is ↦ inr (inr (mark_shape c big is))
      ]
    ]
  ]
]
