-- The first tokens of cells, cell by cell.
use Rattle.std.proofs.Common.{◌≡◌, ℕ, Bool, true, false, ◌||◌, List, [], ◌∷◌, ◌++◌, refl, sym, ap, ◌∙◌, ⊎_elim, append_assoc}
use Rattle.std.specs.Prelude.{encode_utf8_all}
use Rattle.std.specs.Char.{encode_utf8}
use Rattle.std.specs.List.{flat_map}
use Rattle.std.proofs.lemmas.Bool.{cases_Bool, cond-true, cond-false}
use Rattle.lic_kind.specs.Kinds.{spell}
use Rattle.lic_trim.specs.Texts.{groups, join_group}
use Rattle.lic_trim.specs.declared.source.SourceChar.{SourceChar}
use Rattle.lic_lines.specs.declared.cell.Cell.{Cell}
use Rattle.lic_lines.specs.declared.cell.Cell.TheVariants.{Blank, Mark, Word}
use Rattle.lic_lines.specs.Streaks.{same_family, end_after, joined, with_joined}
use Rattle.lic_lines.specs.Tokens.{Token, both_words, letters_of, token_of, tokens_from}
use Rattle.lic_lines.proofs.GroupLemmas.{join_alone, groups_head}
use Rattle.lic_lines.proofs.Gaps.{is_word, with_joined-at}

-- the tokens of cells, where a blank comes before them or does not
abbrev pub cell_tokens : Bool → List Cell → List Token
cell_tokens after_blank cells = tokens_from after_blank (groups both_words (with_joined cells))

-- and of cells of which none is to be joined
abbrev plain_tokens : Bool → List Cell → List Token
plain_tokens after_blank cells = tokens_from after_blank (groups both_words cells)

abbrev pub next : List Cell → Cell
next [] = Blank
next (x ∷ cells) = x

abbrev pub blank_cell : Cell → Bool
blank_cell Blank = true
blank_cell (Mark s) = false
blank_cell (Word s) = false

-- the two are of one token
abbrev pub on : Cell → Cell → Bool
on x y = both_words x y || same_family x y

-- a cell as a token before others
abbrev pub own : Bool → Cell → List Token → List Token
own after_blank Blank ts = ts
own after_blank (Mark s) ts = token_of after_blank s (Mark s ∷ []) ∷ ts
own after_blank (Word s) ts = token_of after_blank s (Word s ∷ []) ∷ ts

-- a cell as a part of the first of these tokens
abbrev pub merged : Cell → List Token → List Token
merged Blank ts = ts
merged (Mark s) [] = []
merged (Mark s) (t ∷ ts) = record t { text = encode_utf8_all (spell s.char ++ []); start = s.start } ∷ ts
merged (Word s) [] = []
merged (Word s) (t ∷ ts) = record t { text = encode_utf8_all (spell s.char) ++ t.text; start = s.start } ∷ ts

encode_append : (cs ds : List ℕ) → encode_utf8_all (cs ++ ds) ≡ encode_utf8_all cs ++ encode_utf8_all ds
encode_append [] ds = refl
encode_append (c ∷ cs) ds = ap (λ l. encode_utf8 c ++ l) (encode_append cs ds) ∙ sym (append_assoc (encode_utf8 c) (encode_utf8_all cs) (encode_utf8_all ds))

-- ---- words

plain-blank : (b : Bool) (cells : List Cell) → plain_tokens b (Blank ∷ cells) ≡ plain_tokens true cells
plain-blank b cells = ap (tokens_from b) (join_alone both_words Blank (groups both_words cells) (λ y. refl))

plain-mark : (b : Bool) (s : SourceChar) (cells : List Cell) → plain_tokens b (Mark s ∷ cells) ≡ token_of b s (Mark s ∷ []) ∷ plain_tokens false cells
plain-mark b s cells = ap (tokens_from b) (join_alone both_words (Mark s) (groups both_words cells) (λ y. refl))

plain-word : (b : Bool) (s : SourceChar) (cells : List Cell) → is_word (next cells) ≡ false
    → plain_tokens b (Word s ∷ cells) ≡ token_of b s (Word s ∷ []) ∷ plain_tokens false cells
plain-word b s [] h = refl
plain-word b s (Word t ∷ cells) h = absurd cc
plain-word b s (Blank ∷ cells) h =
    let e : groups both_words (Blank ∷ cells) ≡ (Blank ∷ []) ∷ groups both_words cells =
    join_alone both_words Blank (groups both_words cells) (λ y. refl) in
    ap (λ g. tokens_from b (join_group both_words (Word s) g)) e
    ∙ ap (λ g. token_of b s (Word s ∷ []) ∷ tokens_from false g) (sym e)
plain-word b s (Mark t ∷ cells) h =
    let e : groups both_words (Mark t ∷ cells) ≡ (Mark t ∷ []) ∷ groups both_words cells =
    join_alone both_words (Mark t) (groups both_words cells) (λ y. refl) in
    ap (λ g. tokens_from b (join_group both_words (Word s) g)) e
    ∙ ap (λ g. token_of b s (Word s ∷ []) ∷ tokens_from false g) (sym e)

plain-words : (b : Bool) (s t : SourceChar) (cells : List Cell)
    → plain_tokens b (Word s ∷ Word t ∷ cells) ≡ merged (Word s) (plain_tokens b (Word t ∷ cells))
plain-words b s t cells =
    let g = groups_head both_words (Word t) cells in
    ap (λ l. tokens_from b (join_group both_words (Word s) l)) g.2
    ∙ ap (λ l. let u : Token = record { text = l; start = s.start; end = end_after t.end g.0; after_blank = b } in u ∷ tokens_from false g.1)
    (encode_append (spell s.char) (letters_of (Word t ∷ g.0)))
    ∙ ap (λ l. merged (Word s) (tokens_from b l)) (sym g.2)

-- ---- marks

joined-apart : (s : SourceChar) (cells : List Cell) → same_family (Mark s) (next cells) ≡ false
    → with_joined (Mark s ∷ cells) ≡ Mark s ∷ with_joined cells
joined-apart s [] h = refl
joined-apart s (y ∷ ys) h =
    let g = groups_head same_family y ys in
    ap (λ l. flat_map joined (join_group same_family (Mark s) l)) g.2
    ∙ ap (flat_map joined) (cond-false (same_family (Mark s) y) _ _ h)
    ∙ ap (λ l. Mark s ∷ flat_map joined l) (sym g.2)

joined-more : (b : Bool) (s t : SourceChar) (cells : List Cell) → same_family (Mark s) (Mark t) ≡ true
    → cell_tokens b (Mark s ∷ Mark t ∷ cells) ≡ merged (Mark s) (cell_tokens b (Mark t ∷ cells))
joined-more b s t cells h =
    let g = groups_head same_family (Mark t) cells in
    let first : SourceChar = record s { end = end_after t.end g.0 } in
    let second : SourceChar = record t { end = end_after t.end g.0 } in
    let rest = flat_map joined g.1 in
    let more : with_joined (Mark s ∷ Mark t ∷ cells) ≡ Mark first ∷ rest =
    ap (λ l. flat_map joined (join_group same_family (Mark s) l)) g.2
    ∙ ap (flat_map joined) (cond-true (same_family (Mark s) (Mark t)) _ _ h) in
    let less : with_joined (Mark t ∷ cells) ≡ Mark second ∷ rest = ap (flat_map joined) g.2 in
    ap (plain_tokens b) more ∙ plain-mark b first rest
    ∙ ap (merged (Mark s)) (sym (ap (plain_tokens b) less ∙ plain-mark b second rest))

-- ---- a cell before others

next-joined : (cells : List Cell) → is_word (next cells) ≡ false → is_word (next (with_joined cells)) ≡ false
next-joined [] h = refl
next-joined (Blank ∷ cells) h = ap (λ l. is_word (next l)) (with_joined-at [] Blank cells refl)
next-joined (Word t ∷ cells) h = absurd cc
next-joined (Mark t ∷ cells) h = let g = groups_head same_family (Mark t) cells in ap (λ l. is_word (next (flat_map joined l))) g.2

pub tokens-blank : (b : Bool) (cells : List Cell) → cell_tokens b (Blank ∷ cells) ≡ cell_tokens true cells
tokens-blank b cells = ap (plain_tokens b) (with_joined-at [] Blank cells refl) ∙ plain-blank b (with_joined cells)

word_next : (s : SourceChar) (x : Cell) → on (Word s) x ≡ false → is_word x ≡ false
word_next s Blank h = refl
word_next s (Mark t) h = refl
word_next s (Word t) h = absurd cc

pub tokens-own : (b : Bool) (x : Cell) (cells : List Cell) → on x (next cells) ≡ false
    → cell_tokens b (x ∷ cells) ≡ own b x (cell_tokens (blank_cell x) cells)
tokens-own b Blank cells h = tokens-blank b cells
tokens-own b (Mark s) cells h = ap (plain_tokens b) (joined-apart s cells h) ∙ plain-mark b s (with_joined cells)
tokens-own b (Word s) cells h =
    ap (plain_tokens b) (with_joined-at [] (Word s) cells refl)
    ∙ plain-word b s (with_joined cells) (next-joined cells (word_next s (next cells) h))

pub tokens-merged : (b : Bool) (x : Cell) (cells : List Cell) → on x (next cells) ≡ true
    → cell_tokens b (x ∷ cells) ≡ merged x (cell_tokens b cells)
tokens-merged b Blank [] h = absurd cc
tokens-merged b Blank (Blank ∷ cells) h = absurd cc
tokens-merged b Blank (Mark t ∷ cells) h = absurd cc
tokens-merged b Blank (Word t ∷ cells) h = absurd cc
tokens-merged b (Mark s) [] h = absurd cc
tokens-merged b (Mark s) (Blank ∷ cells) h = absurd cc
tokens-merged b (Mark s) (Word t ∷ cells) h = absurd cc
tokens-merged b (Mark s) (Mark t ∷ cells) h = joined-more b s t cells h
tokens-merged b (Word s) [] h = absurd cc
tokens-merged b (Word s) (Blank ∷ cells) h = absurd cc
tokens-merged b (Word s) (Mark t ∷ cells) h = absurd cc
tokens-merged b (Word s) (Word t ∷ cells) h =
    ap (plain_tokens b) (with_joined-at [] (Word s) (Word t ∷ cells) refl ∙ ap (λ l. Word s ∷ l) (with_joined-at [] (Word t) cells refl))
    ∙ plain-words b s t (with_joined cells)
    ∙ ap (λ l. merged (Word s) (plain_tokens b l)) (sym (with_joined-at [] (Word t) cells refl))

-- ---- lists of cells that have the same tokens wherever they are

pub record Alike (one two : List Cell) : Type 0 where
  pub first : next one ≡ next two
  pub tokens : (b : Bool) → cell_tokens b one ≡ cell_tokens b two

pub alike-same : (cells : List Cell) → Alike cells cells
alike-same cells = record { first = refl; tokens = λ b. refl }

pub alike-then : (one two three : List Cell) → Alike one two → Alike two three → Alike one three
alike-then one two three h k = record { first = h.first ∙ k.first; tokens = λ b. h.tokens b ∙ k.tokens b }

pub alike-cons : (x : Cell) (one two : List Cell) → Alike one two → Alike (x ∷ one) (x ∷ two)
alike-cons x one two h = record {
  first = refl;
  tokens = λ b.
      ⊎_elim
      (λ hit. tokens-merged b x one hit ∙ ap (merged x) (h.tokens b) ∙ sym (tokens-merged b x two (ap (on x) (sym h.first) ∙ hit)))
      (λ none. tokens-own b x one none ∙ ap (own b x) (h.tokens (blank_cell x)) ∙ sym (tokens-own b x two (ap (on x) (sym h.first) ∙ none)))
      (cases_Bool (on x (next one)));
}

pub alike-append : (front one two : List Cell) → Alike one two → Alike (front ++ one) (front ++ two)
alike-append [] one two h = h
alike-append (x ∷ front) one two h = alike-cons x (front ++ one) (front ++ two) (alike-append front one two h)

-- one blank is as good as two
pub alike-blank : (cells : List Cell) → Alike (Blank ∷ Blank ∷ cells) (Blank ∷ cells)
alike-blank cells = record {
  first = refl;
  tokens = λ b. tokens-blank b (Blank ∷ cells) ∙ tokens-blank true cells ∙ sym (tokens-blank b cells);
}
