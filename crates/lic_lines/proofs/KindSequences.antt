-- A sequence of characters of one kind at the start of a text gives its tokens by itself, since no streak and no token has two kinds.
use Rattle.std.proofs.Common.{◌≡◌, ◌≢◌, ℕ, zero, suc, ◌+◌, ◌-◌, ◌<◌, ◌≤◌, Bool, true, false, not, cond, List, [], ◌∷◌, ◌++◌, All, length, take, drop, map, get_or, refl, sym, ap, ap₂, ◌∙◌, subst, ⊎_elim, append_assoc, arith}
use Rattle.std.specs.Prelude.{nat_le, ◌&&◌, ◌||◌, ◌==◌}
use Rattle.std.specs.List.{list_all, flat_map}
use Rattle.std.proofs.lemmas.Bool.{cases_Bool, cases_lt, cond-true, cond-false, and_parts, and_from}
use Rattle.std.proofs.lemmas.List.{append-nil, map-append, length-take, get_or-take, take_more, drop_more, drop_all, take-append-drop}
use Rattle.lic_kind.specs.Kinds.{kind_of, is_dash, is_quote, is_word_kind, is_mark_kind}
use Rattle.lic_kind.specs.declared.Kind.{Kind}
use Rattle.lic_kind.specs.declared.Kind.TheVariants as kind
use Rattle.lic_trim.specs.Texts.{groups, join_group}
use Rattle.lic_trim.specs.declared.source.SourceChar.{SourceChar}
use Rattle.lic_kind.specs.LineRules.{LineRules}
use Rattle.lic_lines.specs.Cells.{Cell, Blank, Mark, Word, cell_of}
use Rattle.lic_lines.specs.Streaks.{may_join, same_mark, same_family, without_separator, without_separators, joined, with_joined, streaks_joined}
use Rattle.lic_lines.specs.Tokens.{both_words, token_of, tokens_from, blank_after, tokens_after}
use Rattle.lic_lines.proofs.GroupLemmas.{join_alone, groups_head}
use Rattle.lic_lines.proofs.Gaps.{is_word, is_mark, no_family_before, no_mark_before, no_streaks, without_separators-at, with_joined-at, streaks_joined-at}
use Rattle.lic_trim.proofs.ItemLemmas.{none}
use Rattle.lic_lines.proofs.Seams.{streaks_joined-seam}

-- the first of these, where there is one, fails
abbrev NoneFirst : (Cell → Bool) → List Cell → Type 0
NoneFirst test [] = Unit {0}
NoneFirst test (cell ∷ cells) = test cell ≡ false

-- ---- cells of characters

cell_of-Word : (s : SourceChar) → kind_of s.char ≡ kind.Word → cell_of s ≡ Word s
cell_of-Word s is = ap (λ k. cond (is_word_kind k) (Word s) (cond (is_mark_kind k) (Mark s) Blank)) is

pub cell_of-Mark : (s : SourceChar) → kind_of s.char ≡ kind.Mark → cell_of s ≡ Mark s
cell_of-Mark s is = ap (λ k. cond (is_word_kind k) (Word s) (cond (is_mark_kind k) (Mark s) Blank)) is

cell_of-no_word : (s : SourceChar) → kind_of s.char ≢ kind.Word → is_word (cell_of s) ≡ false
cell_of-no_word s other = at (kind_of s.char) other
  where
    at : (k : Kind) → k ≢ kind.Word → is_word (cond (is_word_kind k) (Word s) (cond (is_mark_kind k) (Mark s) Blank)) ≡ false
    at kind.Blank other = refl
    at kind.Dropped other = refl
    at kind.Mark other = refl
    at kind.Word other = absurd (other refl)

cell_of-no_mark : (s : SourceChar) → kind_of s.char ≢ kind.Mark → is_mark (cell_of s) ≡ false
cell_of-no_mark s other = at (kind_of s.char) other
  where
    at : (k : Kind) → k ≢ kind.Mark → is_mark (cond (is_word_kind k) (Word s) (cond (is_mark_kind k) (Mark s) Blank)) ≡ false
    at kind.Blank other = refl
    at kind.Dropped other = refl
    at kind.Mark other = absurd (other refl)
    at kind.Word other = refl

cells_of_words : (ws : List SourceChar) → All (λ s. kind_of s.char ≡ kind.Word) ws → map cell_of ws ≡ map Word ws
cells_of_words [] all = refl
cells_of_words (w ∷ ws) all = ap₂ (λ c l. c ∷ l) (cell_of-Word w (all 0 w (omega arith))) (cells_of_words ws (λ k d lt. all (suc k) d (omega arith)))

abbrev no_words : List Cell → Bool
no_words cells = list_all (λ c. not (is_word c)) cells

cells_of_marks : (ms : List SourceChar) → All (λ s. kind_of s.char ≡ kind.Mark) ms → no_words (map cell_of ms) ≡ true
cells_of_marks [] all = refl
cells_of_marks (m ∷ ms) all =
    and_from (not (is_word (cell_of m))) (no_words (map cell_of ms))
    (ap (λ c. not (is_word c)) (cell_of-Mark m (all 0 m (omega arith))))
    (cells_of_marks ms (λ k d lt. all (suc k) d (omega arith)))

none_first : (test : Cell → Bool) (text : List SourceChar) (n : ℕ)
    → ((d : SourceChar) → n < length text → test (cell_of (get_or text n d)) ≡ false)
    → NoneFirst test (map cell_of (drop n text))
none_first test text n stop =
    ⊎_elim
    (λ inside. subst (λ l. NoneFirst test (map cell_of l)) (sym (drop_more text n none inside)) (stop none inside))
    (λ end. subst (λ l. NoneFirst test (map cell_of l)) (sym (drop_all n text end)) tt)
    (cases_lt n (length text))

-- where the first character is of a kind, a sequence of it is not empty
pub some_front : (k : Kind) (text : List SourceChar) (n : ℕ) → 0 < length text → kind_of (get_or text 0 none).char ≡ k
    → ((d : SourceChar) → n < length text → kind_of (get_or text n d).char ≢ k) → 0 < n
some_front k text zero some is stop = absurd (stop none some is)
some_front k text (suc n) some is stop = omega arith

-- ---- streaks

no_parts : (a b : Bool) → (a || b) ≡ false → (a ≡ false) × (b ≡ false)
no_parts false false h = (refl, refl)
no_parts false true h = cc
no_parts true b h = cc

-- after a mark, what is no mark or may not be joined
apart : (s t : SourceChar) → kind_of s.char ≡ kind.Mark → (kind_of t.char ≡ kind.Mark → may_join s.char t.char ≡ false)
    → (same_mark (cell_of s) (cell_of t) ≡ false) × (same_family (cell_of s) (cell_of t) ≡ false)
apart s t mark stop = at (kind_of t.char) refl
  where
    at : (k : Kind) → kind_of t.char ≡ k → (same_mark (cell_of s) (cell_of t) ≡ false) × (same_family (cell_of s) (cell_of t) ≡ false)
    at kind.Mark is =
        let no = no_parts (s.char == t.char) ((is_quote s.char && is_quote t.char) || (is_dash s.char && is_dash t.char)) (stop is) in
        let cells : (f : Cell → Cell → Bool) → f (cell_of s) (cell_of t) ≡ f (Mark s) (Mark t) = λ f. ap₂ f (cell_of-Mark s mark) (cell_of-Mark t is) in
        (cells same_mark ∙ no.0, cells same_family ∙ no.1)
    at kind.Blank is = let other = cell_of-no_mark t (λ e. let both : kind.Blank ≡ kind.Mark = sym is ∙ e in cc) in
        (no_mark_before (cell_of t) (cell_of s) other, no_family_before (cell_of t) (cell_of s) other)
    at kind.Dropped is = let other = cell_of-no_mark t (λ e. let both : kind.Dropped ≡ kind.Mark = sym is ∙ e in cc) in
        (no_mark_before (cell_of t) (cell_of s) other, no_family_before (cell_of t) (cell_of s) other)
    at kind.Word is = let other = cell_of-no_mark t (λ e. let both : kind.Word ≡ kind.Mark = sym is ∙ e in cc) in
        (no_mark_before (cell_of t) (cell_of s) other, no_family_before (cell_of t) (cell_of s) other)

-- a sequence of marks up to an offset where nothing is joined
marks_parted : (rules : LineRules) (text : List SourceChar) (n : ℕ) → 0 < n → n ≤ length text
    → ((i : ℕ) (d : SourceChar) → i < n → kind_of (get_or text i d).char ≡ kind.Mark)
    → ((d : SourceChar) → n < length text → kind_of (get_or text n d).char ≡ kind.Mark
    → may_join (get_or text (n - 1) d).char (get_or text n d).char ≡ false)
    → streaks_joined rules (map cell_of (take n text) ++ map cell_of (drop n text))
    ≡ streaks_joined rules (map cell_of (take n text)) ++ streaks_joined rules (map cell_of (drop n text))
marks_parted rules text n some within all stop =
    ⊎_elim
    (λ inside.
    let s = get_or text (n - 1) none in
    let t = get_or text n none in
    let parts = apart s t (all (n - 1) none (omega arith)) (stop none inside) in
    let before = map cell_of (take (n - 1) text) in
    let past = map cell_of (drop (n + 1) text) in
    let one : n - 1 + 1 ≡ n = omega arith in
    let front : map cell_of (take n text) ≡ before ++ cell_of s ∷ [] =
    ap (λ k. map cell_of (take k text)) (sym one) ∙ ap (map cell_of) (take_more text (n - 1) none (omega arith))
    ∙ map-append cell_of (take (n - 1) text) (s ∷ []) in
    let rest : map cell_of (drop n text) ≡ cell_of t ∷ past = ap (map cell_of) (drop_more text n none inside) in
    ap (streaks_joined rules) (ap₂ (λ a b. a ++ b) front rest ∙ append_assoc before (cell_of s ∷ []) (cell_of t ∷ past))
    ∙ streaks_joined-seam rules before (cell_of s) (cell_of t) past parts.0 parts.1
    ∙ ap₂ (λ a b. streaks_joined rules a ++ streaks_joined rules b) (sym front) (sym rest))
    (λ end.
    let empty : map cell_of (drop n text) ≡ [] = ap (map cell_of) (drop_all n text end) in
    let marks = map cell_of (take n text) in
    ap (λ l. streaks_joined rules (marks ++ l)) empty ∙ ap (streaks_joined rules) (append-nil marks)
    ∙ sym (ap (λ l. streaks_joined rules marks ++ streaks_joined rules l) empty
    ∙ ap (λ l. streaks_joined rules marks ++ l) (no_streaks rules) ∙ append-nil (streaks_joined rules marks)))
    (cases_lt n (length text))

streaks_joined-words : (rules : LineRules) (ws : List SourceChar) (ys : List Cell) → streaks_joined rules (map Word ws ++ ys) ≡ map Word ws ++ streaks_joined rules ys
streaks_joined-words rules [] ys = refl
streaks_joined-words rules (w ∷ ws) ys =
    streaks_joined-at rules [] (Word w) (map Word ws ++ ys) refl
    ∙ ap₂ (λ a b. a ++ Word w ∷ b) (no_streaks rules) (streaks_joined-words rules ws ys)

no_word_first-separators : (ys : List Cell) → NoneFirst is_word ys → NoneFirst is_word (without_separators ys)
no_word_first-separators [] h = tt
no_word_first-separators (Blank ∷ ys) h = subst (NoneFirst is_word) (sym (without_separators-at [] Blank ys refl)) refl
no_word_first-separators (Word s ∷ ys) h = cc
no_word_first-separators (Mark s ∷ ys) h =
    let streak = groups_head same_mark (Mark s) ys in
    subst (λ gs. NoneFirst is_word (flat_map without_separator gs)) (sym streak.2) (at (nat_le 2 (length streak.0)) streak.0 (flat_map without_separator streak.1))
  where
    at : (b : Bool) (g rest : List Cell) → NoneFirst is_word (cond b (Blank ∷ []) (Mark s ∷ g) ++ rest)
    at true g rest = refl
    at false g rest = refl

no_word_first-joined : (ys : List Cell) → NoneFirst is_word ys → NoneFirst is_word (with_joined ys)
no_word_first-joined [] h = tt
no_word_first-joined (Blank ∷ ys) h = subst (NoneFirst is_word) (sym (with_joined-at [] Blank ys refl)) refl
no_word_first-joined (Word s ∷ ys) h = cc
no_word_first-joined (Mark s ∷ ys) h =
    let streak = groups_head same_family (Mark s) ys in
    subst (λ gs. NoneFirst is_word (flat_map joined gs)) (sym streak.2) refl

no_word_first : (rules : LineRules) (ys : List Cell) → NoneFirst is_word ys → NoneFirst is_word (streaks_joined rules ys)
no_word_first rules ys h = at rules.separators
  where
    at : (b : Bool) → NoneFirst is_word (with_joined (cond b (without_separators ys) ys))
    at true = no_word_first-joined (without_separators ys) (no_word_first-separators ys h)
    at false = no_word_first-joined ys h

-- ---- streaks of marks have no words

no_words-append : (xs ys : List Cell) → no_words xs ≡ true → no_words ys ≡ true → no_words (xs ++ ys) ≡ true
no_words-append [] ys hx hy = hy
no_words-append (x ∷ xs) ys hx hy =
    let parts = and_parts (not (is_word x)) (no_words xs) hx in
    and_from (not (is_word x)) (no_words (xs ++ ys)) parts.0 (no_words-append xs ys parts.1 hy)

module _ (together : Cell → Cell → Bool) where
  no_words-join : (x : Cell) (gs : List (List Cell)) → not (is_word x) ≡ true → list_all no_words gs ≡ true
      → list_all no_words (join_group together x gs) ≡ true
  no_words-join x [] hx h = and_from (no_words (x ∷ [])) true (and_from (not (is_word x)) true hx refl) refl
  no_words-join x ([] ∷ gs) hx h = and_from (no_words (x ∷ [])) (list_all no_words ([] ∷ gs)) (and_from (not (is_word x)) true hx refl) h
  no_words-join x ((y ∷ g) ∷ gs) hx h =
      let parts = and_parts (no_words (y ∷ g)) (list_all no_words gs) h in
      ⊎_elim
      (λ yes.
      ap (list_all no_words) (cond-true (together x y) ((x ∷ y ∷ g) ∷ gs) ((x ∷ []) ∷ (y ∷ g) ∷ gs) yes)
      ∙ and_from (no_words (x ∷ y ∷ g)) (list_all no_words gs) (and_from (not (is_word x)) (no_words (y ∷ g)) hx parts.0) parts.1)
      (λ none.
      ap (list_all no_words) (cond-false (together x y) ((x ∷ y ∷ g) ∷ gs) ((x ∷ []) ∷ (y ∷ g) ∷ gs) none)
      ∙ and_from (no_words (x ∷ [])) (list_all no_words ((y ∷ g) ∷ gs)) (and_from (not (is_word x)) true hx refl) h)
      (cases_Bool (together x y))

  no_words-groups : (xs : List Cell) → no_words xs ≡ true → list_all no_words (groups together xs) ≡ true
  no_words-groups [] h = refl
  no_words-groups (x ∷ xs) h =
      let parts = and_parts (not (is_word x)) (no_words xs) h in
      no_words-join x (groups together xs) parts.0 (no_words-groups xs parts.1)

no_words-flat : (f : List Cell → List Cell) (gs : List (List Cell))
    → ((g : List Cell) → no_words g ≡ true → no_words (f g) ≡ true) → list_all no_words gs ≡ true
    → no_words (flat_map f gs) ≡ true
no_words-flat f [] each h = refl
no_words-flat f (g ∷ gs) each h =
    let parts = and_parts (no_words g) (list_all no_words gs) h in
    no_words-append (f g) (flat_map f gs) (each g parts.0) (no_words-flat f gs each parts.1)

no_words-separator : (g : List Cell) → no_words g ≡ true → no_words (without_separator g) ≡ true
no_words-separator [] h = refl
no_words-separator (Blank ∷ g) h = h
no_words-separator (Word s ∷ g) h = cc
no_words-separator (Mark s ∷ g) h = at (nat_le 2 (length g))
  where
    at : (b : Bool) → no_words (cond b (Blank ∷ []) (Mark s ∷ g)) ≡ true
    at true = refl
    at false = h

no_words-joined : (g : List Cell) → no_words g ≡ true → no_words (joined g) ≡ true
no_words-joined [] h = refl
no_words-joined (Blank ∷ g) h = h
no_words-joined (Word s ∷ g) h = cc
no_words-joined (Mark s ∷ g) h = refl

no_words-streaks : (rules : LineRules) (xs : List Cell) → no_words xs ≡ true → no_words (streaks_joined rules xs) ≡ true
no_words-streaks rules xs h = at rules.separators
  where
    joins : (ys : List Cell) → no_words ys ≡ true → no_words (with_joined ys) ≡ true
    joins ys hy = no_words-flat joined (groups same_family ys) no_words-joined (no_words-groups same_family ys hy)

    at : (b : Bool) → no_words (with_joined (cond b (without_separators xs) xs)) ≡ true
    at true = joins (without_separators xs) (no_words-flat without_separator (groups same_mark xs) no_words-separator (no_words-groups same_mark xs h))
    at false = joins xs h

-- ---- tokens

alone : (x y : Cell) → not (is_word x) ≡ true → both_words x y ≡ false
alone Blank y h = refl
alone (Mark s) y h = refl
alone (Word s) y h = cc

ends_word : (w : SourceChar) (z : Cell) → is_word z ≡ false → both_words (Word w) z ≡ false
ends_word w Blank h = refl
ends_word w (Mark s) h = refl
ends_word w (Word s) h = cc

groups_no_words : (xs ys : List Cell) → no_words xs ≡ true → groups both_words (xs ++ ys) ≡ groups both_words xs ++ groups both_words ys
groups_no_words [] ys h = refl
groups_no_words (x ∷ xs) ys h =
    let parts = and_parts (not (is_word x)) (no_words xs) h in
    join_alone both_words x (groups both_words (xs ++ ys)) (λ y. alone x y parts.0)
    ∙ ap (λ l. (x ∷ []) ∷ l) (groups_no_words xs ys parts.1)
    ∙ ap (λ l. l ++ groups both_words ys) (sym (join_alone both_words x (groups both_words xs) (λ y. alone x y parts.0)))

groups_words : (w : SourceChar) (ws : List SourceChar) (zs : List Cell) → NoneFirst is_word zs
    → groups both_words (map Word (w ∷ ws) ++ zs) ≡ map Word (w ∷ ws) ∷ groups both_words zs
groups_words w [] [] h = refl
groups_words w [] (z ∷ zs) h =
    let some = groups_head both_words z zs in
    ap (join_group both_words (Word w)) some.2 ∙ cond-false (both_words (Word w) z) _ _ (ends_word w z h) ∙ ap (λ l. (Word w ∷ []) ∷ l) (sym some.2)
groups_words w (v ∷ ws) zs h = ap (join_group both_words (Word w)) (groups_words v ws zs h)

tokens_from-append : (after_blank : Bool) (gs hs : List (List Cell))
    → tokens_from after_blank (gs ++ hs) ≡ tokens_from after_blank gs ++ tokens_from (blank_after after_blank gs) hs
tokens_from-append after_blank [] hs = refl
tokens_from-append after_blank ([] ∷ gs) hs = tokens_from-append after_blank gs hs
tokens_from-append after_blank ((Blank ∷ cells) ∷ gs) hs = tokens_from-append true gs hs
tokens_from-append after_blank ((Mark s ∷ cells) ∷ gs) hs = ap (λ l. token_of after_blank s (Mark s ∷ cells) ∷ l) (tokens_from-append false gs hs)
tokens_from-append after_blank ((Word s ∷ cells) ∷ gs) hs = ap (λ l. token_of after_blank s (Word s ∷ cells) ∷ l) (tokens_from-append false gs hs)

words_front : (rules : LineRules) (after_blank : Bool) (ws : List SourceChar) (ys : List Cell) → 0 < length ws → NoneFirst is_word ys
    → tokens_from after_blank (groups both_words (streaks_joined rules (map Word ws ++ ys)))
    ≡ tokens_from after_blank (map Word ws ∷ []) ++ tokens_from false (groups both_words (streaks_joined rules ys))
words_front rules after_blank [] ys some h = absurd (omega arith)
words_front rules after_blank (w ∷ ws) ys some h =
    ap (λ l. tokens_from after_blank (groups both_words l)) (streaks_joined-words rules (w ∷ ws) ys)
    ∙ ap (tokens_from after_blank) (groups_words w ws (streaks_joined rules ys) (no_word_first rules ys h))

module _ (rules : LineRules) (after_blank : Bool) (text : List SourceChar) (n : ℕ) (within : n ≤ length text) where
  split : map cell_of text ≡ map cell_of (take n text) ++ map cell_of (drop n text)
  split = ap (map cell_of) (sym (take-append-drop n text)) ∙ map-append cell_of (take n text) (drop n text)

  long : length (take n text) ≡ n
  long = omega (arith, length-take n text)

  all_taken : (k : Kind) → ((i : ℕ) (d : SourceChar) → i < n → kind_of (get_or text i d).char ≡ k) → All (λ s. kind_of s.char ≡ k) (take n text)
  all_taken k all = λ i d lt. let inside : i < n = omega (arith, long) in ap (λ s. kind_of s.char) (get_or-take n text i d inside) ∙ all i d inside

  pub words_sequence : 0 < n → ((i : ℕ) (d : SourceChar) → i < n → kind_of (get_or text i d).char ≡ kind.Word)
      → ((d : SourceChar) → n < length text → kind_of (get_or text n d).char ≢ kind.Word)
      → tokens_from after_blank (map Word (take n text) ∷ []) ++ tokens_after rules false (drop n text) ≡ tokens_after rules after_blank text
  words_sequence some all stop =
      sym (ap (λ l. tokens_from after_blank (groups both_words (streaks_joined rules l)))
      (split ∙ ap (λ l. l ++ map cell_of (drop n text))
      (cells_of_words (take n text) (all_taken kind.Word all)))
      ∙ words_front rules after_blank (take n text) (map cell_of (drop n text)) (omega (arith, long))
      (none_first is_word text n (λ d lt. cell_of-no_word (get_or text n d) (stop d lt))))

  pub marks_sequence : 0 < n → ((i : ℕ) (d : SourceChar) → i < n → kind_of (get_or text i d).char ≡ kind.Mark)
      → ((d : SourceChar) → n < length text → kind_of (get_or text n d).char ≡ kind.Mark
      → may_join (get_or text (n - 1) d).char (get_or text n d).char ≡ false)
      → tokens_from after_blank (groups both_words (streaks_joined rules (map cell_of (take n text))))
      ++ tokens_after rules (blank_after after_blank
      (groups both_words (streaks_joined rules (map cell_of (take n text))))) (drop n text)
      ≡ tokens_after rules after_blank text
  marks_sequence some all stop =
      let marks = streaks_joined rules (map cell_of (take n text)) in
      let rest = streaks_joined rules (map cell_of (drop n text)) in
      sym (ap (λ l. tokens_from after_blank (groups both_words l))
      (ap (streaks_joined rules) split
      ∙ marks_parted rules text n some within all stop)
      ∙ ap (tokens_from after_blank)
      (groups_no_words marks rest
      (no_words-streaks rules (map cell_of (take n text))
      (cells_of_marks (take n text) (all_taken kind.Mark all))))
      ∙ tokens_from-append after_blank (groups both_words marks) (groups both_words rest))

cell_of-Blank : (s : SourceChar) → kind_of s.char ≢ kind.Word → kind_of s.char ≢ kind.Mark → cell_of s ≡ Blank
cell_of-Blank s no_word no_mark = at_kind (kind_of s.char) no_word no_mark
  where
    at_kind : (k : Kind) → k ≢ kind.Word → k ≢ kind.Mark → cond (is_word_kind k) (Word s) (cond (is_mark_kind k) (Mark s) Blank) ≡ Blank
    at_kind kind.Blank no_word no_mark = refl
    at_kind kind.Dropped no_word no_mark = refl
    at_kind kind.Mark no_word no_mark = absurd (no_mark refl)
    at_kind kind.Word no_word no_mark = absurd (no_word refl)

-- a character that is neither a mark nor of a word
pub blank_front : (rules : LineRules) (after_blank : Bool) (s : SourceChar) (text : List SourceChar)
    → kind_of s.char ≢ kind.Word → kind_of s.char ≢ kind.Mark
    → tokens_after rules true text ≡ tokens_after rules after_blank (s ∷ text)
blank_front rules after_blank s text no_word no_mark =
    let rest = map cell_of text in
    sym (ap (λ c. tokens_from after_blank (groups both_words (streaks_joined rules (c ∷ rest)))) (cell_of-Blank s no_word no_mark)
    ∙ ap (λ l. tokens_from after_blank (groups both_words l))
    (streaks_joined-at rules [] Blank rest refl ∙ ap (λ l. l ++ Blank ∷ streaks_joined rules rest) (no_streaks rules))
    ∙ ap (tokens_from after_blank) (join_alone both_words Blank (groups both_words (streaks_joined rules rest)) (λ y. refl)))
