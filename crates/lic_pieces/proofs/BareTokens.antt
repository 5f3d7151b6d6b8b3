-- Where characters are in their source has no effect on the texts of tokens.
use Rattle.std.proofs.Common.{◌≡◌, ℕ, zero, suc, ◌+◌, ◌-◌, Bool, true, false, not, ◌==◌, ◌&&◌, List, [], ◌∷◌, ◌++◌, map, length, take, drop, Option, Some, None, refl, sym, ap, ap₂, ◌∙◌}
use Rattle.std.specs.Prelude.{codes, encode_utf8_all, if◌then◌else◌, nat_le}
use Rattle.std.specs.Char.{len_utf8}
use Rattle.std.specs.List.{flat_map, onto_first}
use Rattle.std.proofs.lemmas.List.{drop-map, length-map, map-append, take-map}
use Rattle.lic_kind.specs.Kinds.{is_dropped, is_mark_kind, is_word_kind, kind_of, spell}
use Rattle.lic_trim.specs.Texts.{groups, join_group}
use Rattle.lic_trim.specs.Sources.{chars_of, lines_of, placed, unplaced, without_dropped}
use Rattle.lic_trim.specs.declared.source.SourceChar.{SourceChar}
use Rattle.lic_lines.specs.declared.cell.Cell.{Cell}
use Rattle.lic_lines.specs.declared.cell.Cell.TheVariants.{Blank, Mark, Word}
use Rattle.lic_trim.specs.declared.cut.LineCut.{LineCut}
use Rattle.lic_trim.specs.declared.line_part.LinePart.{LinePart}
use Rattle.lic_kind.specs.LineRules.{LineRules}
use Rattle.lic_trim.specs.Lines.{cut_of}
use Rattle.lic_lines.specs.Cells.{blank_for, cell_of, cells_of_cut, left_of, line_cells}
use Rattle.lic_lines.specs.Streaks.{end_after, joined, streaks_joined, same_family, same_mark, with_joined, without_separator, without_separators}
use Rattle.lic_lines.specs.Tokens.{Token, as_sign, both_words, first_tokens, is_sign_in_parentheses, is_text, letters_of, sign_from, single_signs, token_of, tokens_from}
use Rattle.lic_phrases.specs.Rewriting.{Phrase, begins_authority, both_signs, count_after, end_of_last, first_as, https_as_http, longer, longest_phrase, phrases_after, phrases_joined, rewritten, sign_of_sequence, sign_sequences, spanned, begin_with_texts, without_secure}
use Rattle.lic_pieces.specs.Pieces.{bare_token}

-- ---- lists

cond_of : {A B : Type 0} (f : A → B) (b : Bool) (x y : A) → (if b then f x else f y) ≡ f (if b then x else y)
cond_of f true x y = refl
cond_of f false x y = refl

module _ {A : Type 0} (f : A → A) (together : A → A → Bool) (same : (x y : A) → together (f x) (f y) ≡ together x y) where
  group-map : (x : A) (gs : List (List A)) → join_group together (f x) (map (map f) gs) ≡ map (map f) (join_group together x gs)
  group-map x [] = refl
  group-map x ([] ∷ gs) = refl
  group-map x ((y ∷ g) ∷ gs) =
      ap (λ b. if b then (f x ∷ f y ∷ map f g) ∷ map (map f) gs else (f x ∷ []) ∷ (f y ∷ map f g) ∷ map (map f) gs) (same x y)
      ∙ cond_of (map (map f)) (together x y) ((x ∷ y ∷ g) ∷ gs) ((x ∷ []) ∷ (y ∷ g) ∷ gs)

  groups-map : (xs : List A) → groups together (map f xs) ≡ map (map f) (groups together xs)
  groups-map [] = refl
  groups-map (x ∷ xs) = ap (join_group together (f x)) (groups-map xs) ∙ group-map x (groups together xs)

pub flat-map : {A B : Type 0} (f : A → A) (g : B → B) (k : List A → List B)
    → ((streak : List A) → k (map f streak) ≡ map g (k streak)) → (streaks : List (List A))
    → flat_map k (map (map f) streaks) ≡ map g (flat_map k streaks)
flat-map f g k each [] = refl
flat-map f g k each (streak ∷ streaks) = ap₂ (λ xs ys. xs ++ ys) (each streak) (flat-map f g k each streaks) ∙ sym (map-append g (k streak) (flat_map k streaks))

-- ---- characters

-- a character that occurs nowhere
abbrev pub bare : SourceChar → SourceChar
bare s = record { char = s.char; start = 0; end = 0 }

pub bare-placed : (at : ℕ) (cs : List ℕ) → map bare (placed at cs) ≡ unplaced cs
bare-placed at [] = refl
bare-placed at (c ∷ cs) = ap (λ l. record { char = c; start = 0; end = 0 } ∷ l) (bare-placed (at + len_utf8 c) cs)

pub bare-kept : (text : List SourceChar) → without_dropped (map bare text) ≡ map bare (without_dropped text)
bare-kept [] = refl
bare-kept (s ∷ text) =
    let kept = not (is_dropped s.char) in
    ap (λ l. if kept then bare s ∷ l else l) (bare-kept text)
    ∙ cond_of (map bare) kept (s ∷ without_dropped text) (without_dropped text)

bare-onto : (s : SourceChar) (lines : List (List SourceChar)) → onto_first (bare s) (map (map bare) lines) ≡ map (map bare) (onto_first s lines)
bare-onto s [] = refl
bare-onto s (line ∷ lines) = refl

pub bare-lines : (text : List SourceChar) → lines_of (map bare text) ≡ map (map bare) (lines_of text)
bare-lines [] = refl
bare-lines (s ∷ text) =
    let ends = s.char == 0x0A in
    ap (λ l. if ends then (bare s ∷ []) ∷ l else onto_first (bare s) l) (bare-lines text)
    ∙ ap (λ l. if ends then (bare s ∷ []) ∷ map (map bare) (lines_of text) else l) (bare-onto s (lines_of text))
    ∙ cond_of (map (map bare)) ends ((s ∷ []) ∷ lines_of text) (onto_first s (lines_of text))

pub bare-chars : (line : List SourceChar) → chars_of (map bare line) ≡ chars_of line
bare-chars [] = refl
bare-chars (s ∷ line) = ap (λ l. s.char ∷ l) (bare-chars line)

-- ---- cells

abbrev pub bare_cell : Cell → Cell
bare_cell Blank = Blank
bare_cell (Mark s) = Mark (bare s)
bare_cell (Word s) = Word (bare s)

bare-cell : (s : SourceChar) → cell_of (bare s) ≡ bare_cell (cell_of s)
bare-cell s =
    let word = is_word_kind (kind_of s.char) in
    let mark = is_mark_kind (kind_of s.char) in
    ap (λ c. if word then Word (bare s) else c) (cond_of bare_cell mark (Mark s) Blank)
    ∙ cond_of bare_cell word (Word s) (if mark then Mark s else Blank)

bare-cells : (text : List SourceChar) → map cell_of (map bare text) ≡ map bare_cell (map cell_of text)
bare-cells [] = refl
bare-cells (s ∷ text) = ap₂ (λ c cs. c ∷ cs) (bare-cell s) (bare-cells text)

bare-left : (cut : LineCut) (line : List SourceChar) → left_of cut (map bare line) ≡ map bare (left_of cut line)
bare-left cut line =
    let rest = drop (cut.lead + cut.item) line in
    ap (λ l. take (length l - cut.tail) l) (drop-map bare (cut.lead + cut.item) line)
    ∙ ap (λ n. take (n - cut.tail) (map bare rest)) (length-map rest bare)
    ∙ take-map bare (length rest - cut.tail) rest

bare-blank : (n : ℕ) → blank_for n ≡ map bare_cell (blank_for n)
bare-blank zero = refl
bare-blank (suc n) = refl

bare-cut : (cut : LineCut) (line : List SourceChar) → cells_of_cut cut (map bare line) ≡ map bare_cell (cells_of_cut cut line)
bare-cut cut line =
    let lead = blank_for cut.lead in
    let item = blank_for cut.item in
    let tail = blank_for cut.tail in
    let kept = map cell_of (left_of cut line) in
    let same : map cell_of (left_of cut (map bare line)) ≡ map bare_cell kept = ap (map cell_of) (bare-left cut line) ∙ bare-cells (left_of cut line) in
    ap₂ (λ a b. ((a ++ b) ++ map cell_of (left_of cut (map bare line))) ++ tail) (bare-blank cut.lead) (bare-blank cut.item)
    ∙ ap₂ (λ a b. ((map bare_cell lead ++ map bare_cell item) ++ a) ++ b) same (bare-blank cut.tail)
    ∙ ap (λ l. (l ++ map bare_cell kept) ++ map bare_cell tail) (sym (map-append bare_cell lead item))
    ∙ ap (λ l. l ++ map bare_cell tail) (sym (map-append bare_cell (lead ++ item) kept))
    ∙ sym (map-append bare_cell ((lead ++ item) ++ kept) tail)

pub bare-line : (rules : LineRules) (part : LinePart) (line : List SourceChar) → line_cells rules part (map bare line) ≡ map bare_cell (line_cells rules part line)
bare-line rules part line = ap (λ cs. cells_of_cut (cut_of rules part cs) (map bare line)) (bare-chars line) ∙ bare-cut (cut_of rules part (chars_of line)) line

-- ---- streaks

bare-same_mark : (x y : Cell) → same_mark (bare_cell x) (bare_cell y) ≡ same_mark x y
bare-same_mark Blank y = refl
bare-same_mark (Word s) y = refl
bare-same_mark (Mark s) Blank = refl
bare-same_mark (Mark s) (Word t) = refl
bare-same_mark (Mark s) (Mark t) = refl

bare-same_family : (x y : Cell) → same_family (bare_cell x) (bare_cell y) ≡ same_family x y
bare-same_family Blank y = refl
bare-same_family (Word s) y = refl
bare-same_family (Mark s) Blank = refl
bare-same_family (Mark s) (Word t) = refl
bare-same_family (Mark s) (Mark t) = refl

bare-separator : (streak : List Cell) → without_separator (map bare_cell streak) ≡ map bare_cell (without_separator streak)
bare-separator [] = refl
bare-separator (Blank ∷ streak) = refl
bare-separator (Word s ∷ streak) = refl
bare-separator (Mark s ∷ streak) =
    ap (λ n. if nat_le 2 n then Blank ∷ [] else Mark (bare s) ∷ map bare_cell streak) (length-map streak bare_cell)
    ∙ cond_of (map bare_cell) (nat_le 2 (length streak)) (Blank ∷ []) (Mark s ∷ streak)

bare-end : (streak : List Cell) → end_after 0 (map bare_cell streak) ≡ 0
bare-end [] = refl
bare-end (Blank ∷ streak) = bare-end streak
bare-end (Mark s ∷ streak) = bare-end streak
bare-end (Word s ∷ streak) = bare-end streak

bare-joined : (streak : List Cell) → joined (map bare_cell streak) ≡ map bare_cell (joined streak)
bare-joined [] = refl
bare-joined (Blank ∷ streak) = refl
bare-joined (Word s ∷ streak) = refl
bare-joined (Mark s ∷ streak) = ap (λ n. Mark (record { char = s.char; start = 0; end = n }) ∷ []) (bare-end streak)

bare-separators : (separators : Bool) (cells : List Cell)
    → (if separators then without_separators (map bare_cell cells) else map bare_cell cells)
    ≡ map bare_cell (if separators then without_separators cells else cells)
bare-separators true cells =
    ap (flat_map without_separator) (groups-map bare_cell same_mark bare-same_mark cells)
    ∙ flat-map bare_cell bare_cell without_separator bare-separator (groups same_mark cells)
bare-separators false cells = refl

pub bare-streaks : (rules : LineRules) (cells : List Cell) → streaks_joined rules (map bare_cell cells) ≡ map bare_cell (streaks_joined rules cells)
bare-streaks rules cells =
    let parted = if rules.separators then without_separators cells else cells in
    ap with_joined (bare-separators rules.separators cells)
    ∙ ap (flat_map joined) (groups-map bare_cell same_family bare-same_family parted)
    ∙ flat-map bare_cell bare_cell joined bare-joined (groups same_family parted)

-- ---- first tokens

bare-letters : (group : List Cell) → letters_of (map bare_cell group) ≡ letters_of group
bare-letters [] = refl
bare-letters (Blank ∷ group) = bare-letters group
bare-letters (Mark s ∷ group) = ap (λ l. spell s.char ++ l) (bare-letters group)
bare-letters (Word s ∷ group) = ap (λ l. spell s.char ++ l) (bare-letters group)

bare-token : (after_blank : Bool) (s : SourceChar) (group : List Cell)
    → token_of after_blank (bare s) (map bare_cell group) ≡ bare_token (token_of after_blank s group)
bare-token after_blank s group =
    ap₂ (λ l n. let t : Token = record { text = encode_utf8_all l; start = 0; end = n; after_blank = after_blank } in t) (bare-letters group) (bare-end group)

bare-tokens : (after_blank : Bool) (gs : List (List Cell)) → tokens_from after_blank (map (map bare_cell) gs) ≡ map bare_token (tokens_from after_blank gs)
bare-tokens after_blank [] = refl
bare-tokens after_blank ([] ∷ gs) = bare-tokens after_blank gs
bare-tokens after_blank ((Blank ∷ group) ∷ gs) = bare-tokens true gs
bare-tokens after_blank ((Mark s ∷ group) ∷ gs) = ap₂ (λ t ts. t ∷ ts) (bare-token after_blank s (Mark s ∷ group)) (bare-tokens false gs)
bare-tokens after_blank ((Word s ∷ group) ∷ gs) = ap₂ (λ t ts. t ∷ ts) (bare-token after_blank s (Word s ∷ group)) (bare-tokens false gs)

bare-both_words : (x y : Cell) → both_words (bare_cell x) (bare_cell y) ≡ both_words x y
bare-both_words Blank y = refl
bare-both_words (Mark s) y = refl
bare-both_words (Word s) Blank = refl
bare-both_words (Word s) (Mark t) = refl
bare-both_words (Word s) (Word t) = refl

pub bare-first : (cells : List Cell) → first_tokens (map bare_cell cells) ≡ map bare_token (first_tokens cells)
bare-first cells = ap (tokens_from true) (groups-map bare_cell both_words bare-both_words cells) ∙ bare-tokens true (groups both_words cells)

bare-sign : (t : Token) → as_sign (bare_token t) ≡ bare_token (as_sign t)
bare-sign t = cond_of bare_token (is_text (encode_utf8_all (0xA9 ∷ [])) t) (record t { text = codes "copyright" }) t

pub bare-signs : (ts : List Token) → single_signs (map bare_token ts) ≡ map bare_token (single_signs ts)
bare-signs [] = refl
bare-signs (a ∷ []) = ap (λ t. t ∷ []) (bare-sign a)
bare-signs (a ∷ b ∷ []) = ap₂ (λ t u. t ∷ u ∷ []) (bare-sign a) (bare-sign b)
bare-signs (a ∷ b ∷ c ∷ ts) =
    let sign = is_sign_in_parentheses a b c in
    ap₂ (λ xs ys. if sign then bare_token (sign_from a c) ∷ xs else ys) (bare-signs ts) (ap₂ (λ t us. t ∷ us) (bare-sign a) (bare-signs (b ∷ c ∷ ts)))
    ∙ cond_of (map bare_token) sign (sign_from a c ∷ single_signs ts) (as_sign a ∷ single_signs (b ∷ c ∷ ts))

-- ---- the rewriting

bare-last : (t : Token) (ts : List Token) → end_of_last (bare_token t) (map bare_token ts) ≡ 0
bare-last t [] = refl
bare-last t (u ∷ us) = bare-last u us

bare-sequence : (sequence : List Token) → sign_of_sequence (map bare_token sequence) ≡ map bare_token (sign_of_sequence sequence)
bare-sequence [] = refl
bare-sequence (t ∷ ts) = ap (λ n. let u : Token = record { text = t.text; start = 0; end = n; after_blank = t.after_blank } in u ∷ []) (bare-last t ts)

bare-sequences : (ts : List Token) → sign_sequences (map bare_token ts) ≡ map bare_token (sign_sequences ts)
bare-sequences ts =
    ap (flat_map sign_of_sequence) (groups-map bare_token both_signs (λ t u. refl) ts)
    ∙ flat-map bare_token bare_token sign_of_sequence bare-sequence (groups both_signs ts)

bare-authority : (ts : List Token) → begins_authority (map bare_token ts) ≡ begins_authority ts
bare-authority [] = refl
bare-authority (a ∷ []) = refl
bare-authority (a ∷ b ∷ []) = refl
bare-authority (a ∷ b ∷ c ∷ ts) = refl

bare-secure : (t : Token) (ts : List Token) → without_secure (bare_token t) (map bare_token ts) ≡ bare_token (without_secure t ts)
bare-secure t ts =
    let plain : Token = record t { text = codes "http" } in
    ap (λ b. if is_text (codes "https") t && b then bare_token plain else bare_token t) (bare-authority ts)
    ∙ cond_of bare_token (is_text (codes "https") t && begins_authority ts) plain t

bare-https : (ts : List Token) → https_as_http (map bare_token ts) ≡ map bare_token (https_as_http ts)
bare-https [] = refl
bare-https (t ∷ ts) = ap₂ (λ u us. u ∷ us) (bare-secure t ts) (bare-https ts)

bare-begin_with_texts : (texts : List (List ℕ)) (ts : List Token) → begin_with_texts texts (map bare_token ts) ≡ begin_with_texts texts ts
bare-begin_with_texts [] ts = refl
bare-begin_with_texts (text ∷ texts) [] = refl
bare-begin_with_texts (text ∷ texts) (t ∷ ts) = ap (λ b. is_text text t && b) (bare-begin_with_texts texts ts)

bare-longest : (words : List Phrase) (ts : List Token) → longest_phrase words (map bare_token ts) ≡ longest_phrase words ts
bare-longest [] ts = refl
bare-longest (p ∷ words) ts = ap₂ (λ b others. if b then Some (longer p others) else others) (bare-begin_with_texts p.texts ts) (bare-longest words ts)

bare-phrase : (phrase : Option Phrase) (t : Token) (ts : List Token) → first_as phrase (bare_token t) (map bare_token ts) ≡ bare_token (first_as phrase t ts)
bare-phrase None t ts = refl
bare-phrase (Some p) t ts =
    ap (λ n. let u : Token = record { text = p.spelling; start = 0; end = n; after_blank = t.after_blank } in u)
    (ap (end_of_last (bare_token t)) (take-map bare_token (length p.texts - 1) ts) ∙ bare-last t (take (length p.texts - 1) ts))

bare-phrases : (words : List Phrase) (n : ℕ) (ts : List Token) → phrases_after words n (map bare_token ts) ≡ map bare_token (phrases_after words n ts)
bare-phrases words n [] = refl
bare-phrases words (suc n) (t ∷ ts) = bare-phrases words n ts
bare-phrases words zero (t ∷ ts) =
    let phrase = longest_phrase words (t ∷ ts) in
    ap (λ o. first_as o (bare_token t) (map bare_token ts) ∷ phrases_after words (count_after o) (map bare_token ts)) (bare-longest words (t ∷ ts))
    ∙ ap₂ (λ u us. u ∷ us) (bare-phrase phrase t ts) (bare-phrases words (count_after phrase) ts)

-- the texts of tokens after the rewriting
abbrev pub texts_after : List Phrase → List Token → List (List ℕ)
texts_after words ts = map (λ t. t.text) (rewritten words ts)

bare-spanned : (ts : List Token) → map (λ t. t.text) (map spanned (map bare_token ts)) ≡ map (λ t. t.text) (map spanned ts)
bare-spanned [] = refl
bare-spanned (t ∷ ts) = ap (λ l. t.text ∷ l) (bare-spanned ts)

pub bare-texts : (words : List Phrase) (ts : List Token) → texts_after words (map bare_token ts) ≡ texts_after words ts
bare-texts words ts =
    ap (λ us. map (λ t. t.text) (map spanned (phrases_joined words (https_as_http us)))) (bare-sequences ts)
    ∙ ap (λ us. map (λ t. t.text) (map spanned (phrases_joined words us))) (bare-https (sign_sequences ts))
    ∙ ap (λ us. map (λ t. t.text) (map spanned us)) (bare-phrases words 0 (https_as_http (sign_sequences ts)))
    ∙ bare-spanned (phrases_joined words (https_as_http (sign_sequences ts)))
