-- The edges of cells after which a line's are.
use Rattle.std.proofs.Common.{◌≡◌, ℕ, Bool, true, false, not, ◌&&◌, ◌==◌, List, [], ◌∷◌, ◌++◌, ◌⊎◌, inl, inr, refl, sym, ap, ◌∙◌, append_assoc}
use Rattle.std.specs.List.{list_all}
use Rattle.std.specs.Char.{is_whitespace}
use Rattle.std.proofs.lemmas.Bool.{false≢true, eqb-true}
use Rattle.std.proofs.lemmas.List.{map-append, reverse-append}
use Rattle.std.proofs.lemmas.List.Folds.{list_all-append}
use Rattle.lic_trim.specs.Texts.{ends_in}
use Rattle.lic_trim.specs.Sources.{chars_of}
use Rattle.lic_trim.specs.declared.source.SourceChar.{SourceChar}
use Rattle.lic_lines.specs.declared.cell.Cell.{Cell}
use Rattle.lic_lines.specs.declared.cell.Cell.TheVariants.{Blank}
use Rattle.lic_trim.specs.declared.line_part.LinePart.{LinePart}
use Rattle.lic_kind.specs.LineRules.{LineRules}
use Rattle.lic_lines.specs.Cells.{line_cells}
use Rattle.lic_lines.specs.Streaks.{streaks_joined}
use Rattle.lic_lines.proofs.Gaps.{no_streaks, streaks_joined-gap}
use Rattle.lic_trim.proofs.ItemLemmas.{char_of}
use Rattle.lic_lines.proofs.LineByLine.{line_ends}
use Rattle.lic_trim.proofs.PieceEnds.{ends_in-snoc}
use Rattle.lic_pieces.specs.declared.cell_edges.Edges.{Edges}
use Rattle.lic_pieces.specs.Edges.{HasEdges}
use Rattle.lic_pieces.specs.Pieces.{ends_in_feed, is_blank, begins_in_blank, ends_in_blank}

last_of : {A : Type 0} (xs : List A) → (xs ≡ []) ⊎ ((front : List A) × (x : A) × (xs ≡ front ++ x ∷ []))
last_of [] = inl refl
last_of (x ∷ xs) = elim (last_of xs) [
  | inl none ↦ inr ([], x, ap (λ l. x ∷ l) none)
  | inr some ↦ inr (x ∷ some.0, some.1, ap (λ l. x ∷ l) some.2)
]

both_true : (b : Bool) → (b && true) ≡ true → b ≡ true
both_true true is = refl
both_true false is = is

-- the line feed at the end of a line
feed_line : (line : List SourceChar) → ends_in_feed line ≡ true
    → (front : List SourceChar) × (feed : SourceChar) × (line ≡ front ++ feed ∷ []) × (feed.char ≡ 0x0A)
feed_line line is = elim (last_of line) [
  | inl none ↦ absurd (false≢true (sym (ap ends_in_feed none) ∙ is))
  | inr some ↦
      let front = some.0 in
      let feed = some.1 in
      let last = λ (c : ℕ). c == 0x0A in
      let given : ends_in_feed line ≡ (last feed.char && true) =
      ap ends_in_feed some.2 ∙ ap (ends_in last (λ front. true)) (map-append char_of front (feed ∷ []))
      ∙ ends_in-snoc last (λ front. true) (chars_of front) feed.char in
      (front, feed, some.2, eqb-true feed.char 0x0A (both_true (last feed.char) (sym given ∙ is)))
]

-- a line that ends in one leaves a blank last
pub ends_blank : (rules : LineRules) (part : LinePart) (line : List SourceChar) → ends_in_feed line ≡ true → part.has_end ≡ true
    → (cells : List Cell) × (streaks_joined rules (line_cells rules part line) ≡ cells ++ Blank ∷ [])
ends_blank rules part line feed has_end =
    let cut = feed_line line feed in
    let blank = line_ends rules part cut.0 cut.1 (ap is_whitespace cut.3) has_end in (
      streaks_joined rules blank.0,
      ap (λ l. streaks_joined rules (line_cells rules part l)) cut.2 ∙ ap (streaks_joined rules) blank.1
          ∙ streaks_joined-gap rules blank.0 [] ∙ ap (λ l. streaks_joined rules blank.0 ++ Blank ∷ l) (no_streaks rules),
    )

is_false : (b : Bool) → not b ≡ true → b ≡ false
is_false false is = refl
is_false true is = absurd (false≢true is)

begins-front : (xs ys : List Cell) → list_all is_blank xs ≡ false → begins_in_blank (xs ++ ys) ≡ begins_in_blank xs
begins-front [] ys is = absurd (false≢true (sym is))
begins-front (x ∷ xs) ys is = refl

-- after text, cells that end in a blank change the end alone
pub HasEdges-blank : (edges : Edges) (before more cells : List Cell) → edges.has_text ≡ true → more ≡ cells ++ Blank ∷ [] → HasEdges edges before
    → HasEdges (record edges { ends_in_blank = true }) (before ++ more)
HasEdges-blank edges before more cells text is has =
    let dark : list_all is_blank before ≡ false = is_false (list_all is_blank before) (sym has.text ∙ text) in record {
      begins = has.begins ∙ sym (begins-front before more dark);
      ends = sym (ap ends_in_blank (ap (λ l. before ++ l) is ∙ sym (append_assoc before cells (Blank ∷ [])))
          ∙ ap begins_in_blank (reverse-append (before ++ cells) (Blank ∷ [])));
      text = text ∙ sym (ap not (list_all-append is_blank before more ∙ ap (λ b. b && list_all is_blank more) dark));
    }
