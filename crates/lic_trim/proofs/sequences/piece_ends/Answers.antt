use Rattle.std.proofs.Common.{◌≡◌, ◌∙◌, true, ◌&&◌, ◌||◌, ℕ, List, sym, ap}
use Rattle.std.specs.Prelude.{bytes_eq}
use Rattle.std.specs.List.{list_any}
use Rattle.std.proofs.lemmas.Bool.{or_left}
use Rattle.lic_trim.specs.Sources.{chars_of}
use Rattle.lic_kind.specs.LineRules.{rules_of}
use Rattle.lic_trim.specs.Lines.{is_space, is_separator}
use Rattle.lic_trim.specs.Walks.{walked, ends_piece, spaced_text_ends}
use Rattle.lic_trim.proofs.SideEnds.{side_ends}
use Rattle.lic_trim.proofs.sequences.piece_ends.Goals as goal
use Rattle.lic_trim.proofs.sequences.piece_ends.Goals.{then-separators, else-separators}

pub returns-then-space-separator : goal.returns-then-space-separator
returns-then-space-separator c =
    let rules = rules_of c.args.rules.now in
    let flags = c.args.flags.now in
    let line = walked c.args.side (chars_of c.args.line.now) in
    let end = c.args.end in
    let separator : c.if-separators.separator ≡ (rules.separators && ends_piece is_separator flags line end) = elim c.if-separators.branch [
      | then-separators w ↦ w.separator-is ∙ w.separator_ends-separator.ensures
          ∙ ap (λ b. b && ends_piece is_separator flags line end) (sym w.if-separators.true ∙ c.separators.ensures)
      | else-separators w ↦ w.separator-is ∙ w.if-separators.false
          ∙ ap (λ b. b && ends_piece is_separator flags line end) (sym w.if-separators.false ∙ c.separators.ensures)
    ] in
    let here : (ends_piece is_space flags line end || (rules.separators && ends_piece is_separator flags line end)) ≡ true =
    (λ i. sym c.space_ends-space.ensures i || sym separator i) ∙ c.if-space-separator.true in
    sym (side_ends flags line end rules c.args.side ∙ or_left _ _ (or_left _ _ here))

pub returns : goal.returns
returns c =
    let rules = rules_of c.args.rules.now in
    let flags = c.args.flags.now in
    let line = walked c.args.side (chars_of c.args.line.now) in
    let end = c.args.end in
    let separator : c.if-separators.separator ≡ (rules.separators && ends_piece is_separator flags line end) = elim c.if-separators.branch [
      | then-separators w ↦ w.separator-is ∙ w.separator_ends-separator.ensures
          ∙ ap (λ b. b && ends_piece is_separator flags line end) (sym w.if-separators.true ∙ c.separators.ensures)
      | else-separators w ↦ w.separator-is ∙ w.if-separators.false
          ∙ ap (λ b. b && ends_piece is_separator flags line end) (sym w.if-separators.false ∙ c.separators.ensures)
    ] in
    let text = c.any_text_ends-text.ensures
    ∙ ap (list_any (λ (t : List ℕ). ends_piece
    (bytes_eq (walked c.args.side t)) flags line end)) c.side_texts.ensures in
    let spaced = c.any_spaced_text_ends-spaced.ensures
    ∙ ap (list_any (λ (t : List ℕ). spaced_text_ends flags line end
    (walked c.args.side t))) c.side_spaced.ensures in
    (λ i. ((c.space_ends-space.ensures i || separator i) || text i) || (spaced i || c.requires.noted i)) ∙ sym (side_ends flags line end rules c.args.side)
