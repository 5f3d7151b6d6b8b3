use Rattle.std.proofs.Common.{◌≡◌, ap, sym, ◌∙◌, refl}
use Rattle.lic_kind.specs.LineRules.{rules_of}
use Rattle.lic_columns.specs.Cells.{starts_of, ends_of}
use Rattle.lic_columns.specs.Edges.{byte_lines, lines_blanked}
use Rattle.lic_columns.specs.Known.{known_of}
use Rattle.lic_columns.specs.Tokens.{text_spans}
use Rattle.lic_columns.proofs.ColumnLemmas.{map_letters}
use Rattle.lic_columns.proofs.ReadLines.{cleared_text, cleared_letters, letters_of_text, letters_are_ascii, as_long, paired, bounds, tokens_of_text}
use Rattle.lic_columns.proofs.lines.Lines.read.Goals as goal

pub list_tokens-requires-clause-text : goal.list_tokens-requires-clause-text
list_tokens-requires-clause-text c =
    cleared_text (rules_of c.args.rules.now) c.args.at c.args.bytes.now c.clear_lines.new.columns c.in_ok-clear_lines.ensures

pub list_tokens-requires-clause-letters : goal.list_tokens-requires-clause-letters
list_tokens-requires-clause-letters c =
    let rules = rules_of c.args.rules.now in
    let text = c.args.bytes.now in
    let known = c.clear_lines.new.columns in
    let is = c.in_ok-clear_lines.ensures in
    map_letters text known.letters known.mark (cleared_letters rules c.args.at text known is) (sym (cleared_text rules c.args.at text known is).whole.mark)

pub returns : goal.returns
returns c =
    let rules = rules_of c.args.rules.now in
    let at = c.args.at in
    let text = c.args.bytes.now in
    let known = c.clear_lines.new.columns in
    let is : known ≡ lines_blanked rules 0 (byte_lines text) (known_of text) = c.in_ok-clear_lines.ensures in
    let letters = known.letters in
    let starts = c.list_tokens.new.starts in
    let ends = c.list_tokens.new.ends in
    let starts_are : starts ≡ starts_of (text_spans rules.separators at text known) =
    c.in_ok-list_tokens.ensures.starts ∙ ap (λ s. starts_of (text_spans s at text known)) c.separators.ensures in
    let ends_are : ends ≡ ends_of (text_spans rules.separators at text known) =
    c.in_ok-list_tokens.ensures.ends ∙ ap (λ s. ends_of (text_spans s at text known)) c.separators.ensures in
    record {
      letters = letters_of_text rules at text known is letters starts ends refl starts_are ends_are;
      ascii = letters_are_ascii rules at text known is letters starts ends refl starts_are ends_are c.requires.ascii;
      long = as_long rules at text known is letters starts ends refl starts_are ends_are;
      paired = paired rules at text known is letters starts ends refl starts_are ends_are;
      from = λ i lt. (bounds rules at text known is letters starts ends refl starts_are ends_are i lt).0;
      some = λ i lt. (bounds rules at text known is letters starts ends refl starts_are ends_are i lt).1;
      to = λ i lt. (bounds rules at text known is letters starts ends refl starts_are ends_are i lt).2;
      tokens = tokens_of_text rules at text known is letters starts ends refl starts_are ends_are c.requires.ascii;
    }
