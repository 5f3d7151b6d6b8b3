use Rattle.std.proofs.Common.{sym, subst, string_bytes}
use Rattle.std.proofs.lemmas.Str.{IsUtf8-string_bytes}
use Rattle.lic_kind.specs.LineRules.{rules_of}
use Rattle.lic_phrases.specs.PieceTexts.{IsPieceText}
use Rattle.lic_markup.specs.Parts.{sequence}
use Rattle.lic_markup.specs.PartTexts.{HavePieceTexts}
use Rattle.lic_markup.specs.Reading.{PartLevel}
use Rattle.lic_markup.specs.Views.{level_of}
use Rattle.lic_markup.proofs.PartTextLemmas.{piece_of-text, with_letters-texts}
use Rattle.lic_markup.proofs.reader.TemplateReader.text.Goals as goal

pub returns-clause-texts : goal.returns-clause-texts
returns-clause-texts c =
    let letters = string_bytes c.in_ok-letters.letters in
    let piece : IsPieceText letters =
    subst IsPieceText (sym c.in_ok-letters.ensures.letters)
    (piece_of-text (rules_of c.args.rules.now) c.args.words.now c.args.self.now.at_start c.if-ends_line.next
    c.as_str.result.now c.in_ok-letters.ensures.utf8 c.in_ok-letters.ensures.token_texts) in (
      subst (λ (l : PartLevel). HavePieceTexts (sequence l.parts)) (sym c.in_ok-push_letters.ensures)
          (with_letters-texts letters (level_of c.args.self.now.level) (IsUtf8-string_bytes c.in_ok-letters.letters) piece c.requires.0),
      c.requires.1,
    )
