use Rattle.std.proofs.Common.{◌||◌, ◌==◌, true, not, option_map, sym, ap, ◌∙◌, rules}
use Rattle.std.specs.Char.{is_whitespace}
use Rattle.std.specs.Option.{option_map_or}
use Rattle.std.proofs.lemmas.Iterator.{YieldsList-from_chars}
use Rattle.std.proofs.lemmas.Iterator.Search.{find_from_yields_List}
use borrow.Author.Tests.{tests}
use Rattle.lic_kind.specs.Kinds.{is_dropped}
use Rattle.lic_phrases.proofs.words.phrase.is_skipped.Goals as goal

pub returns-in-None : goal.returns-in-None
returns-in-None c =
    let found = find_from_yields_List (λ d. not (is_whitespace d || is_dropped d)) _ _ c.find.result c.find.ensures.ran
    (YieldsList-from_chars c.args.line.now c.utf8.line cc) (λ x b q k. search (rules, tests)) in
    ap (λ o. option_map_or (λ d. d == 0x23) o true) (sym (ap (option_map (λ x. x)) c.in-None.is) ∙ found)

pub returns-in-Some : goal.returns-in-Some
returns-in-Some c =
    let found = find_from_yields_List (λ d. not (is_whitespace d || is_dropped d)) _ _ c.find.result c.find.ensures.ran
    (YieldsList-from_chars c.args.line.now c.utf8.line cc) (λ x b q k. search (rules, tests)) in
    ap (λ o. option_map_or (λ d. d == 0x23) o true) (sym (ap (option_map (λ x. x)) c.in-Some.is) ∙ found)
