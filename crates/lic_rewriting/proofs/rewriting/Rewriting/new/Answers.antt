use Rattle.std.proofs.Common.{[], sym, subst}
use Rattle.std.proofs.lemmas.List.Elements.{All-nil}
use Rattle.lic_phrases.specs.Settling.{Settles}
use Rattle.lic_phrases.specs.TokenTexts.{IsTokenText}
use Rattle.lic_phrases.proofs.SettlingLemmas.{Settles-new}
use Rattle.lic_rewriting.proofs.rewriting.Rewriting.new.Goals as goal

pub returns-clause-taken : goal.returns-clause-taken
returns-clause-taken c = record {
  settled = [];
  settles = subst (λ kept. Settles c.args.phrases.now.phrases [] [] kept) (sym c.new.ensures) (Settles-new c.args.phrases.now.phrases);
  listed = c.requires.empty;
  known = c.requires.texts;
  texts = All-nil (λ t. IsTokenText t.text);
}
