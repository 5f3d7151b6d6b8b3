use Rattle.lic_kind.proofs.LetterTable.{listed_letters}
use Rattle.lic_kind.proofs.word_letters.listed_letter.Goals as goal

pub returns-else-letter-eq0-clause-word : goal.returns-else-letter-eq0-clause-word
returns-else-letter-eq0-clause-word c = (listed_letters c.args.c c.requires c.if-letter-eq0.false).0

pub returns-else-letter-eq0-clause-letter : goal.returns-else-letter-eq0-clause-letter
returns-else-letter-eq0-clause-letter c = (listed_letters c.args.c c.requires c.if-letter-eq0.false).1
