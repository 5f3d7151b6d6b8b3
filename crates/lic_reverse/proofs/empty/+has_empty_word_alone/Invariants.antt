-- Each of the patterns so far has the empty word alone.
use Rattle.std.proofs.Common.{All, take}
use Rattle.lic_reverse.proofs.EmptyWords.{IsAlone}
use Rattle.lic_reverse.proofs.empty.+has_empty_word_alone.Given as goal

abbrev pub invariant-have_empty_word_alone-loop-sub : goal.invariant-have_empty_word_alone-loop-sub
invariant-have_empty_word_alone-loop-sub l = All IsAlone (take l.sub-index l.subs)
