use Rattle.std.proofs.Common.{◌≡◌, ◌+◌, [], length, ap, sym, ◌∙◌, append-nil, subst, arith, take}
use Rattle.lic_phrases.specs.Spelling.{ends_in_word}
use Rattle.lic_rewriting.specs.Batches.{AreInBatch, HasSpelledUpTo}
use Rattle.lic_rewriting.proofs.BatchLemmas.{none_spelled_yet}
use Rattle.lic_rewriting.proofs.SectionTokens.{no_token}
use Rattle.lic_rewriting.proofs.rewriting.batch.spell.Goals as goal
use Rattle.lic_rewriting.proofs.rewriting.batch.spell.Goals.{After-after_word}

-- none is in it yet
none_yet : (c : After-after_word) → AreInBatch c.args.section.now c.args.i c.args.rewriting.now c.args.batch.now
    (record { count = 0; offset = 0; after_word = c.after_word.result })
none_yet c =
    let i = c.args.i in
    let none : i ≡ i + 0 = omega arith in
    record {
      short = omega arith;
      utf8 = c.after_word.ensures.utf8;
      holds = subst (λ n. HasSpelledUpTo c.args.section.now i n c.args.rewriting.now [] []) none
          (none_spelled_yet c.args.section.now i c.args.rewriting.now);
      word = c.after_word.ensures.word ∙ ap ends_in_word (sym (append-nil _));
    }

pub returns-then-before-gt-MAX_BEFORE-clause-held : goal.returns-then-before-gt-MAX_BEFORE-clause-held
returns-then-before-gt-MAX_BEFORE-clause-held c = none_yet (goal.at.returns-then-before-gt-MAX_BEFORE-clause-held c).After-after_word

pub loop-state-init : goal.loop-state-init
loop-state-init c = record { within = omega arith; held = none_yet (goal.at.loop-state-init c).After-after_word }

pub put_token-state-requires-clause-front : goal.put_token-state-requires-clause-front
put_token-state-requires-clause-front c =
    let texts = c.in-Some.ensures.text no_token in
    texts ∙ c.letters_from-letters.ensures.front no_token ∙ ap (λ l. take (length l) c.letters_from-letters.result.now) (sym texts)

pub loop-state-smaller : goal.loop-state-smaller
loop-state-smaller c =
    omega (
      arith,
      c.loop-state-test.true,
      c.spell_plain.ensures.grown,
      c.spell_plain.ensures.within,
      c.put_token-state.ensures.count,
    )
