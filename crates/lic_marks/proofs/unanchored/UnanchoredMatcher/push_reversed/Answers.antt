use Rattle.std.proofs.Common.{◌≡◌, ℕ, List, [], ◌∷◌, ◌++◌, true, length, reverse, refl, sym, ap, ◌∙◌, subst, arith}
use Rattle.std.specs.Str.{chars}
use Rattle.lic_words.specs.Letters.{letters_in}
use Rattle.lic_words.specs.Spelling.{Gap, free, gapped_from, last_letter}
use Rattle.lic_words.specs.Reading.{gapped_letter, reversed_letters_left}
use Rattle.lic_words.proofs.Counts.{length-gapped_from, letters_in-reverse}
use Rattle.lic_marks.specs.Nodes.{core_of}
use Rattle.lic_marks.specs.Cores.{WordsOf}
use Rattle.lic_marks.specs.Representing.{AfterAny, each_with}
use Rattle.lic_marks.specs.Unanchored.{ends_of, AllEndWith}
use Rattle.lic_marks.proofs.StateLemmas.{LeadsSoFar-same}
use Rattle.lic_marks.specs.States.{HasTakenAny}
use Rattle.lic_marks.proofs.Seeking.{first_apart, last_letter-own, with_token, enters, ends_more, more_ends, last_more}
use Rattle.lic_marks.proofs.unanchored.UnanchoredMatcher.push_reversed.Goals as goal

-- a token has letters
pub returns-in_default-clause-taken : goal.returns-in_default-clause-taken
returns-in_default-clause-taken c =
    let last = c.args.self.now.last in
    let cs : List ℕ = chars c.args.token.now in
    let none : gapped_from last true (reverse cs) ≡ [] = sym c.new-letters.ensures.letters ∙ c.in_default.ensures.steps.first.0 in
    let count : letters_in cs ≡ 0 = sym (letters_in-reverse cs) ∙ sym (length-gapped_from last true (reverse cs)) ∙ ap length none in
    absurd (omega (arith, c.requires, count))

pub enter-requires-clause-apart : goal.enter-requires-clause-apart
enter-requires-clause-apart c =
    first_apart c.args.self.now.last (reverse (chars c.args.token.now)) (gapped_letter c.in-Some.letter) (reversed_letters_left c.next.new.self)
    (sym c.new-letters.ensures.letters ∙ c.in-Some.ensures.steps.first) c.in-Some.letter.is_apart c.in-Some.letter.are_words refl

pub returns-clause-taken : goal.returns-clause-taken
returns-clause-taken c = λ e ts s.
    let r = core_of c.args.self.now.tree in
    let last = c.args.self.now.last in
    let t : List ℕ = reverse (chars c.args.token.now) in
    let p : Gap × ℕ = gapped_letter c.in-Some.letter in
    let rest : List (Gap × ℕ) = reversed_letters_left c.next.new.self in
    let split : gapped_from last true t ≡ p ∷ rest = sym c.new-letters.ensures.letters ∙ c.in-Some.ensures.steps.first in
    let new_last : c.finish_token-self.result ≡ last_letter last t =
    c.finish_token-self.ensures.last ∙ c.in-Some.ensures.steps.last ∙ c.new-letters.ensures.last in
    let taken : HasTakenAny r c.finish_token-self.new.self (with_token last t (ends_of ts)) =
    subst (HasTakenAny r c.finish_token-self.new.self) (enters last t p rest (ends_of ts) split)
    (c.finish_token-self.ensures.taken (((free, p.1) ∷ []) ∷ each_with (p ∷ []) (ends_of ts)) (c.enter.ensures.taken (ends_of ts) s.taken)) in
    record {
      words = s.words;
      taken = LeadsSoFar-same r _ _ _ _ (AfterAny (WordsOf r) (with_token last t (ends_of ts))) (AfterAny (WordsOf r) (ends_of (ts ++ t ∷ [])))
          (λ v h. ends_more last t (WordsOf r) v ts s.last h) (λ v h. more_ends last t (WordsOf r) v ts s.last h) taken;
      last = subst (λ l. AllEndWith l (ts ++ t ∷ [])) (sym new_last) (last_more last t (last_letter-own last t p rest split) ts s.last);
    }
