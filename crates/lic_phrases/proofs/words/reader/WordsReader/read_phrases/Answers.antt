use Rattle.std.proofs.Common.{◌≡◌, ℕ, ◌+◌, ◌<◌, ◌==◌, inl, inr, List, [], ◌∷◌, ◌++◌, length, get_or, take, drop, map, vec_len, lit<, sym, ap, subst, ◌∙◌, arith, length-append, take_all}
use Rattle.std.proofs.lemmas.Iterator.Consumers.{YieldsList-turn, YieldsList-end}
use Rattle.std.proofs.lemmas.Iterator.Splits.{YieldsList-from_str_split}
use Rattle.std.proofs.lemmas.List.{length-map, drop_all}
use Rattle.std.proofs.lemmas.Result.{err_from_is_err_and}
use Rattle.std.specs.List.{slice_split}
use Rattle.std.specs.Str.{chars}
use Rattle.lic_phrases.specs.Classes.{AreRepresentatives}
use Rattle.lic_phrases.specs.Listed.{phrases_in}
use Rattle.lic_phrases.specs.WordLists.{fault_from, phrase_texts, split_phrases}
use Rattle.lic_phrases.specs.WordReading.{HasRead}
use Rattle.lic_phrases.proofs.FaultLemmas.{has_fault_at, sound_more}
use Rattle.lic_phrases.proofs.ListedLemmas.{mapped_at, take-next, numbered_more, written_back, line_is_read}
use Rattle.lic_phrases.proofs.words.reader.WordsReader.read_phrases.Goals as goal

phrase_at : (line : List ℕ) (k : ℕ) (phrase : List ℕ)
    → (k < length (slice_split (λ b. b == 0x2C) line)) × (phrase ≡ get_or (slice_split (λ b. b == 0x2C) line) k phrase)
    → (k < length (split_phrases line)) × (phrase_texts (chars phrase) ≡ get_or (split_phrases line) k [])
phrase_at line k phrase here = mapped_at (λ p. phrase_texts (chars p)) (slice_split (λ b. b == 0x2C) line) k phrase [] here.0 here.1

pub returns-in_err-number-clause-fault : goal.returns-in_err-number-clause-fault
returns-in_err-number-clause-fault c =
    let line = c.args.line.now in
    let turn = YieldsList-turn (YieldsList-from_str_split 44 line (lit< tt) (cc) (cc)
    (cc)) c.loop-phrase.yielded _ c.loop-phrase.yielded_by _ _ c.in-Some.phrase c.in-Some.is c.next.ensures.steps in
    let here = phrase_at line (length c.loop-phrase.yielded) c.in-Some.phrase.now turn in
    let p = err_from_is_err_and c.from_residual.result c.from_residual.ensures.1 in
    rw (p.1, p.2) (elim c.in_err-number.ensures.fault [
      | inl fault ↦ inl (has_fault_at (split_phrases line)
          (length c.loop-phrase.yielded) c.args.self.now.count c.loop-phrase.self.count
          (phrase_texts (chars c.in-Some.phrase.now)) c.in_err-number.field-0.0 c.loop-phrase.invariant.sound here.0 here.1 fault)
      | inr memory ↦ inr memory
    ])

pub loop-phrase-preserved : goal.loop-phrase-preserved
loop-phrase-preserved c =
    let line = c.args.line.now in
    let known = c.loop-phrase.invariant in
    let yielded = c.loop-phrase.yielded in
    let turn = YieldsList-turn (YieldsList-from_str_split 44 line (lit< tt) (cc) (cc)
    (cc)) yielded _ c.loop-phrase.yielded_by _ _ c.in-Some.phrase c.in-Some.is c.next.ensures.steps in
    let here = phrase_at line (length yielded) c.in-Some.phrase.now turn in
    let more : length (yielded ++ c.in-Some.phrase ∷ []) ≡ length yielded + 1 = length-append yielded (c.in-Some.phrase ∷ []) in
    let pushed = c.in_ok-push.ensures.items in
    record {
      can_next = tt;
      finite = tt;
      listed = c.in_ok-number.ensures.listed;
      as_many = omega (arith, c.in_ok-push.ensures.len, more, known.as_many);
      numbered = λ k within. subst (λ l. get_or l k 0 < vec_len c.read_phrase.new.self.heads) (sym pushed)
          (numbered_more c.loop-phrase.numbers.items c.in_ok-number.number (vec_len c.loop-phrase.self.heads) (vec_len c.read_phrase.new.self.heads)
          (λ j h. known.numbered j (omega (arith, c.loop-phrase.numbers.ok.0)))
          c.read_phrase.ensures.grown c.in_ok-number.ensures.within k (omega (arith, ap length pushed, c.push.new.self.ok.0)));
      read = λ lines before.
          subst (λ (l : List ℕ). HasRead [] lines
          (take (length (yielded ++ c.in-Some.phrase ∷ [])) (split_phrases line))
          (phrases_in c.read_phrase.new.self.phrases.items) c.read_phrase.new.self.heads.items l) (sym pushed)
          (subst (λ (l : List (List (List ℕ))). HasRead [] lines l
          (phrases_in c.read_phrase.new.self.phrases.items) c.read_phrase.new.self.heads.items
          (c.loop-phrase.numbers.items ++ c.in_ok-number.number ∷ []))
          (take-next (split_phrases line) yielded c.in-Some.phrase (phrase_texts (chars c.in-Some.phrase.now)) [] here.0 here.1)
          (c.in_ok-number.ensures.read lines (take (length yielded) (split_phrases line)) c.loop-phrase.numbers.items (known.read lines before)));
      sound = λ number later.
          sound_more (split_phrases line) (length yielded) c.args.self.now.count c.loop-phrase.self.count
          (phrase_texts (chars c.in-Some.phrase.now)) known.sound here.0 here.1 c.in_ok-number.ensures.sound number later
          ∙ ap (λ n. fault_from n (map (λ phrase. (number, phrase)) (drop (length yielded + 1) (split_phrases line))
          ++ later)) (sym c.in_ok-number.ensures.count)
          ∙ ap (λ n. fault_from c.read_phrase.new.self.count (map (λ phrase. (number, phrase)) (drop n (split_phrases line)) ++ later)) (sym more);
    }

pub returns-clause-read : goal.returns-clause-read
returns-clause-read c = λ lines before.
    let line = c.args.line.now in
    let known = c.loop-phrase.invariant in
    let heads = c.loop-phrase.self.heads in
    let all = YieldsList-end (YieldsList-from_str_split 44 line (lit< tt) (cc) (cc)
    (cc)) c.loop-phrase.yielded _ c.loop-phrase.yielded_by _ _ c.in-None.is c.next.ensures.steps in
    let whole : take (length c.loop-phrase.yielded) (split_phrases line) ≡ split_phrases line =
    take_all (length c.loop-phrase.yielded) (split_phrases line)
    (omega (arith, all.1, length-map (slice_split (λ b. b == 0x2C) line) (λ p. phrase_texts (chars p)))) in
    let as_long : length c.join_line.new.heads ≡ length heads.items = c.join_line.ensures.len ∙ ap length c.deref_mut.ensures.value in
    subst (λ (l : List ℕ). HasRead [] (lines ++ split_phrases line ∷ []) []
    (phrases_in c.loop-phrase.self.phrases.items) l [])
    (sym (written_back heads.items c.join_line.new.heads heads.len as_long heads.ok.0))
    (line_is_read lines (split_phrases line) (phrases_in c.loop-phrase.self.phrases.items) heads.items c.join_line.new.heads c.loop-phrase.numbers.items
    (subst (λ (l : List (List (List ℕ))). HasRead [] lines l
    (phrases_in c.loop-phrase.self.phrases.items) heads.items c.loop-phrase.numbers.items) whole
    (known.read lines before))
    as_long
    (λ ls h. subst (λ (l : List ℕ). AreRepresentatives (ls ++ l ∷ []) c.join_line.new.heads) c.deref.ensures.value
    (c.join_line.ensures.joined ls (subst (AreRepresentatives (ls ++ [] ∷ [])) (sym c.deref_mut.ensures.value) h))))

pub returns-clause-sound : goal.returns-clause-sound
returns-clause-sound c = λ number later.
    let line = c.args.line.now in
    let all = YieldsList-end (YieldsList-from_str_split 44 line (lit< tt) (cc) (cc)
    (cc)) c.loop-phrase.yielded _ c.loop-phrase.yielded_by _ _ c.in-None.is c.next.ensures.steps in
    c.loop-phrase.invariant.sound number later
    ∙ ap (λ l. fault_from c.loop-phrase.self.count (map (λ phrase. (number, phrase)) l ++ later))
    (drop_all (length c.loop-phrase.yielded) (split_phrases line)
    (omega (arith, all.1, length-map (slice_split (λ b. b == 0x2C) line) (λ p. phrase_texts (chars p)))))
