use Rattle.std.proofs.Common.{◌≡◌, ◌⊎◌, ℕ, ◌+◌, ◌<◌, ◌≤◌, ◌==◌, List, [], ◌∷◌, ◌++◌, length, get_or, take, drop, Option, Some, None, lit<, refl, sym, ap, subst, ◌∙◌, arith, length-append, take_all}
use Rattle.std.proofs.lemmas.Iterator.Consumers.{YieldsList-turn, YieldsList-end}
use Rattle.std.proofs.lemmas.Iterator.Splits.{YieldsList-from_str_split}
use Rattle.std.proofs.lemmas.List.{length-map, drop_all}
use Rattle.std.specs.List.{slice_split}
use Rattle.lic_phrases.specs.declared.fault.WordsFault.{WordsFault}
use Rattle.lic_phrases.specs.Listed.{phrases_in}
use Rattle.lic_phrases.specs.WordLists.{fault_at, fault_from, first_fault, located, out_of_memory, phrase_lines, phrases_of_line}
use Rattle.lic_phrases.specs.WordReading.{HasRead}
use Rattle.lic_phrases.proofs.FaultLemmas.{line_has_fault, lines_sound_more}
use Rattle.lic_phrases.proofs.ListedLemmas.{mapped_at, take-next, nothing_read}
use Rattle.lic_phrases.proofs.words.reader.WordsReader.read_lines.Goals as goal

line_at : (text : List ℕ) (k : ℕ) (line : List ℕ)
    → (k < length (slice_split (λ b. b == 0x0A) text)) × (line ≡ get_or (slice_split (λ b. b == 0x0A) text) k line)
    → (k < length (phrase_lines text)) × (phrases_of_line line ≡ get_or (phrase_lines text) k [])
line_at text k line here = mapped_at phrases_of_line (slice_split (λ b. b == 0x0A) text) k line [] here.0 here.1

pub loop-line-init : goal.loop-line-init
loop-line-init c = record {
  can_next = tt;
  finite = tt;
  number = refl;
  listed = c.requires.listed;
  read = subst (λ l. HasRead [] [] [] (phrases_in l) c.args.self.now.heads.items []) (sym c.requires.phrases)
      (subst (λ (l : List ℕ). HasRead [] [] [] [] l []) (sym c.requires.heads) nothing_read);
  sound = ap (λ n. fault_from n (located 1 (phrase_lines c.args.text.now))) (sym c.requires.count);
}

pub returns-in-Err-clause-refused : goal.returns-in-Err-clause-refused
returns-in-Err-clause-refused c =
    let text = c.args.text.now in
    let known = c.loop-line.invariant in
    let turn = YieldsList-turn (YieldsList-from_str_split 10 text (lit< tt) (cc) (cc)
    (cc)) c.loop-line.yielded _ c.loop-line.yielded_by _ _ c.in-Some.line c.in-Some.is c.next.ensures.steps in
    let here = line_at text (length c.loop-line.yielded) c.in-Some.line.now turn in
    let reported : c.at.result ≡ fault_at (length c.loop-line.yielded + 1) c.in-Err.cause = c.at.ensures ∙ ap (λ n. fault_at (n + 1) c.in-Err.cause) known.number in
    subst (λ (f : WordsFault). (first_fault text ≡ Some f) ⊎ (f ≡ out_of_memory)) (sym reported)
    (line_has_fault (phrase_lines text) (length c.loop-line.yielded) c.loop-line.self.count
    (phrases_of_line c.in-Some.line.now) c.in-Err.cause
    (first_fault text) known.sound here.0 here.1 c.in-Err.ensures.fault)

pub loop-line-preserved : goal.loop-line-preserved
loop-line-preserved c =
    let text = c.args.text.now in
    let known = c.loop-line.invariant in
    let yielded = c.loop-line.yielded in
    let reader = c.read_line.new.self in
    let turn = YieldsList-turn (YieldsList-from_str_split 10 text (lit< tt) (cc) (cc)
    (cc)) yielded _ c.loop-line.yielded_by _ _ c.in-Some.line c.in-Some.is c.next.ensures.steps in
    let here = line_at text (length yielded) c.in-Some.line.now turn in
    let more : length (yielded ++ c.in-Some.line ∷ []) ≡ length yielded + 1 = length-append yielded (c.in-Some.line ∷ []) in
    record {
      can_next = tt;
      finite = tt;
      number = omega (arith, known.number, more);
      listed = c.in_default.ensures.listed;
      read = subst (λ (l : List (List (List (List ℕ)))). HasRead [] l [] (phrases_in reader.phrases.items) reader.heads.items [])
          (take-next (phrase_lines text) yielded c.in-Some.line (phrases_of_line c.in-Some.line.now) [] here.0 here.1)
          (c.in_default.ensures.read (take (length yielded) (phrase_lines text)) known.read);
      sound =
          lines_sound_more (phrase_lines text) (length yielded) c.loop-line.self.count reader.count
          (phrases_of_line c.in-Some.line.now)
          (first_fault text) known.sound here.0 here.1 c.in_default.ensures.sound
          ∙ ap (λ n. fault_from reader.count (located (n + 1) (drop n (phrase_lines text)))) (sym more);
    }

-- at the end of the text all lines are read
all_read : (lines : List (List (List (List ℕ)))) (n : ℕ) (phrases : List (List (List ℕ))) (heads : List ℕ)
    → length lines ≤ n → HasRead [] (take n lines) [] phrases heads [] → HasRead [] lines [] phrases heads []
all_read lines n phrases heads past read = subst (λ (l : List (List (List (List ℕ)))). HasRead [] l [] phrases heads []) (take_all n lines past) read

-- and none is at fault
all_sound : (lines : List (List (List (List ℕ)))) (n count : ℕ) (first : Option WordsFault) → length lines ≤ n
    → first ≡ fault_from count (located (n + 1) (drop n lines)) → first ≡ None
all_sound lines n count first past sound = sound ∙ ap (λ l. fault_from count (located (n + 1) l)) (drop_all n lines past)

pub returns : goal.returns
returns c =
    let text = c.args.text.now in
    let lines = phrase_lines text in
    let n = length c.loop-line.yielded in
    let known = c.loop-line.invariant in
    let reader = c.loop-line.self in
    let all = YieldsList-end (YieldsList-from_str_split 10 text (lit< tt) (cc) (cc)
    (cc)) c.loop-line.yielded _ c.loop-line.yielded_by _ _ c.in-None.is c.next.ensures.steps in
    let past : length lines ≤ n = omega (arith, all.1, length-map (slice_split (λ b. b == 0x0A) text) phrases_of_line) in
    record {
      listed = known.listed;
      read = all_read lines n (phrases_in reader.phrases.items) reader.heads.items past known.read;
      sound = all_sound lines n reader.count (first_fault text) past known.sound;
      refused = tt;
    }
