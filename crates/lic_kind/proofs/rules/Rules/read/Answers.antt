use Rattle.std.proofs.Common.{◌≡◌, ◌⊎◌, ⊎_elim, inl, inr, ◌+◌, ◌≤◌, ◌==◌, [], ◌∷◌, ◌++◌, length, take, lit<, refl, sym, ap, subst, ◌∙◌, arith, length-append, take_all}
use Rattle.std.proofs.lemmas.Iterator.Consumers.{YieldsList-turn, YieldsList-end}
use Rattle.std.proofs.lemmas.Iterator.Splits.{YieldsList-from_str_split}
use Rattle.std.proofs.lemmas.List.{length-map}
use Rattle.std.specs.List.{slice_split}
use Rattle.lic_kind.specs.declared.rules_fault.RulesFault.{RulesFault}
use Rattle.lic_kind.specs.RuleFiles.{IsFirstFault, AreSound, line_of, lines_of, rules_in, texts_before, out_of_memory, fault_at}
use Rattle.lic_kind.specs.LineRules.{rules_of}
use Rattle.lic_kind.specs.RuleReading.{rules_read}
use Rattle.lic_kind.proofs.FirstFault.{line_at, next_rules, next_count, cause_here, sound_more, first_reported}
use Rattle.lic_kind.proofs.rules.Rules.read.Goals as goal

pub loop-line-init : goal.loop-line-init
loop-line-init c = record {
  can_next = tt;
  finite = tt;
  number = refl;
  count = c.new-reader.ensures.count;
  rules = c.new-reader.ensures.rules;
  sound = λ k before. absurd (omega (arith, before));
}

pub returns-in-Err-clause-refused : goal.returns-in-Err-clause-refused
returns-in-Err-clause-refused c =
    let file = c.args.text.now in
    let known = c.loop-line.invariant in
    let n = length c.loop-line.yielded in
    let line = c.in-Some.line.now in
    let turn = YieldsList-turn (YieldsList-from_str_split 10 file (lit< tt) (cc) (cc)
    (cc)) c.loop-line.yielded _ c.loop-line.yielded_by _ _ c.in-Some.line c.in-Some.is c.next.ensures.steps in
    let here = line_at file n line turn in
    let at : c.at.result ≡ fault_at (n + 1) c.in-Err.cause = c.at.ensures ∙ ap (λ k. fault_at (k + 1) c.in-Err.cause) known.number in
    let cause = cause_here (lines_of file) n (line_of line) c.loop-line.reader.count here.1 known.count in
    subst (λ (f : RulesFault). IsFirstFault (lines_of file) f ⊎ (f ≡ out_of_memory)) (sym at)
    (first_reported (lines_of file) n c.in-Err.cause here.0 known.sound (⊎_elim (λ fault. inl (cause ∙ fault)) (λ memory. inr memory) c.in-Err.ensures.fault))

pub loop-line-preserved : goal.loop-line-preserved
loop-line-preserved c =
    let file = c.args.text.now in
    let known = c.loop-line.invariant in
    let yielded = c.loop-line.yielded in
    let n = length yielded in
    let line = c.in-Some.line.now in
    let turn = YieldsList-turn (YieldsList-from_str_split 10 file (lit< tt) (cc) (cc)
    (cc)) yielded _ c.loop-line.yielded_by _ _ c.in-Some.line c.in-Some.is c.next.ensures.steps in
    let here = line_at file n line turn in
    let more : length (yielded ++ c.in-Some.line ∷ []) ≡ n + 1 = length-append yielded (c.in-Some.line ∷ []) in
    record {
      can_next = tt;
      finite = tt;
      number = omega (arith, known.number, more);
      count = next_count (lines_of file) n
          (line_of line) c.loop-line.reader.count c.read_line.new.self.count here.0 here.1 known.count c.in_default.ensures.count
          ∙ ap (λ k. texts_before (take k (lines_of file))) (sym more);
      rules = next_rules (lines_of file) n (line_of line) _ _ here.0 here.1 known.rules c.in_default.ensures.rules
          ∙ ap (λ k. rules_in (take k (lines_of file))) (sym more);
      sound = subst (AreSound (lines_of file)) (sym more)
          (sound_more (lines_of file) n known.sound
          (cause_here (lines_of file) n (line_of line) c.loop-line.reader.count here.1 known.count
          ∙ c.in_default.ensures.sound));
    }

pub returns-clause-accepted : goal.returns-clause-accepted
returns-clause-accepted c =
    let file = c.args.text.now in
    let n = length c.loop-line.yielded in
    let all = YieldsList-end (YieldsList-from_str_split 10 file (lit< tt) (cc) (cc)
    (cc)) c.loop-line.yielded _ c.loop-line.yielded_by _ _ c.in-None.is c.next.ensures.steps in
    let following : length (lines_of file) ≤ n = omega (arith, all.1, length-map (slice_split (λ b. b == 0x0A) file) line_of) in
    λ k within. c.loop-line.invariant.sound k (omega (arith, within, following))

pub returns-clause-rules : goal.returns-clause-rules
returns-clause-rules c =
    let file = c.args.text.now in
    let n = length c.loop-line.yielded in
    let all = YieldsList-end (YieldsList-from_str_split 10 file (lit< tt) (cc) (cc)
    (cc)) c.loop-line.yielded _ c.loop-line.yielded_by _ _ c.in-None.is c.next.ensures.steps in
    let following : length (lines_of file) ≤ n = omega (arith, all.1, length-map (slice_split (λ b. b == 0x0A) file) line_of) in
    let held : rules_of c.with.result ≡ rules_read c.loop-line.reader =
    c.with.ensures
    ∙ (λ i. record {
      lead = c.owned.ensures i;
      lead_space = c.owned-2.ensures i;
      tail = c.owned-3.ensures i;
      tail_space = c.owned-4.ensures i;
      tail_repeat = c.owned-5.ensures i;
      items = c.loop-line.reader.items;
      separators = c.loop-line.reader.separators;
    }) in
    held ∙ c.loop-line.invariant.rules ∙ ap rules_in (take_all n (lines_of file) following)
