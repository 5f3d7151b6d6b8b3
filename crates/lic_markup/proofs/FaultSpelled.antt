-- The fault that is reported is the first.
use Rattle.std.proofs.Common.{◌≡◌, ℕ, suc, ◌≤◌, ◌<◌, Bool, true, false, cond, not, List, [], ◌∷◌, ◌++◌, length, Some, Result, Ok, Err, refl, sym, ap, subst, ◌∙◌, append_assoc, append-nil, arith}
use Rattle.std.specs.Prelude.{nat_lt}
use Rattle.std.proofs.lemmas.Bool.Decides.{nat_tests}
use Rattle.lic_ere.specs.declared.fault.EreFault.{EreFault}
use Rattle.lic_ere.specs.Grammar.{IsPattern}
use Rattle.lic_ere.specs.Located.{located}
use Rattle.lic_ere.specs.Trees.{Tree}
use Rattle.lic_ere.specs.Reading as ere
use Rattle.lic_ere.proofs.Sound.{reading-IsPattern}
use Rattle.lic_kind.specs.LineRules.{LineRules}
use Rattle.lic_phrases.specs.Rewriting.{Phrase}
use Rattle.lic_elements.specs.declared.fault.MarkupFault.{MarkupFault}
use Rattle.lic_elements.specs.declared.fault.MarkupCause.TheVariants.{NotEnded, NoLetter, TooHeavy, TooLong, TooDeep, EndWithoutBegin}
use Rattle.lic_elements.specs.Faults.{fault_at}
use Rattle.lic_elements.specs.Rules as rules
use Rattle.lic_elements.specs.Elements.{Element, text, rule, refused, elements}
use Rattle.lic_markup.specs.Lines.{with_next, next_of}
use Rattle.lic_markup.specs.Parts.{Node, Reading, sequence, sequence_weight, sequence_has_token}
use Rattle.lic_markup.specs.Reading as reading
use Rattle.lic_markup.specs.Reading.{PartLevel, State, meet, meet_text, meet_variable, meet_end, finish, read_on, read_elements, start, whole, reported, max_depth, max_length, max_weight}
use Rattle.lic_markup.specs.Templates as templates
use Rattle.lic_markup.specs.Templates.{Item, letters, opens_line, is_piece, is_variable, is_begin, is_finish, AreItems, no_item, one_item}
use Rattle.lic_markup.specs.FirstFaults as faults
use Rattle.lic_markup.specs.FirstFaults.{AreSound, IsAtFault, of_rule, bad_pattern, too_deep, no_begin, Lead, nowhere, on, over, into, out, IsFirstFault, at_rule, not_ended, no_token, too_heavy, IsFaultOf, too_long, otherwise}
use Rattle.lic_elements.proofs.CutSpelled.{elements_are_cut}
use Rattle.lic_markup.proofs.LineSpelled.{opens-text, opens-variable, opens-begin, opens-finish}
use Rattle.lic_markup.proofs.PartSpelled.{run, run_spelled}
use Rattle.lic_markup.proofs.TemplateSpelled.{parts_in, letters_of, run_text, run_variable, run_begin, run_finish, run_nothing, after_variable, after_begin, after_finish, then}

abbrev failed : MarkupFault → Result Reading MarkupFault
failed e = Err e

same_fault : (d e : MarkupFault) → failed d ≡ failed e → d ≡ e
same_fault d e h = ap (λ (o : Result Reading MarkupFault). elim o [ Ok x ↦ d | Err f ↦ f ]) h

not_failed : {A : Type 0} (r : Reading) (e : MarkupFault) → Ok r ≡ failed e → A
not_failed r e h = absurd (never h)
  where
    never : Ok r ≡ failed e → ⊥
    never h = cc

-- ---- elements one after the other

sound-append : {a b c : ℕ} {es : List Element} (fs : List Element) → AreSound a es b → AreSound b fs c → AreSound a (es ++ fs) c
sound-append fs faults.none more = more
sound-append fs (faults.piece h) more = faults.piece (sound-append fs h more)
sound-append fs (faults.variable is h) more = faults.variable is (sound-append fs h more)
sound-append fs (faults.begin small h) more = faults.begin small (sound-append fs h more)
sound-append fs (faults.finish h) more = faults.finish (sound-append fs h more)

lead-append : {a b c : ℕ} {es : List Element} (fs : List Element) → Lead a es b → Lead b fs c → Lead a (es ++ fs) c
lead-append fs nowhere more = more
lead-append fs (on h) more = on (lead-append fs h more)
lead-append fs (over h) more = over (lead-append fs h more)
lead-append fs (into h) more = into (lead-append fs h more)
lead-append fs (out h) more = out (lead-append fs h more)

lead-deeper : {a b : ℕ} {es : List Element} → Lead a es b → Lead (suc a) es (suc b)
lead-deeper nowhere = nowhere
lead-deeper (on h) = on (lead-deeper h)
lead-deeper (over h) = over (lead-deeper h)
lead-deeper (into h) = into (lead-deeper h)
lead-deeper (out h) = out (lead-deeper h)

-- Before here the innermost open part begins where its level says, and each part that begins after that is ended; so do those
-- round it.
abbrev Open : List Element → PartLevel → List PartLevel → Type 0
Open before level [] = Lead 0 before 0
Open before level (o ∷ outer) =
    (front : List Element) × (following : List Element) × (before ≡ front ++ rule (rules.begin level.offset) ∷ following)
    × Lead 0 following 0 × Open front o outer

-- elements that leave as many parts open
open-on : (before more : List Element) (l m : PartLevel) (outer : List PartLevel) → m.offset ≡ l.offset → Lead 0 more 0
    → Open before l outer → Open (before ++ more) m outer
open-on before more l m [] same leads h = lead-append more h leads
open-on before more l m (o ∷ outer) same leads h = (
  h.0,
  h.1 ++ more,
  ap (λ es. es ++ more) h.2 ∙ append_assoc h.0 (rule (rules.begin l.offset) ∷ h.1) more
      ∙ ap (λ p. h.0 ++ rule (rules.begin p) ∷ (h.1 ++ more)) (sym same),
  lead-append more h.3 leads,
  h.4,
)

-- the end of the innermost part
open-end : (before : List Element) (offset : ℕ) (level o m : PartLevel) (outer : List PartLevel) → m.offset ≡ o.offset
    → Open before level (o ∷ outer) → Open (before ++ rule (rules.finish offset) ∷ []) m outer
open-end before offset level o m outer same h =
    let more : List Element = rule (rules.begin level.offset) ∷ (h.1 ++ rule (rules.finish offset) ∷ []) in
    let leads : Lead 0 more 0 = into (lead-append (rule (rules.finish offset) ∷ []) (lead-deeper h.3) (out nowhere)) in
    subst (λ es. Open es m outer)
    (sym (append_assoc h.0 (rule (rules.begin level.offset) ∷ h.1) (rule (rules.finish offset) ∷ []))
    ∙ ap (λ es. es ++ rule (rules.finish offset) ∷ []) (sym h.2))
    (open-on h.0 more o m outer same leads h.4)

module _ (line_rules : LineRules) (words : List Phrase) where
  -- the fault of the elements after some, from a state on
  data Fault (before es : List Element) (s : State) (e : MarkupFault) : Type 0 where
    early : {front : List Element} (after : List Element) {x : Element} {depth : ℕ} → before ++ es ≡ front ++ x ∷ after
        → AreSound 0 front depth → IsAtFault depth x e → Fault before es s e
    left_open : (front : List Element) {following : List Element} {offset depth : ℕ}
        → before ++ es ≡ front ++ rule (rules.begin offset) ∷ following → AreSound 0 (before ++ es) (suc depth)
        → Lead 0 following 0 → fault_at offset NotEnded ≡ e → Fault before es s e
    late : {items : List Item} {ps : List Node} (original : List ℕ) → AreItems line_rules words before es items
        → run s.level.parts (parts_in s.outer) items ≡ Some ps → whole ps original ≡ Err e → Fault before es s e

  -- one more element before
  fault_back : (before es : List Element) (x : Element) (s t : State) (e : MarkupFault)
      → ((items : List Item) → AreItems line_rules words (before ++ x ∷ []) es items
      → (more : List Item) × AreItems line_rules words before (x ∷ es) more
      × (run s.level.parts (parts_in s.outer) more ≡ run t.level.parts (parts_in t.outer) items))
      → Fault (before ++ x ∷ []) es t e → Fault before (x ∷ es) s e
  fault_back before es x s t e step (early after is sound at) = early after (sym (append_assoc before (x ∷ []) es) ∙ is) sound at
  fault_back before es x s t e step (left_open front {depth = depth} is sound leads same) =
      left_open front (sym (append_assoc before (x ∷ []) es) ∙ is) (subst (λ l. AreSound 0 l (suc depth)) (append_assoc before (x ∷ []) es) sound) leads same
  fault_back before es x s t e step (late {items = items} original are runs is) =
      let more = step items are in
      late original more.1 (more.2 ∙ runs) is

  abbrev Faulty : List Element → Type 0
  Faulty es = (before : List Element) (s : State) (e : MarkupFault) → s.at_start ≡ opens_line before
      → AreSound 0 before (length s.outer) → Open before s.level s.outer
      → read_on line_rules words s (with_next es) ≡ Err e → Fault before es s e

  end_by : (before : List Element) (s : State) (e : MarkupFault) (os : List PartLevel) → s.outer ≡ os
      → AreSound 0 before (length os) → Open before s.level os → finish s.level os s.original ≡ Err e
      → Fault before [] s e
  end_by before s e [] none sound opens is = late s.original no_item (run_nothing line_rules words s none) is
  end_by before s e (o ∷ os) some sound opens is =
      left_open opens.0 (append-nil before ∙ opens.2)
      (subst (λ l. AreSound 0 l (suc (length os))) (sym (append-nil before)) sound) opens.3
      (same_fault (fault_at s.level.offset NotEnded) e is)

  variable_by : (es before : List Element) (s : State) (e : MarkupFault) (name original : List ℕ) (offset : ℕ)
      (pattern : List ℕ) → Faulty es → AreSound 0 before (length s.outer) → Open before s.level s.outer
      → (p : Result Tree EreFault) → ere.reading pattern ≡ p
      → then line_rules words (meet_variable name original offset p s) es ≡ Err e
      → Fault before (rule (rules.variable name original offset pattern) ∷ es) s e
  variable_by es before s e name original offset pattern others sound opens (Err d) was is =
      early es refl sound (subst (IsAtFault (length s.outer) (rule (rules.variable name original offset pattern)))
      (same_fault (reported offset d) e is) (bad_pattern was))
  variable_by es before s e name original offset pattern others sound opens (Ok tree) was is =
      let x : Element = rule (rules.variable name original offset pattern) in
      let spelled : IsPattern pattern tree = reading-IsPattern pattern tree was in
      fault_back before es x s (after_variable line_rules words s name original tree) e
      (λ items are. (
        templates.variable name original tree ∷ items,
        one_item (is_variable spelled) are,
        run_variable line_rules words s name original tree items,
      ))
      (others (before ++ x ∷ []) (after_variable line_rules words s name original tree) e (opens-variable before name original offset pattern)
      (sound-append (x ∷ []) sound (faults.variable spelled faults.none))
      (open-on before (x ∷ []) s.level _ s.outer refl (over nowhere) opens) is)

  begin_by : (es before : List Element) (s : State) (e : MarkupFault) (offset : ℕ) → Faulty es
      → s.at_start ≡ opens_line before → AreSound 0 before (length s.outer) → Open before s.level s.outer
      → (t : Bool) → nat_lt (length s.outer) max_depth ≡ t
      → then line_rules words (cond t (Ok (after_begin line_rules words s offset))
      (Err (fault_at offset TooDeep))) es ≡ Err e → Fault before (rule (rules.begin offset) ∷ es) s e
  begin_by es before s e offset others starts sound opens false lt is =
      let deep : max_depth ≤ length s.outer = grind (arith, nat_tests) in
      early es refl sound (subst (IsAtFault (length s.outer) (rule (rules.begin offset))) (same_fault (fault_at offset TooDeep) e is) (too_deep deep))
  begin_by es before s e offset others starts sound opens true lt is =
      let x : Element = rule (rules.begin offset) in
      let small : length s.outer < max_depth = grind (arith, nat_tests) in
      fault_back before es x s (after_begin line_rules words s offset) e
      (λ items are. (templates.begin ∷ items, one_item is_begin are, run_begin line_rules words s items lt))
      (others (before ++ x ∷ []) (after_begin line_rules words s offset) e (opens-begin s.at_start before offset starts)
      (sound-append (x ∷ []) sound (faults.begin small faults.none))
      (before, [], refl, nowhere, opens) is)

  finish_by : (es before : List Element) (s : State) (e : MarkupFault) (offset : ℕ) → Faulty es
      → s.at_start ≡ opens_line before → (os : List PartLevel) → s.outer ≡ os → AreSound 0 before (length os)
      → Open before s.level os
      → then line_rules words (meet_end offset s.level os s) es ≡ Err e → Fault before (rule (rules.finish offset) ∷ es) s e
  finish_by es before s e offset others starts [] none sound opens is =
      early es refl sound (subst (IsAtFault 0 (rule (rules.finish offset))) (same_fault (fault_at offset EndWithoutBegin) e is) no_begin)
  finish_by es before s e offset others starts (o ∷ os) some sound opens is =
      let x : Element = rule (rules.finish offset) in
      let t : State = after_finish line_rules words s o os in
      fault_back before es x s t e
      (λ items are. (templates.finish ∷ items, one_item is_finish are, run_finish line_rules words s o os items some))
      (others (before ++ x ∷ []) t e (opens-finish s.at_start before offset starts)
      (sound-append (x ∷ []) sound (faults.finish faults.none))
      (open-end before offset s.level o t.level os refl opens) is)

  pub with_letters-offset : (l : List ℕ) (level : PartLevel) → (reading.with_letters l level).offset ≡ level.offset
  with_letters-offset [] level = refl
  with_letters-offset (c ∷ cs) level = refl

  faulty : (es : List Element) → Faulty es
  unfolding read_on meet
  faulty [] before s e starts sound opens is = end_by before s e s.outer refl sound opens is
  faulty (text piece ∷ es) before s e starts sound opens is =
      let x : Element = text piece in
      let t : State = meet_text line_rules words piece (next_of es) s in
      fault_back before es x s t e
      (λ items are. (
        letters (letters_of line_rules words before piece es) ∷ items,
        one_item is_piece are,
        run_text line_rules words s before piece es items starts,
      ))
      (faulty es (before ++ x ∷ []) t e (opens-text s.at_start before piece starts)
      (sound-append (x ∷ []) sound (faults.piece faults.none))
      (open-on before (x ∷ []) s.level t.level s.outer (with_letters-offset _ s.level) (on nowhere) opens) is)
  faulty (rule (rules.variable name original offset pattern) ∷ es) before s e starts sound opens is =
      variable_by es before s e name original offset pattern (faulty es) sound opens (ere.reading pattern) refl is
  faulty (rule (rules.begin offset) ∷ es) before s e starts sound opens is =
      begin_by es before s e offset (faulty es) starts sound opens (nat_lt (length s.outer) max_depth) refl is
  faulty (rule (rules.finish offset) ∷ es) before s e starts sound opens is = finish_by es before s e offset (faulty es) starts s.outer refl sound opens is
  faulty (refused d ∷ es) before s e starts sound opens is = early es refl sound (subst (IsAtFault (length s.outer) (refused d)) (same_fault d e is) of_rule)

  whole_by : (es : List Element) (items : List Item) (ps : List Node) (original : List ℕ) (e : MarkupFault)
      → AreItems line_rules words [] es items → run [] [] items ≡ Some ps → (token heavy : Bool)
      → sequence_has_token (sequence ps) ≡ token → nat_lt max_weight (sequence_weight (sequence ps)) ≡ heavy
      → cond (not token) (Err (fault_at 0 NoLetter))
      (cond heavy (Err (fault_at 0 TooHeavy))
      (Ok (record { parts = ps; weight = sequence_weight (sequence ps); original = original }))) ≡ failed e
      → IsFirstFault line_rules words es e
  whole_by es items ps original e are runs false heavy one two is =
      subst (IsFirstFault line_rules words es) (same_fault (fault_at 0 NoLetter) e is)
      (no_token are (run_spelled items ps runs) one)
  whole_by es items ps original e are runs true true one two is =
      let over_it : max_weight < sequence_weight (sequence ps) = grind (arith, nat_tests) in
      subst (IsFirstFault line_rules words es) (same_fault (fault_at 0 TooHeavy) e is) (too_heavy are (run_spelled items ps runs) one over_it)
  whole_by es items ps original e are runs true false one two is = not_failed (record { parts = ps; weight = sequence_weight (sequence ps); original = original }) e is

  first_by : (es : List Element) (e : MarkupFault) → Fault [] es start e → IsFirstFault line_rules words es e
  first_by es e (early after is sound at) = at_rule after is sound at
  first_by es e (left_open front is sound leads same) = subst (IsFirstFault line_rules words es) same (not_ended front is sound leads)
  first_by es e (late {items = items} {ps = ps} original are runs is) =
      whole_by es items ps original e are runs (sequence_has_token (sequence ps)) (nat_lt max_weight (sequence_weight (sequence ps))) refl refl is

  long_by : (template : List ℕ) (e : MarkupFault) (long : Bool) → nat_lt max_length (length template) ≡ long
      → cond long (Err (fault_at 0 TooLong)) (read_elements line_rules words (elements [] 0 (located template)))
      ≡ failed e → IsFaultOf line_rules words template e
  long_by template e true is h =
      let over_it : max_length < length template = grind (arith, nat_tests) in
      subst (IsFaultOf line_rules words template) (same_fault (fault_at 0 TooLong) e h) (too_long over_it)
  long_by template e false is h =
      let short : length template ≤ max_length = grind (arith, nat_tests) in
      let es : List Element = elements [] 0 (located template) in
      otherwise short (elements_are_cut (located template)) (first_by es e (faulty es [] start e refl faults.none nowhere h))

  -- the fault that is reported is the first
  pub reading-IsFaultOf : (template : List ℕ) (e : MarkupFault) → reading.reading line_rules words template ≡ Err e → IsFaultOf line_rules words template e
  reading-IsFaultOf template e h = long_by template e (nat_lt max_length (length template)) refl h
