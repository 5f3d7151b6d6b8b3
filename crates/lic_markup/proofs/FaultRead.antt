-- A template at fault is refused by the fault that decides.
use Rattle.std.proofs.Common.{◌≡◌, ℕ, zero, suc, ◌<◌, true, false, cond, not, List, [], ◌∷◌, ◌++◌, length, Result, Ok, Err, IfErr, refl, ap, subst, ◌∙◌, arith}
use Rattle.std.specs.Prelude.{nat_lt}
use Rattle.std.proofs.lemmas.Bool.Decides.{nat_tests}
use Rattle.lic_ere.specs.declared.fault.EreFault.{EreFault}
use Rattle.lic_ere.specs.Located.{located}
use Rattle.lic_ere.specs.Trees.{Tree}
use Rattle.lic_ere.proofs.Complete.{IsPattern-read}
use Rattle.lic_kind.specs.LineRules.{LineRules}
use Rattle.lic_phrases.specs.Rewriting.{Phrase}
use Rattle.lic_elements.specs.declared.fault.MarkupFault.{MarkupFault}
use Rattle.lic_elements.specs.declared.fault.MarkupCause.TheVariants.{EndWithoutBegin, NotEnded, NoLetter, TooHeavy, TooLong, TooDeep}
use Rattle.lic_elements.specs.Faults.{fault_at, Gives, IsLasting}
use Rattle.lic_elements.specs.Rules as rules
use Rattle.lic_elements.specs.Elements.{Element, text, rule, refused, elements}
use Rattle.lic_markup.specs.Lines.{with_next, next_of}
use Rattle.lic_markup.specs.Parts.{Reading, TemplateValue, sequence, sequence_weight, template_of}
use Rattle.lic_markup.specs.Reading as reading
use Rattle.lic_markup.specs.Reading.{PartLevel, State, meet, meet_text, meet_variable, meet_end, finish, read_on, read_elements, start, max_depth, max_length, max_weight}
use Rattle.lic_markup.specs.Templates.{original_of}
use Rattle.lic_markup.specs.FirstFaults as faults
use Rattle.lic_markup.specs.FirstFaults.{AreSound, IsAtFault, of_rule, bad_pattern, too_deep, no_begin, Lead, nowhere, on, over, into, out, IsFirstFault, at_rule, not_ended, no_token, too_heavy, IsFaultOf, too_long, otherwise}
use Rattle.lic_elements.proofs.FaultLemmas.{Gives-same}
use Rattle.lic_elements.proofs.ElementLemmas.{Fails-lasting}
use Rattle.lic_elements.proofs.CutSpelled.{cut_elements}
use Rattle.lic_markup.proofs.TemplateSpelled.{items_read, after_variable, after_begin, after_finish, then}
use Rattle.lic_markup.proofs.FaultSpelled.{reading-IsFaultOf, with_letters-offset}

-- k levels out is one that begins at this offset
abbrev Begins : ℕ → ℕ → List PartLevel → Type 0
Begins offset k [] = ⊥
Begins offset zero (l ∷ ls) = l.offset ≡ offset
Begins offset (suc k) (l ∷ ls) = Begins offset k ls

begins-same : (offset k : ℕ) (l m : PartLevel) (ls : List PartLevel) → m.offset ≡ l.offset → Begins offset k (l ∷ ls) → Begins offset k (m ∷ ls)
begins-same offset zero l m ls same h = same ∙ h
begins-same offset (suc k) l m ls same h = h

module _ (line_rules : LineRules) (words : List Phrase) where
  -- a state that is reached, with `depth` parts open and the same left to be read
  abbrev Reaches : State → List Element → ℕ → List Element → Type 0
  Reaches s es depth rest =
      (t : State) × (length t.outer ≡ depth)
      × (read_on line_rules words s (with_next es) ≡ read_on line_rules words t (with_next rest))

  begin_on : (s : State) (offset : ℕ) (es : List Element) → length s.outer < max_depth
      → read_on line_rules words s (with_next (rule (rules.begin offset) ∷ es))
      ≡ read_on line_rules words (after_begin line_rules words s offset) (with_next es)
  unfolding read_on meet
  begin_on s offset es small =
      let lt : nat_lt (length s.outer) max_depth ≡ true = grind (arith, nat_tests) in
      ap (λ b. then line_rules words (cond b (Ok (after_begin line_rules words s offset)) (Err (fault_at offset TooDeep))) es) lt

  finish_on : (s : State) (offset : ℕ) (es : List Element) (o : PartLevel) (os : List PartLevel) → s.outer ≡ o ∷ os
      → read_on line_rules words s (with_next (rule (rules.finish offset) ∷ es))
      ≡ read_on line_rules words (after_finish line_rules words s o os) (with_next es)
  unfolding read_on meet
  finish_on s offset es o os is = ap (λ (ls : List PartLevel). then line_rules words (meet_end offset s.level ls s) es) is

  -- ---- sound elements

  finish_by : (s : State) (offset depth end : ℕ) (es rest : List Element)
      → ((t : State) → length t.outer ≡ depth → Reaches t es end rest) → (os : List PartLevel) → s.outer ≡ os
      → length os ≡ suc depth → Reaches s (rule (rules.finish offset) ∷ es) end rest
  finish_by s offset depth end es rest others [] is at = absurd (omega (arith, at))
  finish_by s offset depth end es rest others (o ∷ os) is at =
      let fewer : length os ≡ depth = omega (arith, at) in
      let more = others (after_finish line_rules words s o os) fewer in
      (more.0, more.1, finish_on s offset es o os is ∙ more.2)

  sound_on : {a b : ℕ} {es : List Element} → AreSound a es b → (rest : List Element) (s : State) → length s.outer ≡ a → Reaches s (es ++ rest) b rest
  unfolding read_on meet
  sound_on faults.none rest s at = (s, at, refl)
  sound_on (faults.piece {cs = cs} {es = es} h) rest s at = sound_on h rest (meet_text line_rules words cs (next_of (es ++ rest)) s) at
  sound_on (faults.variable {offset = offset} {name = name} {original = original} {pattern = pattern} {tree = tree} {es = es} is h) rest s at =
      let more = sound_on h rest (after_variable line_rules words s name original tree) at in (
        more.0,
        more.1,
        ap (λ (p : Result Tree EreFault). then line_rules words (meet_variable name original offset p s) (es ++ rest))
            (IsPattern-read pattern tree is) ∙ more.2,
      )
  sound_on (faults.begin {offset = offset} {es = es} small h) rest s at =
      let few : length s.outer < max_depth = omega (arith, at, small) in
      let more = sound_on h rest (after_begin line_rules words s offset) (ap (λ n. suc n) at) in
      (more.0, more.1, begin_on s offset (es ++ rest) few ∙ more.2)
  sound_on (faults.finish {depth = depth} {end = end} {offset = offset} {es = es} h) rest s at =
      finish_by s offset depth end (es ++ rest) rest (λ t. sound_on h rest t) s.outer refl at

  -- ---- an element at fault

  end_alone : (s : State) (offset : ℕ) (after : List Element) (os : List PartLevel) → s.outer ≡ os → length os ≡ 0
      → then line_rules words (meet_end offset s.level s.outer s) after ≡ Err (fault_at offset EndWithoutBegin)
  end_alone s offset after [] is at = ap (λ (os : List PartLevel). then line_rules words (meet_end offset s.level os s) after) is
  end_alone s offset after (o ∷ os) is at = absurd (omega (arith, at))

  fault_on : {depth : ℕ} {x : Element} {e : MarkupFault} → IsAtFault depth x e → (after : List Element) (s : State)
      → length s.outer ≡ depth → read_on line_rules words s (with_next (x ∷ after)) ≡ Err e
  unfolding read_on meet
  fault_on of_rule after s at = refl
  fault_on (bad_pattern {offset = offset} {name = name} {original = original} {pattern = pattern} is) after s at =
      ap (λ (p : Result Tree EreFault). then line_rules words (meet_variable name original offset p s) after) is
  fault_on (too_deep {offset = offset} deep) after s at =
      let lt : nat_lt (length s.outer) max_depth ≡ false = grind (arith, nat_tests, deep, at) in
      ap (λ b. then line_rules words (cond b (Ok (after_begin line_rules words s offset)) (Err (fault_at offset TooDeep))) after) lt
  fault_on (no_begin {offset = offset}) after s at = end_alone s offset after s.outer refl at

  -- ---- a part that is not ended

  sound-split : {a b : ℕ} (before : List Element) {rest : List Element} → AreSound a (before ++ rest) b
      → (m : ℕ) × AreSound a before m × AreSound m rest b
  sound-split {a = a} [] h = (a, faults.none, h)
  sound-split (text cs ∷ before) (faults.piece h) = let more = sound-split before h in (more.0, faults.piece more.1, more.2)
  sound-split (rule (rules.variable name original offset pattern) ∷ before) (faults.variable is h) =
      let more = sound-split before h in (more.0, faults.variable is more.1, more.2)
  sound-split (rule (rules.begin offset) ∷ before) (faults.begin small h) = let more = sound-split before h in (more.0, faults.begin small more.1, more.2)
  sound-split (rule (rules.finish offset) ∷ before) (faults.finish h) = let more = sound-split before h in (more.0, faults.finish more.1, more.2)
  sound-split (refused e ∷ before) h = elim h [ ]

  -- elements after which a part is at another level, the number of levels out
  abbrev Leads : ℕ → ℕ → State → List Element → ℕ → Type 0
  Leads offset j s es depth =
      (t : State) × (length t.outer ≡ depth) × Begins offset j (t.level ∷ t.outer)
      × (read_on line_rules words s (with_next es) ≡ read_on line_rules words t (with_next []))

  out_by : (s : State) (offset part k j depth end : ℕ) (es : List Element)
      → ((t : State) → length t.outer ≡ depth → Begins part k (t.level ∷ t.outer) → Leads part j t es end)
      → (os : List PartLevel) → s.outer ≡ os → Begins part k os → length os ≡ suc depth
      → Leads part j s (rule (rules.finish offset) ∷ es) end
  out_by s offset part k j depth end es others [] is begins at = absurd (omega (arith, at))
  out_by s offset part k j depth end es others (o ∷ os) is begins at =
      let fewer : length os ≡ depth = omega (arith, at) in
      let t : State = after_finish line_rules words s o os in
      let more = others t fewer (begins-same part k o t.level os refl begins) in
      (more.0, more.1, more.2, finish_on s offset es o os is ∙ more.3)

  lead_on : {k j a b : ℕ} {es : List Element} → Lead k es j → AreSound a es b → (part : ℕ) (s : State)
      → length s.outer ≡ a → Begins part k (s.level ∷ s.outer) → Leads part j s es b
  unfolding read_on meet
  lead_on nowhere faults.none part s at begins = (s, at, begins, refl)
  lead_on {k = k} (on {cs = cs} {es = es} l) (faults.piece h) part s at begins =
      let t : State = meet_text line_rules words cs (next_of es) s in
      lead_on l h part t at (begins-same part k s.level t.level s.outer (with_letters-offset line_rules words _ s.level) begins)
  lead_on {k = k} (over {es = es} l) (faults.variable {offset = offset} {name = name} {original = original} {pattern = pattern} {tree = tree} is h) part s at begins =
      let t : State = after_variable line_rules words s name original tree in
      let more = lead_on l h part t at (begins-same part k s.level t.level s.outer refl begins) in (
        more.0,
        more.1,
        more.2,
        ap (λ (p : Result Tree EreFault). then line_rules words (meet_variable name original offset p s) es) (IsPattern-read pattern tree is) ∙ more.3,
      )
  lead_on (into {es = es} l) (faults.begin {offset = offset} small h) part s at begins =
      let few : length s.outer < max_depth = omega (arith, at, small) in
      let more = lead_on l h part (after_begin line_rules words s offset) (ap (λ n. suc n) at) begins in
      (more.0, more.1, more.2, begin_on s offset es few ∙ more.3)
  lead_on (out {open_parts = k} {end = j} {es = es} l) (faults.finish {depth = depth} {end = end} {offset = offset} h) part s at begins =
      out_by s offset part k j depth end es (λ t. lead_on l h part t) s.outer refl begins at

  still_open : (t : State) (offset depth : ℕ) (os : List PartLevel) → t.outer ≡ os → length os ≡ suc depth
      → t.level.offset ≡ offset → finish t.level t.outer t.original ≡ Err (fault_at offset NotEnded)
  still_open t offset depth [] is at same = absurd (omega (arith, at))
  still_open t offset depth (o ∷ os) is at same =
      ap (λ (ls : List PartLevel). finish t.level ls t.original) is ∙ ap (λ (p : ℕ). Err (fault_at p NotEnded)) same

  open_by : (before following : List Element) (offset depth m : ℕ) → AreSound 0 before m
      → AreSound m (rule (rules.begin offset) ∷ following) (suc depth) → Lead 0 following 0
      → read_elements line_rules words (before ++ rule (rules.begin offset) ∷ following) ≡ Err (fault_at offset NotEnded)
  unfolding read_on
  open_by before following offset depth m sound (faults.begin small h) leads =
      let one = sound_on sound (rule (rules.begin offset) ∷ following) start refl in
      let few : length one.0.outer < max_depth = omega (arith, one.1, small) in
      let two = lead_on leads h offset (after_begin line_rules words one.0 offset) (ap (λ n. suc n) one.1) refl in
      one.2 ∙ begin_on one.0 offset following few ∙ two.3 ∙ still_open two.0 offset depth two.0.outer refl two.1 two.2

  -- ---- all faults

  first_read : {es : List Element} {e : MarkupFault} → IsFirstFault line_rules words es e → read_elements line_rules words es ≡ Err e
  first_read (at_rule {before = before} after {x = x} {depth = depth} is sound at) =
      let one = sound_on sound (x ∷ after) start refl in
      ap (read_elements line_rules words) is ∙ one.2 ∙ fault_on at after one.0 one.1
  first_read (not_ended before {following = following} {offset = offset} {depth = depth} is sound leads) =
      let parts = sound-split before (subst (λ es. AreSound 0 es (suc depth)) is sound) in
      ap (read_elements line_rules words) is ∙ open_by before following offset depth parts.0 parts.1 parts.2 leads
  first_read {es = es} (no_token {items = items} {ns = ns} are nested absent) =
      items_read line_rules words es items ns are nested
      ∙ ap (λ b. cond (not b) (Err (fault_at 0 NoLetter))
      (cond (nat_lt max_weight (sequence_weight (sequence ns))) (Err (fault_at 0 TooHeavy))
      (Ok (record { parts = ns; weight = sequence_weight (sequence ns); original = original_of es })))) absent
  first_read {es = es} (too_heavy {items = items} {ns = ns} are nested some heavy) =
      let over_it : nat_lt max_weight (sequence_weight (sequence ns)) ≡ true = grind (arith, nat_tests, heavy) in
      let says : Reading = record { parts = ns; weight = sequence_weight (sequence ns); original = original_of es } in
      items_read line_rules words es items ns are nested
      ∙ ap (λ b. cond (not b) (Err (fault_at 0 NoLetter))
      (cond (nat_lt max_weight (sequence_weight (sequence ns))) (Err (fault_at 0 TooHeavy)) (Ok says))) some
      ∙ ap (λ b. cond b (Err (fault_at 0 TooHeavy)) (Ok says)) over_it

  -- a template at fault is refused so
  pub IsFaultOf-read : (template : List ℕ) (e : MarkupFault) → IsFaultOf line_rules words template e → reading.reading line_rules words template ≡ Err e
  IsFaultOf-read template e (too_long long) =
      let over_it : nat_lt max_length (length template) ≡ true = grind (arith, nat_tests, long) in
      ap (λ b. cond b (Err (fault_at 0 TooLong)) (read_elements line_rules words (elements [] 0 (located template)))) over_it
  IsFaultOf-read template e (otherwise short is first) =
      let fits : nat_lt max_length (length template) ≡ false = grind (arith, nat_tests, short) in
      ap (λ b. cond b (Err (fault_at 0 TooLong)) (read_elements line_rules words (elements [] 0 (located template)))) fits
      ∙ ap (read_elements line_rules words) (cut_elements is) ∙ first_read first

-- ---- what the reader of the code gives

pub is_refused : (line_rules : LineRules) (words : List Phrase) (template : List ℕ)
    (result : Result TemplateValue MarkupFault) → Gives template_of result (reading.reading line_rules words template)
    → IfErr result (λ e. IsLasting e → IsFaultOf line_rules words template e)
is_refused line_rules words template (Ok t) given = tt
is_refused line_rules words template (Err e) given =
    λ lasting. reading-IsFaultOf line_rules words template e (Fails-lasting e.cause e.offset _ lasting given)

pub is_faulty : (line_rules : LineRules) (words : List Phrase) (template : List ℕ)
    (result : Result TemplateValue MarkupFault) (e : MarkupFault) → IsFaultOf line_rules words template e
    → Gives template_of result (reading.reading line_rules words template) → Gives template_of result (Err e)
is_faulty line_rules words template result e is given =
    Gives-same template_of result (reading.reading line_rules words template) (Err e) (IsFaultOf-read line_rules words template e is) given
