-- What is read is a template of the markup, and a template of the markup is read.
use Rattle.std.proofs.Common.{◌≡◌, ℕ, ◌≤◌, Bool, true, false, cond, not, ltb, List, [], ◌∷◌, ◌++◌, length, map, Some, None, Result, Ok, Err, refl, sym, ap, ap₂, subst, ◌∙◌, append_assoc, append-nil, arith}
use Rattle.std.specs.Prelude.{IfOk, nat_lt}
use Rattle.std.proofs.lemmas.Bool.Decides.{nat_tests}
use Rattle.std.proofs.lemmas.List.{length-map}
use Rattle.lic_ere.specs.declared.fault.EreFault.{EreFault}
use Rattle.lic_ere.specs.Grammar.{IsPattern}
use Rattle.lic_ere.specs.Located.{Located, located}
use Rattle.lic_ere.specs.Trees.{Tree}
use Rattle.lic_ere.specs.Reading as ere
use Rattle.lic_ere.proofs.Complete.{IsPattern-read}
use Rattle.lic_ere.proofs.Sound.{reading-IsPattern}
use Rattle.lic_kind.specs.LineRules.{LineRules}
use Rattle.lic_phrases.specs.Rewriting.{Phrase}
use Rattle.lic_pieces.specs.Pieces.{piece_of}
use Rattle.lic_pieces.specs.declared.pieces.Next.{Next}
use Rattle.lic_elements.specs.declared.fault.MarkupFault.{MarkupFault}
use Rattle.lic_elements.specs.declared.fault.MarkupCause.TheVariants.{NotEnded, NoLetter, TooHeavy, TooLong, TooDeep, EndWithoutBegin}
use Rattle.lic_elements.specs.Texts.{text_of}
use Rattle.lic_elements.specs.Faults.{fault_at, Gives, ◌>>=◌}
use Rattle.lic_elements.specs.Rules as rules
use Rattle.lic_elements.specs.Elements.{Element, text, rule, refused, elements}
use Rattle.lic_markup.specs.Lines.{with_next, next_of, next_after}
use Rattle.lic_markup.specs.Parts as parts
use Rattle.lic_markup.specs.Parts.{Node, Reading, TemplateValue, sequence, sequence_weight, sequence_has_token, template_of}
use Rattle.lic_markup.specs.Reading as reading
use Rattle.lic_markup.specs.Reading.{PartLevel, State, new_level, with_part, meet, meet_text, meet_variable, meet_end, finish, read_on, read_elements, start, whole, reported, max_depth, max_length, max_weight}
use Rattle.lic_markup.specs.Templates as templates
use Rattle.lic_markup.specs.Templates.{Item, letters, variable, begin, original_of, opens_line, follows, is_piece, is_variable, is_begin, is_finish, AreItems, no_item, one_item, AreParts, IsTemplate}
use Rattle.lic_elements.proofs.FaultLemmas.{Gives-same}
use Rattle.lic_elements.proofs.CutSpelled.{NotRefused, elements_spelled, elements_cut}
use Rattle.lic_markup.proofs.LineSpelled.{follows-is, opens-text, opens-variable, opens-begin, opens-finish}
use Rattle.lic_markup.proofs.PartSpelled.{run, run_spelled, spelled_run}
use Rattle.lic_markup.proofs.PartSpelled as items

abbrev done : Reading → Result Reading MarkupFault
done r = Ok r

same_done : (r s : Reading) → done r ≡ done s → r ≡ s
same_done r s e = ap (λ (o : Result Reading MarkupFault). elim o [ Ok x ↦ x | Err d ↦ r ]) e

not_done : {A : Type 0} (e : MarkupFault) (r : Reading) → Err e ≡ done r → A
not_done e r h = absurd (never h)
  where
    never : Err e ≡ done r → ⊥
    never h = cc

abbrev pub parts_in : List PartLevel → List (List Node)
parts_in levels = map (λ l. l.parts) levels

-- what holds of each accepted template
record IsWhole (r : Reading) : Type 0 where
  pub some_token : sequence_has_token (sequence r.parts) ≡ true
  pub weight : r.weight ≡ sequence_weight (sequence r.parts)
  pub light : r.weight ≤ max_weight

whole_by : (ps : List Node) (original : List ℕ) (r : Reading) (token heavy : Bool) → sequence_has_token (sequence ps) ≡ token
    → nat_lt max_weight (sequence_weight (sequence ps)) ≡ heavy
    → cond (not token) (Err (fault_at 0 NoLetter))
    (cond heavy (Err (fault_at 0 TooHeavy))
    (Ok (record { parts = ps; weight = sequence_weight (sequence ps); original = original }))) ≡ done r
    → IsWhole r × (record { parts = ps; weight = sequence_weight (sequence ps); original = original } ≡ r)
whole_by ps original r false heavy one two e = not_done (fault_at 0 NoLetter) r e
whole_by ps original r true true one two e = not_done (fault_at 0 TooHeavy) r e
whole_by ps original r true false one two e =
    let made : Reading = record { parts = ps; weight = sequence_weight (sequence ps); original = original } in
    let is : made ≡ r = same_done made r e in
    let small : sequence_weight (sequence ps) ≤ max_weight = grind (arith, nat_tests) in
    (subst IsWhole is (record { some_token = one; weight = refl; light = small }), is)

whole_was : (ps : List Node) (original : List ℕ) (r : Reading) → whole ps original ≡ Ok r
    → IsWhole r × (record { parts = ps; weight = sequence_weight (sequence ps); original = original } ≡ r)
whole_was ps original r e = whole_by ps original r (sequence_has_token (sequence ps)) (nat_lt max_weight (sequence_weight (sequence ps))) refl refl e

whole_read : (r : Reading) → IsWhole r → whole r.parts r.original ≡ Ok r
whole_read r is =
    let light : nat_lt max_weight (sequence_weight (sequence r.parts)) ≡ false = grind (arith, nat_tests, is.weight, is.light) in
    ap (λ b. cond (not b) (Err (fault_at 0 NoLetter))
    (cond (nat_lt max_weight (sequence_weight (sequence r.parts))) (Err (fault_at 0 TooHeavy))
    (done (record {
      parts = r.parts;
      weight = sequence_weight (sequence r.parts);
      original =
          r.original;
    })))) is.some_token
    ∙ ap (λ b. cond b (Err (fault_at 0 TooHeavy)) (done (record { parts = r.parts; weight = sequence_weight (sequence r.parts); original = r.original }))) light
    ∙ ap (λ (w : ℕ). done (record { parts = r.parts; weight = w; original = r.original })) (sym is.weight)

module _ (line_rules : LineRules) (words : List Phrase) where
  -- the items of these elements, and what is read of them
  record WasRead (before es : List Element) (s : State) (r : Reading) : Type 0 where
    pub items : List Item
    pub are : AreItems line_rules words before es items
    pub runs : run s.level.parts (parts_in s.outer) items ≡ Some r.parts
    pub original : r.original ≡ s.original ++ original_of es
    pub lasts : NotRefused es
    pub is_whole : IsWhole r

  read_next : (s : State) (e : Element) (es : List Element)
      → read_on line_rules words s (with_next (e ∷ es))
      ≡ (meet line_rules words e (next_of es) s >>= λ t. read_on line_rules words t (with_next es))
  unfolding read_on
  read_next s e es = refl

  -- the letters of a piece, as the reader takes them
  abbrev letters_at : State → List Located → List Element → List ℕ
  letters_at s piece es = piece_of line_rules words s.at_start (next_after piece (next_of es)) (text_of piece)

  abbrev pub letters_of : List Element → List Located → List Element → List ℕ
  letters_of before piece es = piece_of line_rules words (opens_line before) (follows piece es) (text_of piece)

  letters_same : (s : State) (before : List Element) (piece : List Located) (es : List Element)
      → s.at_start ≡ opens_line before → letters_at s piece es ≡ letters_of before piece es
  letters_same s before piece es starts = ap₂ (λ (b : Bool) (n : Next). piece_of line_rules words b n (text_of piece)) starts (follows-is piece es)

  with_letters-parts : (l : List ℕ) (level : PartLevel) → (reading.with_letters l level).parts ≡ items.with_letters l level.parts
  with_letters-parts [] level = refl
  with_letters-parts (c ∷ cs) level = refl

  pub run_text : (s : State) (before : List Element) (piece : List Located) (es : List Element) (is : List Item) → s.at_start ≡ opens_line before
      → run s.level.parts (parts_in s.outer) (letters (letters_of before piece es) ∷ is)
      ≡ run (meet_text line_rules words piece (next_of es) s).level.parts (parts_in s.outer) is
  unfolding run
  run_text s before piece es is starts =
      ap (λ (ps : List Node). run ps (parts_in s.outer) is)
      (ap (λ (l : List ℕ). items.with_letters l s.level.parts) (sym (letters_same s before piece es starts))
      ∙ sym (with_letters-parts (letters_at s piece es) s.level))

  text_was : (before es : List Element) (s : State) (r : Reading) (piece : List Located)
      → s.at_start ≡ opens_line before
      → WasRead (before ++ text piece ∷ []) es (meet_text line_rules words piece (next_of es) s) r
      → WasRead before (text piece ∷ es) s r
  unfolding NotRefused
  text_was before es s r piece starts was =
      record {
        items = letters (letters_of before piece es) ∷ was.items;
        are = one_item is_piece was.are;
        runs = run_text s before piece es was.items starts ∙ was.runs;
        original = was.original ∙ append_assoc s.original (text_of piece) (original_of es);
        lasts = was.lasts;
        is_whole = was.is_whole;
      }

  -- a state after a variable
  abbrev pub after_variable : State → List ℕ → List ℕ → Tree → State
  after_variable s name original tree =
      record {
        level = with_part (parts.variable name original tree) s.level;
        outer = s.outer;
        original =
            s.original ++ original;
        at_start = false;
      }

  pub run_variable : (s : State) (name original : List ℕ) (tree : Tree) (is : List Item)
      → run s.level.parts (parts_in s.outer) (variable name original tree ∷ is)
      ≡ run (after_variable s name original tree).level.parts (parts_in s.outer) is
  unfolding run
  run_variable s name original tree is = refl

  pub run_nothing : (s : State) → s.outer ≡ [] → run s.level.parts (parts_in s.outer) [] ≡ Some s.level.parts
  unfolding run
  run_nothing s none = ap (λ (os : List PartLevel). items.ended s.level.parts (parts_in os)) none

  variable_was : (before es : List Element) (s : State) (r : Reading) (name original : List ℕ) (offset : ℕ)
      (pattern : List ℕ) (tree : Tree) → IsPattern pattern tree
      → WasRead (before ++ rule (rules.variable name original offset pattern) ∷ []) es
      (after_variable s name original tree) r
      → WasRead before (rule (rules.variable name original offset pattern) ∷ es) s r
  unfolding NotRefused run
  variable_was before es s r name original offset pattern tree is was =
      record {
        items = variable name original tree ∷ was.items;
        are = one_item (is_variable is) was.are;
        runs = was.runs;
        original = was.original ∙ append_assoc s.original original (original_of es);
        lasts = was.lasts;
        is_whole = was.is_whole;
      }

  abbrev pub after_begin : State → ℕ → State
  after_begin s offset = record s { level = new_level offset; outer = s.level ∷ s.outer }

  pub run_begin : (s : State) (is : List Item) → nat_lt (length s.outer) max_depth ≡ true
      → run s.level.parts (parts_in s.outer) (begin ∷ is) ≡ run [] (s.level.parts ∷ parts_in s.outer) is
  unfolding run
  run_begin s is small =
      ap (λ b. cond b (run [] (s.level.parts ∷ parts_in s.outer) is) None) (ap (λ n. ltb n max_depth) (length-map s.outer (λ l. l.parts)) ∙ small)

  begin_was : (before es : List Element) (s : State) (r : Reading) (offset : ℕ)
      → nat_lt (length s.outer) max_depth ≡ true
      → WasRead (before ++ rule (rules.begin offset) ∷ []) es (after_begin s offset) r
      → WasRead before (rule (rules.begin offset) ∷ es) s r
  unfolding NotRefused
  begin_was before es s r offset small was =
      record {
        items = begin ∷ was.items;
        are = one_item is_begin was.are;
        runs = run_begin s was.items small ∙ was.runs;
        original = was.original;
        lasts = was.lasts;
        is_whole = was.is_whole;
      }

  abbrev pub after_finish : State → PartLevel → List PartLevel → State
  after_finish s o outer = record s { level = with_part (parts.optional (sequence s.level.parts)) o; outer = outer }

  pub run_finish : (s : State) (o : PartLevel) (outer : List PartLevel) (is : List Item) → s.outer ≡ o ∷ outer
      → run s.level.parts (parts_in s.outer) (templates.finish ∷ is)
      ≡ run (o.parts ++ parts.optional (sequence s.level.parts) ∷ []) (parts_in outer) is
  unfolding run
  run_finish s o outer is e = ap (λ (os : List PartLevel). run s.level.parts (parts_in os) (templates.finish ∷ is)) e

  finish_was : (before es : List Element) (s : State) (r : Reading) (offset : ℕ) (o : PartLevel) (outer : List PartLevel)
      → s.outer ≡ o ∷ outer → WasRead (before ++ rule (rules.finish offset) ∷ []) es (after_finish s o outer) r
      → WasRead before (rule (rules.finish offset) ∷ es) s r
  unfolding NotRefused
  finish_was before es s r offset o outer e was =
      record {
        items = templates.finish ∷ was.items;
        are = one_item is_finish was.are;
        runs = run_finish s o outer was.items e ∙ was.runs;
        original = was.original;
        lasts = was.lasts;
        is_whole = was.is_whole;
      }

  -- ---- what is read is spelled

  abbrev Sound : List Element → Type 0
  Sound es = (before : List Element) (s : State) (r : Reading) → s.at_start ≡ opens_line before
      → read_on line_rules words s (with_next es) ≡ Ok r → WasRead before es s r

  abbrev pub then : Result State MarkupFault → List Element → Result Reading MarkupFault
  then met es = met >>= λ t. read_on line_rules words t (with_next es)

  end_by : (before : List Element) (s : State) (r : Reading) (os : List PartLevel) → s.outer ≡ os → finish s.level os s.original ≡ Ok r → WasRead before [] s r
  unfolding NotRefused run
  end_by before s r [] none e =
      let was = whole_was s.level.parts s.original r e in
      record {
        items = [];
        are = no_item;
        runs = ap (λ (os : List PartLevel). run s.level.parts (parts_in os) []) none ∙ ap (λ (q : Reading). items.got q.parts) was.1;
        original = ap (λ (q : Reading). q.original) (sym was.1) ∙ sym (append-nil s.original);
        lasts = tt;
        is_whole = was.0;
      }
  end_by before s r (o ∷ os) some e = not_done (fault_at s.level.offset NotEnded) r e

  variable_by : (es before : List Element) (s : State) (r : Reading) (name original : List ℕ) (offset : ℕ)
      (pattern : List ℕ) → Sound es → (p : Result Tree EreFault) → ere.reading pattern ≡ p
      → then (meet_variable name original offset p s) es ≡ Ok r → WasRead before (rule (rules.variable name original offset pattern) ∷ es) s r
  variable_by es before s r name original offset pattern others (Err d) was e = not_done (reported offset d) r e
  variable_by es before s r name original offset pattern others (Ok tree) was e =
      variable_was before es s r name original offset pattern tree (reading-IsPattern pattern tree was)
      (others (before ++ rule (rules.variable name original offset pattern) ∷ [])
      (after_variable s name original tree) r (opens-variable before name original offset pattern) e)

  begin_by : (es before : List Element) (s : State) (r : Reading) (offset : ℕ) → s.at_start ≡ opens_line before
      → Sound es → (t : Bool) → nat_lt (length s.outer) max_depth ≡ t
      → then (cond t (Ok (after_begin s offset)) (Err (fault_at offset TooDeep))) es ≡ Ok r → WasRead before (rule (rules.begin offset) ∷ es) s r
  begin_by es before s r offset starts others false small e = not_done (fault_at offset TooDeep) r e
  begin_by es before s r offset starts others true small e =
      begin_was before es s r offset small
      (others (before ++ rule (rules.begin offset) ∷ []) (after_begin s offset) r
      (opens-begin s.at_start before offset starts) e)

  finish_by : (es before : List Element) (s : State) (r : Reading) (offset : ℕ) → s.at_start ≡ opens_line before → Sound es → (os : List PartLevel) → s.outer ≡ os
      → then (meet_end offset s.level os s) es ≡ Ok r → WasRead before (rule (rules.finish offset) ∷ es) s r
  finish_by es before s r offset starts others [] is e = not_done (fault_at offset EndWithoutBegin) r e
  finish_by es before s r offset starts others (o ∷ os) is e =
      finish_was before es s r offset o os is
      (others (before ++ rule (rules.finish offset) ∷ []) (after_finish s o os) r
      (opens-finish s.at_start before offset starts) e)

  sound : (es : List Element) → Sound es
  unfolding read_on meet
  sound [] before s r starts e = end_by before s r s.outer refl e
  sound (text piece ∷ es) before s r starts e =
      text_was before es s r piece starts
      (sound es (before ++ text piece ∷ []) (meet_text line_rules words piece (next_of es) s) r
      (opens-text s.at_start before piece starts) e)
  sound (rule (rules.variable name original offset pattern) ∷ es) before s r starts e =
      variable_by es before s r name original offset pattern (sound es) (ere.reading pattern) refl e
  sound (rule (rules.begin offset) ∷ es) before s r starts e = begin_by es before s r offset starts (sound es) (nat_lt (length s.outer) max_depth) refl e
  sound (rule (rules.finish offset) ∷ es) before s r starts e = finish_by es before s r offset starts (sound es) s.outer refl e
  sound (refused d ∷ es) before s r starts e = not_done d r e

  elements_found : (template : List ℕ) (r : Reading) → length template ≤ max_length
      → read_elements line_rules words (elements [] 0 (located template)) ≡ Ok r
      → IsTemplate line_rules words template r
  elements_found template r short e =
      let es : List Element = elements [] 0 (located template) in
      let was = sound es [] start r refl e in
      record {
        short = short;
        elements = es;
        cut = elements_spelled (located template) was.lasts;
        items = was.items;
        read = was.are;
        nested = run_spelled was.items r.parts was.runs;
        some_token = was.is_whole.some_token;
        weight = was.is_whole.weight;
        light = was.is_whole.light;
        original = was.original;
      }

  found_by : (template : List ℕ) (r : Reading) (long : Bool) → nat_lt max_length (length template) ≡ long
      → cond long (Err (fault_at 0 TooLong)) (read_elements line_rules words (elements [] 0 (located template)))
      ≡ done r → IsTemplate line_rules words template r
  found_by template r true is e = not_done (fault_at 0 TooLong) r e
  found_by template r false is e =
      let short : length template ≤ max_length = grind (arith, nat_tests) in
      elements_found template r short e

  -- what is read is a template of the markup
  pub reading-IsTemplate : (template : List ℕ) (r : Reading) → reading.reading line_rules words template ≡ Ok r → IsTemplate line_rules words template r
  reading-IsTemplate template r e = found_by template r (nat_lt max_length (length template)) refl e

  -- ---- what is spelled is read

  run_end : (s : State) (ps : List Node) (os : List PartLevel) → s.outer ≡ os
      → run s.level.parts (parts_in s.outer) [] ≡ Some ps → finish s.level os s.original ≡ whole ps (s.original ++ [])
  unfolding run
  run_end s ps [] none e =
      let same : s.level.parts ≡ ps = items.same s.level.parts ps (sym (ap (λ (os : List PartLevel). items.ended s.level.parts (parts_in os)) none) ∙ e) in
      (λ i. whole (same i) (sym (append-nil s.original) i))
  run_end s ps (o ∷ os) some e = absurd (never (sym (ap (λ (os : List PartLevel). items.ended s.level.parts (parts_in os)) some) ∙ e))
    where
      never : None ≡ items.got ps → ⊥
      never h = cc

  -- what the rest of the elements gives
  abbrev Reads : List Element → List Element → List Item → Type 0
  Reads before es is = (s : State) (ps : List Node) → s.at_start ≡ opens_line before
      → run s.level.parts (parts_in s.outer) is ≡ Some ps
      → read_on line_rules words s (with_next es) ≡ whole ps (s.original ++ original_of es)

  begin_reads : (before es : List Element) (offset : ℕ) (is : List Item)
      → Reads (before ++ rule (rules.begin offset) ∷ []) es is → (s : State) (ps : List Node)
      → s.at_start ≡ opens_line before → (t : Bool) → nat_lt (length s.outer) max_depth ≡ t
      → run s.level.parts (parts_in s.outer) (begin ∷ is) ≡ Some ps
      → then (cond t (Ok (after_begin s offset)) (Err (fault_at offset TooDeep))) es ≡ whole ps (s.original ++ original_of es)
  unfolding run
  begin_reads before es offset is others s ps starts true small e =
      others (after_begin s offset) ps (opens-begin s.at_start before offset starts) (sym (run_begin s is small) ∙ e)
  begin_reads before es offset is others s ps starts false small e =
      absurd (never (sym (ap (λ b. cond b (run [] (s.level.parts ∷ parts_in s.outer) is) None)
      (ap (λ n. ltb n max_depth) (length-map s.outer (λ l. l.parts)) ∙ small)) ∙ e))
    where
      never : None ≡ items.got ps → ⊥
      never h = cc

  finish_reads : (before es : List Element) (offset : ℕ) (is : List Item)
      → Reads (before ++ rule (rules.finish offset) ∷ []) es is → (s : State) (ps : List Node)
      → s.at_start ≡ opens_line before → (os : List PartLevel) → s.outer ≡ os
      → run s.level.parts (parts_in s.outer) (templates.finish ∷ is) ≡ Some ps
      → then (meet_end offset s.level os s) es ≡ whole ps (s.original ++ original_of es)
  unfolding run
  finish_reads before es offset is others s ps starts [] none e =
      absurd (never (sym (ap (λ (os : List PartLevel). run s.level.parts (parts_in os) (templates.finish ∷ is)) none) ∙ e))
    where
      never : None ≡ items.got ps → ⊥
      never h = cc
  finish_reads before es offset is others s ps starts (o ∷ os) some e =
      others (after_finish s o os) ps (opens-finish s.at_start before offset starts) (sym (run_finish s o os is some) ∙ e)

  reads : {before es : List Element} {is : List Item} → AreItems line_rules words before es is → Reads before es is
  unfolding read_on meet run
  reads no_item s ps starts e = run_end s ps s.outer refl e
  reads (one_item {before = before} {after = es} {is = is} (is_piece {cs = cs}) others) s ps starts e =
      reads others (meet_text line_rules words cs (next_of es) s) ps (opens-text s.at_start before cs starts) (sym (run_text s before cs es is starts) ∙ e)
      ∙ ap (whole ps) (append_assoc s.original (text_of cs) (original_of es))
  reads (one_item {before = before} {after = es} {is = is}
      (is_variable {name = name} {original = o} {pattern = pattern} {offset = offset} {tree =
      tree} spelled) others) s ps starts e =
      ap (λ (p : Result Tree EreFault). then (meet_variable name o offset p s) es) (IsPattern-read pattern tree spelled)
      ∙ reads others (after_variable s name o tree) ps (opens-variable before name o offset pattern) e
      ∙ ap (whole ps) (append_assoc s.original o (original_of es))
  reads (one_item {before = before} {after = es} {is = is} (is_begin {offset = offset}) others) s ps starts e =
      begin_reads before es offset is (reads others) s ps starts (nat_lt (length s.outer) max_depth) refl e
  reads (one_item {before = before} {after = es} {is = is} (is_finish {offset = offset}) others) s ps starts e =
      finish_reads before es offset is (reads others) s ps starts s.outer refl e

  -- the parts that elements say are read
  pub items_read : (es : List Element) (is : List Item) (ps : List Node) → AreItems line_rules words [] es is
      → AreParts 0 is ps → read_elements line_rules words es ≡ whole ps (original_of es)
  items_read es is ps are nested = reads are start ps refl (spelled_run is ps nested)

  -- a template of the markup is read
  pub IsTemplate-read : (template : List ℕ) (r : Reading) → IsTemplate line_rules words template r → reading.reading line_rules words template ≡ Ok r
  IsTemplate-read template r is =
      let short : nat_lt max_length (length template) ≡ false = grind (arith, nat_tests, is.short) in
      ap (λ b. cond b (Err (fault_at 0 TooLong)) (read_elements line_rules words (elements [] 0 (located template)))) short
      ∙ ap (read_elements line_rules words) (elements_cut is.cut)
      ∙ items_read is.elements is.items r.parts is.read is.nested
      ∙ ap (whole r.parts) (sym is.original)
      ∙ whole_read r (record { some_token = is.some_token; weight = is.weight; light = is.light })

-- ---- what the reader of the code gives

pub is_found : (line_rules : LineRules) (words : List Phrase) (template : List ℕ)
    (result : Result TemplateValue MarkupFault) → Gives template_of result (reading.reading line_rules words template)
    → IfOk result (λ t. IsTemplate line_rules words template (template_of t))
is_found line_rules words template (Ok t) given = reading-IsTemplate line_rules words template (template_of t) given
is_found line_rules words template (Err e) given = tt

pub is_read : (line_rules : LineRules) (words : List Phrase) (template : List ℕ)
    (result : Result TemplateValue MarkupFault) (says : Reading) → IsTemplate line_rules words template says
    → Gives template_of result (reading.reading line_rules words template) → Gives template_of result (Ok says)
is_read line_rules words template result says is given =
    Gives-same template_of result (reading.reading line_rules words template) (Ok says)
    (IsTemplate-read line_rules words template says is) given

-- what is read of the elements of a text that is not too long is what is read of the text
pub Gives-short : (line_rules : LineRules) (words : List Phrase) (template : List ℕ)
    (result : Result TemplateValue MarkupFault) (es : List (Element × Next)) → length template ≤ max_length
    → es ≡ with_next (elements [] 0 (located template)) → Gives template_of result (read_on line_rules words start es)
    → Gives template_of result (reading.reading line_rules words template)
Gives-short line_rules words template result es short is given =
    let fits : nat_lt max_length (length template) ≡ false = grind (arith, nat_tests, short) in
    Gives-same template_of result (read_on line_rules words start es) (reading.reading line_rules words template)
    (ap (read_on line_rules words start) is
    ∙ sym (ap (λ b. cond b (Err (fault_at 0 TooLong))
    (read_elements line_rules words (elements [] 0 (located template)))) fits)) given
