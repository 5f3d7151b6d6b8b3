-- Which fault decides where a template is refused: that it is too long; else the first rule at fault, from the left; else, after
-- the last rule, that an optional part is open; that no piece gives a token; that the template is too heavy.
use Rattle.std.specs.Prelude.{◌≡◌, ℕ, suc, ◌<◌, ◌≤◌, true, false, List, [], ◌∷◌, ◌++◌, length, Err}
use Rattle.lic_ere.specs.Grammar.{IsPattern}
use Rattle.lic_ere.specs.Located.{Located, located}
use Rattle.lic_ere.specs.Reading as ere
use Rattle.lic_ere.specs.Trees.{Tree}
use Rattle.lic_ere.specs.declared.fault.EreFault.{EreFault}
use Rattle.lic_kind.specs.LineRules.{LineRules}
use Rattle.lic_phrases.specs.Rewriting.{Phrase}
use Rattle.lic_elements.specs.declared.fault.MarkupFault.{MarkupFault}
use Rattle.lic_elements.specs.declared.fault.MarkupCause.TheVariants.{EndWithoutBegin, NotEnded, TooDeep, TooHeavy, NoLetter, TooLong}
use Rattle.lic_elements.specs.Faults.{fault_at}
use Rattle.lic_elements.specs.Rules as rules
use Rattle.lic_elements.specs.Elements.{Element, text, rule, refused}
use Rattle.lic_elements.specs.CutFaults.{AreCut}
use Rattle.lic_markup.specs.Parts.{Node, sequence, sequence_weight, sequence_has_token}
use Rattle.lic_markup.specs.Reading.{max_depth, max_length, max_weight, reported}
use Rattle.lic_markup.specs.Templates.{Item, AreItems, AreParts}

-- None of these elements is at fault, and they lead from one depth to another: how many optional parts are open.
pub data AreSound : ℕ → List Element → ℕ → Type 0 where
  none : {depth : ℕ} → AreSound depth [] depth
  piece : {depth end : ℕ} {cs : List Located} {es : List Element} → AreSound depth es end
      → AreSound depth (text cs ∷ es) end
  variable : {depth end offset : ℕ} {name original pattern : List ℕ} {tree : Tree} {es : List Element}
      → IsPattern pattern tree → AreSound depth es end
      → AreSound depth (rule (rules.variable name original offset pattern) ∷ es) end
  begin : {depth end offset : ℕ} {es : List Element} → depth < max_depth → AreSound (suc depth) es end
      → AreSound depth (rule (rules.begin offset) ∷ es) end
  finish : {depth end offset : ℕ} {es : List Element} → AreSound depth es end
      → AreSound (suc depth) (rule (rules.finish offset) ∷ es) end

-- an element at fault, at a depth
pub data IsAtFault : ℕ → Element → MarkupFault → Type 0 where
  -- a rule that is at fault by itself
  of_rule : {depth : ℕ} {e : MarkupFault} → IsAtFault depth (refused e) e
  bad_pattern : {depth offset : ℕ} {name original pattern : List ℕ} {e : EreFault} → ere.reading pattern ≡ Err e
      → IsAtFault depth (rule (rules.variable name original offset pattern)) (reported offset e)
  too_deep : {depth offset : ℕ} → max_depth ≤ depth → IsAtFault depth (rule (rules.begin offset)) (fault_at offset TooDeep)
  no_begin : {offset : ℕ} → IsAtFault 0 (rule (rules.finish offset)) (fault_at offset EndWithoutBegin)

-- These elements lead from one number of open optional parts to another, however deep, and end none that is not counted.
pub data Lead : ℕ → List Element → ℕ → Type 0 where
  nowhere : {open_parts : ℕ} → Lead open_parts [] open_parts
  on : {open_parts end : ℕ} {cs : List Located} {es : List Element} → Lead open_parts es end
      → Lead open_parts (text cs ∷ es) end
  over : {open_parts end offset : ℕ} {name original pattern : List ℕ} {es : List Element} → Lead open_parts es end
      → Lead open_parts (rule (rules.variable name original offset pattern) ∷ es) end
  into : {open_parts end offset : ℕ} {es : List Element} → Lead (suc open_parts) es end
      → Lead open_parts (rule (rules.begin offset) ∷ es) end
  out : {open_parts end offset : ℕ} {es : List Element} → Lead open_parts es end
      → Lead (suc open_parts) (rule (rules.finish offset) ∷ es) end

-- the fault that decides among these elements
pub data IsFirstFault (line_rules : LineRules) (words : List Phrase) (es : List Element) : MarkupFault → Type 0 where
  at_rule : {before : List Element} (after : List Element) {x : Element} {depth : ℕ} {e : MarkupFault}
      → es ≡ before ++ x ∷ after → AreSound 0 before depth → IsAtFault depth x e
      → IsFirstFault line_rules words es e
  -- the innermost open part: after its begin each part that begins is ended
  not_ended : (before : List Element) {following : List Element} {offset depth : ℕ}
      → es ≡ before ++ rule (rules.begin offset) ∷ following → AreSound 0 es (suc depth) → Lead 0 following 0
      → IsFirstFault line_rules words es (fault_at offset NotEnded)
  no_token : {items : List Item} {ns : List Node} → AreItems line_rules words [] es items → AreParts 0 items ns
      → sequence_has_token (sequence ns) ≡ false
      → IsFirstFault line_rules words es (fault_at 0 NoLetter)
  too_heavy : {items : List Item} {ns : List Node} → AreItems line_rules words [] es items → AreParts 0 items ns
      → sequence_has_token (sequence ns) ≡ true → max_weight < sequence_weight (sequence ns)
      → IsFirstFault line_rules words es (fault_at 0 TooHeavy)

-- the fault that decides of a template, given as its bytes
pub data IsFaultOf (line_rules : LineRules) (words : List Phrase) (template : List ℕ) : MarkupFault → Type 0 where
  too_long : max_length < length template → IsFaultOf line_rules words template (fault_at 0 TooLong)
  otherwise : {es : List Element} {e : MarkupFault} → length template ≤ max_length → AreCut (located template) es
      → IsFirstFault line_rules words es e → IsFaultOf line_rules words template e
