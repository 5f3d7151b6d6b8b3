-- The rules of a file, line by line.
use Rattle.std.proofs.Common.{◌≡◌, ℕ, ◌+◌, Bool, true, List, [], ◌∷◌, ◌++◌, refl, ap, ◌∙◌, append-nil, arith}
use Rattle.std.specs.List.{flat_map}
use Rattle.std.proofs.lemmas.List.Concat.{flat_map-append}
use Rattle.lic_kind.specs.LineRules.{LineRules, Lead, LeadSpace, Tail, TailSpace, TailRepeat}
use Rattle.lic_kind.specs.RuleFiles.{Line, items, separators, text_in, items_in, separators_in, last_or, rules_in, text_count, texts_before}
use Rattle.lic_kind.specs.RuleReading.{with_line}

-- rules with nothing added
same_rules : (rules : LineRules) → record {
  lead = rules.lead ++ [];
  lead_space = rules.lead_space ++ [];
  tail = rules.tail ++ [];
  tail_space = rules.tail_space ++ [];
  tail_repeat = rules.tail_repeat ++ [];
  items = rules.items;
  separators = rules.separators;
} ≡ rules
same_rules rules = λ i. record rules {
  lead = append-nil rules.lead i;
  lead_space = append-nil rules.lead_space i;
  tail = append-nil rules.tail i;
  tail_space = append-nil rules.tail_space i;
  tail_repeat = append-nil rules.tail_repeat i;
}

pub with_items : (on : Bool) (rules : LineRules) → with_line (items on) rules ≡ record rules { items = on }
with_items on rules = ap (λ (r : LineRules). record r { items = on }) (same_rules rules)

one_more : {A : Type 0} (f : Line → List A) (lines : List Line) (line : Line) → flat_map f (lines ++ line ∷ []) ≡ flat_map f lines ++ f line
one_more f lines line = flat_map-append f lines (line ∷ []) ∙ ap (λ l. flat_map f lines ++ l) (append-nil (f line))

last_more : (on : Bool) (switches more : List Bool) → last_or on (switches ++ more) ≡ last_or (last_or on switches) more
last_more on [] more = refl
last_more on (next ∷ switches) more = last_more next switches more

-- the rules of the lines and one more
pub rules_more : (lines : List Line) (line : Line) → rules_in (lines ++ line ∷ []) ≡ with_line line (rules_in lines)
rules_more lines line =
    let lead = one_more (text_in Lead) lines line in
    let lead_space = one_more (text_in LeadSpace) lines line in
    let tail = one_more (text_in Tail) lines line in
    let tail_space = one_more (text_in TailSpace) lines line in
    let tail_repeat = one_more (text_in TailRepeat) lines line in
    let on = ap (last_or true) (one_more items_in lines line) ∙ last_more true (flat_map items_in lines) (items_in line) in
    let off = ap (last_or true) (one_more separators_in lines line) ∙ last_more true (flat_map separators_in lines) (separators_in line) in
    λ i. record {
      lead = lead i;
      lead_space = lead_space i;
      tail = tail i;
      tail_space = tail_space i;
      tail_repeat =
          tail_repeat i;
      items = on i;
      separators = off i;
    }

pub texts_more : (lines : List Line) (line : Line) → texts_before (lines ++ line ∷ []) ≡ texts_before lines + text_count line
texts_more [] line = omega arith
texts_more (first ∷ lines) line = let rest = texts_more lines line in omega (arith, rest)
