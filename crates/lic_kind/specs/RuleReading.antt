-- What the reader of a rules file holds, and how one line changes it.
use Rattle.std.specs.Prelude.{ℕ, List, [], ◌∷◌, ◌++◌, map}
use Rattle.lic_kind.specs.LineRules.{LineRules, RuleKind, Lead, LeadSpace, Tail, TailSpace, TailRepeat}
use Rattle.lic_kind.specs.RuleFiles.{Line, text_in, items_in, separators_in, last_or}
use Rattle.lic_kind.specs.declared.rule_text.RuleText.{RuleText}
use Rattle.lic_kind.specs.declared.rules.reader.RulesReader.{RulesReader}

-- the characters of these texts
abbrev pub texts_in : List RuleText → List (List ℕ)
texts_in texts = map (λ text. text.characters.items) texts

-- the rules of the lines that are read
abbrev pub rules_read : RulesReader → LineRules
rules_read r = record {
  lead = texts_in r.lead.items;
  lead_space = texts_in r.lead_space.items;
  tail = texts_in r.tail.items;
  tail_space = texts_in r.tail_space.items;
  tail_repeat = texts_in r.tail_repeat.items;
  items = r.items;
  separators = r.separators;
}

-- rules with one more text of this kind
abbrev pub with_text : RuleKind → List ℕ → LineRules → LineRules
with_text Lead cs rules = record rules { lead = rules.lead ++ cs ∷ [] }
with_text LeadSpace cs rules = record rules { lead_space = rules.lead_space ++ cs ∷ [] }
with_text Tail cs rules = record rules { tail = rules.tail ++ cs ∷ [] }
with_text TailSpace cs rules = record rules { tail_space = rules.tail_space ++ cs ∷ [] }
with_text TailRepeat cs rules = record rules { tail_repeat = rules.tail_repeat ++ cs ∷ [] }

-- rules with one more line
abbrev pub with_line : Line → LineRules → LineRules
with_line line rules = record {
  lead = rules.lead ++ text_in Lead line;
  lead_space = rules.lead_space ++ text_in LeadSpace line;
  tail = rules.tail ++ text_in Tail line;
  tail_space = rules.tail_space ++ text_in TailSpace line;
  tail_repeat = rules.tail_repeat ++ text_in TailRepeat line;
  items = last_or rules.items (items_in line);
  separators = last_or rules.separators (separators_in line);
}
