-- The line rules as a value.
use Rattle.std.specs.Prelude.{ℕ, Bool, true, List, [], ◌∷◌, codes}
pub use Rattle.lic_kind.specs.TextLists.{texts_of}
use Rattle.lic_kind.specs.declared.rules.Rules.{Rules}
use Rattle.lic_kind.specs.declared.rules.AllTexts.{AllTexts}
pub use Rattle.lic_kind.specs.declared.rule_kind.RuleKind.{RuleKind}
pub use Rattle.lic_kind.specs.declared.rule_kind.RuleKind.TheVariants.{Lead, LeadSpace, Tail, TailSpace, TailRepeat}

-- Which texts are pieces of a lead or of a tail, each as its characters; whether items are taken, and whether separators are.
pub record LineRules : Type 0 where
  -- a piece of a lead
  pub lead : List (List ℕ)
  -- a piece of a lead with one white space character after it
  pub lead_space : List (List ℕ)
  -- a piece of a tail
  pub tail : List (List ℕ)
  -- a piece of a tail after one white space character
  pub tail_space : List (List ℕ)
  -- a piece of a tail, its first character once or more
  pub tail_repeat : List (List ℕ)
  pub items : Bool
  pub separators : Bool

-- the rules of this project's profile
abbrev pub profile : LineRules
profile = record {
  lead = codes "//" ∷ codes "///" ∷ codes "/*" ∷ codes "*/" ∷ codes "*" ∷ codes "#" ∷ codes "%" ∷ codes ";" ∷ codes "!" ∷ codes "|" ∷ codes ">" ∷ codes "--" ∷ codes "::" ∷ codes "<!--" ∷ codes "{-" ∷ codes "-}" ∷ codes "(*" ∷ codes "*)" ∷ codes ".\\\"" ∷ codes "'\\\"" ∷ [];
  lead_space = codes "dnl" ∷ codes "REM" ∷ [];
  tail = codes "-->" ∷ codes "*)" ∷ codes "-}" ∷ [];
  tail_space = codes "*" ∷ codes "#" ∷ codes "|" ∷ [];
  tail_repeat = codes "*/" ∷ [];
  items = true;
  separators = true;
}

-- the texts of this kind
abbrev pub texts_of_kind : RuleKind → LineRules → List (List ℕ)
texts_of_kind Lead rules = rules.lead
texts_of_kind LeadSpace rules = rules.lead_space
texts_of_kind Tail rules = rules.tail
texts_of_kind TailSpace rules = rules.tail_space
texts_of_kind TailRepeat rules = rules.tail_repeat

-- the rules of these texts
abbrev pub rules_with : AllTexts → Bool → Bool → LineRules
rules_with texts items separators = record {
  lead = texts_of texts.lead;
  lead_space = texts_of texts.lead_space;
  tail = texts_of texts.tail;
  tail_space = texts_of texts.tail_space;
  tail_repeat = texts_of texts.tail_repeat;
  items = items;
  separators = separators;
}

-- the rules that a value of the code holds
abbrev pub rules_of : Rules → LineRules
rules_of r = record {
  lead = texts_of r.lead;
  lead_space = texts_of r.lead_space;
  tail = texts_of r.tail;
  tail_space = texts_of r.tail_space;
  tail_repeat = texts_of r.tail_repeat;
  items = r.items;
  separators = r.separators;
}
