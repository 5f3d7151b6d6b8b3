-- A template's text cut into pieces of plain text and rules.
use Rattle.std.specs.Prelude.{ℕ, zero, suc, List, [], ◌∷◌, ◌++◌, drop, Option, Some, None, Result, Ok, Err}
use Rattle.lic_ere.specs.Located.{Located, further}
use Rattle.lic_elements.specs.declared.rule.tag.Tag.{Tag}
use Rattle.lic_elements.specs.declared.fault.MarkupFault.{MarkupFault}
use Rattle.lic_elements.specs.Faults.{map_ok}
use Rattle.lic_elements.specs.Rules.{Rule, tag_at, rule_at}

pub data Element : Type 0 where
  -- the text between two rules, before the first or after the last; it may be empty
  text : List Located → Element
  rule : Rule → Element
  -- a rule that cannot be read: the last element
  refused : MarkupFault → Element

-- the rule that begins with a character, whose tag and the length of that are given
abbrev pub rule_after : Located → List Located → Tag × ℕ → Result (Rule × ℕ) MarkupFault
rule_after x rest tag = map_ok (further tag.1) (rule_at x.0 tag.0 (drop tag.1 rest))

-- a rule, and what is after the characters that it takes, or its fault
abbrev pub and_then : Result (Rule × ℕ) MarkupFault → (ℕ → List Element) → List Element
and_then (Ok read) others = rule read.0 ∷ others read.1
and_then (Err e) others = refused e ∷ []

-- Pieces and rules in turn. After the characters of a piece so far: one more character of it, or the rule that
-- begins here; that rule takes some characters more, which are skipped.
unfoldable pub elements : List Located → ℕ → List Located → List Element
elements piece skip [] = text piece ∷ []
elements piece (suc skip) (x ∷ rest) = elements piece skip rest
elements piece zero (x ∷ rest) =
    elim (tag_at x rest) [
      | None ↦ elements (piece ++ x ∷ []) 0 rest
      | Some tag ↦ text piece ∷ and_then (rule_after x rest tag) (λ taken. elements [] taken rest)
    ]

-- the element that a rule is, or its fault
abbrev pub element_read : Result (Rule × ℕ) MarkupFault → Element
element_read (Ok read) = rule read.0
element_read (Err e) = refused e

-- what comes after a rule; nothing is read after a fault
abbrev pub after_rule : List Located → Result (Rule × ℕ) MarkupFault → Option (List Located)
after_rule rest (Ok read) = Some (drop read.1 rest)
after_rule rest (Err e) = None
