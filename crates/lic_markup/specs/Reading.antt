-- Pieces and rules into the parts of a template, or the first fault.
use Rattle.std.specs.Prelude.{ℕ, Bool, true, false, not, List, [], ◌∷◌, ◌++◌, length, nat_lt, Result, Ok, Err, if◌then◌else◌}
use Rattle.lic_ere.specs.declared.fault.EreFault.{EreFault}
use Rattle.lic_ere.specs.declared.fault.EreCause.{EreCause}
use Rattle.lic_ere.specs.declared.fault.EreCause.TheVariants.{OutOfMemory}
use Rattle.lic_ere.specs.Trees.{Tree}
use Rattle.lic_ere.specs.Located.{Located, located}
use Rattle.lic_ere.specs.Reading as ere
use Rattle.lic_kind.specs.LineRules.{LineRules}
use Rattle.lic_phrases.specs.Rewriting.{Phrase}
use Rattle.lic_pieces.specs.Pieces.{piece_of}
use Rattle.lic_pieces.specs.declared.pieces.Next.{Next}
use Rattle.lic_elements.specs.declared.fault.MarkupFault.{MarkupFault}
use Rattle.lic_elements.specs.declared.fault.MarkupCause.TheVariants.{EndWithoutBegin, NotEnded, Pattern, TooDeep, TooHeavy, NoLetter, TooLong}
use Rattle.lic_elements.specs.Texts.{text_of}
use Rattle.lic_elements.specs.Faults.{fault_at, out_of_memory, ◌>>=◌}
use Rattle.lic_elements.specs.Rules as rules
use Rattle.lic_elements.specs.Elements.{Element, text, rule, refused, elements}
use Rattle.lic_markup.specs.Lines.{at_line_start, next_after, with_next}
use Rattle.lic_markup.specs.Parts.{Node, letters, variable, optional, sequence, sequence_weight, sequence_has_token, Reading}

-- The template, or an open optional part: where it begins, and its parts so far.
pub record PartLevel : Type 0 where
  pub offset : ℕ
  pub parts : List Node

abbrev pub new_level : ℕ → PartLevel
new_level offset = record { offset = offset; parts = [] }

abbrev pub with_part : Node → PartLevel → PartLevel
with_part n l = record l { parts = l.parts ++ n ∷ [] }

-- The innermost level, and those round it from the inside out; the original text so far; and whether only white
-- space and optional rules are between the start of the line and here.
pub record State : Type 0 where
  pub level : PartLevel
  pub outer : List PartLevel
  pub original : List ℕ
  pub at_start : Bool

abbrev pub start : State
start = record { level = new_level 0; outer = []; original = []; at_start = true }

-- letters are a part; none are no part
abbrev pub with_letters : List ℕ → PartLevel → PartLevel
with_letters [] l = l
with_letters (c ∷ cs) l = with_part (letters (c ∷ cs)) l

-- a piece of text, with what follows it in its line
abbrev pub meet_text : LineRules → List Phrase → List Located → Next → State → State
meet_text line_rules words piece follows s =
    record {
      level = with_letters (piece_of line_rules words s.at_start (next_after piece follows) (text_of piece)) s.level;
      outer = s.outer;
      original = s.original ++ text_of piece;
      at_start = at_line_start s.at_start piece;
    }

-- how the fault of a pattern is reported, which begins at an offset
abbrev pub reported_cause : EreCause → ℕ → EreFault → MarkupFault
reported_cause OutOfMemory offset e = out_of_memory
reported_cause cause offset e = fault_at offset (Pattern e)

abbrev pub reported : ℕ → EreFault → MarkupFault
reported offset e = reported_cause e.cause offset e

-- a variable whose pattern has been read; `offset` is that of the pattern
abbrev pub meet_variable : List ℕ → List ℕ → ℕ → Result Tree EreFault → State → Result State MarkupFault
meet_variable name original offset (Err e) s = Err (reported offset e)
meet_variable name original offset (Ok tree) s =
    Ok (record {
      level = with_part (variable name original tree) s.level;
      outer = s.outer;
      original = s.original ++ original;
      at_start = false;
    })

-- how deep optional parts may be nested
abbrev pub max_depth : ℕ
max_depth = 64

abbrev pub meet_begin : ℕ → State → Result State MarkupFault
meet_begin offset s =
    if nat_lt (length s.outer) max_depth then Ok (record s { level = new_level offset; outer = s.level ∷ s.outer })
    else Err (fault_at offset TooDeep)

-- the innermost optional part becomes a part of the level round it
abbrev pub meet_end : ℕ → PartLevel → List PartLevel → State → Result State MarkupFault
meet_end offset level [] s = Err (fault_at offset EndWithoutBegin)
meet_end offset level (o ∷ outer) s = Ok (record s { level = with_part (optional (sequence level.parts)) o; outer = outer })

-- one more piece or rule
unfoldable pub meet : LineRules → List Phrase → Element → Next → State → Result State MarkupFault
meet line_rules words (text piece) follows s = Ok (meet_text line_rules words piece follows s)
meet line_rules words (rule (rules.variable name original offset pattern)) follows s =
    meet_variable name original offset (ere.reading pattern) s
meet line_rules words (rule (rules.begin offset)) follows s = meet_begin offset s
meet line_rules words (rule (rules.finish offset)) follows s = meet_end offset s.level s.outer s
meet line_rules words (refused e) follows s = Err e

-- the greatest weight
abbrev pub max_weight : ℕ
max_weight = 131072

-- a template is refused without a token in it, and above a weight
abbrev pub whole : List Node → List ℕ → Result Reading MarkupFault
whole parts original =
    if not (sequence_has_token (sequence parts)) then Err (fault_at 0 NoLetter)
    else (if nat_lt max_weight (sequence_weight (sequence parts)) then Err (fault_at 0 TooHeavy)
    else Ok (record { parts = parts; weight = sequence_weight (sequence parts); original = original }))

-- after the last element: an optional part that is open is refused, the innermost one
abbrev pub finish : PartLevel → List PartLevel → List ℕ → Result Reading MarkupFault
finish level [] original = whole level.parts original
finish level (o ∷ outer) original = Err (fault_at level.offset NotEnded)

-- the elements that are left
unfoldable pub read_on : LineRules → List Phrase → State → List (Element × Next) → Result Reading MarkupFault
read_on line_rules words s [] = finish s.level s.outer s.original
read_on line_rules words s (e ∷ es) = meet line_rules words e.0 e.1 s >>= λ t. read_on line_rules words t es

-- all elements
abbrev pub read_elements : LineRules → List Phrase → List Element → Result Reading MarkupFault
read_elements line_rules words es = read_on line_rules words start (with_next es)

-- how many bytes a template may have
abbrev pub max_length : ℕ
max_length = 1048576

-- a template's text, given as its bytes: its parts, its weight and its original text, or the fault that decides
abbrev pub reading : LineRules → List Phrase → List ℕ → Result Reading MarkupFault
reading line_rules words template =
    if nat_lt max_length (length template) then Err (fault_at 0 TooLong)
    else read_elements line_rules words (elements [] 0 (located template))
