-- The texts of parts are such as pieces have, as more parts are read.
use Rattle.std.proofs.Common.{◌≡◌, ℕ, Bool, List, [], ◌∷◌, ◌++◌, refl, sym, ap, subst, ◌∙◌, arith, All, Result, Ok, Err}
use Rattle.std.specs.Prelude.{OnOk}
use Rattle.std.specs.Str.{IsUtf8}
use Rattle.lic_ere.specs.Trees.{Tree}
use Rattle.lic_ere.specs.declared.fault.EreFault.{EreFault}
use Rattle.lic_kind.specs.LineRules.{LineRules}
use Rattle.lic_phrases.specs.Rewriting.{Phrase}
use Rattle.lic_phrases.specs.TokenTexts.{IsTokenText}
use Rattle.lic_phrases.specs.PieceTexts.{IsPieceText}
use Rattle.lic_pieces.specs.Pieces.{piece_cells, piece_of}
use Rattle.lic_pieces.specs.declared.pieces.Next.{Next}
use Rattle.lic_markup.specs.Meaning.{piece_texts}
use Rattle.lic_markup.specs.Parts.{Node, letters, variable, optional, sequence}
use Rattle.lic_markup.specs.PartTexts.{HasPieceTexts, HavePieceTexts}
use Rattle.lic_markup.specs.Reading.{PartLevel, State, with_letters, meet_variable, meet_end}
use Rattle.lic_markup.specs.ReadTexts.{HoldPieceTexts, HasReadTexts}
use Rattle.lic_elements.specs.Faults.{Gives}
use Rattle.lic_elements.specs.declared.fault.MarkupFault.{MarkupFault}
use Rattle.lic_markup.proofs.BlankLemmas.{piece_text}

-- the letters of a piece whose tokens have texts in UTF-8
pub piece_of-text : (rules : LineRules) (words : List Phrase) (at_line_start : Bool) (before : Next) (piece : List ℕ)
    → All IsUtf8 (piece_texts rules words at_line_start before piece)
    → All IsTokenText (piece_texts rules words at_line_start before piece)
    → IsPieceText (piece_of rules words at_line_start before piece)
unfolding piece_of
piece_of-text rules words at_line_start before piece utf8 token =
    piece_text (piece_cells rules at_line_start before piece) (piece_texts rules words at_line_start before piece) utf8 token

-- ---- one more part

pushed : (ns : List Node) (n : Node) → HavePieceTexts (sequence ns) → HasPieceTexts n → HavePieceTexts (sequence (ns ++ n ∷ []))
pushed [] n so_far here = (here, tt)
pushed (m ∷ ns) n so_far here = (so_far.0, pushed ns n so_far.1 here)

pub with_letters-texts : (text : List ℕ) (l : PartLevel) → IsUtf8 text → IsPieceText text
    → HavePieceTexts (sequence l.parts) → HavePieceTexts (sequence (with_letters text l).parts)
with_letters-texts [] l utf8 text so_far = so_far
with_letters-texts (b ∷ bs) l utf8 text so_far = pushed l.parts (letters (b ∷ bs)) so_far (omega arith, utf8, text)

-- ---- one more rule

ok_same : {E : Type 0} (s t u : State) (r : Result State E) → r ≡ Ok u → r ≡ Ok t → u ≡ t
ok_same s t u r is also = ap (λ (o : Result State _). elim o [ Ok x ↦ x | Err e ↦ s ]) (sym is ∙ also)

module _ (s t : State) (so_far : HasReadTexts s) where
  variable_texts : (name original : List ℕ) (offset : ℕ) (read : Result Tree EreFault)
      → meet_variable name original offset read s ≡ Ok t → HasReadTexts t
  variable_texts name original offset (Ok tree) is =
      subst HasReadTexts (ok_same s t _ (meet_variable name original offset (Ok tree) s) refl is)
      (pushed s.level.parts (variable name original tree) so_far.0 tt, so_far.1)
  variable_texts name original offset (Err e) is = absurd cc

  end_texts : (offset : ℕ) (level : PartLevel) (outer : List PartLevel) → HavePieceTexts (sequence level.parts) → HoldPieceTexts outer
      → meet_end offset level outer s ≡ Ok t → HasReadTexts t
  end_texts offset level [] inner others is = absurd cc
  end_texts offset level (o ∷ outer) inner others is =
      subst HasReadTexts (ok_same s t _ (meet_end offset level (o ∷ outer) s) refl is)
      (pushed o.parts (optional (sequence level.parts)) others.0 inner, others.1)

  -- what a rule gives, or nothing
  gives_texts : {X : Type 0} (r : Result X MarkupFault) (read : Result State MarkupFault) → Gives (λ _. t) r read
      → (read ≡ Ok t → HasReadTexts t) → OnOk r (HasReadTexts t)
  gives_texts (Ok x) read gives texts = texts gives
  gives_texts (Err e) read gives texts = tt

  pub meet_variable-texts : {X : Type 0} (r : Result X MarkupFault) (name original : List ℕ) (offset : ℕ) (read : Result Tree EreFault)
      → Gives (λ _. t) r (meet_variable name original offset read s) → OnOk r (HasReadTexts t)
  meet_variable-texts r name original offset read gives =
      gives_texts r (meet_variable name original offset read s) gives (variable_texts name original offset read)

  pub meet_end-texts : {X : Type 0} (r : Result X MarkupFault) (offset : ℕ)
      → Gives (λ _. t) r (meet_end offset s.level s.outer s) → OnOk r (HasReadTexts t)
  meet_end-texts r offset gives =
      gives_texts r (meet_end offset s.level s.outer s) gives (end_texts offset s.level s.outer so_far.0 so_far.1)
