-- A template without rules is one text.
use Rattle.std.proofs.Common.{◌≡◌, ℕ, Bool, true, false, not, ◌==◌, List, [], ◌∷◌, Result, Ok, Err, refl, sym, ap, ◌∙◌, append-nil}
use Rattle.std.specs.Prelude.{if◌then◌else◌, length, nat_lt}
use Rattle.std.specs.List.{list_any}
use Rattle.std.specs.Str.{chars, IsUtf8}
use Rattle.lic_ere.specs.Located.{Located, located, located_from}
use Rattle.lic_phrases.specs.Rewriting.{Phrase}
use Rattle.lic_kind.specs.LineRules.{LineRules}
use Rattle.lic_pieces.specs.Pieces.{piece_of}
use Rattle.lic_pieces.specs.declared.pieces.Next.TheVariants.{LineEnd}
use Rattle.lic_elements.specs.declared.fault.MarkupFault.{MarkupFault}
use Rattle.lic_elements.specs.declared.fault.MarkupCause.TheVariants.{TooLong, NoLetter, TooHeavy}
use Rattle.lic_elements.specs.Signs.{less}
use Rattle.lic_elements.specs.Texts.{text_of}
use Rattle.lic_elements.specs.Faults.{fault_at}
use Rattle.lic_elements.specs.Elements.{text, elements}
use Rattle.lic_markup.specs.Lines.{ends_line}
use Rattle.lic_markup.specs.Parts.{Node, Reading, letters, sequence, sequence_has_token, sequence_weight}
use Rattle.lic_markup.specs.Reading.{max_length, max_weight, meet, new_level, read_elements, read_on, reading, whole, with_letters}
use Rattle.lic_elements.proofs.LocatedLemmas.{text_of-piece}
use Rattle.lic_elements.proofs.SignLemmas.{sign-located}
use Rattle.lic_elements.proofs.ElementLemmas.{plain_sequence, elements-end}

one_piece : (cs : List ℕ) → list_any (λ c. c == less) cs ≡ false → elements [] 0 (located_from 0 cs) ≡ text (located_from 0 cs) ∷ []
one_piece cs none =
    let all : List Located = located_from 0 cs in
    ap (elements [] 0) (sym (append-nil all)) ∙ plain_sequence [] all [] (sign-located 0 cs ∙ none) ∙ elements-end all [] refl

-- ---- what is read of it

abbrev failed : MarkupFault → Result Reading MarkupFault
failed e = Err e

abbrev done : Reading → Result Reading MarkupFault
done r = Ok r

no_ok : (e : MarkupFault) (r : Reading) → failed e ≡ done r → ⊥
no_ok e r h = cc

same_ok : (a b : Reading) → done a ≡ done b → a ≡ b
same_ok a b h = cc

accepted : (long : Bool) (read : Result Reading MarkupFault) (r : Reading) → (if long then Err (fault_at 0 TooLong) else read) ≡ Ok r → read ≡ Ok r
accepted true read r h = absurd (no_ok (fault_at 0 TooLong) r h)
accepted false read r h = h

accepted_parts : (token heavy : Bool) (x r : Reading)
    → (if not token then Err (fault_at 0 NoLetter) else (if heavy then Err (fault_at 0 TooHeavy) else Ok x)) ≡ Ok r
    → (token ≡ true) × (x ≡ r)
accepted_parts false heavy x r h = absurd (no_ok (fault_at 0 NoLetter) r h)
accepted_parts true true x r h = absurd (no_ok (fault_at 0 TooHeavy) r h)
accepted_parts true false x r h = (refl, same_ok x r h)

one_part : (text : List ℕ) → sequence_has_token (sequence (with_letters text (new_level 0)).parts) ≡ true → (with_letters text (new_level 0)).parts ≡ letters text ∷ []
one_part [] h = absurd cc
one_part (c ∷ cs) h = refl

module _ (rules : LineRules) (words : List Phrase) where
  read_one : (all : List Located)
      → read_elements rules words (text all ∷ [])
      ≡ whole (with_letters (piece_of rules words true LineEnd (text_of all)) (new_level 0)).parts (text_of all)
  unfolding read_on meet
  read_one all = ap (λ follows.
      whole (with_letters (piece_of rules words true follows (text_of all)) (new_level 0)).parts (text_of all))
      (line_end (ends_line all))
    where
      line_end : (ends : Bool) → (if ends then LineEnd else LineEnd) ≡ LineEnd
      line_end true = refl
      line_end false = refl

  pub plain_parts : (template : List ℕ) (r : Reading) → IsUtf8 template
      → list_any (λ c. c == less) (chars template) ≡ false → reading rules words template ≡ Ok r →
      r.parts ≡ letters (piece_of rules words true LineEnd template) ∷ []
  plain_parts template r utf8 none read =
      let parts : List ℕ → List Node = λ t. (with_letters (piece_of rules words true LineEnd t) (new_level 0)).parts in
      let same : text_of (located template) ≡ template = text_of-piece 0 template utf8 in
      let one : read_elements rules words (elements [] 0 (located template)) ≡ whole (parts template) template =
      ap (read_elements rules words) (one_piece (chars template) none) ∙ read_one (located template) ∙ ap (λ t. whole (parts t) t) same in
      let x : Reading = record { parts = parts template; weight = sequence_weight (sequence (parts template)); original = template } in
      let known = accepted_parts (sequence_has_token (sequence (parts template))) (nat_lt max_weight (sequence_weight (sequence (parts template)))) x r
      (sym one ∙ accepted (nat_lt max_length (length template)) (read_elements rules words (elements [] 0 (located template))) r read) in
      ap (λ (y : Reading). y.parts) (sym known.1) ∙ one_part (piece_of rules words true LineEnd template) known.0
