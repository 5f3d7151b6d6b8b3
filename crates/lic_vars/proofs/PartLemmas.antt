-- The instructions of a template are the moves of its nodes.
use Rattle.std.proofs.Common.{◌≡◌, ℕ, zero, suc, arith, ◌+◌, ◌<◌, ◌≤◌, List, [], ◌∷◌, ◌++◌, length, drop, get_or, map, Vec, Global, String, sym, ap, ◌∙◌, subst, append_assoc}
use Rattle.std.proofs.lemmas.List.{drop_more, map-append, length-map}
use Rattle.std.proofs.lemmas.List.Elements.{All-push, All-append}
use Rattle.std.specs.List.{All}
use Rattle.std.specs.Str.{chars}
use Rattle.std.specs.String.{string_bytes}
use Rattle.lic_ere.specs.Trees.{tree_of}
use Rattle.lic_ere.specs.declared.ere.Ere.{Ere}
use Rattle.lic_markup.specs.declared.part.Part.{Part, Part-F, fold-roll-Part}
use Rattle.lic_markup.specs.declared.part.Part.TheVariants.{Text, Var, Optional, rolls-Text, rolls-Var, rolls-Optional}
use Rattle.lic_markup.specs.Parts.{Node, one_more, sequence, part_of, part_node}
use Rattle.lic_markup.specs.Parts as parts
use Rattle.lic_ere.specs.Meaning.{tree_words}
use Rattle.lic_markup.specs.PartTexts.{HasPieceTexts, HavePieceTexts}
use Rattle.lic_phrases.specs.PieceTexts.{IsPieceText}
use Rattle.lic_vars.specs.Moves.{Move, text, variable, optional, moves}
use Rattle.lic_vars.specs.Cuts.{move_of, moves_of, IsPiece}
use Rattle.lic_vars.specs.declared.instructions.Instruction.{Instruction}

part_of_Text : (t : String Global) → part_of (Text t) ≡ parts.letters (string_bytes t)
part_of_Text t = ap part_of (sym (rolls-Text t)) ∙ fold-roll-Part Node part_node (Part-F.Text t)

part_of_Var : (name original : String Global) (ere : Ere)
    → part_of (Var name original ere) ≡ parts.variable (string_bytes name) (string_bytes original) (tree_of ere)
part_of_Var name original ere = ap part_of (sym (rolls-Var name original ere)) ∙ fold-roll-Part Node part_node (Part-F.Var name original ere)

part_of_Optional : (body : Vec Part Global) → part_of (Optional body) ≡ parts.optional (sequence (map part_of body.items))
part_of_Optional body = ap part_of (sym (rolls-Optional body)) ∙ fold-roll-Part Node part_node (Part-F.Optional body)

module _ (all : List Part) (i : ℕ) (p : Part) (h : i < length all) (e : p ≡ get_or all i p) where
  more : drop i all ≡ p ∷ drop (i + 1) all
  more = drop_more all i p h ∙ ap (λ (y : Part). y ∷ drop (i + 1) all) (sym e)

  sequence_more : (n : Node) → part_of p ≡ n → sequence (map part_of (drop i all)) ≡ one_more n (sequence (map part_of (drop (i + 1) all)))
  sequence_more n q = ap (λ (s : List Part). sequence (map part_of s)) more ∙ ap (λ (m : Node). one_more m (sequence (map part_of (drop (i + 1) all)))) q

  pub more-Text : (t : String Global) → p ≡ Text t →
      moves (sequence (map part_of (drop i all))) ≡ text (chars (string_bytes t)) ∷ moves (sequence (map part_of (drop (i + 1) all)))
  more-Text t q = ap moves (sequence_more (parts.letters (string_bytes t)) (ap part_of q ∙ part_of_Text t))

  pub more-Var : (name original : String Global) (ere : Ere) → p ≡ Var name original ere →
      moves (sequence (map part_of (drop i all))) ≡ variable (string_bytes name) (tree_words (tree_of ere)) ∷ moves (sequence (map part_of (drop (i + 1) all)))
  more-Var name original ere q =
      ap moves (sequence_more (parts.variable (string_bytes name) (string_bytes original) (tree_of ere)) (ap part_of q ∙ part_of_Var name original ere))

  pub more-Optional : (body : Vec Part Global) → p ≡ Optional body →
      moves (sequence (map part_of (drop i all)))
      ≡ optional (length (moves (sequence (map part_of body.items)))) ∷ (moves (sequence (map part_of body.items)) ++ moves (sequence (map part_of (drop (i + 1) all))))
  more-Optional body q = ap moves (sequence_more (parts.optional (sequence (map part_of body.items))) (ap part_of q ∙ part_of_Optional body))

pub pushed : (a b : List Instruction) (x : Instruction) (m : Move) (rest whole : List Move) → b ≡ a ++ x ∷ [] → move_of x ≡ m → whole ≡ m ∷ rest →
    moves_of b ++ rest ≡ moves_of a ++ whole
pushed a b x m rest whole e f g =
    ap (λ (s : List Instruction). moves_of s ++ rest) e ∙ ap (λ (s : List Move). s ++ rest) (map-append move_of a (x ∷ []))
    ∙ append_assoc (moves_of a) (move_of x ∷ []) rest ∙ ap (λ (y : Move). moves_of a ++ y ∷ rest) f ∙ ap (λ (s : List Move). moves_of a ++ s) (sym g)

pub pushed-optional : (a b c inner : List Instruction) (x : Instruction) (n : ℕ) (body rest whole : List Move) → b ≡ a ++ x ∷ [] → move_of x ≡ optional n → n ≡ length inner →
    moves_of inner ≡ body → c ≡ b ++ inner → whole ≡ optional (length body) ∷ (body ++ rest) → moves_of c ++ rest ≡ moves_of a ++ whole
pushed-optional a b c inner x n body rest whole e f m i d g =
    let count : n ≡ length body = m ∙ sym (length-map inner move_of) ∙ ap length i in
    ap (λ (s : List Instruction). moves_of s ++ rest) d ∙ ap (λ (s : List Move). s ++ rest) (map-append move_of b inner)
    ∙ append_assoc (moves_of b) (moves_of inner) rest ∙ ap (λ (s : List Move). moves_of b ++ (s ++ rest)) i
    ∙ pushed a b x (optional (length body)) (body ++ rest) whole e (f ∙ ap optional count) g

pub pieces-pushed : (a b : List Instruction) (x : Instruction) → b ≡ a ++ x ∷ [] → All IsPiece a → IsPiece x → All IsPiece b
pieces-pushed a b x e h k = subst (All IsPiece) (sym e) (All-push IsPiece a x h k)

pub pieces-appended : (a b c : List Instruction) → c ≡ a ++ b → All IsPiece a → All IsPiece b → All IsPiece c
pieces-appended a b c e h k = subst (All IsPiece) (sym e) (All-append IsPiece a b h k)

-- ---- the texts of parts

texts-one : (all : List Part) (i : ℕ) (d : Part) → i < length all → HavePieceTexts (sequence (map part_of all)) → HasPieceTexts (part_of (get_or all i d))
texts-one [] i d below texts = absurd (omega arith)
texts-one (p ∷ all) zero d below texts = texts.0
texts-one (p ∷ all) (suc i) d below texts = texts-one all i d (omega arith) texts.1

pub text-piece : (all : List Part) (i : ℕ) (p : Part) → i < length all → p ≡ get_or all i p → (t : String Global) → p ≡ Text t
    → HavePieceTexts (sequence (map part_of all)) → {text_is : List ℕ} → text_is ≡ string_bytes t → IsPieceText text_is
text-piece all i p below is t same texts {text_is} value =
    let one : HasPieceTexts (part_of (Text t)) = subst (λ (x : Part). HasPieceTexts (part_of x)) same (subst (λ (x : Part). HasPieceTexts (part_of x)) (sym is) (texts-one all i p below texts)) in
    let here : HasPieceTexts (parts.letters (string_bytes t)) = subst HasPieceTexts (part_of_Text t) one in
    subst IsPieceText (sym value) here.2

pub body-texts : (all : List Part) (i : ℕ) (p : Part) → i < length all → p ≡ get_or all i p → (body : Vec Part Global) → p ≡ Optional body
    → HavePieceTexts (sequence (map part_of all)) → HavePieceTexts (sequence (map part_of body.items))
body-texts all i p below is body same texts =
    let one : HasPieceTexts (part_of (Optional body)) = subst (λ (x : Part). HasPieceTexts (part_of x)) same (subst (λ (x : Part). HasPieceTexts (part_of x)) (sym is) (texts-one all i p below texts)) in
    subst HasPieceTexts (part_of_Optional body) one
