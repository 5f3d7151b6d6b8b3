use Rattle.std.proofs.Common.{◌≡◌, true, List, [], ◌∷◌, ℕ, map, All, refl, sym, ap, ◌∙◌, subst}
use Rattle.std.specs.Str.{chars, IsUtf8}
use Rattle.std.proofs.lemmas.List.Elements.{All-nil, All-cons, All-head, All-tail}
use Rattle.lic_words.specs.Describing.{IsDescribed}
use Rattle.lic_phrases.specs.TokenTexts.{IsTokenText}
use Rattle.lic_norm.specs.Tokens.{TokenValue, tokens_of}
use Rattle.lic_norm.specs.Spans.{AreTokenTexts}
use Rattle.lic_pieces.specs.declared.pieces.Next.TheVariants.{LineEnd}
use Rattle.lic_norm.proofs.TextLemmas.{tokens_of-AreTokenTexts}
use Rattle.lic_markup.specs.declared.part.Part.TheVariants.{Text}
use Rattle.lic_markup.specs.Meaning.{part_words}
use Rattle.lic_markup.proofs.PieceLemmas.{piece_described}
use Rattle.lic_markup.proofs.OffsetLemmas.{piece_texts-whole}
use Rattle.lic_markup.proofs.laws.a_text_describes_its_source.Goals as goal

abbrev texts : List TokenValue → List (List ℕ)
texts tokens = map (λ t. t.text) tokens

all_texts : (tokens : List TokenValue) → AreTokenTexts tokens → All IsTokenText (texts tokens)
all_texts [] all = All-nil IsTokenText
all_texts (t ∷ tokens) all =
    All-cons IsTokenText t.text (texts tokens) (All-head (λ u. IsTokenText u.text) t tokens all)
    (all_texts tokens (All-tail (λ u. IsTokenText u.text) t tokens all))

some_texts : (tokens : List TokenValue) → (tokens ≡ [] → ⊥) → texts tokens ≡ [] → ⊥
some_texts [] some none = some refl
some_texts (t ∷ tokens) some none = cc

letters : (tokens : List TokenValue) → map chars (texts tokens) ≡ map (λ t. chars t.text) tokens
letters [] = refl
letters (t ∷ tokens) = ap (λ l. chars t.text ∷ l) (letters tokens)

pub returns : goal.returns
returns c = λ rules words source text known encoded is some utf8.
    let tokens = tokens_of rules words source in
    let same = piece_texts-whole rules words source encoded in
    subst (λ ts. IsDescribed (part_words (Text text)) ts) (ap (map chars) same ∙ letters tokens)
    (piece_described rules words true LineEnd source text is
    (λ none. some_texts tokens some (sym same ∙ none))
    (subst (All IsUtf8) (sym same) utf8)
    (subst (All IsTokenText) (sym same) (all_texts tokens (tokens_of-AreTokenTexts rules words source known))))
