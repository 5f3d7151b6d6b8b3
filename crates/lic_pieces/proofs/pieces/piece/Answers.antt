use Rattle.std.proofs.Common.{◌≡◌, Global, List, ℕ, String, All, map, string_bytes, ap, sym, subst, ◌∙◌}
use Rattle.std.specs.Str.{IsUtf8}
use Rattle.std.proofs.lemmas.List.Elements.{All-map}
use Rattle.std.proofs.lemmas.Result.{IfOk-weaker}
use Rattle.lic_kind.specs.LineRules.{rules_of}
use Rattle.lic_lines.specs.Tokens.{Token}
use Rattle.lic_phrases.specs.Rewriting.{Phrase, rewritten}
use Rattle.lic_phrases.specs.Spelling.{spelled}
use Rattle.lic_pieces.specs.Pieces.{bare_token, piece_cells, piece_tokens, piece_of, with_edges}
use Rattle.lic_norm.specs.Tokens.{TokenValue, reported}
use Rattle.lic_norm.specs.Places.{texts_of}
use Rattle.lic_pieces.proofs.BareTokens.{bare-texts, texts_after}
use Rattle.lic_norm.proofs.SpellingPlaces.{texts_of-reported}
use Rattle.lic_norm.proofs.TokenTexts.{rewritten-all}
use Rattle.lic_pieces.proofs.PieceTokens.{piece-texts}
use Rattle.lic_pieces.proofs.pieces.piece.Goals as goal

-- the texts of the tokens of a rewriting, by the tokens without their spans
texts_by : (words phrases : List Phrase) (taken first : List Token) (tokens : List TokenValue) → tokens ≡ map reported (rewritten phrases taken)
    → phrases ≡ words → map bare_token taken ≡ first → texts_of tokens ≡ texts_after words first
texts_by words phrases taken first tokens listed same bare =
    ap texts_of (listed ∙ ap (λ w. map reported (rewritten w taken)) same)
    ∙ texts_of-reported (rewritten words taken)
    ∙ sym (bare-texts words taken)
    ∙ ap (texts_after words) bare

pub finish-requires : goal.finish-requires
finish-requires c = record { taken = _; has = c.in_ok-edges.ensures.taken.1 }

pub returns-clause-letters : goal.returns-clause-letters
unfolding piece_of
returns-clause-letters c =
    let words = c.args.words.now in
    let rules = rules_of c.args.rules.now in
    let first = piece_tokens rules c.args.at_line_start c.args.before c.args.text.now in
    let taken = c.in_ok-edges.ensures.taken in
    let texts = texts_by words _ taken.0 first c.in_ok-tokens.tokens (c.in_ok-tokens.ensures taken.0 taken.1) c.in_ok-edges.ensures.phrases taken.2 in
    let cells = piece_cells rules c.args.at_line_start c.args.before c.args.text.now in
    IfOk-weaker c.with_edges.result
    (λ (edged : String Global). string_bytes edged ≡ with_edges cells c.spelled_text.result.now)
    (λ (edged : String Global). string_bytes edged ≡ piece_of rules words c.args.at_line_start c.args.before c.args.text.now)
    (λ edged given. given ∙ ap (λ l. with_edges cells l) (c.spelled_text.ensures ∙ ap spelled texts))
    (c.with_edges.ensures cells c.in_ok-edges.ensures.edges)

pub returns-clause-token_texts : goal.returns-clause-token_texts
returns-clause-token_texts c =
    let rules = rules_of c.args.rules.now in
    let first = piece_tokens rules c.args.at_line_start c.args.before c.args.text.now in
    IfOk-weaker c.with_edges.result _ _
    (λ (edged : String Global) given. rewritten-all c.args.words.now first c.spellings_are_token_texts.ensures (piece-texts _ _ _ _))
    (c.with_edges.ensures (piece_cells rules c.args.at_line_start c.args.before c.args.text.now) c.in_ok-edges.ensures.edges)

pub returns-clause-utf8 : goal.returns-clause-utf8
returns-clause-utf8 c =
    let words = c.args.words.now in
    let rules = rules_of c.args.rules.now in
    let first = piece_tokens rules c.args.at_line_start c.args.before c.args.text.now in
    let taken = c.in_ok-edges.ensures.taken in
    let texts = texts_by words _ taken.0 first c.in_ok-tokens.tokens (c.in_ok-tokens.ensures taken.0 taken.1) c.in_ok-edges.ensures.phrases taken.2 in
    IfOk-weaker c.with_edges.result _ _
    (λ (edged : String Global) given. subst (λ (texts : List (List ℕ)). All IsUtf8 texts) texts
    (All-map IsUtf8 (λ t. t.text) c.in_ok-tokens.tokens c.texts_are_utf8.ensures))
    (c.with_edges.ensures (piece_cells rules c.args.at_line_start c.args.before c.args.text.now) c.in_ok-edges.ensures.edges)
