-- What is known of the start of a text of which nothing is taken.
use Rattle.std.specs.Prelude.{◌≡◌, ℕ, ◌-◌, ◌<◌, ◌≤◌, Bool, true, false, List, ◌∷◌, length, drop, slice_index_or}
use Rattle.lic_kind.specs.LineRules.{LineRules}
use Rattle.lic_trim.specs.declared.source.SourceChar.{SourceChar}
use Rattle.lic_lines.specs.Tokens.{Token, text_tokens_after}
pub use Rattle.lic_lines.specs.declared.text_start.TextStart.{TextStart}
use Rattle.lic_lines.specs.declared.text_start.TextStart.TheVariants as front

-- the token of the first n characters of the text, with these letters
abbrev pub text_token : Bool → ℕ → List ℕ → List SourceChar → SourceChar → Token
text_token after_blank n letters text d = record {
  text = letters;
  start = (slice_index_or text 0 d).start;
  end = (slice_index_or text (n - 1) d).end;
  after_blank = after_blank;
}

-- what is known of the start of a text: a character that is a blank, or a token of n characters with these letters, or nothing
abbrev pub IsTextStart : TextStart → List ℕ → List SourceChar → Type 0
IsTextStart front.Blank letters text = (rules : LineRules) (after_blank : Bool)
    → text_tokens_after rules true (drop 1 text) ≡ text_tokens_after rules after_blank text
IsTextStart (front.Token n) letters text = (0 < n) × (n ≤ length text)
    × ((rules : LineRules) (after_blank : Bool) (d : SourceChar)
    → text_token after_blank n letters text d ∷ text_tokens_after rules false (drop n text)
    ≡ text_tokens_after rules after_blank text)
IsTextStart front.Other letters text = Unit {0}
