-- One more character is read.
use Rattle.std.proofs.Common.{◌≡◌, ℕ, false, true, not, List, [], ◌∷◌, ◌++◌, length, refl, sym, ap, ◌∙◌, append_assoc, arith}
use Rattle.std.specs.Prelude.{encode_utf8_all}
use Rattle.std.specs.Char.{encode_utf8}
use Rattle.std.proofs.lemmas.Str.{encode_same, length-encode, len_utf8_bounds}
use Rattle.std.proofs.lemmas.Bool.{cond-true, cond-false}
use Rattle.std.proofs.lemmas.List.{length-append}
use Rattle.lic_kind.specs.Kinds.{is_dropped}
use Rattle.lic_trim.specs.Sources.{without_dropped}
use Rattle.lic_trim.specs.declared.source.SourceChar.{SourceChar}

-- what is left is the character that came, and the others
pub record IsNext (cs : List ℕ) (c : ℕ) (rest : List ℕ) : Type 0 where
  pub others : List ℕ
  pub all : cs ≡ c ∷ others
  pub left : encode_utf8_all others ≡ rest

pub next_char : (cs : List ℕ) (c : ℕ) (bytes rest : List ℕ) → encode_utf8_all cs ≡ bytes → bytes ≡ encode_utf8 c ++ rest → IsNext cs c rest
next_char [] c bytes rest left came = absurd (omega (arith, ap length (left ∙ came), length-append (encode_utf8 c) rest, length-encode c, len_utf8_bounds c))
next_char (d ∷ cs) c bytes rest left came = let same = encode_same d c (encode_utf8_all cs) rest (left ∙ came) in
    record { others = cs; all = ap (λ e. e ∷ cs) same.0; left = same.1 }

pub none_left : (cs : List ℕ) (bytes : List ℕ) → encode_utf8_all cs ≡ bytes → length bytes ≡ 0 → cs ≡ []
none_left [] bytes left none = refl
none_left (d ∷ cs) bytes left none =
    absurd (omega (
      arith,
      ap length left,
      length-append (encode_utf8 d) (encode_utf8_all cs),
      length-encode d,
      len_utf8_bounds d,
    ))

-- a character is kept, or dropped
pub kept : (out : List SourceChar) (s : SourceChar) (rest : List SourceChar) → not (is_dropped s.char) ≡ true
    → out ++ without_dropped (s ∷ rest) ≡ (out ++ s ∷ []) ++ without_dropped rest
kept out s rest stays = ap (λ l. out ++ l) (cond-true (not (is_dropped s.char)) _ _ stays) ∙ sym (append_assoc out (s ∷ []) (without_dropped rest))

pub left_out : (out : List SourceChar) (s : SourceChar) (rest : List SourceChar) → not (is_dropped s.char) ≡ false
    → out ++ without_dropped (s ∷ rest) ≡ out ++ without_dropped rest
left_out out s rest drops = ap (λ l. out ++ l) (cond-false (not (is_dropped s.char)) _ _ drops)
