-- The source characters at the start of bytes, and those of the rest.
use Rattle.std.proofs.Common.{◌≡◌, ℕ, suc, ◌+◌, ◌<◌, ◌≤◌, List, [], ◌∷◌, ◌++◌, length, take, drop, get_or, refl, sym, ap, subst, ◌∙◌, append_assoc, append-nil, arith, not, take-append-drop, drop-cons}
use Rattle.std.specs.Str.{IsUtf8, chars, StartsWithNoChar}
use Rattle.std.proofs.lemmas.Bool.{cond-true}
use Rattle.std.proofs.lemmas.List.{drop_all}
use Rattle.std.proofs.lemmas.List.Elements.{filter-append}
use Rattle.lic_kind.specs.Kinds.{is_dropped}
use Rattle.lic_trim.specs.Sources.{placed, without_dropped}
use Rattle.lic_trim.specs.declared.source.SourceChar.{SourceChar}
use Rattle.lic_norm.specs.Sources.{source_of}
use Rattle.lic_norm.proofs.AnyBytes.{source_of-none, source_of-text, source_of-byte}

-- the characters of a text at the start are read, and the rest is left
pub text_read : (out out' : List SourceChar) (at : ℕ) (bytes text : List ℕ) → IsUtf8 text → length text ≤ length bytes → text ≡ take (length text) bytes
    → out' ≡ out ++ without_dropped (placed at (chars text))
    → out' ++ without_dropped (source_of (at + length text) (drop (length text) bytes)) ≡ out ++ without_dropped (source_of at bytes)
text_read out out' at bytes text utf8 within front added =
    let rest = drop (length text) bytes in
    let here = placed at (chars text) in
    let there = source_of (at + length text) rest in
    let whole : bytes ≡ text ++ rest = sym (take-append-drop (length text) bytes) ∙ ap (λ l. l ++ rest) (sym front) in
    ap (λ l. l ++ without_dropped there) added
    ∙ append_assoc out (without_dropped here) (without_dropped there)
    ∙ ap (λ l. out ++ l) (sym (filter-append (λ (s : SourceChar). not (is_dropped s.char)) here there))
    ∙ ap (λ l. out ++ without_dropped l) (sym (ap (source_of at) whole ∙ source_of-text at text rest utf8))

-- a byte at which no character begins is read as U+FFFD
pub byte_read : (out : List SourceChar) (at n : ℕ) (bytes : List ℕ) → n < length bytes → StartsWithNoChar (drop n bytes)
    → (out ++ (record { char = 0xFFFD; start = at + n; end = at + n + 1 }) ∷ [])
    ++ without_dropped (source_of (at + (n + 1)) (drop (n + 1) bytes))
    ≡ out ++ without_dropped (source_of (at + n) (drop n bytes))
byte_read out at n bytes within none =
    let single : SourceChar = record { char = 0xFFFD; start = at + n; end = at + n + 1 } in
    let rest = drop (n + 1) bytes in
    let parts : drop n bytes ≡ get_or bytes n 0 ∷ rest =
    drop-cons bytes n 0 within ∙ ap (λ m. get_or bytes n 0 ∷ drop m bytes) (let e : suc n ≡ n + 1 = omega arith in e) in
    let there : at + n + 1 ≡ at + (n + 1) = omega arith in
    let read : source_of (at + n) (drop n bytes) ≡ single ∷ source_of (at + (n + 1)) rest =
    ap (source_of (at + n)) parts ∙ source_of-byte (at + n) (get_or bytes n 0) rest (subst StartsWithNoChar parts none)
    ∙ ap (λ m. single ∷ source_of m rest) there in
    append_assoc out (single ∷ []) (without_dropped (source_of (at + (n + 1)) rest))
    ∙ ap (λ l. out ++ l) (sym (ap without_dropped read
    ∙ cond-true (not (is_dropped 0xFFFD)) (single ∷ without_dropped (source_of (at + (n + 1)) rest))
    (without_dropped (source_of (at + (n + 1)) rest)) refl))

-- after the last byte nothing is left
pub all_read : (out : List SourceChar) (at n : ℕ) (bytes : List ℕ) → length bytes ≤ n → out ≡ out ++ without_dropped (source_of (at + n) (drop n bytes))
all_read out at n bytes all = sym
    (ap (λ l. out ++ without_dropped l) (ap (source_of (at + n)) (drop_all n bytes all) ∙ source_of-none (at + n))
    ∙ append-nil out)
