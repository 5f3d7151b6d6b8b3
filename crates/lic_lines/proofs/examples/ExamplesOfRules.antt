-- Texts and their tokens under other line rules: known texts, and cases with expected values from an independent
-- program.
use Rattle.std.specs.Prelude.{◌≡◌, ℕ, List, [], ◌∷◌, ◌++◌, map, codes, refl, true, false}
use Rattle.std.specs.Char.{encode_utf8}
use Rattle.caseless.proofs.Computing.{caseless}
use Rattle.lic_kind.specs.Kinds.{kind_of, spell}
use Rattle.lic_trim.specs.Sources.{placed}
use Rattle.lic_kind.specs.LineRules.{LineRules, profile}
use Rattle.lic_lines.specs.Tokens.{text_tokens}

-- each token's text and span
abbrev tokens : LineRules → List ℕ → List (List ℕ × ℕ × ℕ)
tokens rules text = map (λ t. (t.text, t.start, t.end)) (text_tokens rules (placed 0 text))

other_lead : tokens (record profile { lead = codes "@@" ∷ [] }) (codes "@@ foo // bar\n") ≡ (codes "foo", 3, 6) ∷ (codes "/", 7, 8) ∷ (codes "/", 8, 9) ∷ (codes "bar", 10, 13) ∷ []
unfolding spell kind_of caseless encode_utf8
other_lead = refl

no_items : tokens (record profile { items = false }) (codes "(c) 2012 X\n(c) the licensee\n") ≡ (codes "copyright", 0, 3) ∷ (codes "2012", 4, 8) ∷ (codes "x", 9, 10) ∷ (codes "copyright", 11, 14) ∷ (codes "the", 15, 18) ∷ (codes "licensee", 19, 27) ∷ []
unfolding spell kind_of caseless encode_utf8
no_items = refl

no_separators : tokens (record profile { separators = false }) (codes "ab===cd") ≡ (codes "ab", 0, 2) ∷ (codes "=", 2, 3) ∷ (codes "=", 3, 4) ∷ (codes "=", 4, 5) ∷ (codes "cd", 5, 7) ∷ []
unfolding spell kind_of caseless encode_utf8
no_separators = refl

dashes_without_separators : tokens (record profile { separators = false }) (codes "ab---cd") ≡ (codes "ab", 0, 2) ∷ (codes "-", 2, 5) ∷ (codes "cd", 5, 7) ∷ []
unfolding spell kind_of caseless encode_utf8
dashes_without_separators = refl

rules_1 : tokens (record { lead = (codes "/") ∷ []; lead_space = (codes "//") ∷ []; tail = (codes "REM") ∷ []; tail_space = (codes "||") ∷ []; tail_repeat = []; items = true; separators = true }) (codes "dnl\n1. 1. @@==REM") ≡ ((codes "dnl"), 0, 3) ∷ ((codes "1"), 7, 8) ∷ ((codes "."), 8, 9) ∷ ((codes "@"), 10, 11) ∷ ((codes "@"), 11, 12) ∷ ((codes "="), 12, 13) ∷ ((codes "="), 13, 14) ∷ []
unfolding spell kind_of caseless encode_utf8
rules_1 = refl

rules_2 : tokens (record { lead = []; lead_space = (codes ":-") ∷ []; tail = []; tail_space = (codes "*") ∷ (codes "dnl") ∷ []; tail_repeat = []; items = true; separators = true }) (codes "*:-dnl|" ++ (0x9 ∷ []) ++ codes "->dnl->@@") ≡ ((codes "*"), 0, 1) ∷ ((codes ":"), 1, 2) ∷ ((codes "-"), 2, 3) ∷ ((codes "dnl"), 3, 6) ∷ ((codes "|"), 6, 7) ∷ ((codes "-"), 8, 9) ∷ ((codes ">"), 9, 10) ∷ ((codes "dnl"), 10, 13) ∷ ((codes "-"), 13, 14) ∷ ((codes ">"), 14, 15) ∷ ((codes "@"), 15, 16) ∷ ((codes "@"), 16, 17) ∷ []
unfolding spell kind_of caseless encode_utf8
rules_2 = refl

rules_3 : tokens (record { lead = (codes "dnl") ∷ (codes "--") ∷ []; lead_space = (codes "a") ∷ []; tail = []; tail_space = []; tail_repeat = (codes "/") ∷ []; items = false; separators = true }) (codes "...abdnl  =") ≡ ((codes "abdnl"), 3, 8) ∷ ((codes "="), 10, 11) ∷ []
unfolding spell kind_of caseless encode_utf8
rules_3 = refl

rules_4 : tokens (record { lead = (codes "/") ∷ (codes "||") ∷ (codes "a") ∷ []; lead_space = []; tail = (codes "//") ∷ []; tail_space = (codes "||") ∷ (codes "/") ∷ []; tail_repeat = []; items = false; separators = false }) (codes "x/   //REM=") ≡ ((codes "x"), 0, 1) ∷ ((codes "/"), 1, 2) ∷ ((codes "/"), 5, 6) ∷ ((codes "/"), 6, 7) ∷ ((codes "rem"), 7, 10) ∷ ((codes "="), 10, 11) ∷ []
unfolding spell kind_of caseless encode_utf8
rules_4 = refl

rules_5 : tokens (record { lead = []; lead_space = (codes "ab") ∷ []; tail = (codes "x/") ∷ []; tail_space = []; tail_repeat = (codes "//") ∷ []; items = false; separators = false }) (codes "/##@@(a) #||/= ") ≡ ((codes "/"), 0, 1) ∷ ((codes "#"), 1, 2) ∷ ((codes "#"), 2, 3) ∷ ((codes "@"), 3, 4) ∷ ((codes "@"), 4, 5) ∷ ((codes "("), 5, 6) ∷ ((codes "a"), 6, 7) ∷ ((codes ")"), 7, 8) ∷ ((codes "#"), 9, 10) ∷ ((codes "|"), 10, 11) ∷ ((codes "|"), 11, 12) ∷ ((codes "/"), 12, 13) ∷ ((codes "="), 13, 14) ∷ []
unfolding spell kind_of caseless encode_utf8
rules_5 = refl

rules_6 : tokens (record { lead = (codes "*") ∷ []; lead_space = (codes "x/") ∷ []; tail = (codes "=") ∷ (codes "REM") ∷ []; tail_space = []; tail_repeat = (codes "|") ∷ []; items = true; separators = true }) (codes "  ||*x/") ≡ ((codes "|"), 2, 3) ∷ ((codes "|"), 3, 4) ∷ ((codes "*"), 4, 5) ∷ ((codes "x"), 5, 6) ∷ ((codes "/"), 6, 7) ∷ []
unfolding spell kind_of caseless encode_utf8
rules_6 = refl

rules_7 : tokens (record { lead = (codes "=") ∷ (codes "|") ∷ (codes "ab") ∷ []; lead_space = (codes ":-") ∷ []; tail = []; tail_space = (codes ":-") ∷ []; tail_repeat = []; items = false; separators = true }) (codes "/---REM@@ab:-") ≡ ((codes "/"), 0, 1) ∷ ((codes "rem"), 4, 7) ∷ ((codes "@"), 7, 8) ∷ ((codes "@"), 8, 9) ∷ ((codes "ab"), 9, 11) ∷ ((codes ":"), 11, 12) ∷ ((codes "-"), 12, 13) ∷ []
unfolding spell kind_of caseless encode_utf8
rules_7 = refl

rules_8 : tokens (record { lead = []; lead_space = []; tail = (codes "--") ∷ (codes "|") ∷ []; tail_space = (codes ":-") ∷ (codes "REM") ∷ []; tail_repeat = (codes "=") ∷ []; items = true; separators = false }) (codes "#||") ≡ ((codes "#"), 0, 1) ∷ []
unfolding spell kind_of caseless encode_utf8
rules_8 = refl

rules_9 : tokens (record { lead = (codes "*/") ∷ (codes "=") ∷ (codes "=") ∷ []; lead_space = []; tail = []; tail_space = []; tail_repeat = []; items = true; separators = false }) (codes "foo:----> dnl *==") ≡ ((codes "foo"), 0, 3) ∷ ((codes ":"), 3, 4) ∷ ((codes "-"), 4, 8) ∷ ((codes ">"), 8, 9) ∷ ((codes "dnl"), 10, 13) ∷ ((codes "*"), 14, 15) ∷ ((codes "="), 15, 16) ∷ ((codes "="), 16, 17) ∷ []
unfolding spell kind_of caseless encode_utf8
rules_9 = refl

rules_10 : tokens (record { lead = []; lead_space = (codes "ab") ∷ []; tail = []; tail_space = (codes "||") ∷ []; tail_repeat = (codes "//") ∷ []; items = true; separators = true }) (codes "--x/") ≡ ((codes "-"), 0, 2) ∷ ((codes "x"), 2, 3) ∷ ((codes "/"), 3, 4) ∷ []
unfolding spell kind_of caseless encode_utf8
rules_10 = refl

rules_11 : tokens (record { lead = (codes "*") ∷ []; lead_space = (codes "#") ∷ []; tail = (codes "REM") ∷ []; tail_space = (codes "->") ∷ (codes "*") ∷ []; tail_repeat = (codes "/") ∷ []; items = false; separators = false }) (codes "dnl*@@... ") ≡ ((codes "dnl"), 0, 3) ∷ ((codes "*"), 3, 4) ∷ ((codes "@"), 4, 5) ∷ ((codes "@"), 5, 6) ∷ ((codes "."), 6, 7) ∷ ((codes "."), 7, 8) ∷ ((codes "."), 8, 9) ∷ []
unfolding spell kind_of caseless encode_utf8
rules_11 = refl

rules_12 : tokens (record { lead = (codes "=") ∷ (codes ":-") ∷ (codes "x/") ∷ []; lead_space = (codes "=") ∷ []; tail = (codes "*/") ∷ []; tail_space = (codes "*") ∷ []; tail_repeat = (codes "||") ∷ []; items = false; separators = true }) (codes "*a#") ≡ ((codes "*"), 0, 1) ∷ ((codes "a"), 1, 2) ∷ ((codes "#"), 2, 3) ∷ []
unfolding spell kind_of caseless encode_utf8
rules_12 = refl
