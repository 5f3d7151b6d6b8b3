-- Keys of phrases.
use Rattle.std.proofs.Common.{◌≡◌, ℕ, ◌<◌, ◌≤◌, ◌==◌, true, List, [], ◌∷◌, ◌++◌, refl, sym, ap, ◌∙◌, subst, append_assoc, append-nil, length, take, get_or, map, zero, suc, string_bytes, String, arith}
use Rattle.std.proofs.Math.Seq.{take-suc}
use Rattle.std.proofs.lemmas.List.Concat.{flat_map-append}
use Rattle.std.specs.List.{onto_first}
use Rattle.std.specs.Prelude.{bytes_eq, encode_utf8, encode_utf8_all}
use Rattle.std.specs.Str.{IsUtf8}
use Rattle.std.proofs.lemmas.Bool.{cond-false, and_parts, ne_eqb}
use Rattle.std.proofs.lemmas.Bool.Decides.{same_from_decides}
use Rattle.std.proofs.lemmas.Slice.Eq.{bytes_eq-Decides, slice_eq-Decides}
use Rattle.std.proofs.lemmas.Str.{IsUtf8-string_bytes}
use Rattle.std.proofs.Math.Utf8.{scalar, scalars, scalar_cases}
use Rattle.std.proofs.str.Laws.{Shape, of1, of2, of3, of4, shape}
use Rattle.lic_phrases.specs.PhraseLists.{key_of, key_texts, same_texts, IsKey, IsEntry}

-- no byte of these is the separator
abbrev pub HasNoSeparator : List ℕ → Type 0
HasNoSeparator [] = Unit {0}
HasNoSeparator (b ∷ text) = (b ≡ 0xFF → ⊥) × HasNoSeparator text

abbrev pub HaveNoSeparator : List (List ℕ) → Type 0
HaveNoSeparator [] = Unit {0}
HaveNoSeparator (text ∷ texts) = HasNoSeparator text × HaveNoSeparator texts

HasNoSeparator-append : (xs ys : List ℕ) → HasNoSeparator xs → HasNoSeparator ys → HasNoSeparator (xs ++ ys)
HasNoSeparator-append [] ys h k = k
HasNoSeparator-append (x ∷ xs) ys h k = (h.0, HasNoSeparator-append xs ys h.1 k)

-- no byte of a character is the separator
character_has_none : (c : ℕ) → Shape c → HasNoSeparator (encode_utf8 c)
character_has_none c (of1 small is) = subst HasNoSeparator (sym is) (λ e. omega arith, tt)
character_has_none c (of2 a b l h f s is) = subst HasNoSeparator (sym is) (λ e. omega arith, (λ e. omega arith, tt))
character_has_none c (of3 a b d l h f g s is) = subst HasNoSeparator (sym is) (λ e. omega arith, (λ e. omega arith, (λ e. omega arith, tt)))
character_has_none c (of4 a b d x l h f g k s is) =
    subst HasNoSeparator (sym is) (λ e. omega arith, (λ e. omega arith, (λ e. omega arith, (λ e. omega arith, tt))))

characters_have_none : (cs : List ℕ) → scalars cs ≡ true → HasNoSeparator (encode_utf8_all cs)
characters_have_none [] h = tt
characters_have_none (c ∷ cs) h =
    let parts = and_parts (scalar c) (scalars cs) h in
    HasNoSeparator-append (encode_utf8 c) (encode_utf8_all cs) (character_has_none c (shape c (scalar_cases c parts.0))) (characters_have_none cs parts.1)

-- UTF-8 has no byte that is the separator
pub utf8_has_none : (text : List ℕ) → IsUtf8 text → HasNoSeparator text
utf8_has_none text valid = subst HasNoSeparator valid.1.1 (characters_have_none valid.0 valid.1.0)

key_texts-first : (text key : List ℕ) → HasNoSeparator text → key_texts (text ++ 0xFF ∷ key) ≡ text ∷ key_texts key
key_texts-first [] key h = refl
key_texts-first (b ∷ text) key h = cond-false (b == 0xFF) _ _ (ne_eqb b 0xFF h.0) ∙ ap (onto_first b) (key_texts-first text key h.1)

-- the texts of a key are those that it was made of
pub key_texts-key_of : (texts : List (List ℕ)) → HaveNoSeparator texts → key_texts (key_of texts) ≡ texts
key_texts-key_of [] h = refl
key_texts-key_of (text ∷ texts) h =
    ap key_texts (append_assoc text (0xFF ∷ []) (key_of texts))
    ∙ key_texts-first text (key_of texts) h.0
    ∙ ap (λ l. text ∷ l) (key_texts-key_of texts h.1)

pub IsKey-key_of : (texts : List (List ℕ)) → HaveNoSeparator texts → IsKey (key_of texts)
IsKey-key_of texts h = ap key_of (key_texts-key_of texts h)

-- two keys are the same where their texts are
pub same_keys : (a b : List ℕ) → IsKey a → IsKey b → bytes_eq a b ≡ same_texts (key_texts a) (key_texts b)
same_keys a b a_is b_is =
    let texts = slice_eq-Decides bytes_eq-Decides (key_texts a) (key_texts b) (same_texts (key_texts a) (key_texts b)) refl in
    same_from_decides (bytes_eq a b) (same_texts (key_texts a) (key_texts b))
    (bytes_eq-Decides a b) (λ e. sym a_is ∙ ap key_of (texts.0 e) ∙ b_is, λ e. texts.1 (ap key_texts e))

-- texts of strings have no byte that is the separator
pub strings_have_none : {A : Type 0} (texts : List (String A)) → HaveNoSeparator (map string_bytes texts)
strings_have_none [] = tt
strings_have_none (text ∷ texts) = (utf8_has_none (string_bytes text) (IsUtf8-string_bytes text), strings_have_none texts)

-- a key made of some texts is an entry
pub IsEntry-key_of : (count : ℕ) (key : List ℕ) (texts : List (List ℕ)) (class : ℕ) → HaveNoSeparator texts
    → key ≡ key_of texts → 0 < length texts → length texts ≤ 8 → class < count → IsEntry count key class
IsEntry-key_of count key texts class none is some few known =
    let back : key_texts key ≡ texts = ap key_texts is ∙ key_texts-key_of texts none in
    record {
      is_key = subst IsKey (sym is) (IsKey-key_of texts none);
      some = omega (arith, ap length back);
      few = omega (arith, ap length back);
      known = known;
    }

-- the key of one more text
pub key_of-more : (texts : List (List ℕ)) (n : ℕ) (d : List ℕ) → n < length texts
    → key_of (take (suc n) texts) ≡ (key_of (take n texts) ++ get_or texts n d) ++ 0xFF ∷ []
key_of-more texts n d lt =
    ap key_of (take-suc texts n d lt)
    ∙ flat_map-append (λ text. text ++ 0xFF ∷ []) (take n texts) (get_or texts n d ∷ [])
    ∙ ap (λ l. key_of (take n texts) ++ l) (append-nil (get_or texts n d ++ 0xFF ∷ []))
    ∙ sym (append_assoc (key_of (take n texts)) (get_or texts n d) (0xFF ∷ []))

pub HaveNoSeparator-take : (n : ℕ) (texts : List (List ℕ)) → HaveNoSeparator texts → HaveNoSeparator (take n texts)
HaveNoSeparator-take zero texts h = tt
HaveNoSeparator-take (suc n) [] h = tt
HaveNoSeparator-take (suc n) (text ∷ texts) h = (h.0, HaveNoSeparator-take n texts h.1)
