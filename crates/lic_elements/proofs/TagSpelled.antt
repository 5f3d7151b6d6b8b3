-- Tags that are read are those of the markup.
use Rattle.std.proofs.Common.{◌≡◌, ℕ, ◌+◌, ◌<◌, Bool, true, false, cond, not, ◌==◌, ◌&&◌, List, [], ◌∷◌, ◌++◌, length, map, drop, Option, Some, None, refl, sym, ap, ap₂, ◌∙◌, arith, eq-eqb}
use Rattle.std.specs.Prelude.{codes}
use Rattle.std.specs.Option.{option_map}
use Rattle.std.specs.Char.{is_ascii_alphanumeric}
use Rattle.std.specs.Str.{bytes_eq}
use Rattle.std.proofs.lemmas.Bool.{eqb-true, false≢true}
use Rattle.std.proofs.lemmas.Bool.Decides.{nat_tests}
use Rattle.std.proofs.lemmas.List.{drop-drop, take-append-drop}
use Rattle.std.proofs.lemmas.Slice.Eq.{bytes_eq-Decides}
use Rattle.std.proofs.lemmas.Str.{encode_ascii}
use Rattle.std.proofs.Math.Seq.{drop-append_seam}
use Rattle.lic_ere.specs.Located.{Located}
use Rattle.lic_elements.specs.declared.rule.tag.Tag.{Tag}
use Rattle.lic_elements.specs.declared.rule.tag.Tag.TheVariants.{Var, BeginOptional, EndOptional}
use Rattle.lic_elements.specs.Signs.{less}
use Rattle.lic_elements.specs.Texts.{text_of, begins_with}
use Rattle.lic_elements.specs.Rules.{word_at, tag_of, tag_at}
use Rattle.lic_elements.specs.Markup.{ends_word, tag_name, IsTag}
use Rattle.lic_elements.proofs.RuleLemmas.{word_at-front}

abbrev pub chars_in : List Located → List ℕ
chars_in cs = map (λ x. x.1) cs

pub both : (a b : Bool) → (a && b) ≡ true → (a ≡ true) × (b ≡ true)
both true b h = (refl, h)
both false b h = absurd (false≢true h)

opposite : (a : Bool) → not a ≡ true → a ≡ false
opposite true h = absurd (false≢true h)
opposite false h = refl

-- ---- words

are_alphanumeric : List ℕ → Bool
are_alphanumeric [] = true
are_alphanumeric (c ∷ cs) = is_ascii_alphanumeric c && are_alphanumeric cs

small : (c : ℕ) → is_ascii_alphanumeric c ≡ true → c < 128
small c h = grind (arith, nat_tests)

text_of-ascii : (word : List Located) → are_alphanumeric (chars_in word) ≡ true → text_of word ≡ chars_in word
unfolding are_alphanumeric
text_of-ascii [] h = refl
text_of-ascii (x ∷ xs) h =
    let two = both (is_ascii_alphanumeric x.1) (are_alphanumeric (chars_in xs)) h in
    ap₂ (λ (a b : List ℕ). a ++ b) (encode_ascii x.1 (small x.1 two.0)) (text_of-ascii xs two.1)

word_at-alphanumeric : (cs : List Located) → are_alphanumeric (chars_in (word_at cs)) ≡ true
unfolding are_alphanumeric
word_at-alphanumeric [] = refl
word_at-alphanumeric (x ∷ cs) = by_first (is_ascii_alphanumeric x.1) refl (word_at-alphanumeric cs)
  where
    by_first : (b : Bool) → is_ascii_alphanumeric x.1 ≡ b → are_alphanumeric (chars_in (word_at cs)) ≡ true
        → are_alphanumeric (chars_in (cond b (x ∷ word_at cs) [])) ≡ true
    by_first true h more = ap₂ (λ p q. p && q) h more
    by_first false h more = refl

word_at-ends : (cs : List Located) → ends_word (drop (length (word_at cs)) cs) ≡ true
word_at-ends [] = refl
word_at-ends (x ∷ cs) = by_first (is_ascii_alphanumeric x.1) refl (word_at-ends cs)
  where
    by_first : (b : Bool) → is_ascii_alphanumeric x.1 ≡ b → ends_word (drop (length (word_at cs)) cs) ≡ true
        → ends_word (drop (length (cond b (x ∷ word_at cs) [])) (x ∷ cs)) ≡ true
    by_first true h more = more
    by_first false h more = ap not h

word_at-is : (word rest : List Located) → are_alphanumeric (chars_in word) ≡ true → ends_word rest ≡ true → word_at (word ++ rest) ≡ word
unfolding are_alphanumeric
word_at-is [] [] h ends = refl
word_at-is [] (x ∷ rest) h ends = ap (λ b. cond b (x ∷ word_at rest) []) (opposite (is_ascii_alphanumeric x.1) ends)
word_at-is (x ∷ xs) rest h ends =
    let two = both (is_ascii_alphanumeric x.1) (are_alphanumeric (chars_in xs)) h in
    ap (λ b. cond b (x ∷ word_at (xs ++ rest)) []) two.0 ∙ ap (λ l. x ∷ l) (word_at-is xs rest two.1 ends)

-- ---- the words that are tags

tag_alphanumeric : (tag : Tag) → are_alphanumeric (tag_name tag) ≡ true
unfolding are_alphanumeric
tag_alphanumeric Var = refl
tag_alphanumeric BeginOptional = refl
tag_alphanumeric EndOptional = refl

tag_of-name : (tag : Tag) → tag_of (tag_name tag) ≡ Some tag
tag_of-name Var = refl
tag_of-name BeginOptional = refl
tag_of-name EndOptional = refl

abbrev pub there : {A : Type 0} → A → Option A
there x = Some x

pub same_there : {A : Type 0} (x y : A) → there x ≡ there y → x ≡ y
same_there x y e = ap (λ o. elim o [ Some z ↦ z | None ↦ x ]) e

name_by : (word : List ℕ) (tag : Tag) (b1 b2 b3 : Bool) → bytes_eq word (codes "var") ≡ b1 → bytes_eq word (codes "beginOptional") ≡ b2 → bytes_eq word (codes "endOptional") ≡ b3
    → cond b1 (Some Var) (cond b2 (Some BeginOptional) (cond b3 (Some EndOptional) None)) ≡ there tag → word ≡ tag_name tag
name_by word tag true b2 b3 one two three e = (bytes_eq-Decides word (codes "var")).0 one ∙ ap tag_name (same_there Var tag e)
name_by word tag false true b3 one two three e = (bytes_eq-Decides word (codes "beginOptional")).0 two ∙ ap tag_name (same_there BeginOptional tag e)
name_by word tag false false true one two three e = (bytes_eq-Decides word (codes "endOptional")).0 three ∙ ap tag_name (same_there EndOptional tag e)
name_by word tag false false false one two three e = absurd cc

tag_of-was : (word : List ℕ) (tag : Tag) → tag_of word ≡ Some tag → word ≡ tag_name tag
tag_of-was word tag e = name_by word tag (bytes_eq word (codes "var")) (bytes_eq word (codes "beginOptional")) (bytes_eq word (codes "endOptional")) refl refl refl e

-- ---- tags

-- the tag after two characters
abbrev tagged : List Located → Option Tag → Option (Tag × ℕ)
tagged rest o = option_map (λ tag. (tag, 1 + length (word_at (drop 1 rest)))) o

tag_at-is : (x : Located) (rest : List Located)
    → tag_at x rest ≡ cond (x.1 == less && begins_with less rest)
    (tagged rest (tag_of (text_of (word_at (drop 1 rest))))) None
unfolding tag_at
tag_at-is x rest = refl

tagged_was : (rest : List Located) (o : Option Tag) (tag : Tag) (n : ℕ) → tagged rest o ≡ there (tag, n)
    → (o ≡ Some tag) × (1 + length (word_at (drop 1 rest)) ≡ n)
tagged_was rest (Some t) tag n e =
    let is : (t, 1 + length (word_at (drop 1 rest))) ≡ (tag, n) = same_there (t, 1 + length (word_at (drop 1 rest))) (tag, n) e in
    (ap (λ p. Some p.0) is, ap (λ p. p.1) is)
tagged_was rest None tag n e = absurd cc

drop_one : (y : Located) (cs : List Located) (k n : ℕ) → 1 + k ≡ n → drop k cs ≡ drop n (y ∷ cs)
drop_one y cs k n e = drop-drop k 1 (y ∷ cs) ∙ ap (λ (i : ℕ). drop i (y ∷ cs)) e

spelled_by : (x : Located) (after : List Located) (tag : Tag) (n : ℕ) → x.1 ≡ less → begins_with less after ≡ true
    → tag_of (text_of (word_at (drop 1 after))) ≡ Some tag → 1 + length (word_at (drop 1 after)) ≡ n
    → IsTag (x ∷ after) (drop n after) tag
spelled_by x [] tag n one two is long = absurd (false≢true two)
spelled_by x (y ∷ cs) tag n one two is long =
    let word : List Located = word_at cs in
    let drops : drop (length word) cs ≡ drop n (y ∷ cs) = drop_one y cs (length word) n long in
    record {
      signs = x ∷ y ∷ [];
      word = word;
      parts = ap (λ (l : List Located). x ∷ y ∷ l) (sym (take-append-drop (length word) cs) ∙ ap₂ (λ (a b : List Located). a ++ b) (word_at-front cs) drops);
      opens = ap₂ (λ a b. a ∷ b ∷ []) one (eqb-true _ _ two);
      name = sym (text_of-ascii word (word_at-alphanumeric cs)) ∙ tag_of-was (text_of word) tag is;
      ends = ap ends_word (sym drops) ∙ word_at-ends cs;
    }

test_by : (x : Located) (after : List Located) (tag : Tag) (n : ℕ) (t : Bool)
    → (x.1 == less && begins_with less after) ≡ t
    → cond t (tagged after (tag_of (text_of (word_at (drop 1 after))))) None ≡ there (tag, n)
    → IsTag (x ∷ after) (drop n after) tag
test_by x after tag n true h e =
    let two = both (x.1 == less) (begins_with less after) h in
    let was = tagged_was after (tag_of (text_of (word_at (drop 1 after)))) tag n e in
    spelled_by x after tag n (eqb-true _ _ two.0) two.1 was.0 was.1
test_by x after tag n false h e = absurd cc

pub tag_spelled : (x : Located) (after : List Located) (tag : Tag) (n : ℕ) → tag_at x after ≡ Some (tag, n) → IsTag (x ∷ after) (drop n after) tag
tag_spelled x after tag n e = test_by x after tag n (x.1 == less && begins_with less after) refl (sym (tag_at-is x after) ∙ e)

-- a tag, and how many characters it takes after its first
pub record WasTag (cs following : List Located) (tag : Tag) : Type 0 where
  pub first : Located
  pub after : List Located
  pub taken : ℕ
  pub all : cs ≡ first ∷ after
  pub read : tag_at first after ≡ Some (tag, taken)
  pub rest : drop taken after ≡ following

read_by : (signs word cs rest : List Located) (tag : Tag) → cs ≡ signs ++ (word ++ rest) → chars_in signs ≡ codes "<<" → chars_in word ≡ tag_name tag → ends_word rest ≡ true → WasTag cs rest tag
read_by [] word cs rest tag is opens name ends = absurd cc
read_by (x ∷ []) word cs rest tag is opens name ends = absurd (no (ap (drop 1) opens))
  where
    no : [] ≡ less ∷ [] → ⊥
    no h = cc
read_by (x ∷ y ∷ z ∷ zs) word cs rest tag is opens name ends = absurd (no (ap (drop 2) opens))
  where
    no : z.1 ∷ chars_in zs ≡ [] → ⊥
    no h = cc
read_by (x ∷ y ∷ []) word cs rest tag is opens name ends =
    let l : List Located = word ++ rest in
    let one : x.1 ≡ less = ap (λ (l : List ℕ). elim l [ [] ↦ 0 | c ∷ cs ↦ c ]) opens in
    let two : y.1 ≡ less = ap (λ (l : List ℕ). elim (drop 1 l) [ [] ↦ 0 | c ∷ cs ↦ c ]) opens in
    let test : (x.1 == less && y.1 == less) ≡ true = ap₂ (λ p q. p && q) (eq-eqb x.1 less one) (eq-eqb y.1 less two) in
    let plain : are_alphanumeric (chars_in word) ≡ true = ap are_alphanumeric name ∙ tag_alphanumeric tag in
    let word_is : word_at l ≡ word = word_at-is word rest plain ends in
    let is_tag : tag_of (text_of (word_at l)) ≡ Some tag =
    ap (λ (w : List Located). tag_of (text_of w)) word_is ∙ ap tag_of (text_of-ascii word plain ∙ name)
    ∙ tag_of-name tag in
    record {
      first = x;
      after = y ∷ l;
      taken = 1 + length (word_at l);
      all = is;
      read = tag_at-is x (y ∷ l) ∙ ap (λ b. cond b (tagged (y ∷ l) (tag_of (text_of (word_at l)))) None) test ∙ ap (tagged (y ∷ l)) is_tag;
      rest = sym (drop_one y l (length (word_at l)) (1 + length (word_at l)) refl)
          ∙ ap (λ (w : List Located). drop (length w) l) word_is ∙ drop-append_seam word rest;
    }

pub tag_read : (cs rest : List Located) (tag : Tag) → IsTag cs rest tag → WasTag cs rest tag
tag_read cs rest tag is = read_by is.signs is.word cs rest tag is.parts is.opens is.name is.ends
