-- Names, values, fields and rules that are read are those of the markup.
use Rattle.std.proofs.Common.{◌≡◌, ℕ, Bool, true, false, cond, not, ◌&&◌, ◌||◌, List, [], ◌∷◌, ◌++◌, drop, Result, Ok, Err, refl, sym, ap, subst, ◌∙◌, eq-eqb, eqb}
use Rattle.std.proofs.lemmas.Bool.{eqb-true}
use Rattle.lic_ere.specs.Located.{Located, with_remaining, further}
use Rattle.lic_elements.specs.declared.fault.MarkupFault.{MarkupFault}
use Rattle.lic_elements.specs.Signs.{double_quote, semicolon, equals, greater, backslash}
use Rattle.lic_elements.specs.Texts.{begins_with, begins_with_two, trim_end}
use Rattle.lic_elements.specs.Faults.{map_ok}
use Rattle.lic_elements.specs.Rules.{at_end, ends_quoted, ends_plain, name_at, quoted_at, plain_at, value_at}
use Rattle.lic_elements.specs.Markup.{UpTo, ends_field, ends_name, ends_quote, ends_escaped, IsValue, quoted, plain}
use Rattle.lic_elements.proofs.FaultLemmas.{following, map_ok-map_ok, map_ok-same, with_remaining-further}
use Rattle.lic_elements.proofs.RuleLemmas.{read, one_more-read, name-ends, name-refused, name-continues, name-open, quoted-ends, quoted-continues, quoted-open, plain-ends, plain-continues, plain-open}

-- ---- the first offset

pub empty_no : (before : List Located) (y : Located) (after : List Located) → [] ≡ before ++ y ∷ after → ⊥
empty_no [] y after e = absurd cc
empty_no (z ∷ before) y after e = absurd cc

pub head_same : (x y : Located) (xs ys : List Located) → x ∷ xs ≡ y ∷ ys → x ≡ y
head_same x y xs ys e = ap (λ (l : List Located). elim l [ [] ↦ x | z ∷ zs ↦ z ]) e

pub tail_same : (x y : Located) (xs ys : List Located) → x ∷ xs ≡ y ∷ ys → xs ≡ ys
tail_same x y xs ys e = ap (λ (l : List Located). elim l [ [] ↦ xs | z ∷ zs ↦ zs ]) e

pub here_at : (holds : List Located → List Located → Bool) (cs : List Located) → holds [] cs ≡ true → UpTo holds cs [] cs
here_at holds cs h = record { parts = refl; here = h; first = λ before x after e. absurd (empty_no before x after e) }

later_first : (holds : List Located → List Located → Bool) (x : Located) (cs front rest : List Located)
    → holds [] (x ∷ cs) ≡ false → UpTo (λ before. holds (x ∷ before)) cs front rest
    → (before : List Located) (y : Located) (after : List Located) → x ∷ front ≡ before ++ y ∷ after → holds before (y ∷ (after ++ rest)) ≡ false
later_first holds x cs front rest none up [] y after e =
    ap (λ (l : List Located). holds [] (l ++ rest)) (sym e) ∙ ap (λ (l : List Located). holds [] (x ∷ l)) (sym up.parts) ∙ none
later_first holds x cs front rest none up (z ∷ before) y after e =
    ap (λ (w : Located). holds (w ∷ before) (y ∷ (after ++ rest))) (sym (head_same x z front (before ++ y ∷ after) e))
    ∙ up.first before y after (tail_same x z front (before ++ y ∷ after) e)

pub later : (holds : List Located → List Located → Bool) (x : Located) (cs front rest : List Located)
    → holds [] (x ∷ cs) ≡ false → UpTo (λ before. holds (x ∷ before)) cs front rest
    → UpTo holds (x ∷ cs) (x ∷ front) rest
later holds x cs front rest none up = record { parts = ap (λ l. x ∷ l) up.parts; here = up.here; first = later_first holds x cs front rest none up }

pub not_here : (holds : List Located → List Located → Bool) (x : Located) (cs front rest : List Located)
    → UpTo holds cs (x ∷ front) rest → holds [] (x ∷ (front ++ rest)) ≡ false
not_here holds x cs front rest up = up.first [] x front refl

pub past : (holds : List Located → List Located → Bool) (x : Located) (cs front rest : List Located)
    → UpTo holds cs (x ∷ front) rest → UpTo (λ before. holds (x ∷ before)) (front ++ rest) front rest
past holds x cs front rest up = record { parts = refl; here = up.here; first = λ before y after e. up.first (x ∷ before) y after (ap (λ l. x ∷ l) e) }

-- ---- what a reader gives

abbrev held : {A B : Type 0} → A × B → Result (A × B) MarkupFault → A × B
held p (Ok q) = q
held p (Err e) = p

abbrev pub got : {A B : Type 0} → A → B → Result (A × B) MarkupFault
got a b = Ok (a, b)

pub same_value : {A B : Type 0} (a c : A) (b d : B) → got a b ≡ got c d → a ≡ c
same_value a c b d e = ap (λ o. (held (a, b) o).0) e

pub same_rest : {A B : Type 0} (a c : A) (b d : B) → got a b ≡ got c d → b ≡ d
same_rest a c b d e = ap (λ o. (held (a, b) o).1) e

following_was : (x : Located) (r : Result (List Located × List Located) MarkupFault) (v rest : List Located)
    → following (x ∷ []) r ≡ got v rest → (u : List Located) × (r ≡ got u rest) × (x ∷ u ≡ v)
following_was x (Ok y) v rest e = (y.0, ap (λ (l : List Located). got y.0 l) (same_rest (x ∷ y.0) v y.1 rest e), same_value (x ∷ y.0) v y.1 rest e)
following_was x (Err d) v rest e = absurd cc

pub read_was : {A : Type 0} (cs : List Located) (r : Result (A × ℕ) MarkupFault) (v : A) (rest : List Located)
    → read cs r ≡ got v rest → (k : ℕ) × (r ≡ Ok (v, k)) × (drop k cs ≡ rest)
read_was cs (Ok y) v rest e = (y.1, ap (λ a. Ok (a, y.1)) (same_value y.0 v (drop y.1 cs) rest e), same_rest y.0 v (drop y.1 cs) rest e)
read_was cs (Err d) v rest e = absurd cc

pub refused : {A B C : Type 0} (f : MarkupFault) (v : A) (w : B) → Err f ≡ got v w → C
refused f v w h = absurd (no h)
  where
    no : Err f ≡ got v w → ⊥
    no h = cc

pub neither : (a b : Bool) → (a || b) ≡ false → (a ≡ false) × (b ≡ false)
neither true b h = absurd cc
neither false b h = (refl, h)

-- ---- names

module _ (rule start : ℕ) where
  pub name_of : List Located → Result (List Located × List Located) MarkupFault
  name_of cs = read cs (name_at rule start cs)

  name_by : (x : Located) (cs v rest : List Located) (t u : Bool) → begins_with equals (x ∷ cs) ≡ t → at_end (x ∷ cs) ≡ u
      → ((w : List Located) → read cs (name_at rule start cs) ≡ got w rest → (sign : Located) × UpTo ends_name cs w (sign ∷ rest) × (sign.1 ≡ equals))
      → read (x ∷ cs) (name_at rule start (x ∷ cs)) ≡ got v rest → (sign : Located) × UpTo ends_name (x ∷ cs) v (sign ∷ rest) × (sign.1 ≡ equals)
  name_by x cs v rest true u one two others e =
      let is : got [] cs ≡ got v rest = sym (ap (read (x ∷ cs)) (name-ends rule start (x ∷ cs) x cs refl one)) ∙ e in (
        x,
        subst (λ w. UpTo ends_name (x ∷ cs) w (x ∷ rest)) (same_value [] v cs rest is)
            (subst (λ l. UpTo ends_name (x ∷ cs) [] (x ∷ l)) (same_rest [] v cs rest is)
            (here_at ends_name (x ∷ cs) (ap (λ b. b || ends_field (x ∷ cs)) one))),
        eqb-true _ _ one,
      )
  name_by x cs v rest false true one two others e = refused _ v rest (sym (ap (read (x ∷ cs)) (name-refused rule start (x ∷ cs) x cs refl one two)) ∙ e)
  name_by x cs v rest false false one two others e =
      let was = following_was x (read cs (name_at rule start cs)) v rest
      (sym (ap (read (x ∷ cs)) (name-continues rule start (x ∷ cs) x cs refl one two)
      ∙ one_more-read x cs (name_at rule start cs)) ∙ e) in
      let more = others was.0 was.1 in (
        more.0,
        subst (λ w. UpTo ends_name (x ∷ cs) w (more.0 ∷ rest)) was.2
            (later ends_name x cs was.0 (more.0 ∷ rest) (ap (λ b. b || ends_field (x ∷ cs)) one ∙ two) more.1),
        more.2,
      )

  pub name_spelled : (cs v rest : List Located) → read cs (name_at rule start cs) ≡ got v rest
      → (sign : Located) × UpTo ends_name cs v (sign ∷ rest) × (sign.1 ≡ equals)
  name_spelled [] v rest e = refused _ v rest (sym (ap (read []) (name-open rule start [] refl)) ∙ e)
  name_spelled (x ∷ cs) v rest e = name_by x cs v rest (begins_with equals (x ∷ cs)) (at_end (x ∷ cs)) refl refl (λ w. name_spelled cs w rest) e

  pub name_read : (front : List Located) (sign : Located) (cs rest : List Located)
      → UpTo ends_name cs front (sign ∷ rest) → sign.1 ≡ equals → read cs (name_at rule start cs) ≡ got front rest
  name_read [] sign cs rest up is =
      ap (λ (l : List Located). read l (name_at rule start l)) up.parts
      ∙ ap (read (sign ∷ rest)) (name-ends rule start (sign ∷ rest) sign rest refl (eq-eqb _ _ is))
  name_read (x ∷ front) sign cs rest up is =
      let l : List Located = front ++ sign ∷ rest in
      let no = neither (begins_with equals (x ∷ l)) (ends_field (x ∷ l)) (not_here ends_name x cs front (sign ∷ rest) up) in
      ap (λ (l : List Located). read l (name_at rule start l)) up.parts
      ∙ ap (read (x ∷ l)) (name-continues rule start (x ∷ l) x l refl no.0 no.1)
      ∙ one_more-read x l (name_at rule start l)
      ∙ ap (following (x ∷ [])) (name_read front sign l rest (past ends_name x cs front (sign ∷ rest) up) is)

-- ---- values

module _ (rule : ℕ) where
  quoted_by : (x : Located) (cs v rest : List Located) (t : Bool) → ends_quoted (x ∷ cs) ≡ t
      → ((w : List Located) → read cs (quoted_at rule cs) ≡ got w rest → (end : Located) × UpTo ends_quote cs w (end ∷ rest))
      → read (x ∷ cs) (quoted_at rule (x ∷ cs)) ≡ got v rest → (end : Located) × UpTo ends_quote (x ∷ cs) v (end ∷ rest)
  quoted_by x cs v rest true one others e =
      let is : got [] cs ≡ got v rest = sym (ap (read (x ∷ cs)) (quoted-ends rule (x ∷ cs) x cs refl one)) ∙ e in (
        x,
        subst (λ w. UpTo ends_quote (x ∷ cs) w (x ∷ rest)) (same_value [] v cs rest is)
            (subst (λ l. UpTo ends_quote (x ∷ cs) [] (x ∷ l)) (same_rest [] v cs rest is)
            (here_at ends_quote (x ∷ cs) one)),
      )
  quoted_by x cs v rest false one others e =
      let was = following_was x (read cs (quoted_at rule cs)) v rest
      (sym (ap (read (x ∷ cs)) (quoted-continues rule (x ∷ cs) x cs refl one)
      ∙ one_more-read x cs (quoted_at rule cs)) ∙ e) in
      let more = others was.0 was.1 in
      (more.0, subst (λ w. UpTo ends_quote (x ∷ cs) w (more.0 ∷ rest)) was.2 (later ends_quote x cs was.0 (more.0 ∷ rest) one more.1))

  quoted_spelled : (cs v rest : List Located) → read cs (quoted_at rule cs) ≡ got v rest → (end : Located) × UpTo ends_quote cs v (end ∷ rest)
  quoted_spelled [] v rest e = refused _ v rest (sym (ap (read []) (quoted-open rule [] refl)) ∙ e)
  quoted_spelled (x ∷ cs) v rest e = quoted_by x cs v rest (ends_quoted (x ∷ cs)) refl (λ w. quoted_spelled cs w rest) e

  quoted_read : (front : List Located) (end : Located) (cs rest : List Located) → UpTo ends_quote cs front (end ∷ rest)
      → read cs (quoted_at rule cs) ≡ got front rest
  quoted_read [] end cs rest up =
      ap (λ (l : List Located). read l (quoted_at rule l)) up.parts ∙ ap (read (end ∷ rest)) (quoted-ends rule (end ∷ rest) end rest refl up.here)
  quoted_read (x ∷ front) end cs rest up =
      let l : List Located = front ++ end ∷ rest in
      ap (λ (l : List Located). read l (quoted_at rule l)) up.parts
      ∙ ap (read (x ∷ l)) (quoted-continues rule (x ∷ l) x l refl (not_here ends_quote x cs front (end ∷ rest) up))
      ∙ one_more-read x l (quoted_at rule l)
      ∙ ap (following (x ∷ [])) (quoted_read front end l rest (past ends_quote x cs front (end ∷ rest) up))

  -- the end of a value, where what is before it ends so
  abbrev pub ends_from : Bool → List Located → List Located → Bool
  ends_from escaped before here = begins_with_two greater here || (begins_with semicolon here && not (ends_escaped escaped before))

  plain_by : (escaped : Bool) (x : Located) (cs v rest : List Located) (t : Bool) → ends_plain escaped (x ∷ cs) ≡ t
      → ((w : List Located) → read cs (plain_at rule (eqb x.1 backslash) cs) ≡ got w rest → UpTo (ends_from (eqb x.1 backslash)) cs w rest)
      → read (x ∷ cs) (plain_at rule escaped (x ∷ cs)) ≡ got v rest → UpTo (ends_from escaped) (x ∷ cs) v rest
  plain_by escaped x cs v rest true one others e =
      let is : got [] (x ∷ cs) ≡ got v rest = sym (ap (read (x ∷ cs)) (plain-ends rule escaped (x ∷ cs) x cs refl one)) ∙ e in
      subst (λ w. UpTo (ends_from escaped) (x ∷ cs) w rest) (same_value [] v (x ∷ cs) rest is)
      (subst (λ l. UpTo (ends_from escaped) (x ∷ cs) [] l) (same_rest [] v (x ∷ cs) rest is)
      (here_at (ends_from escaped) (x ∷ cs) one))
  plain_by escaped x cs v rest false one others e =
      let was = following_was x (read cs (plain_at rule (eqb x.1 backslash) cs)) v rest
      (sym (ap (read (x ∷ cs)) (plain-continues rule escaped (x ∷ cs) x cs refl one)
      ∙ one_more-read x cs (plain_at rule (eqb x.1 backslash) cs)) ∙ e) in
      subst (λ w. UpTo (ends_from escaped) (x ∷ cs) w rest) was.2 (later (ends_from escaped) x cs was.0 rest one (others was.0 was.1))

  plain_spelled : (escaped : Bool) (cs v rest : List Located) → read cs (plain_at rule escaped cs) ≡ got v rest → UpTo (ends_from escaped) cs v rest
  plain_spelled escaped [] v rest e = refused _ v rest (sym (ap (read []) (plain-open rule escaped [] refl)) ∙ e)
  plain_spelled escaped (x ∷ cs) v rest e = plain_by escaped x cs v rest (ends_plain escaped (x ∷ cs)) refl (λ w. plain_spelled (eqb x.1 backslash) cs w rest) e

  plain_read : (escaped : Bool) (front cs rest : List Located) → UpTo (ends_from escaped) cs front rest → read cs (plain_at rule escaped cs) ≡ got front rest
  plain_read escaped [] cs [] up = absurd (no up.here)
    where
      no : (false || (false && not escaped)) ≡ true → ⊥
      no h = cc
  plain_read escaped [] cs (y ∷ rest) up =
      ap (λ (l : List Located). read l (plain_at rule escaped l)) up.parts ∙ ap (read (y ∷ rest)) (plain-ends rule escaped (y ∷ rest) y rest refl up.here)
  plain_read escaped (x ∷ front) cs rest up =
      let l : List Located = front ++ rest in
      ap (λ (l : List Located). read l (plain_at rule escaped l)) up.parts
      ∙ ap (read (x ∷ l)) (plain-continues rule escaped (x ∷ l) x l refl (not_here (ends_from escaped) x cs front rest up))
      ∙ one_more-read x l (plain_at rule (eqb x.1 backslash) l)
      ∙ ap (following (x ∷ [])) (plain_read (eqb x.1 backslash) front l rest (past (ends_from escaped) x cs front rest up))

  -- a value, by whether a `"` comes first
  abbrev pub value_by : Bool → List Located → Result (List Located × ℕ) MarkupFault
  value_by t cs = cond t (map_ok (further 1) (quoted_at rule (drop 1 cs))) (map_ok (λ v. (trim_end v.0, v.1)) (plain_at rule false cs))

  pub value_is : (cs : List Located) → value_at rule cs ≡ value_by (begins_with double_quote cs) cs
  unfolding value_at
  value_is cs = refl

  further_read : (x : Located) (cs : List Located) (r : Result (List Located × ℕ) MarkupFault) → read (x ∷ cs) (map_ok (further 1) r) ≡ read cs r
  further_read x cs r = map_ok-map_ok (with_remaining (x ∷ cs)) (further 1) r
      ∙ map_ok-same (λ y. with_remaining (x ∷ cs) (further 1 y)) (with_remaining cs) r (λ y. with_remaining-further 1 (x ∷ cs) y)

  trimmed : Result (List Located × List Located) MarkupFault → Result (List Located × List Located) MarkupFault
  trimmed r = map_ok (λ v. (trim_end v.0, v.1)) r

  trimmed_read : (cs : List Located) (r : Result (List Located × ℕ) MarkupFault)
      → read cs (map_ok (λ v. (trim_end v.0, v.1)) r) ≡ map_ok (λ v. (trim_end v.0, v.1)) (read cs r)
  trimmed_read cs (Ok y) = refl
  trimmed_read cs (Err e) = refl

  trimmed_was : (r : Result (List Located × List Located) MarkupFault) (v rest : List Located)
      → map_ok {A = List Located × List Located} (λ v. (trim_end v.0, v.1)) r ≡ got v rest
      → (u : List Located) × (r ≡ got u rest) × (trim_end u ≡ v)
  trimmed_was (Ok y) v rest e = (y.0, ap (λ (l : List Located). got y.0 l) (same_rest (trim_end y.0) v y.1 rest e), same_value (trim_end y.0) v y.1 rest e)
  trimmed_was (Err d) v rest e = absurd cc

  value_spelled_by : (cs v rest : List Located) (t : Bool) → begins_with double_quote cs ≡ t → read cs (value_by t cs) ≡ got v rest → IsValue cs rest v
  value_spelled_by [] v rest true h e = absurd cc
  value_spelled_by (x ∷ cs) v rest true h e =
      let is = quoted_spelled cs v rest (sym (further_read x cs (quoted_at rule cs)) ∙ e) in
      quoted (eqb-true _ _ h) is.1
  value_spelled_by cs v rest false h e =
      let was = trimmed_was (read cs (plain_at rule false cs)) v rest (sym (trimmed_read cs (plain_at rule false cs)) ∙ e) in
      subst (λ w. IsValue cs rest w) was.2 (plain h (plain_spelled false cs was.0 rest was.1))

  pub value_spelled : (cs v rest : List Located) → read cs (value_at rule cs) ≡ got v rest → IsValue cs rest v
  value_spelled cs v rest e = value_spelled_by cs v rest (begins_with double_quote cs) refl (sym (ap (read cs) (value_is cs)) ∙ e)

  pub value_read : {cs rest v : List Located} → IsValue cs rest v → read cs (value_at rule cs) ≡ got v rest
  value_read (quoted {quote = x} {end = end} {cs = cs} {rest = rest} {value = v} is up) =
      ap (read (x ∷ cs)) (value_is (x ∷ cs) ∙ ap (λ b. value_by b (x ∷ cs)) (eq-eqb x.1 double_quote is))
      ∙ further_read x cs (quoted_at rule cs) ∙ quoted_read v end cs rest up
  value_read (plain {cs = cs} {rest = rest} {value = v} is up) =
      ap (read cs) (value_is cs ∙ ap (λ b. value_by b cs) is) ∙ trimmed_read cs (plain_at rule false cs)
      ∙ ap (map_ok {A = List Located × List Located} (λ v. (trim_end v.0, v.1))) (plain_read false v cs rest up)
