-- Reading on from a cut: a blank, a letter, and letters one after another.
use Rattle.std.proofs.Common.{◌≡◌, ℕ, zero, suc, ◌+◌, ◌<◌, ◌≤◌, ◌⊎◌, inl, inr, ◌↔◌, Bool, true, false, List, [], ◌∷◌, ◌++◌, length, get_or, take, drop, drop-cons, refl, sym, ap, ap₂, ◌∙◌, subst, arith, append_assoc, ne_eqb, if◌then◌else◌}
use Rattle.std.specs.Char.{IsScalar, encode_utf8}
use Rattle.std.proofs.lemmas.Bool.{cases_Bool, true≢false}
use Rattle.std.proofs.lemmas.List.{take-append-drop, take_all, take_more}
use Rattle.std.proofs.lemmas.Str.{encode_same}
use Rattle.lic_words.specs.Words.{Word, blank}
use Rattle.lic_words.specs.Letters.{letters_in}
use Rattle.lic_norm.specs.Tokens.{TokenValue}
use Rattle.lic_places.specs.Places.{AreTexts, IsAfterBlank, OverBlank, Occurs, is_blank_at, spelling_of}
use Rattle.lic_places.specs.Places.OverBlank.{over, stays}
use Rattle.lic_places.specs.Reads.{Reads, Takes}
use Rattle.lic_places.proofs.TokenPlaces.{blank-alone, OverBlank-twice, OverBlank-order}
use Rattle.lic_places.proofs.TiePlaces.{length-letter, not_at, not_after}
use Rattle.lic_places.proofs.Reading.{Reads-order}
use Rattle.lic_view.proofs.CountReads.{occurs-follows}
use Rattle.lic_vars.specs.Cuts.{IsOpen, LeadsTo, ReadsFrom, ReadsOn, lead, letter_place}
use Rattle.lic_vars.specs.declared.cut.Cut.{Cut}

abbrev pub cut_at : ℕ → Bool → Cut
cut_at p b = record { place = p; is_apart = b }

-- ---- a blank

module _ (tokens : List TokenValue) (are : AreTexts tokens) where
  -- where a blank can be read from, one more can stay
  pub open-by : (p q : ℕ) → OverBlank tokens p q → OverBlank tokens p p
  open-by p _ (over is) =
      stays (λ past. let none = blank-alone tokens past.0 are past.2 in
      true≢false (sym is ∙ ap (is_blank_at (spelling_of tokens)) past.1 ∙ none)) (inr (inl is))
  open-by p _ (stays free gap) = stays free gap

  over-of : (p q : ℕ) → Takes tokens p blank q → OverBlank tokens p q
  over-of p q (inl is) = is.1
  over-of p q (inr is) = absurd (is.0 refl)

  pub blank-on : (p : ℕ) (b : Bool) (w : Word) (e : ℕ) → Reads tokens p (lead b (blank ∷ w)) e ↔ Reads tokens p (lead true w) e
  blank-on p false w e = (λ reads. reads, λ reads. reads)
  blank-on p true w e = (
    λ reads.
        let one = over-of p reads.0 reads.1 in
        let two = over-of reads.0 reads.2.0 reads.2.1 in
        let same : p ≡ reads.0 = OverBlank-twice tokens p reads.0 reads.2.0 are two one in
        subst (λ x. Reads tokens x (blank ∷ w) e) (sym same) reads.2,
    λ reads. (p, inl (refl, open-by p reads.0 (over-of p reads.0 reads.1)), reads),
  )

  pub open-read : (p : ℕ) (w : Word) (e : ℕ) → Reads tokens p (blank ∷ w) e → OverBlank tokens p p
  open-read p w e reads = open-by p reads.0 (over-of p reads.0 reads.1)

  -- ---- a letter

  -- a letter is read from a cut, and begins there or after the blank that is there
  pub record LetterAt (p : ℕ) (b : Bool) (c : ℕ) : Type 0 where
    pub other : ¬ (c ≡ blank)
    pub scalar : IsScalar c
    pub leads : b ≡ true → OverBlank tokens p (letter_place tokens (cut_at p b))
    pub occurs : Occurs (spelling_of tokens) (letter_place tokens (cut_at p b)) (encode_utf8 c)
        (letter_place tokens (cut_at p b) + length (encode_utf8 c))

  abbrev pub past : ℕ → Bool → ℕ → ℕ
  past p b c = letter_place tokens (cut_at p b) + length (encode_utf8 c)

  no_blank : (p c q : ℕ) → ¬ (c ≡ blank) → Occurs (spelling_of tokens) p (encode_utf8 c) q → is_blank_at (spelling_of tokens) p ≡ false
  no_blank p c q other occurs =
      elim (cases_Bool (is_blank_at (spelling_of tokens) p)) [
        | inl is ↦ absurd (not_at (spelling_of tokens) (drop q (spelling_of tokens)) p c other (occurs-follows (spelling_of tokens) p (encode_utf8 c) q occurs) is)
        | inr is ↦ is
      ]

  place-over : (p : ℕ) → is_blank_at (spelling_of tokens) p ≡ true → letter_place tokens (cut_at p true) ≡ suc p
  place-over p is = let next : p + 1 ≡ suc p = omega arith in ap (λ b. if b then p + 1 else p) is ∙ next

  place-stays : (p : ℕ) → is_blank_at (spelling_of tokens) p ≡ false → letter_place tokens (cut_at p true) ≡ p
  place-stays p is = ap (λ b. if b then p + 1 else p) is

  letter-stays : (p c e : ℕ) (w : Word) → ¬ (c ≡ blank) → Takes tokens p c e → IsScalar c × Occurs (spelling_of tokens) p (encode_utf8 c) e
  letter-stays p c e w other (inl is) = absurd (other is.0)
  letter-stays p c e w other (inr is) = (is.1, is.2)

  letter-past : (p c r q e : ℕ) (w : Word) → ¬ (c ≡ blank) → OverBlank tokens p r → Takes tokens r c q → Reads tokens q w e
      → LetterAt p true c × Reads tokens (past p true c) w e
  letter-past p c _ q e w other (over is) takes reads =
      let at = letter-stays (suc p) c q w other takes in
      let here = place-over p is in
      let end : q ≡ suc p + length (encode_utf8 c) = at.1.0 in (
        record {
          other = other;
          scalar = at.0;
          leads = λ _. subst (OverBlank tokens p) (sym here) (over is);
          occurs = subst (λ x. Occurs (spelling_of tokens) x (encode_utf8 c) (x + length (encode_utf8 c))) (sym here)
              (subst (Occurs (spelling_of tokens) (suc p) (encode_utf8 c)) end at.1);
        },
        subst (λ x. Reads tokens x w e) (end ∙ ap (λ x. x + length (encode_utf8 c)) (sym here)) reads,
      )
  letter-past p c _ q e w other (stays free gap) takes reads =
      let at = letter-stays p c q w other takes in
      let here = place-stays p (no_blank p c q other at.1) in
      let end : q ≡ p + length (encode_utf8 c) = at.1.0 in (
        record {
          other = other;
          scalar = at.0;
          leads = λ _. subst (OverBlank tokens p) (sym here) (stays free gap);
          occurs = subst (λ x. Occurs (spelling_of tokens) x (encode_utf8 c) (x + length (encode_utf8 c))) (sym here)
              (subst (Occurs (spelling_of tokens) p (encode_utf8 c)) end at.1);
        },
        subst (λ x. Reads tokens x w e) (end ∙ ap (λ x. x + length (encode_utf8 c)) (sym here)) reads,
      )

  pub letter-read : (p : ℕ) (b : Bool) (c : ℕ) (w : Word) (e : ℕ) → ¬ (c ≡ blank) → Reads tokens p (lead b (c ∷ w)) e
      → LetterAt p b c × Reads tokens (past p b c) w e
  letter-read p true c w e other reads =
      letter-past p c reads.0 reads.2.0 e w other (over-of p reads.0 reads.1) reads.2.1 reads.2.2
  letter-read p false c w e other reads =
      let at = letter-stays p c reads.0 w other reads.1 in
      let end : reads.0 ≡ p + length (encode_utf8 c) = at.1.0 in (
        record { other = other; scalar = at.0; leads = λ is. absurd (true≢false (sym is)); occurs = subst (Occurs (spelling_of tokens) p (encode_utf8 c)) end at.1 },
        subst (λ x. Reads tokens x w e) end reads.2,
      )

  pub read-letter : (p : ℕ) (b : Bool) (c : ℕ) (w : Word) (e : ℕ) → LetterAt p b c → Reads tokens (past p b c) w e → Reads tokens p (lead b (c ∷ w)) e
  read-letter p true c w e at reads =
      (letter_place tokens (cut_at p true), inl (refl, at.leads refl), (past p true c, inr (at.other, at.scalar, at.occurs), reads))
  read-letter p false c w e at reads = (past p false c, inr (at.other, at.scalar, at.occurs), reads)

  -- ---- letters one after another

  -- a number of letters are read up to a place, with blanks between them or none
  abbrev pub Hops : ℕ → ℕ → ℕ → Type 0
  Hops p zero q = p ≡ q
  Hops p (suc n) q = (b : Bool) × (c : ℕ) × LetterAt p b c × Hops (past p b c) n q

  place-same : (p : ℕ) (b d : Bool) (c f : ℕ) → LetterAt p b c → LetterAt p d f → letter_place tokens (cut_at p b) ≡ letter_place tokens (cut_at p d)
  place-same p true true c f one two = refl
  place-same p false false c f one two = refl
  place-same p true false c f one two = place-stays p (no_blank p f (past p false f) two.other two.occurs)
  place-same p false true c f one two = sym (place-stays p (no_blank p c (past p false c) one.other one.occurs))

  hop-same : (p : ℕ) (b d : Bool) (c f : ℕ) → LetterAt p b c → LetterAt p d f → past p b c ≡ past p d f
  hop-same p b d c f one two =
      let bytes = spelling_of tokens in
      let here = place-same p b d c f one two in
      let follows = occurs-follows bytes (letter_place tokens (cut_at p b)) (encode_utf8 c) (past p b c) one.occurs in
      let others = occurs-follows bytes (letter_place tokens (cut_at p d)) (encode_utf8 f) (past p d f) two.occurs in
      let same = encode_same c f (drop (past p b c) bytes) (drop (past p d f) bytes)
      (sym follows ∙ ap (λ x. drop x bytes) here ∙ others) in
      ap₂ (λ x y. x + length (encode_utf8 y)) here same.0

  pub hop-forward : (p : ℕ) (b : Bool) (c : ℕ) → LetterAt p b c → p < past p b c
  hop-forward p true c at = omega (arith, length-letter c, (OverBlank-order tokens p (letter_place tokens (cut_at p true)) (at.leads refl)).0)
  hop-forward p false c at = omega (arith, length-letter c)

  pub hops-forward : (p n q : ℕ) → Hops p n q → p ≤ q
  hops-forward p zero q same = omega arith
  hops-forward p (suc n) q (b, c, at, later) = omega (arith, hop-forward p b c at, hops-forward (past p b c) n q later)

  pub hops-same : (p n q r : ℕ) → Hops p n q → Hops p n r → q ≡ r
  hops-same p zero q r one two = sym one ∙ two
  hops-same p (suc n) q r (b, c, at, later) (d, f, there, others) =
      hops-same (past p b c) n q r later (subst (λ x. Hops x n r) (sym (hop-same p b d c f at there)) others)

  pub hops-more : (p n m q r : ℕ) → n < m → Hops p n q → Hops p m r → q < r
  hops-more p n zero q r few one two = absurd (omega arith)
  hops-more p zero (suc m) q r few one (d, f, there, others) =
      omega (arith, hop-forward p d f there, hops-forward (past p d f) m r others)
  hops-more p (suc n) (suc m) q r few (b, c, at, later) (d, f, there, others) =
      hops-more (past p b c) n m q r (omega arith) later (subst (λ x. Hops x m r) (sym (hop-same p b d c f at there)) others)

  -- no blank comes before the place where a letter ends
  pub hops-solid : (p n q : ℕ) → Hops p (suc n) q → IsAfterBlank (spelling_of tokens) q → ⊥
  hops-solid p zero q (b, c, at, same) blank_before =
      let bytes = spelling_of tokens in
      not_after bytes (drop (past p b c) bytes) (letter_place tokens (cut_at p b)) c at.other
      (occurs-follows bytes (letter_place tokens (cut_at p b)) (encode_utf8 c) (past p b c) at.occurs)
      (subst (IsAfterBlank bytes) (sym same) blank_before)
  hops-solid p (suc n) q (b, c, at, later) blank_before = hops-solid (past p b c) n q later blank_before

  -- ---- tidy words

  -- no two blanks together, none last, and none first after one
  abbrev pub IsApart : Bool → Word → Type 0
  IsApart b [] = b ≡ false
  IsApart b (c ∷ w) = ((c ≡ blank) × (b ≡ false) × IsApart true w) ⊎ (¬ (c ≡ blank) × IsApart false w)

  letters-dark : (c : ℕ) (w : Word) → ¬ (c ≡ blank) → letters_in (c ∷ w) ≡ suc (letters_in w)
  letters-dark c w other = ap (λ b. if b then letters_in w else suc (letters_in w)) (ne_eqb c blank other)

  pub reads-hops : (w : Word) (p : ℕ) (b : Bool) (q : ℕ) → IsApart b w → Reads tokens p (lead b w) q → Hops p (letters_in w) q
  reads-hops [] p true q apart reads = absurd (true≢false apart)
  reads-hops [] p false q apart reads = reads
  reads-hops (c ∷ w) p true q (inl is) reads = absurd (true≢false is.1)
  reads-hops (c ∷ w) p false q (inl is) reads =
      let same : blank ≡ c = sym is.0 in
      subst (λ x. Hops p (letters_in (x ∷ w)) q) same
      (reads-hops w p true q is.2 (subst (λ x. Reads tokens p (x ∷ w) q) is.0 reads))
  reads-hops (c ∷ w) p b q (inr is) reads =
      let read = letter-read p b c w q is.0 reads in
      subst (λ n. Hops p n q) (sym (letters-dark c w is.0))
      (b, c, read.0, reads-hops w (past p b c) false q is.1 read.1)

  -- ---- after a cut

  abbrev end : ℕ
  end = length (spelling_of tokens)

  pub leads-blank : (cut : Cut) (c : ℕ) → c ≡ blank → LeadsTo tokens cut (c ∷ []) (cut_at cut.place true)
  leads-blank cut c is w =
      subst (λ x. ReadsOn tokens cut (x ∷ w) ↔ ReadsOn tokens (cut_at cut.place true) w) (sym is) (blank-on cut.place cut.is_apart w end)

  pub leads-letter : (cut : Cut) (c : ℕ) → ¬ (c ≡ blank) → (v : Word) → ReadsOn tokens cut (c ∷ v)
      → LeadsTo tokens cut (c ∷ []) (cut_at (past cut.place cut.is_apart c) false)
  leads-letter cut c other v can w =
      let at = (letter-read cut.place cut.is_apart c v end other can).0 in (
        λ reads. (letter-read cut.place cut.is_apart c w end other reads).1,
        λ reads. read-letter cut.place cut.is_apart c w end at reads,
      )

  pub letter-within : (cut : Cut) (c : ℕ) → ¬ (c ≡ blank) → (v : Word) → ReadsOn tokens cut (c ∷ v) → past cut.place cut.is_apart c ≤ end
  letter-within cut c other v can =
      let read = letter-read cut.place cut.is_apart c v end other can in
      Reads-order tokens v (past cut.place cut.is_apart c) end read.1

  pub leads-nothing : (cut : Cut) → LeadsTo tokens cut [] cut
  leads-nothing cut w = (λ reads. reads, λ reads. reads)

  pub leads-on : (cut next last : Cut) (u v : Word) → LeadsTo tokens cut u next → LeadsTo tokens next v last → LeadsTo tokens cut (u ++ v) last
  leads-on cut next last u v one two w =
      let same : (u ++ v) ++ w ≡ u ++ (v ++ w) = append_assoc u v w in (
        λ reads. (two w).0 ((one (v ++ w)).0 (subst (ReadsOn tokens cut) same reads)),
        λ reads. subst (ReadsOn tokens cut) (sym same) ((one (v ++ w)).1 ((two w).1 reads)),
      )

  -- ---- after a text, letter after letter

  cut-more : (cs : List ℕ) (n c : ℕ) → n < length cs → c ≡ get_or cs n c → cs ≡ take n cs ++ (c ∷ drop (suc n) cs)
  cut-more cs n c within is =
      sym (take-append-drop n cs) ∙ ap (λ l. take n cs ++ l) (drop-cons cs n c within ∙ ap (λ x. x ∷ drop (suc n) cs) (sym is))

  pub text-next : (first cut : Cut) (cs : List ℕ) (n c : ℕ) → n < length cs → c ≡ get_or cs n c → LeadsTo tokens first (take n cs) cut
      → (w : Word) → ReadsOn tokens first (cs ++ w) → (v : Word) × ReadsOn tokens cut (c ∷ v)
  text-next first cut cs n c within is leads w reads =
      let rest = drop (suc n) cs in
      let same : cs ++ w ≡ take n cs ++ (c ∷ (rest ++ w)) =
      ap (λ l. l ++ w) (cut-more cs n c within is) ∙ append_assoc (take n cs) (c ∷ rest) w in
      (rest ++ w, (leads (c ∷ (rest ++ w))).0 (subst (ReadsOn tokens first) same reads))

  pub text-more : (first cut next : Cut) (cs : List ℕ) (n m c : ℕ) → n < length cs → c ≡ get_or cs n c → m ≡ n + 1 → LeadsTo tokens first (take n cs) cut
      → LeadsTo tokens cut (c ∷ []) next → LeadsTo tokens first (take m cs) next
  text-more first cut next cs n m c within is more one two =
      let same : take m cs ≡ take n cs ++ (c ∷ []) =
      ap (λ k. take k cs) more ∙ take_more cs n c within ∙ ap (λ x. take n cs ++ (x ∷ [])) (sym is) in
      subst (λ u. LeadsTo tokens first u next) (sym same) (leads-on first cut next (take n cs) (c ∷ []) one two)

  pub text-all : (first cut : Cut) (cs : List ℕ) (n : ℕ) → length cs ≤ n → LeadsTo tokens first (take n cs) cut → LeadsTo tokens first cs cut
  text-all first cut cs n all leads = subst (λ u. LeadsTo tokens first u cut) (take_all n cs all) leads

  pub text-none : (cut : Cut) (cs : List ℕ) (n : ℕ) → n ≡ 0 → LeadsTo tokens cut (take n cs) cut
  text-none cut cs n none = subst (λ k. LeadsTo tokens cut (take k cs) cut) (sym none) (leads-nothing cut)

  -- ---- the places of a cut

  over-places : (p r : ℕ) → OverBlank tokens p r → (r ≡ p) ⊎ (r ≡ letter_place tokens (cut_at p true))
  over-places p _ (over is) = inr (sym (place-over p is))
  over-places p _ (stays free gap) = inl refl

  places_of : (p : ℕ) (b : Bool) (q : ℕ) → Reads tokens p (lead b []) q → (q ≡ p) ⊎ (q ≡ letter_place tokens (cut_at p b))
  places_of p false q same = inl (sym same)
  places_of p true q (r, takes, same) =
      subst (λ x. (x ≡ p) ⊎ (x ≡ letter_place tokens (cut_at p true))) same (over-places p r (over-of p r takes))

  pub cut-places : (cut : Cut) (q : ℕ) → ReadsFrom tokens cut [] q → (q ≡ cut.place) ⊎ (q ≡ letter_place tokens cut)
  cut-places cut q reads = places_of cut.place cut.is_apart q reads

  letter_here : (p : ℕ) (b : Bool) → (b ≡ true → OverBlank tokens p p) → Reads tokens p (lead b []) (letter_place tokens (cut_at p b))
  letter_here p false free = refl
  letter_here p true free =
      elim (cases_Bool (is_blank_at (spelling_of tokens) p)) [
        | inl is ↦ (suc p, inl (refl, over is), sym (place-over p is))
        | inr is ↦ (p, inl (refl, free refl), sym (place-stays p is))
      ]

  pub letter-here : (cut : Cut) → IsOpen tokens cut → ReadsFrom tokens cut [] (letter_place tokens cut)
  letter-here cut free = letter_here cut.place cut.is_apart free

  -- a word that begins with a letter ends after it
  pub past-letter : (cut : Cut) (c : ℕ) (w : Word) (q : ℕ) → ¬ (c ≡ blank) → ReadsFrom tokens cut (c ∷ w) q
      → (letter_place tokens cut < q) × (letters_in (c ∷ w) ≡ suc (letters_in w))
  past-letter cut c w q other reads =
      let read = letter-read cut.place cut.is_apart c w q other reads in
      (omega (arith, Reads-order tokens w (past cut.place cut.is_apart c) q read.1, length-letter c), letters-dark c w other)

  -- the gap at a cut, and then a word
  pub lead-joined : (p : ℕ) (b : Bool) (q e : ℕ) (v : Word) → Reads tokens p (lead b []) q → Reads tokens q v e → Reads tokens p (lead b v) e
  lead-joined p true q e v (r, takes, same) reads = (r, takes, subst (λ x. Reads tokens x v e) (sym same) reads)
  lead-joined p false q e v same reads = subst (λ x. Reads tokens x v e) (sym same) reads

  pub lead-parted : (p : ℕ) (b : Bool) (e : ℕ) (v : Word) → Reads tokens p (lead b v) e → (q : ℕ) × Reads tokens p (lead b []) q × Reads tokens q v e
  lead-parted p true e v (r, takes, reads) = (r, (r, takes, refl), reads)
  lead-parted p false e v reads = (p, refl, reads)
