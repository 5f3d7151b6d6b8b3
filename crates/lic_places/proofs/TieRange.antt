-- A word that spells the tokens of a range is read from the first of them to the last.
use Rattle.std.proofs.Common.{◌≡◌, ◌≢◌, ℕ, zero, suc, ◌+◌, ◌-◌, ◌≤◌, ◌<◌, ◌⊎◌, inl, inr, ◌↔◌, Bool, true, false, ◌&&◌, List, [], ◌∷◌, ◌++◌, length, take, drop, map, encode_utf8_all, refl, sym, ap, ◌∙◌, subst, arith, append_assoc}
use Rattle.std.specs.Prelude.{slice_range}
use Rattle.std.specs.Char.{encode_utf8}
use Rattle.std.specs.Str.{chars}
use Rattle.std.proofs.lemmas.List.{length-map, drop-map, take-map}
use Rattle.std.proofs.Math.Seq.{drop-cons}
use Rattle.lic_words.specs.Words.{Word, blank}
use Rattle.lic_words.specs.Letters.{is_word}
use Rattle.lic_words.specs.Spelling.{Gap, no_gap, free, needed, gap_of, gapped, gapped_from, sequence_of, Spells, SpellsGapped}
use Rattle.lic_words.proofs.Spellings.{gap-after_blank}
use Rattle.lic_phrases.specs.Spelling.{is_parted}
use Rattle.lic_tokens.specs.Tokens.{TokenValue}
use Rattle.lic_tokens.specs.Places.{place_start, place_end, texts_of}
use Rattle.lic_places.specs.Places.{AreTexts, IsAfterBlank, spelling_of}
use Rattle.lic_places.specs.Reads.{BeginsAt, Reads, ReadsTokens}
use Rattle.lic_places.proofs.TieReading.{HasLetter, HasGapAt, AreGappedAt, not_after_stay, read_gapped, spell_gapped}
use Rattle.lic_places.proofs.TiePlaces.{is_free_before}
use Rattle.lic_places.proofs.TieLetters.{gapped_from-token}
use Rattle.lic_places.proofs.TieEnds.{text_at, place_start-first, bytes_from_start, text-utf8}
use Rattle.lic_places.proofs.TieTokens.{token_occurs, tokens_are_at, gap_before, text_written}

-- ---- the gap before a range

-- letters between two places, after a gap at which blanks may be or have to
module _ (tokens : List TokenValue) (c : ℕ) (gaps : List (Gap × ℕ)) (r s e : ℕ) (letter : HasLetter tokens r c s)
    (later : AreGappedAt tokens s gaps e) (w : Word) where
  -- if the word may have any number of blanks, it is read from before the gap, or from after it
  read_free : (b : Bool) (p : ℕ) → HasGapAt tokens p (gap_of true b) r → SpellsGapped w ((free, c) ∷ gaps)
      → Reads tokens p w e ⊎ Reads tokens r w e
  read_free false p gap spells = inl (read_gapped tokens p ((free, c) ∷ gaps) e w (r, s, gap, letter, later) spells)
  read_free true p gap (zero, allows, v, is, spells) =
      inr (read_gapped tokens r ((no_gap, c) ∷ gaps) e w (r, s, (refl, gap.shut), letter, later) (0, refl, v, is, spells))
  read_free true p gap (suc n, allows, v, is, spells) =
      inl (read_gapped tokens p ((needed, c) ∷ gaps) e w (r, s, gap, letter, later) (suc n, omega arith, v, is, spells))

  weaker : (gap : Gap) → SpellsGapped w ((gap, c) ∷ gaps) → SpellsGapped w ((free, c) ∷ gaps)
  weaker gap (n, allows, v, is, spells) = (n, tt, v, is, spells)

  spell_free : (b : Bool) (p : ℕ) → HasGapAt tokens p (gap_of true b) r → Reads tokens p w e ⊎ Reads tokens r w e
      → SpellsGapped w ((free, c) ∷ gaps)
  spell_free false p gap (inl read) = spell_gapped tokens e w p ((free, c) ∷ gaps) (r, s, gap, letter, later) read
  spell_free false p gap (inr read) =
      spell_gapped tokens e w p ((free, c) ∷ gaps) (r, s, gap, letter, later) (subst (λ x. Reads tokens x w e) (sym gap.0) read)
  spell_free true p gap (inl read) =
      weaker needed (spell_gapped tokens e w p ((needed, c) ∷ gaps) (r, s, gap, letter, later) read)
  spell_free true p gap (inr read) =
      weaker no_gap (spell_gapped tokens e w r ((no_gap, c) ∷ gaps) (r, s, (refl, gap.shut), letter, later) read)

-- ---- where it begins

module _ (tokens : List TokenValue) (first e : ℕ) (w : Word) where
  from_gap : (b : Bool) (p : ℕ) → HasGapAt tokens p (gap_of true b) (place_start tokens first)
      → Reads tokens p w e ⊎ Reads tokens (place_start tokens first) w e
      → (q : ℕ) × BeginsAt tokens first q × Reads tokens q w e
  from_gap b p gap (inr read) = (place_start tokens first, inl refl, read)
  from_gap false p gap (inl read) = (p, inl gap.0, read)
  from_gap true p gap (inl read) = (p, inr (sym gap.next, (p, refl, gap.is_blank)), read)

  to_gap : (b : Bool) (p : ℕ) → HasGapAt tokens p (gap_of true b) (place_start tokens first) → (q : ℕ) → BeginsAt tokens first q
      → Reads tokens q w e → Reads tokens p w e ⊎ Reads tokens (place_start tokens first) w e
  to_gap b p gap q (inl is) read = inr (subst (λ x. Reads tokens x w e) is read)
  to_gap false p gap q (inr (next, blank_before)) read =
      let here : suc q ≡ p = next ∙ sym gap.0 in
      absurd (not_after_stay tokens p gap.1.stay (subst (IsAfterBlank (spelling_of tokens)) here blank_before))
  to_gap true p gap q (inr (next, blank_before)) read =
      let is_next = gap.next in
      let here : q ≡ p = omega arith in
      inl (subst (λ x. Reads tokens x w e) here read)

-- ---- the range

module _ (tokens : List TokenValue) (known : AreTexts tokens) where
  -- the gap before a token, at which blanks may be or have to
  first_gap : (i c : ℕ) (cs : List ℕ) → i < length tokens → c ≢ blank → chars (text_at tokens i) ≡ c ∷ cs
      → (b : Bool) × (p : ℕ) × HasGapAt tokens p (gap_of true b) (place_start tokens i)
  first_gap zero c cs h other are =
      let start : 0 ≡ place_start tokens 0 = sym (place_start-first tokens h) in
      let after = bytes_from_start tokens 0 h in
      let bytes : drop 0 (spelling_of tokens) ≡ encode_utf8 c ++ (encode_utf8_all cs ++ after.0) =
      ap (λ n. drop n (spelling_of tokens)) start ∙ after.1
      ∙ ap (λ x. x ++ after.0) (text_written (text_at tokens 0) cs c (text-utf8 tokens 0 known h) are)
      ∙ append_assoc (encode_utf8 c) (encode_utf8_all cs) after.0 in
      let solid : IsAfterBlank (spelling_of tokens) 0 → ⊥ = λ blank_before. omega (arith, blank_before.1) in
      (false, 0, (start, is_free_before tokens (encode_utf8_all cs ++ after.0) 0 c other bytes solid (inl refl)))
  first_gap (suc i) c cs h other are =
      (is_parted (text_at tokens i) (text_at tokens (suc i)), place_end tokens i, gap_before tokens known i c cs h are)

  letters_of : (xs : List TokenValue) → map (λ t. chars t.text) xs ≡ map chars (texts_of xs)
  letters_of [] = refl
  letters_of (t ∷ xs) = ap (λ l. chars t.text ∷ l) (letters_of xs)

  -- the letters of the range, and those of its first token before the others
  range_letters : (first m : ℕ) → first < length tokens
      → map (λ t. chars t.text) (take (suc m) (drop first tokens))
      ≡ chars (text_at tokens first) ∷ map chars (take m (drop (suc first) (texts_of tokens)))
  range_letters first m h =
      letters_of (take (suc m) (drop first tokens))
      ∙ ap (map chars) (sym (take-map (λ (t : TokenValue). t.text) (suc m) (drop first tokens))
      ∙ ap (take (suc m)) (sym (drop-map (λ (t : TokenValue). t.text) first tokens)
      ∙ drop-cons (texts_of tokens) first [] (omega (arith, length-map tokens (λ (t : TokenValue). t.text)))))

  pub spells_range : (first m : ℕ) (w : Word) → first + m < length tokens
      → Spells w (map (λ t. chars t.text) (take (suc m) (drop first tokens)))
      ↔ ((p : ℕ) × BeginsAt tokens first p × Reads tokens p w (place_end tokens (first + m)))
  spells_range first m w h =
      let within : first < length tokens = omega arith in
      let e = place_end tokens (first + m) in
      let sequence = sequence_of (map chars (take m (drop (suc first) (texts_of tokens)))) in
      let token = token_occurs tokens known first within sequence e (λ l l_is solid. tokens_are_at tokens known m first l h l_is) in
      let c = token.letter in
      let gaps = gapped_from c false (token.others ++ sequence) in
      let (b, p, gap) = first_gap first c token.others within token.occurs.other token.are in
      let shape : gapped (map (λ t. chars t.text) (take (suc m) (drop first tokens))) ≡ (free, c) ∷ gaps =
      ap gapped (range_letters first m within)
      ∙ gapped_from-token blank (chars (text_at tokens first)) token.others (map chars (take m (drop (suc first) (texts_of tokens)))) c
      (is_word blank && is_word c) token.are token.occurs.other refl
      ∙ ap (λ g. (g, c) ∷ gaps) (gap-after_blank c) in (
        λ spells. from_gap tokens first e w b p gap
            (read_free tokens c gaps (place_start tokens first) token.next e token.occurs token.later w b p gap
            (subst (SpellsGapped w) shape spells)),
        λ read. subst (SpellsGapped w) (sym shape)
            (spell_free tokens c gaps (place_start tokens first) token.next e token.occurs token.later w b p gap
            (to_gap tokens first e w b p gap read.0 read.1 read.2)),
      )

pub spelling_is_read : (tokens : List TokenValue) (first last : ℕ) (w : Word) → AreTexts tokens → first ≤ last → last < length tokens
    → Spells w (map (λ t. chars t.text) (slice_range tokens first (last + 1))) ↔ ReadsTokens tokens first w last
spelling_is_read tokens first last w known order h =
    let size : last + 1 - first ≡ suc (last - first) = omega arith in
    let end : first + (last - first) ≡ last = omega arith in
    let range = spells_range tokens known first (last - first) w (omega arith) in (
      λ spells. subst (λ n. ReadsTokens tokens first w n) end
          (range.0 (subst (λ n. Spells w (map (λ t. chars t.text) (take n (drop first tokens)))) size spells)),
      λ read. subst (λ n. Spells w (map (λ t. chars t.text) (take n (drop first tokens)))) (sym size)
          (range.1 (subst (λ n. ReadsTokens tokens first w n) (sym end) read)),
    )
