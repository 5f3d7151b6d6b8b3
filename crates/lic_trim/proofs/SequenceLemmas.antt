-- Sequences of pieces: the test of a sequence decides it, and a sequence ends in a piece.
use Rattle.std.proofs.Common.{◌≡◌, ℕ, ◌+◌, ◌-◌, ◌<◌, ◌≤◌, Bool, true, ◌&&◌, ◌⊎◌, List, [], ◌∷◌, ◌++◌, length, take, drop, refl, sym, ap, ap₂, ◌∙◌, subst, inl, inr, ⊎_elim, append_assoc, arith}
use Rattle.std.specs.Prelude.{slice_range}
use Rattle.std.specs.List.{flat_map, list_all}
use Rattle.std.proofs.lemmas.Bool.{and_parts, or_cases, and_from, or_left, or_right, false≢true}
use Rattle.std.proofs.lemmas.List.{take_at, drop_at, append-nil, length-append, length-take-le, take-take, take-append-drop, drop-take, append_cancel_left, drop-drop, length-drop}
use Rattle.lic_trim.specs.Texts.{IsSequence, is_sequence_after, is_sequence}

module _ {A : Type 0} (p : List A → Bool) where
  -- a piece before a sequence
  sequence_cons : (first rest : List A) → p first ≡ true → IsSequence p rest → IsSequence p (first ++ rest)
  sequence_cons first rest h sequence = (first ∷ sequence.0, and_from _ _ h sequence.1, ap (λ l. first ++ l) sequence.2)

  pub sequence_sound_after : (front text : List A) → is_sequence_after p front text ≡ true → IsSequence p (front ++ text)
  sequence_sound_after [] [] h = ([], refl, refl)
  sequence_sound_after (b ∷ front) [] h = absurd (false≢true h)
  sequence_sound_after front (c ∷ text) h =
      ⊎_elim
      (λ here.
      let parts = and_parts (p (front ++ c ∷ [])) (is_sequence_after p [] text) here in
      subst (IsSequence p) (append_assoc front (c ∷ []) text) (sequence_cons (front ++ c ∷ []) text parts.0 (sequence_sound_after [] text parts.1)))
      (λ later. subst (IsSequence p) (append_assoc front (c ∷ []) text) (sequence_sound_after (front ++ c ∷ []) text later))
      (or_cases (p (front ++ c ∷ []) && is_sequence_after p [] text) (is_sequence_after p (front ++ c ∷ []) text) h)

  sequence_complete_after : (front : List A) (c : A) (first rest : List A) → p (front ++ c ∷ first) ≡ true
      → is_sequence p rest ≡ true → is_sequence_after p front ((c ∷ first) ++ rest) ≡ true
  sequence_complete_after front c [] rest h sequence = or_left _ _ (and_from _ _ h sequence)
  sequence_complete_after front c (d ∷ first) rest h sequence =
      or_right _ _ (sequence_complete_after (front ++ c ∷ []) d first rest (subst (λ l. p l ≡ true) (sym (append_assoc front (c ∷ []) (d ∷ first))) h) sequence)

  pub sequence_complete : (pieces : List (List A)) → list_all p pieces ≡ true → is_sequence p (flat_map (λ piece. piece) pieces) ≡ true
  sequence_complete [] h = refl
  sequence_complete ([] ∷ pieces) h = sequence_complete pieces (and_parts _ _ h).1
  sequence_complete ((c ∷ first) ∷ pieces) h =
      let parts = and_parts (p (c ∷ first)) (list_all p pieces) h in
      sequence_complete_after [] c first (flat_map (λ piece. piece) pieces) parts.0 (sequence_complete pieces parts.1)

  pub is_sequence-sound : (text : List A) → is_sequence p text ≡ true → IsSequence p text
  is_sequence-sound text h = sequence_sound_after [] text h

  pub is_sequence-complete : (text : List A) → IsSequence p text → is_sequence p text ≡ true
  is_sequence-complete text sequence = subst (λ l. is_sequence p l ≡ true) sequence.2 (sequence_complete sequence.0 sequence.1)

  -- a text ends in a piece, after a sequence
  pub record EndsInPiece (text : List A) : Type 0 where
    pub front : List A
    pub last : List A
    pub whole : text ≡ front ++ last
    pub not_empty : 0 < length last
    pub sequence : IsSequence p front
    pub piece : p last ≡ true

  ends_cons : (first text : List A) → p first ≡ true → EndsInPiece text → EndsInPiece (first ++ text)
  ends_cons first text h e = record {
    front = first ++ e.front;
    last = e.last;
    whole = ap (λ l. first ++ l) e.whole ∙ sym (append_assoc first e.front e.last);
    not_empty = e.not_empty;
    sequence = sequence_cons first e.front h e.sequence;
    piece = e.piece;
  }

  ends_one : (c : A) (first : List A) → p (c ∷ first) ≡ true → EndsInPiece (c ∷ first)
  ends_one c first h = record { front = []; last = c ∷ first; whole = refl; not_empty = omega arith; sequence = ([], refl, refl); piece = h }

  ends_pieces : (pieces : List (List A)) → list_all p pieces ≡ true → (flat_map (λ piece. piece) pieces ≡ []) ⊎ EndsInPiece (flat_map (λ piece. piece) pieces)
  ends_pieces [] h = inl refl
  ends_pieces ([] ∷ pieces) h = ends_pieces pieces (and_parts _ _ h).1
  ends_pieces ((c ∷ first) ∷ pieces) h =
      let parts = and_parts (p (c ∷ first)) (list_all p pieces) h in
      ⊎_elim
      (λ none. inr (subst EndsInPiece (sym (append-nil (c ∷ first)) ∙ ap (λ l. (c ∷ first) ++ l) (sym none)) (ends_one c first parts.0)))
      (λ e. inr (ends_cons (c ∷ first) _ parts.0 e))
      (ends_pieces pieces parts.1)

  sequence_push_pieces : (pieces : List (List A)) (last : List A) → list_all p pieces ≡ true → p last ≡ true → IsSequence p (flat_map (λ piece. piece) pieces ++ last)
  sequence_push_pieces [] last h e = subst (IsSequence p) (append-nil last) (sequence_cons last [] e ([], refl, refl))
  sequence_push_pieces (first ∷ pieces) last h e =
      let parts = and_parts (p first) (list_all p pieces) h in
      subst (IsSequence p) (sym (append_assoc first (flat_map (λ piece. piece) pieces) last)) (sequence_cons first _ parts.0 (sequence_push_pieces pieces last parts.1 e))

  -- a piece after a sequence
  pub sequence_push : (front last : List A) → IsSequence p front → p last ≡ true → IsSequence p (front ++ last)
  sequence_push front last sequence h = subst (λ l. IsSequence p (l ++ last)) sequence.2 (sequence_push_pieces sequence.0 last sequence.1 h)

  -- a prefix of a line, cut at j
  cut_front : (line : List A) (j n : ℕ) → j ≤ n → take j line ++ slice_range line j n ≡ take n line
  cut_front line j n h =
      let e : j + (n - j) ≡ n = omega arith in
      ap₂ (λ a b. a ++ b) (sym (take-take j n line h)) (sym (drop-take j (n - j) line) ∙ ap (λ m. drop j (take m line)) e) ∙ take-append-drop j (take n line)

  -- a prefix that is a sequence ends in a piece after a shorter one
  pub sequence_ends : (line : List A) (n : ℕ) → 0 < n → n ≤ length line → is_sequence p (take n line) ≡ true
      → (j : ℕ) × (j < n) × (is_sequence p (take j line) ≡ true) × (p (slice_range line j n) ≡ true)
  sequence_ends line n some within h =
      let sequence = is_sequence-sound (take n line) h in
      let long : length (take n line) ≡ n = length-take-le n line within in
      ⊎_elim
      (λ none. absurd (omega (arith, ap length (sym sequence.2 ∙ none))))
      (λ e0.
      let e = subst EndsInPiece sequence.2 e0 in
      let j = length e.front in
      let sum : n ≡ length e.front + length e.last = sym long ∙ ap length e.whole ∙ length-append e.front e.last in
      let below : j < n = omega (arith, e.not_empty) in
      let front : take j line ≡ e.front = sym (take-take j n line (omega arith)) ∙ ap (take j) e.whole ∙ take_at e.front e.last j refl in
      let last : slice_range line j n ≡ e.last =
      append_cancel_left (take j line) _ _
      (cut_front line j n (omega arith) ∙ e.whole ∙ ap (λ l. l ++ e.last) (sym front)) in
      (j, below, subst (λ l. is_sequence p l ≡ true) (sym front) (is_sequence-complete e.front e.sequence), subst (λ l. p l ≡ true) (sym last) e.piece))
      (ends_pieces sequence.0 sequence.1)

  -- a sequence and a piece after it are a sequence
  pub sequence_continues : (line : List A) (j n : ℕ) → j ≤ n → is_sequence p (take j line) ≡ true → p (slice_range line j n) ≡ true → is_sequence p (take n line) ≡ true
  sequence_continues line j n h sequence piece =
      subst (λ l. is_sequence p l ≡ true) (cut_front line j n h)
      (is_sequence-complete _ (sequence_push (take j line) (slice_range line j n) (is_sequence-sound (take j line) sequence) piece))

  -- a text that is a sequence begins with a piece
  pub sequence_begins-text : (text : List A) → 0 < length text → IsSequence p text
      → (first : List A) × (rest : List A) × (text ≡ first ++ rest) × (0 < length first) × (p first ≡ true)
      × IsSequence p rest
  sequence_begins-text text some sequence = begins sequence.0 sequence.1 text some sequence.2
    where
      begins : (pieces : List (List A)) → list_all p pieces ≡ true → (text : List A) → 0 < length text
          → flat_map (λ piece. piece) pieces ≡ text
          → (first : List A) × (rest : List A) × (text ≡ first ++ rest) × (0 < length first) × (p first ≡ true)
          × IsSequence p rest
      begins [] h text some e = absurd (omega (arith, ap length e))
      begins ([] ∷ pieces) h text some e = begins pieces (and_parts _ _ h).1 text some e
      begins ((c ∷ first) ∷ pieces) h text some e =
          let parts = and_parts (p (c ∷ first)) (list_all p pieces) h in
          (c ∷ first, flat_map (λ piece. piece) pieces, sym e, omega arith, parts.0, (pieces, parts.1, refl))

  cut_rest : (line : List A) (k j : ℕ) → k ≤ j → slice_range line k j ++ drop j line ≡ drop k line
  cut_rest line k j h =
      let e : k + (j - k) ≡ j = omega arith in
      ap (λ l. slice_range line k j ++ l) (ap (λ m. drop m line) (sym e) ∙ sym (drop-drop (j - k) k line)) ∙ take-append-drop (j - k) (drop k line)

  -- an end that is a sequence begins with a piece before a shorter one
  pub sequence_begins : (line : List A) (k : ℕ) → k < length line → is_sequence p (drop k line) ≡ true
      → (j : ℕ) × (k < j) × (j ≤ length line) × (p (slice_range line k j) ≡ true) × (is_sequence p (drop j line) ≡ true)
  sequence_begins line k within h =
      let long = length-drop k line in
      let b = sequence_begins-text (drop k line) (omega arith) (is_sequence-sound (drop k line) h) in
      let n = length b.0 in
      let sum : length (drop k line) ≡ n + length b.1 = ap length b.2 ∙ length-append b.0 b.1 in
      let some : 0 < n = b.3 in
      let size : k + n - k ≡ n = omega arith in
      let first : slice_range line k (k + n) ≡ b.0 = ap (λ m. take m (drop k line)) size ∙ ap (take n) b.2 ∙ take_at b.0 b.1 n refl in
      let rest : drop (k + n) line ≡ b.1 = sym (drop-drop n k line) ∙ ap (drop n) b.2 ∙ drop_at b.0 b.1 n refl in
      (k + n, omega arith, omega arith, subst (λ l. p l ≡ true) (sym first) b.4, subst (λ l. is_sequence p l ≡ true) (sym rest) (is_sequence-complete b.1 b.5))

  pub sequence_goes_before : (line : List A) (k j : ℕ) → k ≤ j → p (slice_range line k j) ≡ true → is_sequence p (drop j line) ≡ true → is_sequence p (drop k line) ≡ true
  sequence_goes_before line k j h piece sequence =
      subst (λ l. is_sequence p l ≡ true) (cut_rest line k j h)
      (is_sequence-complete _ (sequence_cons (slice_range line k j) (drop j line) piece (is_sequence-sound (drop j line) sequence)))
