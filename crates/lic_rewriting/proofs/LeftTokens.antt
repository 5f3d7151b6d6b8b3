-- The tokens that are left of lines once the offsets of some that are taken have been let go of. The last of those stays.
use Rattle.std.proofs.Common.{◌≡◌, ℕ, zero, suc, ◌+◌, ◌-◌, ◌<◌, ◌≤◌, Bool, true, false, List, [], ◌∷◌, ◌++◌, length, drop, get_or, refl, sym, ap, subst, ◌∙◌, arith, append_assoc, append-nil, length-drop}
use Rattle.std.proofs.lemmas.List.{drop_all, get_or-drop}
use Rattle.std.proofs.lemmas.List.Elements.{All-cons, All-head, All-tail}
use Rattle.std.specs.Str.{IsCharBoundary}
use Rattle.lic_columns.specs.SpanTokens.{span_tokens, spans_by}
use Rattle.lic_columns.specs.TokenOffsets.{TokenOffsets}
use Rattle.lic_lines.specs.Tokens.{Token, single_signs}
use Rattle.lic_phrases.specs.TokenTexts.{IsTokenText}
use Rattle.lic_rewriting.specs.Sections.{AreTokenOffsets, tokens_at}
use Rattle.lic_rewriting.specs.Taking.{HasTaken, HasTakenUpTo}
use Rattle.lic_tokens.specs.Tokens.{HaveTexts}
use Rattle.lic_rewriting.specs.declared.rewriting.Rewriting.{Rewriting}

-- the tokens after it stay as they are
same_after : (a b : Bool) (at m n : ℕ) (letters starts ends : List ℕ) (k : ℕ) → length ends ≡ length starts → k < length starts
    → drop 1 (span_tokens a at m letters (spans_by (drop k starts) (drop k ends)))
    ≡ drop (suc k) (span_tokens b at n letters (spans_by starts ends))
same_after a b at m n letters [] ends k same lt = absurd (omega arith)
same_after a b at m n letters (s ∷ starts) [] k same lt = absurd (omega arith)
same_after a b at m n letters (s ∷ starts) (e ∷ ends) zero same lt = refl
same_after a b at m n letters (s ∷ starts) (e ∷ ends) (suc k) same lt = same_after a false at m e letters starts ends k (omega arith) (omega arith)

-- and so do the texts of all
texts_after : (a b : Bool) (at m n : ℕ) (letters starts ends : List ℕ) (k : ℕ) → length ends ≡ length starts → k < length starts
    → HaveTexts (span_tokens b at n letters (spans_by starts ends)) → HaveTexts (span_tokens a at m letters (spans_by (drop k starts) (drop k ends)))
texts_after a b at m n letters [] ends k same lt texts = absurd (omega arith)
texts_after a b at m n letters (s ∷ starts) [] k same lt texts = absurd (omega arith)
texts_after a b at m n letters (s ∷ starts) (e ∷ ends) zero same lt texts =
    All-cons (λ t. IsTokenText t.text) _ (span_tokens false at e letters (spans_by starts ends)) (All-head (λ t. IsTokenText t.text) _ _ texts)
    (All-tail (λ t. IsTokenText t.text) _ _ texts)
texts_after a b at m n letters (s ∷ starts) (e ∷ ends) (suc k) same lt texts =
    texts_after a false at m e letters starts ends k (omega arith) (omega arith) (All-tail (λ t. IsTokenText t.text) _ _ texts)

-- the offsets that are left
abbrev pub left : ℕ → TokenOffsets → TokenOffsets
left k offsets = record offsets { starts = drop k offsets.starts; ends = drop k offsets.ends }

module _ (at : ℕ) (offsets : TokenOffsets) (are : AreTokenOffsets at offsets) (k : ℕ) (lt : k < length offsets.starts) where
  pub left_tokens : drop 1 (tokens_at at (left k offsets)) ≡ drop (suc k) (tokens_at at offsets)
  left_tokens = same_after true true at at at offsets.letters offsets.starts offsets.ends k are.paired lt

  pub left_texts : HaveTexts (tokens_at at offsets) → HaveTexts (tokens_at at (left k offsets))
  left_texts = texts_after true true at at at offsets.letters offsets.starts offsets.ends k are.paired lt

  inside : (i : ℕ) → i < length (drop k offsets.starts) → k + i < length offsets.starts
  inside i low = omega (arith, length-drop k offsets.starts)

  start : (i : ℕ) → get_or (drop k offsets.starts) i 0 ≡ get_or offsets.starts (k + i) 0
  start i = get_or-drop k offsets.starts i 0

  end : (i : ℕ) → get_or (drop k offsets.ends) i 0 ≡ get_or offsets.ends (k + i) 0
  end i = get_or-drop k offsets.ends i 0

  pub left_offsets : AreTokenOffsets at (left k offsets)
  left_offsets = record {
    utf8 = are.utf8;
    words = are.words;
    paired = length-drop k offsets.ends ∙ ap (λ n. n - k) are.paired ∙ sym (length-drop k offsets.starts);
    from = λ i low. omega (arith, start i, are.from (k + i) (inside i low));
    some = λ i low. omega (arith, start i, end i, are.some (k + i) (inside i low));
    to = λ i low. omega (arith, end i, are.to (k + i) (inside i low));
    begin = λ i low. subst (λ n. IsCharBoundary offsets.letters (n - at)) (sym (start i)) (are.begin (k + i) (inside i low));
    end = λ i low. subst (λ n. IsCharBoundary offsets.letters (n - at)) (sym (end i)) (are.end (k + i) (inside i low));
  }

  -- one part more: what was taken before it, and then the part
  pub part_taken : (from next : ℕ) (tokens whole : List Token) (more : TokenOffsets) (first before after : Rewriting) → tokens ≡ tokens_at at offsets
      → more ≡ left k offsets → suc k ≡ next
      → ((taken : List Token) → HasTaken first taken → (front : List Token) × HasTaken before (taken ++ front)
      × (front ++ single_signs (drop from (tokens_at at offsets)) ≡ single_signs whole))
      → HasTakenUpTo tokens from next before after
      → (taken : List Token) → HasTaken first taken → (front : List Token) × HasTaken after (taken ++ front)
      × (front ++ single_signs (drop 1 (tokens_at at more)) ≡ single_signs whole)
  part_taken from next tokens whole more first before after is left_is last so_far part = λ taken has.
      let one = so_far taken has in
      let two = part (taken ++ one.0) one.1 in
      let rest : single_signs (drop 1 (tokens_at at more)) ≡ single_signs (drop next tokens) =
      ap (λ (p : TokenOffsets). single_signs (drop 1 (tokens_at at p))) left_is ∙ ap single_signs left_tokens
      ∙ ap (λ n. single_signs (drop n (tokens_at at offsets))) last ∙ ap (λ l. single_signs (drop next l)) (sym is) in (
        one.0 ++ two.0,
        subst (HasTaken after) (append_assoc taken one.0 two.0) two.1,
        append_assoc one.0 two.0 (single_signs (drop 1 (tokens_at at more)))
            ∙ ap (λ l. one.0 ++ l) (ap (λ l. two.0 ++ l) rest ∙ two.2 ∙ ap (λ l. single_signs (drop from l)) is) ∙ one.2,
      )

-- where none is left, all have been taken
pub all_taken : (tokens whole : List Token) (next : ℕ) (before after : Rewriting)
    → ((taken : List Token) → HasTaken before taken → (front : List Token) × HasTaken after (taken ++ front)
    × (front ++ single_signs (drop next tokens) ≡ single_signs whole)) → length tokens ≤ next
    → (taken : List Token) → HasTaken before taken → HasTaken after (taken ++ single_signs whole)
all_taken tokens whole next before after stated all = λ taken has.
    let one = stated taken has in
    subst (λ ts. HasTaken after (taken ++ ts))
    (sym (append-nil one.0) ∙ ap (λ l. one.0 ++ l) (sym (ap single_signs (drop_all next tokens all))) ∙ one.2) one.1
