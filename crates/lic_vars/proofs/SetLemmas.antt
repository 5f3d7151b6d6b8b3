-- The places from which the last instructions can finish.
use Rattle.std.specs.Result.{IfOk}
use Rattle.std.proofs.Common.{◌≡◌, ℕ, zero, suc, ◌+◌, ◌-◌, ◌<◌, ◌≤◌, ◌⊎◌, inl, inr, ◌↔◌, Result, Ok, Err, List, [], ◌∷◌, ◌++◌, length, get_or, drop, drop-cons, refl, sym, ap, ◌∙◌, subst, arith}
use Rattle.std.proofs.Math.Seq.{drop-length}
use Rattle.std.proofs.lemmas.Bool.{cases_lt}
use Rattle.std.proofs.lemmas.List.{drop-drop, drop-map}
use Rattle.lic_words.specs.Words.{Word}
use Rattle.lic_words.specs.Expressions.{Expression, Language, tidy}
use Rattle.lic_words.specs.Letters.{letters_in}
use Rattle.lic_norm.specs.Tokens.{TokenValue}
use Rattle.lic_norm.specs.Places.{place_end}
use Rattle.lic_places.specs.Places.{AreTexts, spelling_of}
use Rattle.lic_places.specs.Reads.{Reads}
use Rattle.lic_places.proofs.Reading.{Reads-cut, Reads-joined}
use Rattle.lic_places.proofs.TokenPlaces.{place_end-last}
use Rattle.lic_spans.specs.declared.span.SpanKind.TheVariants.{End}
use Rattle.lic_spans.specs.declared.span.PlaceSpan.{PlaceSpan}
use Rattle.lic_reverse.specs.Reverse.{LeadBack}
use Rattle.lic_view.proofs.Placed.{Reaches-append, Reaches-append_left, Reaches-append_right}
use Rattle.lic_vars.specs.Moves.{Move, text, variable, optional}
use Rattle.lic_vars.specs.Making.{CanMake, Makes, ends, writes, picks, enters, skips}
use Rattle.lic_vars.specs.Cuts.{AreFinishing, last_moves, move_of, moves_of}
use Rattle.lic_vars.specs.declared.instructions.Instruction.{Instruction}
use Rattle.lic_vars.proofs.WithinLemmas.{end-reached, one-end, reach-end}

-- ---- the last instructions

pub last-none : (instructions : List Instruction) → last_moves instructions 0 ≡ []
last-none instructions =
    let all : length instructions - 0 ≡ length instructions = omega arith in
    ap (λ n. moves_of (drop n instructions)) all ∙ ap moves_of (drop-length instructions)

pub last-more : (instructions : List Instruction) (k i : ℕ) (d : Instruction) → suc k ≤ length instructions → i ≡ length instructions - suc k → last_moves instructions (suc k) ≡ move_of (get_or instructions i d) ∷ last_moves instructions k
last-more instructions k i d within is =
    let next : suc i ≡ length instructions - k = omega (arith, is) in
    ap (λ n. moves_of (drop n instructions)) (sym is) ∙ ap moves_of (drop-cons instructions i d (omega (arith, is)))
    ∙ ap (λ n. move_of (get_or instructions i d) ∷ moves_of (drop n instructions)) next

drop-past : {X : Type 0} (xs : List X) (n : ℕ) → length xs ≤ n → drop n xs ≡ []
drop-past [] zero h = refl
drop-past [] (suc n) h = refl
drop-past (x ∷ xs) zero h = absurd (omega arith)
drop-past (x ∷ xs) (suc n) h = drop-past xs n (omega arith)

pub last-fewer : (instructions : List Instruction) (k n : ℕ) → k ≤ length instructions → drop n (last_moves instructions k) ≡ last_moves instructions (k - n)
last-fewer instructions k n within =
    drop-map move_of n (drop (length instructions - k) instructions) ∙ ap moves_of (drop-drop n (length instructions - k) instructions) ∙ by (cases_lt k n)
  where
    by : (k < n) ⊎ (n ≤ k) → moves_of (drop (length instructions - k + n) instructions) ≡ last_moves instructions (k - n)
    by (inr le) = let same : length instructions - k + n ≡ length instructions - (k - n) = omega arith in ap (λ m. moves_of (drop m instructions)) same
    by (inl less) =
        ap moves_of (drop-past instructions (length instructions - k + n) (omega arith)) ∙ ap moves_of (sym (drop-past instructions (length instructions - (k - n)) (omega arith)))

-- ---- the end

module _ (tokens : List TokenValue) (are : AreTexts tokens) where
  abbrev end : ℕ
  end = length (spelling_of tokens)

  abbrev Finishes : List Move → ℕ → Type 0
  Finishes ms p = CanMake ms (λ w. Reads tokens p w end)

  nothing_made : (q : List ℕ) (w : Word) (p : ℕ) → Makes [] q w → Reads tokens p w end → p ≡ end
  nothing_made q w p ends reads = reads

  pub finish-end : (spans : List PlaceSpan) (last place : ℕ) → suc last ≡ length tokens → place ≡ place_end tokens last
      → spans ≡ record { low = place; high = place; last = last; kind = End } ∷ [] → AreFinishing tokens [] spans
  finish-end spans last place is at same =
      let span : PlaceSpan = record { low = place; high = place; last = last; kind = End } in
      let place_is : place ≡ end = at ∙ place_end-last tokens last is in
      subst (AreFinishing tokens []) (sym same) (record {
        placed = one-end tokens last place (omega (arith, is)) at;
        exact = λ p. (
          λ r. let here : p ≡ place = end-reached tokens last place p r.0 r.1 in
              record { choices = []; word = []; makes = ends; is = here ∙ place_is },
          λ can. let here : p ≡ end = nothing_made can.choices can.word p can.makes can.is in
              (last, reach-end tokens last place p (here ∙ sym place_is)),
        );
      })

  module _ (ms : List Move) (rest : List PlaceSpan) (finish : AreFinishing tokens ms rest) where
    -- one text more
    text_can : (u : Word) (p : ℕ) (q : List ℕ) (v : Word) → Makes (text u ∷ ms) q v → Reads tokens p v end → (m : ℕ) × Reads tokens p u m × Finishes ms m
    text_can u p q v (writes w is f) reads =
        let parts = Reads-cut tokens u w p end (subst (λ x. Reads tokens p x end) is reads) in
        (parts.0, parts.1, record { choices = q; word = w; makes = f; is = parts.2 })

    pub finish-text : (u : Word) (P : Word → Type 0) (begins : List PlaceSpan) → ((w : Word) → P w ↔ (w ≡ u)) → LeadBack tokens P rest begins
        → AreFinishing tokens (text u ∷ ms) begins
    finish-text u P begins same back = record {
      placed = back.placed;
      exact = λ p. (
        λ r.
            let from = back.sound p r.0 r.1 in
            let can = (finish.exact from.0).0 (r.0, from.1) in
            record {
              choices = can.choices;
              word = u ++ can.word;
              makes = writes can.word refl can.makes;
              is = Reads-joined tokens u can.word p from.0 end (subst (λ x. Reads tokens p x from.0) ((same from.2).0 from.3) from.4) can.is;
            },
        λ can.
            let parts = text_can u p can.choices can.word can.makes can.is in
            let there = (finish.exact parts.0).1 parts.2 in
            let found = back.complete p parts.0 there.0 u there.1 ((same u).1 refl) parts.1 in
            (found.0, found.2),
      );
    }

    -- one variable more
    variable_can : (name : List ℕ) (re : Expression) (p : ℕ) (q : List ℕ) (v : Word) → Makes (variable name re ∷ ms) q v → Reads tokens p v end
        → (u : Word) × Language (tidy re) u × (m : ℕ) × Reads tokens p u m × Finishes ms m
    variable_can name re p q v (picks {r = r} u w l is f) reads =
        let parts = Reads-cut tokens u w p end (subst (λ x. Reads tokens p x end) is reads) in
        (u, l, parts.0, parts.1, record { choices = r; word = w; makes = f; is = parts.2 })

    pub finish-variable : (name : List ℕ) (re : Expression) (begins : List PlaceSpan) → LeadBack tokens (Language (tidy re)) rest begins
        → AreFinishing tokens (variable name re ∷ ms) begins
    finish-variable name re begins back = record {
      placed = back.placed;
      exact = λ p. (
        λ r.
            let from = back.sound p r.0 r.1 in
            let can = (finish.exact from.0).0 (r.0, from.1) in
            record {
              choices = letters_in from.2 ∷ can.choices;
              word = from.2 ++ can.word;
              makes = picks from.2 can.word from.3 refl can.makes;
              is = Reads-joined tokens from.2 can.word p from.0 end from.4 can.is;
            },
        λ can.
            let parts = variable_can name re p can.choices can.word can.makes can.is in
            let there = (finish.exact parts.2).1 parts.4 in
            let found = back.complete p parts.2 there.0 parts.0 there.1 parts.1 parts.3 in
            (found.0, found.2),
      );
    }

    -- one optional part more
    optional_can : (n p : ℕ) (q : List ℕ) (v : Word) → Makes (optional n ∷ ms) q v → Reads tokens p v end → Finishes ms p ⊎ Finishes (drop n ms) p
    optional_can n p q v (enters {r = r} f) reads = inl (record { choices = r; word = v; makes = f; is = reads })
    optional_can n p q v (skips {r = r} f) reads = inr (record { choices = r; word = v; makes = f; is = reads })

    pub finish-optional : (n : ℕ) (others begins : List PlaceSpan) → AreFinishing tokens (drop n ms) others → LeadBack tokens (λ w. w ≡ []) (rest ++ others) begins
        → AreFinishing tokens (optional n ∷ ms) begins
    finish-optional n others begins other back = record {
      placed = back.placed;
      exact = λ p. (
        λ r.
            let from = back.sound p r.0 r.1 in
            let here : p ≡ from.0 = subst (λ x. Reads tokens p x from.0) from.3 from.4 in
            elim (Reaches-append tokens rest others from.0 r.0 from.1) [
              | inl one ↦
                  let can = subst (Finishes ms) (sym here) ((finish.exact from.0).0 (r.0, one)) in
                  record { choices = 0 ∷ can.choices; word = can.word; makes = enters can.makes; is = can.is }
              | inr two ↦
                  let can = subst (Finishes (drop n ms)) (sym here) ((other.exact from.0).0 (r.0, two)) in
                  record { choices = 1 ∷ can.choices; word = can.word; makes = skips can.makes; is = can.is }
            ],
        λ can. elim (optional_can n p can.choices can.word can.makes can.is) [
          | inl one ↦
              let there = (finish.exact p).1 one in
              let found = back.complete p p there.0 [] (Reaches-append_left tokens rest others p there.0 there.1) refl refl in
              (found.0, found.2)
          | inr two ↦
              let there = (other.exact p).1 two in
              let found = back.complete p p there.0 [] (Reaches-append_right tokens rest others p there.0 there.1) refl refl in
              (found.0, found.2)
        ],
      );
    }

-- ---- one instruction more, as the code has it

pub instruction-moves : (instructions : List Instruction) (n : ℕ) (instruction : Instruction) → 0 < n → n ≤ length instructions → instruction ≡ get_or instructions (length instructions - n) instruction
    → last_moves instructions n ≡ move_of instruction ∷ last_moves instructions (n - 1)
instruction-moves instructions zero instruction some within is = absurd (omega arith)
instruction-moves instructions (suc k) instruction some within is =
    let less : k ≡ suc k - 1 = omega arith in
    last-more instructions k (length instructions - suc k) instruction within refl ∙ ap (λ s. move_of s ∷ last_moves instructions k) (sym is)
    ∙ ap (λ n. move_of instruction ∷ last_moves instructions n) less

pub ok-then : {T E : Type 0} (r : Result T E) (P Q : T → Type 0) → IfOk r P → ((x : T) → P x → Q x) → IfOk r Q
ok-then (Ok x) P Q h f = f x h
ok-then (Err e) P Q h f = h

-- the moves of one instruction more
pub moves-of_step : (instructions : List Instruction) (n : ℕ) (instruction one : Instruction) → 0 < n → n ≤ length instructions → instruction ≡ get_or instructions (length instructions - n) instruction → instruction ≡ one
    → move_of one ∷ last_moves instructions (n - 1) ≡ last_moves instructions n
moves-of_step instructions n instruction one some within is same =
    ap (λ s. move_of s ∷ last_moves instructions (n - 1)) (sym same) ∙ sym (instruction-moves instructions n instruction some within is)
