-- The shortest word of a variable ends at the place of the least number.
use Rattle.std.proofs.Common.{◌≡◌, ℕ, suc, ◌+◌, ◌-◌, ◌<◌, ◌≤◌, ◌⊎◌, inl, inr, Bool, true, false, ◌==◌, ◌&&◌, List, [], ◌∷◌, ◌++◌, length, refl, sym, ap, ap₂, ◌∙◌, subst, arith, eqb-true, nat_lt, if◌then◌else◌}
use Rattle.std.proofs.Math.Nat.{eq-or-lt_of_le}
use Rattle.std.proofs.lemmas.Bool.{cases_Bool, cases_lt, ltb-true, lt-ltb, true≢false}
use Rattle.lic_words.specs.Words.{Word, IsTidy, blank}
use Rattle.lic_words.specs.Letters.{letters_in}
use Rattle.lic_words.specs.Expressions.{Expression, Language, tidy}
use Rattle.lic_norm.specs.Tokens.{TokenValue}
use Rattle.lic_places.specs.Places.{AreTexts, IsAfterBlank, OverBlank, is_blank_at, spelling_of}
use Rattle.lic_places.specs.Places.OverBlank.{over, stays}
use Rattle.lic_places.specs.Reads.{Reads}
use Rattle.lic_places.proofs.Reading.{Reads-cut, Reads-joined}
use Rattle.lic_spans.specs.Spans.{Holds}
use Rattle.lic_spans.specs.declared.span.SpanKind.{SpanKind}
use Rattle.lic_spans.specs.declared.span.SpanKind.TheVariants.{End, Place, Letters, Blanks}
use Rattle.lic_spans.specs.declared.span.PlaceSpan.{PlaceSpan}
use Rattle.lic_view.specs.PlaceSets.{IsPlaceOf, Reaches}
use Rattle.lic_vars.specs.Cuts.{LeadsTo, ReadsFrom, lead, letter_place}
use Rattle.lic_vars.specs.Shortest.{IsLeastNumber, IsShortest, LeadsWithin, letters_between}
use Rattle.lic_vars.specs.declared.cut.Cut.{Cut}
use Rattle.lic_vars.proofs.CountLemmas.{between-none, hops-count}
use Rattle.lic_vars.proofs.StepOverLemmas.{Hops, IsApart, cut-places, cut_at, hops-forward, hops-more, hops-same, hops-solid, leads-nothing, reads-hops, past-letter}

-- ---- tidy words

not_blank : (c : ℕ) → (c == blank) ≡ false → ¬ (c ≡ blank)
not_blank c h same = let t : (c == blank) ≡ true = ap (λ x. x == blank) same in true≢false (sym t ∙ h)

module _ (tokens : List TokenValue) (are : AreTexts tokens) where
  -- no two blanks together, none last, and none first after one
  abbrev HasNoTwo : Word → Type 0
  HasNoTwo w = (u v : Word) → w ≡ u ++ blank ∷ blank ∷ v → ⊥

  abbrev HasNoLast : Word → Type 0
  HasNoLast w = (u : Word) → w ≡ u ++ blank ∷ [] → ⊥

  abbrev BeginsWell : Bool → Word → Type 0
  BeginsWell b w = b ≡ true → ((v : Word) → w ≡ blank ∷ v → ⊥) × ¬ (w ≡ [])

  apart_by : (c : ℕ) (w : Word) → HasNoTwo (c ∷ w) → HasNoLast (c ∷ w) → ((d : Bool) → HasNoTwo w → HasNoLast w → BeginsWell d w → IsApart tokens are d w)
      → ((c == blank) ≡ true) ⊎ ((c == blank) ≡ false) → (b : Bool) → BeginsWell b (c ∷ w) → IsApart tokens are b (c ∷ w)
  apart_by c w two last later (inr other) b first =
      inr (
        not_blank c other,
        later false (λ u v e. two (c ∷ u) v (ap (λ x. c ∷ x) e)) (λ u e. last (c ∷ u) (ap (λ x. c ∷ x) e))
            (λ e. absurd (true≢false (sym e))),
      )
  apart_by c w two last later (inl is) true first = absurd ((first refl).0 w (ap (λ x. x ∷ w) (eqb-true c blank is)))
  apart_by c w two last later (inl is) false first =
      let c_is = eqb-true c blank is in
      inl (
        c_is,
        refl,
        later true (λ u v e. two (c ∷ u) v (ap (λ x. c ∷ x) e)) (λ u e. last (c ∷ u) (ap (λ x. c ∷ x) e)) (λ _. (
          λ v e. two [] v (ap (λ x. x ∷ w) c_is ∙ ap (λ x. blank ∷ x) e),
          λ e. last [] (ap (λ x. x ∷ w) c_is ∙ ap (λ x. blank ∷ x) e),
        )),
      )

  is_apart : (w : Word) (b : Bool) → HasNoTwo w → HasNoLast w → BeginsWell b w → IsApart tokens are b w
  is_apart [] false two last first = refl
  is_apart [] true two last first = absurd ((first refl).1 refl)
  is_apart (c ∷ w) b two last first = apart_by c w two last (λ d x y z. is_apart w d x y z) (cases_Bool (c == blank)) b first

  tidy_apart : (c : ℕ) (w : Word) (b : Bool) → IsTidy (c ∷ w) → IsApart tokens are false (c ∷ w) → ¬ (c ≡ blank) × IsApart tokens are b (c ∷ w)
  tidy_apart c w b is (inl h) = absurd (is.not_first w (ap (λ x. x ∷ w) h.0))
  tidy_apart c w b is (inr h) = (h.0, inr h)

  tidy-apart : (c : ℕ) (w : Word) (b : Bool) → IsTidy (c ∷ w) → ¬ (c ≡ blank) × IsApart tokens are b (c ∷ w)
  tidy-apart c w b is = tidy_apart c w b is (is_apart (c ∷ w) false is.not_two is.not_last (λ e. absurd (true≢false (sym e))))

  -- ---- after a cut

  module _ (cut : Cut) where
    abbrev begin : ℕ
    begin = letter_place tokens cut

    -- a word with letters leads to a place
    record Reached (v : Word) (q : ℕ) : Type 0 where
      some : 0 < letters_in v
      hops : Hops tokens are cut.place (letters_in v) q
      past : begin < q
      solid : ¬ (IsAfterBlank (spelling_of tokens) q)

    from_hops : (v : Word) (n q : ℕ) → letters_in v ≡ suc n → begin < q → Hops tokens are cut.place (letters_in v) q → Reached v q
    from_hops v n q many past hops = record {
      some = omega (arith, many);
      hops = hops;
      past = past;
      solid = hops-solid tokens are cut.place n q (subst (λ k. Hops tokens are cut.place k q) many hops);
    }

    reached_letter : (c : ℕ) (w : Word) (q : ℕ) → IsTidy (c ∷ w) → ReadsFrom tokens cut (c ∷ w) q → Reached (c ∷ w) q
    reached_letter c w q is reads =
        let apart = tidy-apart c w cut.is_apart is in
        let past = past-letter tokens are cut c w q apart.0 reads in
        from_hops (c ∷ w) (letters_in w) q past.1 past.0 (reads-hops tokens are (c ∷ w) cut.place cut.is_apart q apart.1 reads)

    reached : (v : Word) (q : ℕ) → IsTidy v → ReadsFrom tokens cut v q → (v ≡ []) ⊎ Reached v q
    reached [] q is reads = inl refl
    reached (c ∷ w) q is reads = inr (reached_letter c w q is reads)

    lead_append : (b : Bool) (v w : Word) → lead b (v ++ w) ≡ lead b v ++ w
    lead_append true v w = refl
    lead_append false v w = refl

    -- where no word but one with letters ends, what follows is read from there
    goes : (v : Word) (q : ℕ) → IsTidy v → ReadsFrom tokens cut v q → Reached v q → LeadsTo tokens cut v (cut_at q false)
    goes v q is reads to w = (
      λ all.
          let parts = Reads-cut tokens (lead cut.is_apart v) w cut.place (length (spelling_of tokens))
          (subst (λ x. Reads tokens cut.place x (length (spelling_of tokens))) (lead_append cut.is_apart v w) all) in
          elim (reached v parts.0 is parts.1) [
            | inl none ↦ absurd (let e = ap letters_in none in omega (arith, e, to.some))
            | inr there ↦ subst (λ x. Reads tokens x w (length (spelling_of tokens))) (hops-same tokens are cut.place (letters_in v) parts.0 q there.hops to.hops) parts.2
          ],
      λ rest. subst (λ x. Reads tokens cut.place x (length (spelling_of tokens))) (sym (lead_append cut.is_apart v w))
          (Reads-joined tokens (lead cut.is_apart v) w cut.place q (length (spelling_of tokens)) reads rest),
    )

    empty_place : (q : ℕ) → ReadsFrom tokens cut [] q → q ≤ begin
    empty_place q reads =
        elim (cut-places tokens are cut q reads) [
          | inl same ↦ omega (arith, same, place_before)
          | inr same ↦ omega (arith, same)
        ]
      where
        by : (b : Bool) → cut.is_apart && is_blank_at (spelling_of tokens) cut.place ≡ b → cut.place ≤ begin
        by true is = omega (arith, ap (λ x. if x then cut.place + 1 else cut.place) is)
        by false is = omega (arith, ap (λ x. if x then cut.place + 1 else cut.place) is)

        place_before : cut.place ≤ begin
        place_before = by (cut.is_apart && is_blank_at (spelling_of tokens) cut.place) refl

    -- ---- the least number

    over_number : (q n : ℕ) → OverBlank tokens q n → (n ≡ q) ⊎ ((n ≡ suc q) × (is_blank_at (spelling_of tokens) q ≡ true))
    over_number q _ (over is) = inr (refl, is)
    over_number q _ (stays free gap) = inl refl

    pub number : (kind : SpanKind) (n q : ℕ) → IsPlaceOf tokens kind n q → (n ≡ q) ⊎ ((n ≡ suc q) × (is_blank_at (spelling_of tokens) q ≡ true))
    number End n q is = inl (sym is)
    number Place n q is = inl (sym is)
    number Letters n q is = inl (sym is.0)
    number Blanks n q is = over_number q n is.1

    -- the place of a number after a letter: not after a blank
    abbrev pub end_of : ℕ → ℕ
    end_of m = if nat_lt begin m && is_blank_at (spelling_of tokens) (m - 1) then m - 1 else m

    abbrev EndCases : ℕ → Type 0
    EndCases m = ((begin < m) × (is_blank_at (spelling_of tokens) (m - 1) ≡ true) × (end_of m ≡ m - 1))
        ⊎ ((end_of m ≡ m) × (begin < m → is_blank_at (spelling_of tokens) (m - 1) ≡ false))

    end_cases : (m : ℕ) → EndCases m
    end_cases m = by (cases_Bool (nat_lt begin m)) (cases_Bool (is_blank_at (spelling_of tokens) (m - 1)))
      where
        by : (nat_lt begin m ≡ true) ⊎ (nat_lt begin m ≡ false)
            → (is_blank_at (spelling_of tokens) (m - 1) ≡ true) ⊎ (is_blank_at (spelling_of tokens) (m - 1) ≡ false) → EndCases m
        by (inl less) (inl is) =
            inl (ltb-true begin m less, is, ap (λ b. if b then m - 1 else m) (ap₂ (λ a b. a && b) less is))
        by (inl less) (inr not) =
            inr (ap (λ b. if b then m - 1 else m) (ap₂ (λ a b. a && b) less not), λ _. not)
        by (inr more) _ =
            inr (ap (λ b. if b && is_blank_at (spelling_of tokens) (m - 1) then m - 1 else m) more, λ less. absurd (true≢false (sym (lt-ltb begin m less) ∙ more)))

    module _ (words : Expression) (spans : List PlaceSpan) (m : ℕ) (least : IsLeastNumber tokens words spans cut m) where
      leads : LeadsWithin tokens words spans cut m
      leads = least.leads

      -- a word leads to no number that is less
      no_less : (kind : SpanKind) (n l q : ℕ) (v : Word) → Holds spans kind n l → IsPlaceOf tokens kind n q → Language (tidy words) v → ReadsFrom tokens cut v q → m ≤ n
      no_less kind n l q v holds place is reads =
          elim (cases_lt n m) [
            | inl less ↦ absurd (least.least n less (record {
              kind = kind;
              number = n;
              last = l;
              holds = holds;
              within = omega arith;
              end = q;
              place = place;
              word = v;
              is = is;
              reads = reads;
            }))
            | inr more ↦ more
          ]

      the_number : leads.number ≡ m
      the_number =
          let more = no_less leads.kind leads.number leads.last leads.end leads.word leads.holds leads.place leads.is leads.reads in
          omega (arith, more, leads.within)

      here : Reaches tokens spans leads.end leads.last
      here = record { kind = leads.kind; number = leads.number; holds = leads.holds; place = leads.place }

      -- no place that is reached without a letter has such a number, where the place of the number lies after
      not_empty : begin < end_of m → (n q : ℕ) → m ≤ n → (n ≡ q) ⊎ ((n ≡ suc q) × (is_blank_at (spelling_of tokens) q ≡ true)) → q ≤ begin → ⊥
      not_empty after n q more (inl same) before = by (end_cases m)
        where
          by : EndCases m → ⊥
          by (inl e) = omega (arith, e.2, after, more, same, before)
          by (inr e) = omega (arith, e.0, after, more, same, before)
      not_empty after n q more (inr same) before = by (end_cases m)
        where
          by : EndCases m → ⊥
          by (inl e) = omega (arith, e.2, after, more, same.0, before, e.0)
          by (inr e) =
              let after_it : begin < m = omega (arith, e.0, after) in
              let at : m - 1 ≡ q = omega (arith, e.0, after, more, same.0, before) in
              true≢false (sym same.1 ∙ ap (is_blank_at (spelling_of tokens)) (sym at) ∙ e.1 after_it)

      -- a place after a letter with such a number is that of the least number or comes after it
      not_before : begin < end_of m → (n q : ℕ) → m ≤ n → (n ≡ q) ⊎ ((n ≡ suc q) × (is_blank_at (spelling_of tokens) q ≡ true)) → end_of m ≤ q
      not_before after n q more (inl same) = by (end_cases m)
        where
          by : EndCases m → end_of m ≤ q
          by (inl e) = omega (arith, e.2, more, same)
          by (inr e) = omega (arith, e.0, more, same)
      not_before after n q more (inr same) = by (end_cases m) (cases_lt q (end_of m))
        where
          by : EndCases m → (q < end_of m) ⊎ (end_of m ≤ q) → end_of m ≤ q
          by e (inr le) = le
          by (inl e) (inl less) = absurd (omega (arith, e.2, more, same.0, less, e.0))
          by (inr e) (inl less) =
              let after_it : begin < m = omega (arith, e.0, after) in
              let at : m - 1 ≡ q = omega (arith, e.0, more, same.0, less) in
              absurd (true≢false (sym same.1 ∙ ap (is_blank_at (spelling_of tokens)) (sym at) ∙ e.1 after_it))

      -- nor does it come after it, at the least number
      not_after : (n q : ℕ) → n ≡ m → ¬ (IsAfterBlank (spelling_of tokens) q) → begin < q → (n ≡ q) ⊎ ((n ≡ suc q) × (is_blank_at (spelling_of tokens) q ≡ true)) → q ≡ end_of m
      not_after n q same solid past (inl at) = by (end_cases m)
        where
          by : EndCases m → q ≡ end_of m
          by (inr e) = omega (arith, e.0, same, at)
          by (inl e) =
              let next : q ≡ suc (m - 1) = omega (arith, e.0, same, at) in
              absurd (solid (m - 1, next, e.1))
      not_after n q same solid past (inr at) = by (end_cases m)
        where
          by : EndCases m → q ≡ end_of m
          by (inl e) = omega (arith, e.2, same, at.0)
          by (inr e) =
              let here : m - 1 ≡ q = omega (arith, same, at.0) in
              absurd (true≢false (sym at.1 ∙ ap (is_blank_at (spelling_of tokens)) (sym here) ∙ e.1 (omega (arith, same, at.0, past))))

      -- ---- the word without a letter

      none_before : end_of m ≤ begin → Reached leads.word leads.end → ⊥
      none_before before there =
          let same = not_after leads.number leads.end the_number there.solid there.past (number leads.kind leads.number leads.end leads.place) in
          omega (arith, same, there.past, before)

      pub shortest-empty : end_of m ≤ begin → IsShortest tokens words spans cut cut
      shortest-empty before = by (reached leads.word leads.end leads.is.1 leads.reads)
        where
          by : (leads.word ≡ []) ⊎ Reached leads.word leads.end → IsShortest tokens words spans cut cut
          by (inr there) = absurd (none_before before there)
          by (inl none) = record {
            word = [];
            is = subst (λ v. Language (tidy words) v) none leads.is;
            leads = leads-nothing tokens are cut;
            end = leads.end;
            last = leads.last;
            reached = here;
            here = subst (λ v. ReadsFrom tokens cut v leads.end) none leads.reads;
            forward = omega arith;
            count = sym (between-none (spelling_of tokens) cut.place);
            least = λ v q l is reads r. elim (reached v q is.1 reads) [
              | inl same ↦ inr (ap letters_in (sym same), subst (λ x. LeadsTo tokens cut x cut) (sym same) (leads-nothing tokens are cut))
              | inr there ↦ inl there.some
            ];
          }

      -- ---- the word with letters

      shortest_by : begin < end_of m → Reached leads.word leads.end → IsShortest tokens words spans cut (cut_at (end_of m) false)
      shortest_by after there =
          let at : leads.end ≡ end_of m = not_after leads.number leads.end the_number there.solid there.past (number leads.kind leads.number leads.end leads.place) in
          record {
            word = leads.word;
            is = leads.is;
            leads = subst (λ q. LeadsTo tokens cut leads.word (cut_at q false)) at (goes leads.word leads.end leads.is.1 leads.reads there);
            end = leads.end;
            last = leads.last;
            reached = here;
            here = sym at;
            forward = omega (arith, at, hops-forward tokens are cut.place (letters_in leads.word) leads.end there.hops);
            count = sym (ap (λ q. letters_between (spelling_of tokens) cut.place q) (sym at) ∙ hops-count tokens are cut.place (letters_in leads.word) leads.end there.hops);
            least = λ v q l is reads r.
                let more = no_less r.kind r.number l q v r.holds r.place is reads in
                compare at v q is reads more (number r.kind r.number q r.place) (reached v q is.1 reads);
          }
        where
          compare : leads.end ≡ end_of m → (v : Word) (q : ℕ) {n : ℕ} → Language (tidy words) v → ReadsFrom tokens cut v q → m ≤ n
              → (n ≡ q) ⊎ ((n ≡ suc q) × (is_blank_at (spelling_of tokens) q ≡ true)) → (v ≡ []) ⊎ Reached v q
              → (letters_in leads.word < letters_in v) ⊎ ((letters_in leads.word ≡ letters_in v) × LeadsTo tokens cut v (cut_at (end_of m) false))
          compare at v q is reads more place (inl none) =
              absurd (not_empty after _ q more place (empty_place q (subst (λ x. ReadsFrom tokens cut x q) none reads)))
          compare at v q is reads more place (inr other) =
              let from = not_before after _ q more place in
              elim (cases_lt (letters_in leads.word) (letters_in v)) [
                | inl fewer ↦ inl fewer
                | inr le ↦ elim (eq-or-lt_of_le le) [
                  | inl same ↦
                      let hops = subst (λ k. Hops tokens are cut.place k q) same other.hops in
                      let end : q ≡ leads.end = hops-same tokens are cut.place (letters_in leads.word) q leads.end hops there.hops in
                      inr (sym same, subst (λ x. LeadsTo tokens cut v (cut_at x false)) (end ∙ at) (goes v q is.1 reads other))
                  | inr less ↦ absurd (omega (arith, hops-more tokens are cut.place (letters_in v) (letters_in leads.word) q leads.end less other.hops there.hops, at, from))
                ]
              ]

      pub shortest-letters : begin < end_of m → IsShortest tokens words spans cut (cut_at (end_of m) false)
      shortest-letters after = by (reached leads.word leads.end leads.is.1 leads.reads)
        where
          by : (leads.word ≡ []) ⊎ Reached leads.word leads.end → IsShortest tokens words spans cut (cut_at (end_of m) false)
          by (inr there) = shortest_by after there
          by (inl none) =
              absurd (not_empty after leads.number leads.end (omega (arith, the_number)) (number leads.kind leads.number leads.end leads.place)
              (empty_place leads.end (subst (λ x. ReadsFrom tokens cut x leads.end) none leads.reads)))
