-- Spans with some of their numbers, and words that lead to them.
use Rattle.std.proofs.Common.{◌≡◌, ℕ, ◌+◌, ◌<◌, ◌≤◌, inl, inr, ◌↔◌, max, min, List, [], ◌∷◌, ◌++◌, length, get_or, take, refl, sym, ap, ◌∙◌, subst, arith}
use Rattle.std.specs.Prelude.{Contains}
use Rattle.std.proofs.lemmas.Bool.{cases_lt}
use Rattle.std.proofs.lemmas.List.{take_all, take_more}
use Rattle.std.proofs.lemmas.List.Elements.{All-nil, All-push, Contains-append_left, Contains-append_right, Contains-get_or}
use Rattle.lic_words.specs.Expressions.{Expression, Language, tidy}
use Rattle.lic_norm.specs.Tokens.{TokenValue}
use Rattle.lic_norm.specs.Places.{place_end}
use Rattle.lic_places.specs.Places.{AreTexts}
use Rattle.lic_places.proofs.Reading.{Reads-order}
use Rattle.lic_spans.specs.Spans.{Holds}
use Rattle.lic_spans.specs.declared.span.SpanKind.{SpanKind}
use Rattle.lic_spans.specs.declared.span.SpanKind.TheVariants.{End}
use Rattle.lic_spans.specs.declared.span.PlaceSpan.{PlaceSpan}
use Rattle.lic_reverse.specs.Reverse.{LeadBack}
use Rattle.lic_view.specs.PlaceSets.{ArePlaced, IsPlaceOf, LiesBefore, Reaches}
use Rattle.lic_view.proofs.BlankLemmas.{held}
use Rattle.lic_view.proofs.Placed.{Holds-among, Holds-append, Holds-nil}
use Rattle.lic_vars.specs.Cuts.{ReadsFrom, lead}
use Rattle.lic_vars.specs.Shortest.{AreWithin, HaveNone, IsBetween, IsLeastNumber, LeadsWithin}
use Rattle.lic_vars.specs.declared.cut.Cut.{Cut}
use Rattle.lic_vars.proofs.StepOverLemmas.{lead-joined, lead-parted}
use Rattle.lic_vars.proofs.ShortestLemmas.{number}

-- ---- some of the numbers

-- the span has its numbers within the bounds
pub record IsPart (low high : ℕ) (span part : PlaceSpan) : Type 0 where
  pub low_is : part.low ≡ max span.low low
  pub high_is : part.high ≡ min span.high high
  pub last_is : part.last ≡ span.last
  pub kind_is : part.kind ≡ span.kind

one-holds : (span : PlaceSpan) (kind : SpanKind) (n l : ℕ) → span.kind ≡ kind → span.low ≤ n → n ≤ span.high → span.last ≡ l → Holds (span ∷ []) kind n l
one-holds span kind n l k from to last = record { span = span; among = (0, omega arith, refl); kind_is = k; from = from; to = to; last_is = last }

module _ (low high : ℕ) where
  pub within-none : AreWithin [] low high []
  within-none = record {
    ordered = All-nil (λ (s : PlaceSpan). s.low ≤ s.high);
    sound = λ kind n l holds. absurd (Holds-nil kind n l holds);
    all = λ kind n l holds from to. absurd (Holds-nil kind n l holds);
  }

  module _ (spans found : List PlaceSpan) (i : ℕ) (d part : PlaceSpan) (below : i < length spans) (within : AreWithin (take i spans) low high found)
      (is : IsPart low high (get_or spans i d) part) where
    abbrev span : PlaceSpan
    span = get_or spans i d

    abbrev more : List PlaceSpan
    more = take i spans ++ span ∷ []

    more-is : more ≡ take (i + 1) spans
    more-is = sym (take_more spans i d below)

    left : (kind : SpanKind) (n l : ℕ) → Holds (take i spans) kind n l → Holds more kind n l
    left kind n l holds = Holds-among (take i spans) more kind n l (λ s among. Contains-append_left (take i spans) (span ∷ []) s among) holds

    right : (kind : SpanKind) (n l : ℕ) → Holds (span ∷ []) kind n l → Holds more kind n l
    right kind n l holds = Holds-among (span ∷ []) more kind n l (λ s among. Contains-append_right (take i spans) (span ∷ []) s among) holds

    pub within-push : part.low ≤ part.high → AreWithin (take (i + 1) spans) low high (found ++ part ∷ [])
    within-push order = subst (λ x. AreWithin x low high (found ++ part ∷ [])) more-is (record {
      ordered = All-push (λ (s : PlaceSpan). s.low ≤ s.high) found part within.ordered order;
      sound = λ kind n l holds. elim (Holds-append found (part ∷ []) kind n l holds) [
        | inl old ↦ let h = within.sound kind n l old in (left kind n l h.0, h.1)
        | inr new ↦
            let h = held part kind n l new in (
              right kind n l (one-holds span kind n l (sym is.kind_is ∙ h.0) (omega (arith, h.1, is.low_is)) (omega (arith, h.2, is.high_is)) (sym is.last_is ∙ h.3)),
              omega (arith, h.2, is.high_is),
            )
      ];
      all = λ kind n l holds from to. elim (Holds-append (take i spans) (span ∷ []) kind n l holds) [
        | inl old ↦ Holds-among found (found ++ part ∷ []) kind n l (λ s among. Contains-append_left found (part ∷ []) s among) (within.all kind n l old from to)
        | inr new ↦
            let h = held span kind n l new in
            Holds-among (part ∷ []) (found ++ part ∷ []) kind n l (λ s among. Contains-append_right found (part ∷ []) s among)
            (one-holds part kind n l (is.kind_is ∙ h.0) (omega (arith, h.1, from, is.low_is)) (omega (arith, h.2, to, is.high_is)) (is.last_is ∙ h.3))
      ];
    })

    pub within-skip : part.high < part.low → AreWithin (take (i + 1) spans) low high found
    within-skip none = subst (λ x. AreWithin x low high found) more-is (record {
      ordered = within.ordered;
      sound = λ kind n l holds. let h = within.sound kind n l holds in (left kind n l h.0, h.1);
      all = λ kind n l holds from to. elim (Holds-append (take i spans) (span ∷ []) kind n l holds) [
        | inl old ↦ within.all kind n l old from to
        | inr new ↦ let h = held span kind n l new in absurd (omega (arith, h.1, h.2, from, to, is.low_is, is.high_is, none))
      ];
    })

  pub within-all : (spans found : List PlaceSpan) (i : ℕ) → length spans ≤ i → AreWithin (take i spans) low high found → AreWithin spans low high found
  within-all spans found i all within = subst (λ x. AreWithin x low high found) (take_all i spans all) within

-- ---- the first number

pub none-more : (spans : List PlaceSpan) (i : ℕ) (d : PlaceSpan) (low first next : ℕ) → i < length spans → HaveNone (take i spans) low first → next ≤ first
    → (low ≤ (get_or spans i d).high → next ≤ max (get_or spans i d).low low) → HaveNone (take (i + 1) spans) low next
none-more spans i d low first next below before less here =
    subst (λ x. HaveNone x low next) (sym (take_more spans i d below)) (record {
      none = λ kind n l holds from to. elim (Holds-append (take i spans) (get_or spans i d ∷ []) kind n l holds) [
        | inl old ↦ before.none kind n l old from (omega arith)
        | inr new ↦
            let h = held (get_or spans i d) kind n l new in
            let bound = here (omega (arith, h.2, from)) in
            absurd (omega (arith, h.1, bound, from, to))
      ];
    })

pub within-placed : (tokens : List TokenValue) (spans found : List PlaceSpan) (low high : ℕ) → ArePlaced tokens spans → AreWithin spans low high found → ArePlaced tokens found
within-placed tokens spans found low high placed within = record {
  ordered = within.ordered;
  last = λ k d below.
      let s = get_or found k d in
      let order : s.low ≤ s.high = within.ordered k d below in
      let holds = (within.sound s.kind s.low s.last (record { span = s; among = Contains-get_or found k d below; kind_is = refl; from = omega arith; to = order; last_is = refl })).0 in
      subst (λ l. l < length tokens) holds.last_is (last_known holds.span holds.among);
  front = λ kind n l holds. placed.front kind n l (within.sound kind n l holds).0;
}
  where
    last_known : (s : PlaceSpan) → Contains spans s → s.last < length tokens
    last_known s among = subst (λ (x : PlaceSpan). x.last < length tokens) among.2 (placed.last among.0 s among.1)

-- ---- the end of the last token

pub one-end : (tokens : List TokenValue) (last place : ℕ) → last < length tokens → place ≡ place_end tokens last
    → ArePlaced tokens (record { low = place; high = place; last = last; kind = End } ∷ [])
one-end tokens last place within at =
    let span : PlaceSpan = record { low = place; high = place; last = last; kind = End } in
    record {
      ordered = All-push (λ (s : PlaceSpan). s.low ≤ s.high) [] span (All-nil (λ (s : PlaceSpan). s.low ≤ s.high)) (omega arith);
      last = All-push (λ (s : PlaceSpan). s.last < length tokens) [] span (All-nil (λ (s : PlaceSpan). s.last < length tokens)) within;
      front = λ kind n l holds.
          let h = held span kind n l holds in
          let same : n ≡ place_end tokens l = (let here : n ≡ place = omega (arith, h.1, h.2) in here ∙ at ∙ ap (place_end tokens) h.3) in
          subst (λ k. LiesBefore tokens k n l) h.0 same;
    }

pub end-reached : (tokens : List TokenValue) (last place p l : ℕ) → Reaches tokens (record { low = place; high = place; last = last; kind = End } ∷ []) p l → p ≡ place
end-reached tokens last place p l r =
    let span : PlaceSpan = record { low = place; high = place; last = last; kind = End } in
    let h = held span r.kind r.number l r.holds in
    let here : r.number ≡ place = omega (arith, h.1, h.2) in
    let same : p ≡ r.number = subst (λ k. IsPlaceOf tokens k r.number p) (sym h.0) r.place in
    same ∙ here

pub reach-end : (tokens : List TokenValue) (last place p : ℕ) → p ≡ place → Reaches tokens (record { low = place; high = place; last = last; kind = End } ∷ []) p last
reach-end tokens last place p same = record {
  kind = End;
  number = place;
  holds = one-holds (record { low = place; high = place; last = last; kind = End }) End place last refl (omega arith) (omega arith) refl;
  place = same;
}

-- ---- words that lead to numbers

module _ (tokens : List TokenValue) (are : AreTexts tokens) (words : Expression) (spans : List PlaceSpan) (cut : Cut) where
  pub leads-more : (m n : ℕ) → m ≤ n → LeadsWithin tokens words spans cut m → LeadsWithin tokens words spans cut n
  leads-more m n le leads = record {
    kind = leads.kind;
    number = leads.number;
    last = leads.last;
    holds = leads.holds;
    within = omega (arith, leads.within);
    end = leads.end;
    place = leads.place;
    word = leads.word;
    is = leads.is;
    reads = leads.reads;
  }

  pub leads-from : (m : ℕ) → LeadsWithin tokens words spans cut m → cut.place ≤ m
  leads-from m leads =
      let order : cut.place ≤ leads.end = Reads-order tokens (lead cut.is_apart leads.word) cut.place leads.end leads.reads in
      elim (number tokens are cut leads.kind leads.number leads.end leads.place) [
        | inl same ↦ omega (arith, order, same, leads.within)
        | inr next ↦ omega (arith, order, next.0, leads.within)
      ]

  abbrev Begins : List PlaceSpan → Type 0
  Begins begins = (p : ℕ) × (last : ℕ) × ReadsFrom tokens cut [] p × Reaches tokens begins p last

  pub leads-back : (high : ℕ) (ends begins : List PlaceSpan) → AreWithin spans cut.place high ends → LeadBack tokens (Language (tidy words)) ends begins
      → Begins begins ↔ LeadsWithin tokens words spans cut high
  leads-back high ends begins within back = (
    λ b.
        let from = back.sound b.0 b.1 b.3 in
        let r = from.1 in
        let holds = within.sound r.kind r.number b.1 r.holds in
        record {
          kind = r.kind;
          number = r.number;
          last = b.1;
          holds = holds.0;
          within = holds.1;
          end = from.0;
          place = r.place;
          word = from.2;
          is = from.3;
          reads = lead-joined tokens are cut.place cut.is_apart b.0 from.0 from.2 b.2 from.4;
        },
    λ leads.
        let parts = lead-parted tokens are cut.place cut.is_apart leads.end leads.word leads.reads in
        let order : cut.place ≤ leads.end = Reads-order tokens (lead cut.is_apart leads.word) cut.place leads.end leads.reads in
        let up : leads.end ≤ leads.number = place_to leads.kind leads.number leads.end leads.place in
        let holds = within.all leads.kind leads.number leads.last leads.holds (omega (arith, order, up)) leads.within in
        let found = back.complete parts.0 leads.end leads.last leads.word
        (record { kind = leads.kind; number = leads.number; holds = holds; place = leads.place }) leads.is parts.2 in
        (parts.0, found.0, parts.1, found.2),
  )
    where
      place_to : (kind : SpanKind) (n q : ℕ) → IsPlaceOf tokens kind n q → q ≤ n
      place_to kind n q place =
          elim (number tokens are cut kind n q place) [
            | inl same ↦ omega (arith, same)
            | inr next ↦ omega (arith, next.0)
          ]

  -- no word leads there where no number is left
  pub leads-none : (high : ℕ) (ends : List PlaceSpan) → AreWithin spans cut.place high ends → ends ≡ [] → ¬ (LeadsWithin tokens words spans cut high)
  leads-none high ends within none leads =
      let order : cut.place ≤ leads.end = Reads-order tokens (lead cut.is_apart leads.word) cut.place leads.end leads.reads in
      let up : cut.place ≤ leads.number = elim (number tokens are cut leads.kind leads.number leads.end leads.place) [
        | inl same ↦ omega (arith, same, order)
        | inr next ↦ omega (arith, next.0, order)
      ] in
      Holds-nil leads.kind leads.number leads.last
      (subst (λ x. Holds x leads.kind leads.number leads.last) none (within.all leads.kind leads.number leads.last leads.holds up leads.within))

  -- ---- the least number

  pub between-all : (low high : ℕ) → low ≡ cut.place → LeadsWithin tokens words spans cut high → IsBetween tokens words spans cut low high
  between-all low high same leads = record {
    order = omega (arith, leads-from high leads, same);
    before = λ m less h. omega (arith, leads-from m h, same, less);
    leads = leads;
  }

  pub between-above : (low high middle : ℕ) → middle < high → IsBetween tokens words spans cut low high → ¬ (LeadsWithin tokens words spans cut middle) → IsBetween tokens words spans cut (middle + 1) high
  between-above low high middle less is none = record {
    order = omega arith;
    before = λ m before h. none (leads-more m middle (omega arith) h);
    leads = is.leads;
  }

  pub between-next : (low high next : ℕ) → next ≤ high → IsBetween tokens words spans cut low high → HaveNone spans low next → IsBetween tokens words spans cut next high
  between-next low high next order is have_none = record {
    order = order;
    before = λ m less leads. elim (cases_lt leads.number low) [
      | inl under ↦ is.before leads.number under (record {
        kind = leads.kind;
        number = leads.number;
        last = leads.last;
        holds = leads.holds;
        within = omega arith;
        end = leads.end;
        place = leads.place;
        word = leads.word;
        is = leads.is;
        reads = leads.reads;
      })
      | inr over ↦ have_none.none leads.kind leads.number leads.last leads.holds over (omega (arith, leads.within, less))
    ];
    leads = is.leads;
  }

  pub between-below : (low high middle : ℕ) → low ≤ middle → IsBetween tokens words spans cut low high → LeadsWithin tokens words spans cut middle → IsBetween tokens words spans cut low middle
  between-below low high middle le is leads = record { order = le; before = is.before; leads = leads }

  pub between-one : (low high : ℕ) → high ≤ low → IsBetween tokens words spans cut low high → IsLeastNumber tokens words spans cut high
  between-one low high le is = record { leads = is.leads; least = λ m less. is.before m (omega (arith, less, le)) }
