-- How a walk continues.
use Rattle.std.proofs.Common.{◌≡◌, ℕ, ◌+◌, ◌<◌, ◌≤◌, ◌↔◌, List, [], ◌∷◌, ◌++◌, length, get_or, Option, Some, None, refl, sym, ap, ◌∙◌, subst, inl, ⊎_elim, arith}
use Rattle.std.specs.List.{slice_get, Contains}
use Rattle.std.specs.Str.{chars}
use Rattle.std.proofs.lemmas.Bool.{cases_lt}
use Rattle.std.proofs.lemmas.Grind.{not_there}
use Rattle.std.proofs.lemmas.Option.{slice_get_within}
use Rattle.lic_norm.specs.Tokens.{TokenValue}
use Rattle.lic_words.specs.Describing.{IsDescribed}
use Rattle.lic_auto.proofs.PickedLemmas.{contains_or_not}
use Rattle.lic_set.specs.Sets.{Known, words_of}
use Rattle.lic_auto.specs.Picked.{IsLeastOf}
use Rattle.lic_auto.specs.Runs.{RunHasTakenAmong, numbers_of, set_of}
use Rattle.lic_auto.specs.declared.run.Run.{Run}
use Rattle.lic_find.specs.Among.{IsMatchAmong}
use Rattle.lic_find.specs.Firsts.{NotedFirst, AreFirstsFrom, NoneBeginFrom, noted_with}
use Rattle.lic_set.specs.Matches.{IsMatch, IsAfter, letters_between, triple_at}
use Rattle.lic_find.specs.Scans.{letters_up_to, AllEndBy, HasCome, IsNext, NoneBegins, NoneHasRange, BeginsAt}
use Rattle.lic_set.specs.declared.triple.Triple.{Triple}
use Rattle.lic_find.proofs.Triples.{same_parts}
use Rattle.lic_find.proofs.Ranges.{letters_up_to-none, letters_up_to-more, letters_up_to-split}

-- what comes after a cursor begins with its first token or later
after_begins : (cursor : Option Triple) (begin : ℕ) (t : Triple) → BeginsAt cursor begin → IsAfter cursor t → begin ≤ t.first
after_begins None begin t begins after = omega (arith, begins)
after_begins (Some cursor) begin t begins after = omega (arith, begins, after)

-- what begins later comes after it
begins_after : (cursor : Option Triple) (begin : ℕ) (t : Triple) → BeginsAt cursor begin → begin < t.first → IsAfter cursor t
begins_after None begin t begins later = tt
begins_after (Some cursor) begin t begins later = inl (omega (arith, begins))

-- a list of numbers has a number, or not
pub there : (xs : List ℕ) (k : ℕ) → ∥ Contains xs k ∥₁ → Contains xs k
there xs k h = ⊎_elim (λ (found : Contains xs k). found) (λ (gone : ¬ (Contains xs k)). absurd (not_there h gone)) (contains_or_not xs k)

module _ (set : List Known) (tokens : List TokenValue) where
  -- a match lies within the tokens
  pub first_within : (t : Triple) → IsMatch set tokens t → t.first < length tokens
  first_within t m =
      let order : t.first ≤ t.last = m.order in
      let within : t.last < length tokens = m.within in
      omega arith

  -- at the first of the noted first tokens
  module _ (cursor : Option Triple) (begin from : ℕ) (begins : BeginsAt cursor begin) (low : from ≤ begin)
      (high : from < length tokens → begin ≤ from) (run : Run) (templates : set_of run ≡ set) where
    pub HasCome-begin : (noted : NotedFirst) (more : List NotedFirst) → AreFirstsFrom set tokens (numbers_of run) from (noted ∷ more) →
        RunHasTakenAmong run (noted_with (numbers_of run) noted.numbers) [] → HasCome set tokens cursor run more noted.first noted.first
    HasCome-begin noted more (is, past) taken =
        let (last, template, m) = is.begins in
        let within : noted.first < length tokens = first_within (triple_at noted.first last template) m.0 in
        let from_on : from ≤ noted.first = is.low in
        let at : begin ≤ noted.first = omega (arith, high) in
        record {
          order = omega arith;
          within = omega arith;
          templates = templates;
          numbers = noted_with (numbers_of run) noted.numbers;
          taken = subst (RunHasTakenAmong run (noted_with (numbers_of run) noted.numbers)) (sym (letters_up_to-none tokens noted.first)) taken;
          all = is.all;
          reached = λ t n after.
              let late : begin ≤ t.first = after_begins cursor begin t begins after in
              let order : t.first ≤ t.last = n.0.order in
              (is.passed t n (omega arith), λ same. omega arith);
          ahead = λ t n later. begins_after cursor begin t begins (omega arith);
          firsts = past;
        }

    -- where no match begins
    pub HasCome-none : AreFirstsFrom set tokens (numbers_of run) from [] → RunHasTakenAmong run (numbers_of run) [] →
        HasCome set tokens cursor run [] (length tokens) (length tokens)
    HasCome-none none taken = record {
      order = omega arith;
      within = omega arith;
      templates = templates;
      numbers = numbers_of run;
      taken = subst (RunHasTakenAmong run (numbers_of run)) (sym (letters_up_to-none tokens (length tokens))) taken;
      all = λ t m here. let within : t.first < length tokens = first_within t m.0 in absurd (omega arith);
      reached = λ t m after.
          let late : begin ≤ t.first = after_begins cursor begin t begins after in
          absurd (none t m (omega arith));
      ahead = λ t m later. let within : t.first < length tokens = first_within t m.0 in absurd (omega arith);
      firsts = λ t m later. let within : t.first < length tokens = first_within t m.0 in omega arith;
    }

  module _ (cursor : Option Triple) (run : Run) (noted : List NotedFirst) (first end : ℕ) (come : HasCome set tokens cursor run noted first end) where
    -- a match of a template of a run with the same numbers
    match_of_run : (new : Run) → numbers_of new ≡ numbers_of run → (t : Triple) → IsMatchAmong set tokens (numbers_of new) t
        → IsMatchAmong set tokens (numbers_of run) t
    match_of_run new alike t (m, among) = (m, subst (λ ns. Contains ns t.template) alike among)

    -- one more token
    pub HasCome-push : (new : Run) (d : TokenValue) → NoneHasRange set tokens (numbers_of run) cursor first end → end < length tokens
        → set_of new ≡ set_of run → numbers_of new ≡ numbers_of run →
        RunHasTakenAmong new come.numbers (letters_up_to tokens first end ++ chars (get_or tokens end d).text ∷ [])
        → HasCome set tokens cursor new noted first (end + 1)
    HasCome-push new d none fits same alike taken =
        let order : first ≤ end = come.order in
        record {
          order = omega arith;
          within = omega arith;
          templates = same ∙ come.templates;
          numbers = come.numbers;
          taken = subst (RunHasTakenAmong new come.numbers) (sym (letters_up_to-more tokens first end d order fits)) taken;
          all = λ t n. come.all t (match_of_run new alike t n);
          reached = λ t n after.
              let m = match_of_run new alike t n in
              let (low, long) = come.reached t m after in
              (low, λ here. let enough : end ≤ t.last + 1 = long here in let other : t.last + 1 ≡ end → ⊥ = none t m after here in omega arith);
          ahead = λ t n. come.ahead t (match_of_run new alike t n);
          firsts = subst (λ ns. AreFirstsFrom set tokens ns (first + 1) noted) (sym alike) come.firsts;
        }

    -- after the match that was found
    pub HasCome-found : (t : Triple) → t.first ≡ first → t.last + 1 ≡ end → HasCome set tokens (Some t) run noted first end
    HasCome-found t begin last = record {
      order = come.order;
      within = come.within;
      templates = come.templates;
      numbers = come.numbers;
      taken = come.taken;
      all = come.all;
      reached = λ s m after. (omega (arith, after), λ here. omega (arith, after));
      ahead = λ s m later. inl (omega arith);
      firsts = come.firsts;
    }

    -- every match that begins here has ended where the text ends
    pub AllEndBy-at_end : length tokens ≤ end → AllEndBy set tokens (numbers_of run) first end
    AllEndBy-at_end all t m here = let within : t.last < length tokens = m.0.within in omega arith

    -- or where no template can describe a range that continues
    pub AllEndBy-dead : ((numbers : List ℕ) (ts more : List (List ℕ)) (k : ℕ) (known : Known) → RunHasTakenAmong run numbers ts → Contains numbers k →
        slice_get (set_of run) k ≡ Some known → IsDescribed (words_of known) (ts ++ more) → ⊥) → AllEndBy set tokens (numbers_of run) first end
    AllEndBy-dead dead t m here =
        ⊎_elim (λ (short : t.last < end). omega arith)
        (λ (long : end ≤ t.last).
        let letters : letters_between tokens t.first t.last ≡ letters_up_to tokens first end ++ letters_up_to tokens end (t.last + 1) =
        ap (λ n. letters_up_to tokens n (t.last + 1)) here ∙ letters_up_to-split tokens first end (t.last + 1) come.order (omega arith) in
        let there : slice_get (set_of run) t.template ≡ Some m.0.known = ap (λ s. slice_get s t.template) come.templates ∙ m.0.number in
        absurd (dead come.numbers (letters_up_to tokens first end)
        (letters_up_to tokens end (t.last + 1)) t.template m.0.known come.taken (come.all t m here) there
        (subst (IsDescribed (words_of m.0.known)) letters m.0.described)))
        (cases_lt t.last end)

    -- then none is left that begins here
    pub NoneBegins-ended : NoneHasRange set tokens (numbers_of run) cursor first end → AllEndBy set tokens (numbers_of run) first end
        → NoneBegins set tokens (numbers_of run) cursor first
    NoneBegins-ended none ended t m after here =
        let enough : end ≤ t.last + 1 = (come.reached t m after).1 here in
        let short : t.last + 1 ≤ end = ended t m here in
        none t m after here (omega arith)

    -- where no first token is left, no match is
    pub none_after : NoneBegins set tokens (numbers_of run) cursor first → noted ≡ [] → (t : Triple) → IsMatchAmong set tokens (numbers_of run) t
        → IsAfter cursor t → ⊥
    none_after none empty t m after =
        let low : first ≤ t.first = (come.reached t m after).0 in
        let other : t.first ≡ first → ⊥ = none t m after in
        let past : NoneBeginFrom set tokens (numbers_of run) (first + 1) = subst (AreFirstsFrom set tokens (numbers_of run) (first + 1)) empty come.firsts in
        past t m (omega arith)

    module _ (next : NotedFirst) (more : List NotedFirst) (is : noted ≡ next ∷ more) where
      pub next_first : AreFirstsFrom set tokens (numbers_of run) (first + 1) (next ∷ more)
      next_first = subst (AreFirstsFrom set tokens (numbers_of run) (first + 1)) is come.firsts

      -- the next first token
      pub HasCome-next_first : (new : Run) → NoneBegins set tokens (numbers_of run) cursor first → set_of new ≡ set_of run → numbers_of new ≡ numbers_of run →
          RunHasTakenAmong new (noted_with (numbers_of run) next.numbers) [] → HasCome set tokens cursor new more next.first next.first
      HasCome-next_first new none same alike taken =
          let (one, past) = next_first in
          let (last, template, m) = one.begins in
          let within : next.first < length tokens = first_within (triple_at next.first last template) m.0 in
          let later : first + 1 ≤ next.first = one.low in
          record {
            order = omega arith;
            within = omega arith;
            templates = same ∙ come.templates;
            numbers = noted_with (numbers_of run) next.numbers;
            taken = subst (RunHasTakenAmong new (noted_with (numbers_of run) next.numbers)) (sym (letters_up_to-none tokens next.first)) taken;
            all = λ t n. one.all t (match_of_run new alike t n);
            reached = λ t n after.
                let m = match_of_run new alike t n in
                let low : first ≤ t.first = (come.reached t m after).0 in
                let other : t.first ≡ first → ⊥ = none t m after in
                let order : t.first ≤ t.last = m.0.order in
                (one.passed t m (omega arith), λ here. omega arith);
            ahead = λ t n beyond. come.ahead t (match_of_run new alike t n) (omega arith);
            firsts = subst (λ ns. AreFirstsFrom set tokens ns (next.first + 1) more) (sym alike) past;
          }

      -- some match after the cursor begins with it
      pub some_begins : NoneBegins set tokens (numbers_of run) cursor next.first → ⊥
      some_begins none =
          let one = next_first.0 in
          let (last, template, m) = one.begins in
          let later : first + 1 ≤ next.first = one.low in
          none (triple_at next.first last template) m (come.ahead (triple_at next.first last template) m (omega arith)) refl

    pub NoneHasRange-empty : end ≡ 0 → NoneHasRange set tokens (numbers_of run) cursor first end
    NoneHasRange-empty empty t m after here last = omega arith

    -- the letters of a triple with this range
    same_letters : (t : Triple) → t.first ≡ first → t.last + 1 ≡ end → letters_between tokens t.first t.last ≡ letters_up_to tokens first end
    same_letters t begin last = ap (λ n. letters_up_to tokens n (t.last + 1)) begin ∙ ap (λ n. letters_up_to tokens first n) last

    module _ (last : ℕ) (ends : last + 1 ≡ end) where
      -- a triple with this range
      same_triple : (t : Triple) → t.first ≡ first → t.last + 1 ≡ end → triple_at first last t.template ≡ t
      same_triple t begin last' = same_parts t (triple_at first last t.template) begin (omega arith) refl

      -- all numbers of this range come before the cursor
      pub NoneHasRange-before : ((k : ℕ) → k < length set → IsAfter cursor (triple_at first last k) → ⊥)
          → NoneHasRange set tokens (numbers_of run) cursor first end
      NoneHasRange-before before t m after here there =
          before t.template (slice_get_within set t.template m.0.known m.0.number) (subst (IsAfter cursor) (sym (same_triple t here there)) after)

      module _ (from : ℕ) (begins : (k : ℕ) → IsAfter cursor (triple_at first last k) ↔ (from ≤ k)) where
        from_below : (t : Triple) → IsAfter cursor t → t.first ≡ first → t.last + 1 ≡ end → from ≤ t.template
        from_below t after here there = (begins t.template).0 (subst (IsAfter cursor) (sym (same_triple t here there)) after)

        number_of : (t : Triple) (m : IsMatch set tokens t) → slice_get (set_of run) t.template ≡ Some m.known
        number_of t m = ap (λ s. slice_get s t.template) come.templates ∙ m.number

        described_of : (t : Triple) (m : IsMatch set tokens t) → t.first ≡ first → t.last + 1 ≡ end
            → IsDescribed (words_of m.known) (letters_up_to tokens first end)
        described_of t m here there = subst (IsDescribed (words_of m.known)) (same_letters t here there) m.described

        pub NoneHasRange-least : IsLeastOf (set_of run) come.numbers (letters_up_to tokens first end) from None → NoneHasRange set tokens (numbers_of run) cursor first end
        NoneHasRange-least none t m after here there =
            none (t.template + 1) t.template m.0.known (come.all t m here) (from_below t after here there) (omega arith)
            (number_of t m.0) (described_of t m.0 here there)

        -- nothing describes no tokens
        begun : (known : Known) → IsDescribed (words_of known) (letters_up_to tokens first end) → first < end
        begun known described =
            ⊎_elim (λ (h : first < end). h)
            (λ (h : end ≤ first).
            let order : first ≤ end = come.order in
            let same : end ≡ first = omega arith in
            absurd (described.0 (ap (λ n. letters_up_to tokens first n) same ∙ letters_up_to-none tokens first)))
            (cases_lt first end)

        pub IsNext-least : (k : ℕ) → IsLeastOf (set_of run) come.numbers (letters_up_to tokens first end) from (Some k)
            → IsNext (IsMatchAmong set tokens (numbers_of run)) cursor (triple_at first last k)
        IsNext-least k (inside, low, (known, number, described), fewer) =
            let some : first < end = begun known described in
            let within : end ≤ length tokens = come.within in
            record {
              matches = (
                record {
                  order = omega arith;
                  within = omega arith;
                  known = known;
                  number = ap (λ s. slice_get s k) (sym come.templates) ∙ number;
                  described = subst (λ n. IsDescribed (words_of known) (letters_up_to tokens first n)) (sym ends) described;
                },
                come.taken.some k inside,
              );
              after = (begins k).1 low;
              least = λ s m after before.
                  let (late, long) = come.reached s m after in
                  ⊎_elim (λ (early : s.first < first). omega arith)
                  (λ (here, inner).
                  let enough : end ≤ s.last + 1 = long here in
                  ⊎_elim (λ (short : s.last < last). omega arith)
                  (λ (there, less).
                  let there' : s.last + 1 ≡ end = omega arith in
                  fewer s.template m.0.known (come.all s m here) (from_below s after here there') less (number_of s m.0) (described_of s m.0 here there'))
                  inner)
                  before;
            }
