-- Tokens with which matches begin, found from the end of a text.
use Rattle.std.proofs.Common.{◌≡◌, ℕ, zero, suc, ◌+◌, ◌-◌, ◌<◌, ◌≤◌, ◌↔◌, List, [], ◌∷◌, length, map, take, drop, get_or, nat_le, Some, refl, sym, ap, ◌∙◌, subst, ⊎_elim, arith, length-drop}
use Rattle.std.specs.List.{slice_get, Contains}
use Rattle.std.specs.Str.{chars}
use Rattle.std.proofs.Math.Seq.{drop-cons}
use Rattle.std.proofs.lemmas.Bool.{cases_lt, cond_both}
use Rattle.std.proofs.lemmas.List.{take-map, take_all, length-map}
use Rattle.lic_norm.specs.Tokens.{TokenValue}
use Rattle.lic_words.specs.Describing.{IsDescribed}
use Rattle.lic_auto.specs.Backs.{IsLive}
use Rattle.lic_set.specs.Sets.{Known, words_of}
use Rattle.lic_find.specs.Among.{IsMatchAmong}
use Rattle.lic_find.specs.Firsts.{NotedFirst, noted_at, noted_with, IsFirstFrom, AreFirstsFrom, NoneBeginFrom}
use Rattle.lic_set.specs.Matches.{IsMatch, all_letters, triple_at}
use Rattle.lic_find.specs.Starts.{few_of}
use Rattle.lic_find.specs.Scans.{letters_up_to}
use Rattle.lic_set.specs.declared.triple.Triple.{Triple}

-- the letters of one token more at the start
pub all_letters-drop : (tokens : List TokenValue) (first end : ℕ) (d : TokenValue) → first < length tokens → first + 1 ≡ end →
    all_letters (drop first tokens) ≡ chars (get_or tokens first d).text ∷ all_letters (drop end tokens)
all_letters-drop tokens first end d inside next =
    let after : suc first ≡ end = omega arith in
    ap all_letters (drop-cons tokens first d inside) ∙ ap (λ n. chars (get_or tokens first d).text ∷ all_letters (drop n tokens)) after

module _ (set : List Known) (tokens : List TokenValue) where
  -- the letters of that many tokens from this one on
  letters_of_some : (first n : ℕ) → letters_up_to tokens first (first + n) ≡ take n (all_letters (drop first tokens))
  letters_of_some first n =
      let count : (first + n) - first ≡ n = omega arith in
      ap (λ m. map (λ t. chars t.text) (take m (drop first tokens))) count ∙ sym (take-map (λ t. chars t.text) n (drop first tokens))

  -- a template of a match is live at its first token
  pub IsLive-match : (t : Triple) → IsMatch set tokens t → IsLive set (all_letters (drop t.first tokens)) t.template
  IsLive-match t m =
      let order : t.first ≤ t.last = m.order in
      let end : t.first + (t.last + 1 - t.first) ≡ t.last + 1 = omega arith in (
        m.known,
        m.number,
        t.last + 1 - t.first,
        subst (IsDescribed (words_of m.known))
            (ap (λ n. letters_up_to tokens t.first n) (sym end)
            ∙ letters_of_some t.first (t.last + 1 - t.first)) m.described,
      )

  -- that many tokens from this one on, or all that there are
  module _ (first k : ℕ) (known : Known) (number : slice_get set k ≡ Some known) where
    some_match : (n : ℕ) → first + n ≤ length tokens
        → IsDescribed (words_of known) (letters_up_to tokens first (first + n))
        → (last : ℕ) × IsMatch set tokens (triple_at first last k)
    some_match zero within described =
        absurd (described.0 (letters_of_some first 0 ∙ nothing))
      where
        nothing : take 0 (all_letters (drop first tokens)) ≡ []
        nothing = refl
    some_match (suc n) within described = (
      first + n,
      record {
        order = omega arith;
        within = omega arith;
        known = known;
        number = number;
        described = let end : first + suc n ≡ first + n + 1 = omega arith in
            subst (λ e. IsDescribed (words_of known) (letters_up_to tokens first e)) end described;
      },
    )

  -- a live template describes a range from there
  pub match_live : (first k : ℕ) → first ≤ length tokens → IsLive set (all_letters (drop first tokens)) k
      → (last : ℕ) × IsMatch set tokens (triple_at first last k)
  match_live first k inside (known, number, n, described) =
      ⊎_elim
      (λ (short : n < length (drop first tokens)).
      let within : first + n ≤ length tokens = omega (arith, length-drop first tokens) in
      some_match first k known number n within (subst (IsDescribed (words_of known)) (sym (letters_of_some first n)) described))
      (λ (long : length (drop first tokens) ≤ n).
      let count : length (all_letters (drop first tokens)) ≡ length (drop first tokens) = length-map (drop first tokens) (λ t. chars t.text) in
      let within : first + length (drop first tokens) ≤ length tokens = omega (arith, length-drop first tokens) in
      let all : take n (all_letters (drop first tokens)) ≡ take (length (drop first tokens)) (all_letters (drop first tokens)) =
      take_all n (all_letters (drop first tokens)) (omega arith)
      ∙ sym (take_all (length (drop first tokens)) (all_letters (drop first tokens)) (omega arith)) in
      some_match first k known number (length (drop first tokens)) within
      (subst (IsDescribed (words_of known)) (all ∙ sym (letters_of_some first (length (drop first tokens)))) described))
      (cases_lt n (length (drop first tokens)))

  -- after the last token nothing begins
  pub NoneBeginFrom-end : (kept : List ℕ) → NoneBeginFrom set tokens kept (length tokens)
  NoneBeginFrom-end kept t (m, among) late =
      let order : t.first ≤ t.last = m.order in
      let within : t.last < length tokens = m.within in
      omega arith

  module _ (kept : List ℕ) where
    -- a token with which no match begins is passed by
    pub AreFirstsFrom-pass : (first : ℕ) (noted : List NotedFirst) → ((t : Triple) → IsMatchAmong set tokens kept t → t.first ≡ first → ⊥) →
        AreFirstsFrom set tokens kept (first + 1) noted → AreFirstsFrom set tokens kept first noted
    AreFirstsFrom-pass first [] none past = λ t m late. let other : t.first ≡ first → ⊥ = none t m in past t m (omega arith)
    AreFirstsFrom-pass first (next ∷ more) none (is, past) = (
      record {
        low = let low : first + 1 ≤ next.first = is.low in omega arith;
        begins = is.begins;
        passed = λ t m late. let other : t.first ≡ first → ⊥ = none t m in is.passed t m (omega arith);
        all = is.all;
        within = is.within;
      },
      past,
    )

    module _ (first : ℕ) (inside : first < length tokens) (live : List ℕ)
        (exactly : (k : ℕ) → Contains live k ↔ (Contains kept k × IsLive set (all_letters (drop first tokens)) k)) where
      live_of_match : (t : Triple) → IsMatchAmong set tokens kept t → t.first ≡ first → Contains live t.template
      live_of_match t m here =
          (exactly t.template).1 (m.1, subst (λ n. IsLive set (all_letters (drop n tokens)) t.template) here (IsLive-match t m.0))

      match_of_live : (k : ℕ) → Contains live k → (last : ℕ) × IsMatch set tokens (triple_at first last k)
      match_of_live k there = match_live first k (omega arith) ((exactly k).0 there).1

      -- where no template is live, no match begins
      pub none_live : live ≡ [] → (t : Triple) → IsMatchAmong set tokens kept t → t.first ≡ first → ⊥
      none_live none t m here = empty (subst (λ ns. Contains ns t.template) none (live_of_match t m here))
        where
          empty : Contains [] t.template → ⊥
          empty (i, within, is) = omega arith

      -- numbers that represent these templates, of which each is live
      noted_live : (numbers : List ℕ) → ((t : Triple) → IsMatchAmong set tokens kept t → t.first ≡ first → Contains (noted_with kept numbers) t.template) →
          ((k : ℕ) → Contains numbers k → Contains live k) → (k : ℕ) → Contains live k
          → IsFirstFrom set tokens kept first (noted_at first numbers)
      noted_live numbers all some k there = record {
        low = omega arith;
        begins = let (last, m) = match_of_live k there in (last, k, (m, ((exactly k).0 there).0));
        passed = λ t m late. late;
        all = all;
        within = λ j inside. ((exactly j).0 (some j inside)).0;
      }

      with_numbers : (numbers : List ℕ) (k : ℕ) → Contains numbers k → Contains (noted_with kept numbers) k
      with_numbers [] k (i, within, is) = absurd (omega arith)
      with_numbers (n ∷ numbers) k there = there

      -- where some template is live, the token is noted
      pub IsFirstFrom-live : (k : ℕ) → Contains live k → IsFirstFrom set tokens kept first (noted_at first (few_of live))
      IsFirstFrom-live k there =
          cond_both (nat_le (length live) 4) live [] (λ numbers. IsFirstFrom set tokens kept first (noted_at first numbers))
          (λ few. noted_live live (λ t m here. with_numbers live t.template (live_of_match t m here)) (λ j inside. inside) k there)
          (λ many. noted_live [] (λ t m here. m.1) (λ j (i, within, is). absurd (omega arith)) k there)
