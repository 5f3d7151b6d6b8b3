-- Matches of one template after another, among which there is one within each match.
use Rattle.std.proofs.Common.{◌≡◌, ℕ, List, [], ◌∷◌, ◌++◌, map, Some, inl, inr, sym, ⊎_elim, subst}
use Rattle.std.specs.List.{Contains, slice_get}
use Rattle.std.proofs.lemmas.List.Elements.{Contains-append_cases, Contains-append_left, Contains-append_right, Contains-push_cases}
use Rattle.lic_phrases.proofs.WordClasses.{contains-map, contains-map_from}
use Rattle.lic_norm.specs.Tokens.{TokenValue}
use Rattle.lic_set.specs.Sets.{Known, words_of}
use Rattle.lic_filters.specs.Filters.{SameMembers}
use Rattle.lic_filters.proofs.Members.{Contains-nil}
use Rattle.lic_set.specs.Matches.{IsMatch}
use Rattle.lic_set.specs.declared.triple.Triple.{Triple}
use Rattle.lic_search.specs.LeastMatches.{AddsLeast, HasLeastMatches, HasLeastOf}
use Rattle.lic_search.specs.Matches.{HasLeastRanges, range_of}
use Rattle.lic_search.specs.declared.range.Range.{Range}
use Rattle.lic_search.proofs.TemplateMatches.{describes_from, match_from, triple_of}

module _ (set : List Known) (tokens : List TokenValue) where
  -- ---- one template

  module _ (number : ℕ) (known : Known) (is : slice_get set number ≡ Some known) where
    pub adds_least : (ranges : List Range) (old new : List Triple) → HasLeastRanges tokens (words_of known) ranges
        → new ≡ old ++ map (triple_of number) ranges → AddsLeast set tokens number old new
    adds_least ranges old new has added =
        let triples = map (triple_of number) ranges in
        subst (AddsLeast set tokens number old) (sym added) (record {
          sound = λ t h.
              ⊎_elim inl
              (λ (later : Contains triples t).
              let (range, among, e) = contains-map_from (triple_of number) ranges t later in
              inr (subst (IsMatch set tokens) e (match_from set tokens number known is range (has.sound range among))))
              (Contains-append_cases old triples t h);
          kept = λ t h. Contains-append_left old triples t h;
          within = λ t m e.
              let (least, among, first, last) = has.within (range_of t) (describes_from set tokens number known is t m e) in
              (triple_of number least, Contains-append_right old triples (triple_of number least) (contains-map (triple_of number) ranges least among), sym e, first, last);
        })

  -- ---- the templates up to one

  pub least_none : HasLeastOf set tokens [] []
  least_none = record { sound = λ t h. absurd (Contains-nil t h); within = λ t m among. absurd (Contains-nil t.template among) }

  pub least_more : (numbers : List ℕ) (number : ℕ) (old new : List Triple) → HasLeastOf set tokens numbers old
      → AddsLeast set tokens number old new → HasLeastOf set tokens (numbers ++ number ∷ []) new
  least_more numbers number old new has adds = record {
    sound = λ t h. ⊎_elim (has.sound t) (λ m. m) (adds.sound t h);
    within = λ t m among.
        ⊎_elim
        (λ (before : Contains numbers t.template).
        let (s, here, template, first, last) = has.within t m before in
        (s, adds.kept s here, template, first, last))
        (λ (e : number ≡ t.template). adds.within t m (sym e))
        (Contains-push_cases numbers number t.template among);
  }

  -- ---- all templates

  pub least_all : (numbers : List ℕ) (found : List Triple) → ((t : Triple) → IsMatch set tokens t → Contains numbers t.template)
      → HasLeastOf set tokens numbers found → HasLeastMatches set tokens found
  least_all numbers found others has = record {
    sound = has.sound;
    within = λ t m. has.within t m (others t m);
  }

  pub least_same : (found kept : List Triple) → SameMembers found kept → HasLeastMatches set tokens found → HasLeastMatches set tokens kept
  least_same found kept same has = record {
    sound = λ t h. has.sound t ((same t).1 h);
    within = λ t m.
        let (s, among, template, first, last) = has.within t m in
        (s, (same s).0 among, template, first, last);
  }
