-- Matches of one template, and where a required text of it ends.
use Rattle.std.proofs.Common.{◌≡◌, ℕ, ◌+◌, ◌<◌, List, [], ◌∷◌, ◌++◌, length, map, take, Option, Some, None, IfSome, ap, arith, sym, subst, get_or, ◌∙◌}
use Rattle.std.specs.Prelude.{Contains}
use Rattle.std.proofs.lemmas.List.{get_or-map, get_or-take, length-map, length-take-le, map_push, take_more}
use Rattle.std.proofs.lemmas.Map.Keys.{below_from_sorted, sorted_from_strictly_increasing}
use Rattle.lic_phrases.proofs.WordClasses.{contains-map_from}
use Rattle.std.specs.List.{slice_get}
use Rattle.std.specs.List.Sorted.{IsStrictlyIncreasing}
use Rattle.lic_markup.specs.declared.part.Part.{Part}
use Rattle.lic_markup.specs.Parts.{TemplateValue}
use Rattle.lic_words.specs.Describing.{IsDescribed}
use Rattle.lic_norm.specs.Tokens.{TokenValue}
use Rattle.lic_keys.specs.Required.{HoldEnds}
use Rattle.lic_literals.specs.declared.kept.Kept.{Kept}
use Rattle.lic_keys.specs.declared.required_ends.RequiredEnds.{RequiredEnds}
use Rattle.lic_set.specs.Candidates.{number_of}
use Rattle.lic_set.specs.Rising.{IsRising}
use Rattle.lic_set.specs.Sets.{Known, words_of}
use Rattle.lic_set.specs.Matches.{IsMatch, letters_between}
use Rattle.lic_set.specs.declared.triple.Triple.{Triple}
use Rattle.lic_search.specs.Matches.{DescribesRange, range_of}
use Rattle.lic_search.specs.Ends.{AreRequiredEnds}
use Rattle.lic_search.specs.declared.range.Range.{Range}

-- a range as a triple of a template
abbrev pub triple_of : ℕ → Range → Triple
triple_of number range = record { first = range.first; last = range.last; template = number }

-- a template under some identifier
abbrev pub known_for : TemplateValue → Known
known_for template = record { id = []; template = template }

module _ (set : List Known) (tokens : List TokenValue) (number : ℕ) (known : Known) (is : slice_get set number ≡ Some known) where
  pub match_from : (range : Range) → DescribesRange tokens (words_of known) range → IsMatch set tokens (triple_of number range)
  match_from range describes = record {
    order = describes.order;
    within = describes.within;
    known = known;
    number = is;
    described = describes.described;
  }

  pub describes_from : (t : Triple) → IsMatch set tokens t → t.template ≡ number → DescribesRange tokens (words_of known) (range_of t)
  describes_from t m e =
      let found : slice_get set number ≡ Some m.known = subst (λ n. slice_get set n ≡ Some m.known) e m.number in
      let same : m.known ≡ known = cc in
      record {
        order = m.order;
        within = m.within;
        described = subst (λ k. IsDescribed (words_of k) (letters_between tokens t.first t.last)) same m.described;
      }

-- the places where a set's required text of a template ends are those of its parts
pub required_of : (set : List Known) (number : ℕ) (known : Known) (parts : List Part) (found bytes : List ℕ) (required : Option RequiredEnds) → found ≡ bytes →
    (get_or set number known).template.parts ≡ parts →
    IfSome required (λ ends. (d : Known) → HoldEnds found (get_or set number d).template.parts ends.part ends.places.items) →
    IfSome required (λ ends. IsStrictlyIncreasing ends.places.items) → AreRequiredEnds bytes parts required
required_of set number known parts found bytes None same is ends rising = tt
required_of set number known parts found bytes (Some at) same is ends rising = (
  subst (λ x. HoldEnds x parts at.part at.places.items) same (subst (λ x. HoldEnds found x at.part at.places.items) is (ends known)),
  rising,
)

-- the numbers of one candidate more
pub numbers_more : (candidates : List Kept) (i : ℕ) (candidate : Kept) → i < length candidates → candidate ≡ get_or candidates i candidate →
    map number_of (take (i + 1) candidates) ≡ map number_of (take i candidates) ++ candidate.number ∷ []
numbers_more candidates i candidate below is =
    ap (map number_of) (take_more candidates i candidate below ∙ ap (λ one. take i candidates ++ one ∷ []) (sym is)) ∙ map_push number_of (take i candidates) candidate

-- the number of a candidate is greater than those before it, and one of the set's
pub numbers_rise : (candidates : List Kept) (i : ℕ) (candidate : Kept) (count : ℕ) → i < length candidates → candidate ≡ get_or candidates i candidate →
    IsRising (map number_of candidates) count → ((n : ℕ) → Contains (map number_of (take i candidates)) n → n < candidate.number) × (candidate.number < count)
numbers_rise candidates i candidate count below is rising = (before, omega (arith, rising.below i inside, here))
  where
    long : length (map number_of candidates) ≡ length candidates
    long = length-map candidates number_of

    inside : i < length (map number_of candidates)
    inside = omega (arith, below, long)

    here : get_or (map number_of candidates) i 0 ≡ candidate.number
    here = get_or-map number_of candidates i candidate 0 below ∙ ap number_of (sym is)

    before : (n : ℕ) → Contains (map number_of (take i candidates)) n → n < candidate.number
    before n among =
        let (one, member, same) = contains-map_from number_of (take i candidates) n among in
        let k : ℕ = member.0 in
        let short : length (take i candidates) ≡ i = length-take-le i candidates (omega (arith, below)) in
        let first : k < i = omega (arith, member.1) in
        let at : get_or candidates k one ≡ one = sym (get_or-take i candidates k one first) ∙ member.2 in
        let there : get_or (map number_of candidates) k 0 ≡ n = get_or-map number_of candidates k one 0 (omega (arith, below)) ∙ (ap number_of at ∙ same) in
        let less : get_or (map number_of candidates) k 0 < get_or (map number_of candidates) i 0 =
        below_from_sorted (map number_of candidates) k i 0 (sorted_from_strictly_increasing (map number_of candidates) rising.order) first inside in
        omega (arith, less, there, here)
