-- Literals with their keys, and the answer of a look through bytes.
use Rattle.std.proofs.Common.{◌≡◌, ℕ, ◌+◌, ◌<◌, ◌≤◌, List, [], ◌∷◌, ◌++◌, Option, None, Some, inl, inr, map, length, get_or, All, refl, sym, ◌∙◌, subst, arith}
use Rattle.std.specs.Prelude.{IfSome}
use Rattle.std.specs.List.{Contains, slice_get}
use Rattle.std.specs.List.Sorted.{IsStrictlyIncreasing}
use Rattle.std.proofs.lemmas.Bool.{cases_lt}
use Rattle.std.proofs.lemmas.List.{get_or_append_left, get_or_push, length_push, map-append}
use Rattle.std.proofs.lemmas.List.Elements.{All-contains, All-map, All-nil, All-push, All-weaker, Contains-append_left, Contains-push, Contains-push_cases}
use Rattle.std.proofs.lemmas.Option.{same_Some, slice_get-get_or, slice_get_within}
use Rattle.std.proofs.Math.Logic.{⊎_elim}
use Rattle.lic_literals.specs.Ends.{EndsAt}
use Rattle.lic_literals.specs.Kept.{MayEndAt, ends_of}
use Rattle.lic_literals.specs.Groups.{IsCandidate, windows_of}
use Rattle.lic_literals.specs.Keys.{AreKeyed, CanEndAt, IsPrefilter}
use Rattle.lic_literals.specs.Windows.{AddsLiteral, AreBelow, HasKey, NotesKeys}
use Rattle.lic_literals.specs.declared.groups.Groups.{Groups}
use Rattle.lic_literals.specs.declared.hits.Hits.{Hits}
use Rattle.lic_literals.specs.declared.kept.Kept.{Kept}
use Rattle.lic_literals.specs.declared.tables.Key.{Key}
use Rattle.lic_literals.specs.declared.tables.Tables.{Tables}
use Rattle.lic_literals.proofs.Lists.{Contains-nil, push_before, push_last, push_within}
use Rattle.lic_literals.proofs.Rising.{IsStrictlyIncreasing-push}
use Rattle.lic_literals.proofs.WindowLemmas.{key_below}

-- a literal more
pub AreKeyed-push : (literals : List (List ℕ)) (keys : List (Option Key)) (old new : Tables) (literal : List ℕ) (number : ℕ) (key : Option Key) →
    AreKeyed literals keys old → number ≡ length literals → AddsLiteral literal number key old new →
    AreKeyed (literals ++ literal ∷ []) (keys ++ key ∷ []) new
AreKeyed-push literals keys old new literal number key keyed at adds = record {
  count = omega (arith, length_push literals literal, length_push keys key, keyed.count);
  has = λ k l there.
      ⊎_elim
      (λ (before : k < length literals).
      let same : get_or (keys ++ key ∷ []) k None ≡ get_or keys k None = get_or_append_left keys (key ∷ []) None k (omega (arith, keyed.count)) in
      subst (HasKey new l) (sym same) (adds.kept l (get_or keys k None) (keyed.has k l (push_before literals literal k l there before))))
      (λ (after : length literals ≤ k).
      let last : length literals ≡ k = omega (arith, push_within literals literal k l there) in
      let here : get_or (keys ++ key ∷ []) k None ≡ key = get_or_push keys key None k (omega (arith, keyed.count)) in
      subst (HasKey new l) (sym here) (subst (λ x. HasKey new x key) (push_last literals literal k l there last) adds.added))
      (cases_lt k (length literals));
  below =
      let size : number + 1 ≡ length (literals ++ literal ∷ []) = omega (arith, length_push literals literal) in
      subst (AreBelow new) size (adds.below (subst (AreBelow old) (sym at) keyed.below));
}

-- no literal
pub AreKeyed-nil : (tables : Tables) → AreBelow tables 0 → AreKeyed [] [] tables
AreKeyed-nil tables below = record { count = refl; has = λ k l there. absurd (omega (arith, slice_get_within [] k l there)); below = below }

-- where a literal ends, its key says that it may end
pub can_end : (tables : Tables) (bytes literal : List ℕ) (old hits : Hits) (e : ℕ) (key : Option Key) → NotesKeys tables bytes old hits →
    HasKey tables literal key → EndsAt bytes literal e → CanEndAt key hits e
can_end tables bytes literal old hits e None notes has ends = tt
can_end tables bytes literal old hits e (Some key) notes has ends = notes.found literal key e has ends

-- the number of the window of each key is below that of literals
pub keys_below : (literals : List (List ℕ)) (keys : List (Option Key)) (tables : Tables) → AreKeyed literals keys tables →
    (k : ℕ) (key : Key) → slice_get keys k ≡ Some (Some key) → key.window < length keys
keys_below literals keys tables keyed k key there =
    let within : k < length keys = slice_get_within keys k (Some key) there in
    let is : get_or keys k None ≡ Some key = same_Some (get_or keys k None) (Some key) (sym (slice_get-get_or keys k None within) ∙ there) in
    let literal = get_or literals k [] in
    let has : HasKey tables literal (Some key) =
    subst (HasKey tables literal) is (keyed.has k literal (slice_get-get_or literals k [] (omega (arith, keyed.count)))) in
    let less : key.window < length literals = key_below tables literal key (length literals) has keyed.below in
    omega (arith, keyed.count)

-- a literal that ends somewhere is a candidate
module _ (literals : List (List ℕ)) (keys : List (Option Key)) (groups : Groups) (tables : Tables) (all : IsPrefilter literals keys groups tables)
    (bytes : List ℕ) (old hits : Hits) (notes : NotesKeys tables bytes old hits) (number e : ℕ) (literal : List ℕ) (ends : EndsAt bytes literal e) where
  candidate_by : (key : Option Key) → slice_get keys number ≡ Some key → HasKey tables literal key → IsCandidate groups hits number
  candidate_by None there has = inl (all.grouped.short number there)
  candidate_by (Some key) there has =
      let (p, at, noted) = notes.found literal key e has ends in
      let placed : slice_get (windows_of hits) noted.slot ≡ Some key.window = hits.placed key.window noted.slot noted.at in
      let within : noted.slot < length (windows_of hits) = slice_get_within (windows_of hits) noted.slot key.window placed in
      let is : get_or (windows_of hits) noted.slot key.window ≡ key.window =
      same_Some (get_or (windows_of hits) noted.slot key.window) key.window (sym (slice_get-get_or (windows_of hits) noted.slot key.window within) ∙ placed) in
      inr (key.window, (noted.slot, within, is), all.grouped.sharing number key there)

  pub is_candidate : slice_get literals number ≡ Some literal → IsCandidate groups hits number
  is_candidate there =
      let within : number < length literals = slice_get_within literals number literal there in
      candidate_by (get_or keys number None) (slice_get-get_or keys number None (omega (arith, all.keyed.count))) (all.keyed.has number literal there)

-- the literals with these numbers that are kept
pub record IsAnswer (literals : List (List ℕ)) (bytes numbers : List ℕ) (kept : List Kept) : Type 0 where
  pub rising_numbers : IsStrictlyIncreasing (map (λ k. k.number) kept)
  pub only : All (λ k. Contains numbers k.number) kept
  pub below : All (λ k. k.number < length literals) kept
  pub complete : (number e : ℕ) (literal : List ℕ) → Contains numbers number → slice_get literals number ≡ Some literal → EndsAt bytes literal e →
      (k : Kept) × Contains kept k × (k.number ≡ number) × MayEndAt k e
  pub rising : All (λ k. IfSome (ends_of k) IsStrictlyIncreasing) kept
  pub within : All (λ k. IfSome (ends_of k) (All (λ e. e ≤ length bytes))) kept

module _ (literals : List (List ℕ)) (bytes : List ℕ) where
  pub answer_none : IsAnswer literals bytes [] []
  answer_none = record {
    rising_numbers = λ i h. absurd (omega arith);
    only = All-nil (λ k. Contains {X = ℕ} [] k.number);
    below = All-nil (λ k. k.number < length literals);
    complete = λ number e literal inside there ends. absurd (Contains-nil number inside);
    rising = All-nil (λ k. IfSome (ends_of k) IsStrictlyIncreasing);
    within = All-nil (λ k. IfSome (ends_of k) (All (λ e. e ≤ length bytes)));
  }

  module _ (numbers : List ℕ) (n : ℕ) (kept : List Kept) (answer : IsAnswer literals bytes numbers kept) where
    -- the literal of the next number is kept
    pub answer_more : (k : Kept) → k.number ≡ n → n < length literals → ((x : ℕ) → Contains numbers x → x < n) →
        ((e : ℕ) (literal : List ℕ) → slice_get literals n ≡ Some literal → EndsAt bytes literal e → MayEndAt k e) →
        IfSome (ends_of k) IsStrictlyIncreasing → IfSome (ends_of k) (All (λ e. e ≤ length bytes)) → IsAnswer literals bytes (numbers ++ n ∷ []) (kept ++ k ∷ [])
    answer_more k same below greater may rising within = record {
      rising_numbers =
          subst IsStrictlyIncreasing (sym (map-append (λ k. k.number) kept (k ∷ [])))
          (IsStrictlyIncreasing-push (map (λ k. k.number) kept) k.number answer.rising_numbers
          (λ x inside.
          let less : x < n = greater x (All-contains (Contains numbers) (map (λ k. k.number) kept) x (All-map (Contains numbers) (λ k. k.number) kept answer.only) inside) in
          omega arith));
      only =
          All-push (λ k. Contains (numbers ++ n ∷ []) k.number) kept k
          (All-weaker (λ k. Contains numbers k.number) (λ k. Contains (numbers ++ n ∷ []) k.number) (λ k h. Contains-append_left numbers (n ∷ []) k.number h) kept answer.only)
          (subst (Contains (numbers ++ n ∷ [])) (sym same) (Contains-push numbers n));
      below = All-push (λ k. k.number < length literals) kept k answer.below (omega arith);
      complete = λ number e literal inside there ends.
          ⊎_elim
          (λ (before : Contains numbers number).
          let (one, has, is, at) = answer.complete number e literal before there ends in
          (one, Contains-append_left kept (k ∷ []) one has, is, at))
          (λ (here : n ≡ number).
          (k, Contains-push kept k, same ∙ here, may e literal (subst (λ m. slice_get literals m ≡ Some literal) (sym here) there) ends))
          (Contains-push_cases numbers n number inside);
      rising = All-push (λ k. IfSome (ends_of k) IsStrictlyIncreasing) kept k answer.rising rising;
      within = All-push (λ k. IfSome (ends_of k) (All (λ e. e ≤ length bytes))) kept k answer.within within;
    }

    -- there is no literal of the next number
    pub answer_same : length literals ≤ n → IsAnswer literals bytes (numbers ++ n ∷ []) kept
    answer_same past = record {
      rising_numbers = answer.rising_numbers;
      only = All-weaker (λ k. Contains numbers k.number) (λ k. Contains (numbers ++ n ∷ []) k.number) (λ k h. Contains-append_left numbers (n ∷ []) k.number h) kept answer.only;
      below = answer.below;
      complete = λ number e literal inside there ends.
          ⊎_elim
          (λ (before : Contains numbers number). answer.complete number e literal before there ends)
          (λ (here : n ≡ number).
          let within : number < length literals = slice_get_within literals number literal there in
          absurd (omega arith))
          (Contains-push_cases numbers n number inside);
      rising = answer.rising;
      within = answer.within;
    }
