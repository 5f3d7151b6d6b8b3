-- Whether one triple is a match, by a run over its range.
use Rattle.std.proofs.Common.{◌≡◌, ℕ, zero, suc, ◌+◌, ◌<◌, ◌≤◌, ◌↔◌, Bool, List, [], ◌∷◌, length, Option, Some, None, eqb, refl, sym, ap, ◌∙◌, arith}
use Rattle.std.specs.Bool.{IsTrue}
use Rattle.std.specs.List.{slice_get, Contains}
use Rattle.std.specs.Option.{option_eq}
use Rattle.std.proofs.lemmas.Bool.{false≢true, eqb-true, eq-eqb}
use Rattle.lic_norm.specs.Tokens.{TokenValue}
use Rattle.lic_words.specs.Describing.{IsDescribed}
use Rattle.lic_auto.specs.Picked.{IsLeastOf}
use Rattle.lic_set.specs.Sets.{Known, words_of}
use Rattle.lic_set.specs.Matches.{IsMatch, letters_between}
use Rattle.lic_set.specs.declared.triple.Triple.{Triple}

-- whether an answer is this number
pub is_number : (r : Option ℕ) (k : ℕ) (same : Bool) → same ≡ option_eq eqb r (Some k) → IsTrue same ↔ (r ≡ Some k)
is_number None k same e = (λ h. absurd (false≢true (sym e ∙ h)), λ h. absurd (let never : None ≡ Some k = h in cc))
is_number (Some j) k same e = (
  λ h. ap Some (eqb-true j k (sym e ∙ h)),
  λ h. let number : j ≡ k = cc in e ∙ eq-eqb j k number,
)

module _ (set : List Known) (tokens : List TokenValue) (t : Triple) where
  -- the only number is the answer exactly where its template describes the list
  answered : (r : Option ℕ) → IsLeastOf set (t.template ∷ []) (letters_between tokens t.first t.last) t.template r → r ≡ Some t.template →
      (known : Known) × (slice_get set t.template ≡ Some known) × IsDescribed (words_of known) (letters_between tokens t.first t.last)
  answered None least same = absurd (let never : None ≡ Some t.template = same in cc)
  answered (Some k) (inside, late, (known, there, described), none) same =
      let is : k ≡ t.template = cc in (known, ap (slice_get set) (sym is) ∙ there, described)

  answers : (r : Option ℕ) (known : Known) → IsLeastOf set (t.template ∷ []) (letters_between tokens t.first t.last) t.template r →
      slice_get set t.template ≡ Some known → IsDescribed (words_of known) (letters_between tokens t.first t.last) → r ≡ Some t.template
  answers None known none there described = absurd (none (t.template + 1) t.template known (0, omega arith, refl) (omega arith) (omega arith) there described)
  answers (Some k) known least there described = ap Some (only k least.0)
    where
      only : (k : ℕ) → Contains (t.template ∷ []) k → k ≡ t.template
      only k (zero, inside, is) = sym is
      only k (suc i, inside, is) = absurd (omega arith)

  pub IsMatch-answer : (r : Option ℕ) (answer : Bool) → t.first ≤ t.last → t.last < length tokens →
      IsLeastOf set (t.template ∷ []) (letters_between tokens t.first t.last) t.template r
      → (IsTrue answer ↔ (r ≡ Some t.template)) → IsTrue answer ↔ IsMatch set tokens t
  IsMatch-answer r answer order within least same = (
    λ h.
        let (known, number, described) = answered r least (same.0 h) in
        record { order = order; within = within; known = known; number = number; described = described },
    λ m. same.1 (answers r m.known least m.number m.described),
  )
