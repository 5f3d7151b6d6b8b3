-- Reading one element after another.
use Rattle.std.proofs.Common.{◌≡◌, List, [], ◌∷◌, ◌++◌, map, reverse, Result, Ok, Err, refl, sym, ap, ◌∙◌}
use Rattle.std.proofs.lemmas.List.{reverse-append}
use Rattle.lic_kind.specs.LineRules.{LineRules}
use Rattle.lic_phrases.specs.Rewriting.{Phrase}
use Rattle.lic_pieces.specs.declared.pieces.Next.{Next}
use Rattle.lic_elements.specs.declared.fault.MarkupFault.{MarkupFault}
use Rattle.lic_elements.specs.declared.elements.Element as coded
use Rattle.lic_elements.specs.Faults.{◌>>=◌}
use Rattle.lic_elements.specs.Elements.{Element}
use Rattle.lic_markup.specs.Parts.{Reading}
use Rattle.lic_markup.specs.Reading.{State, meet, finish, read_on}
use Rattle.lic_markup.specs.Views.{placed_of}

-- the last item is the first of the reversed list
placed-last : (items front : List (coded.Element × Next)) (p : coded.Element × Next) → items ≡ front ++ p ∷ []
    → map placed_of (reverse items) ≡ placed_of p ∷ map placed_of (reverse front)
placed-last items front p is = ap (λ (l : List (coded.Element × Next)). map placed_of (reverse l)) is ∙ ap (map placed_of) (reverse-append front (p ∷ []))

module _ (rules : LineRules) (words : List Phrase) (s : State) where
  read-next : (e : Element × Next) (es : List (Element × Next))
      → read_on rules words s (e ∷ es) ≡ (meet rules words e.0 e.1 s >>= λ t. read_on rules words t es)
  unfolding read_on
  read-next e es = refl

  module _ (items front : List (coded.Element × Next)) (p : coded.Element × Next) (total : Result Reading MarkupFault)
      (is : items ≡ front ++ p ∷ []) (so_far : read_on rules words s (map placed_of (reverse items)) ≡ total) where
    here : (meet rules words (placed_of p).0 p.1 s >>= λ t. read_on rules words t (map placed_of (reverse front))) ≡ total
    here = sym (ap (read_on rules words s) (placed-last items front p is) ∙ read-next (placed_of p) (map placed_of (reverse front))) ∙ so_far

    -- an element that is taken
    pub read_taken : (t : State) → meet rules words (placed_of p).0 p.1 s ≡ Ok t → read_on rules words t (map placed_of (reverse front)) ≡ total
    read_taken t met = sym (ap (λ (r : Result State MarkupFault). r >>= λ u. read_on rules words u (map placed_of (reverse front))) met) ∙ here

    -- an element that is refused
    pub read_refused : (e : MarkupFault) → meet rules words (placed_of p).0 p.1 s ≡ Err e → total ≡ Err e
    read_refused e met = sym here ∙ ap (λ (r : Result State MarkupFault). r >>= λ u. read_on rules words u (map placed_of (reverse front))) met

  -- nothing is left
  pub read_ends : (items : List (coded.Element × Next)) → items ≡ [] → read_on rules words s (map placed_of (reverse items)) ≡ finish s.level s.outer s.original
  unfolding read_on
  read_ends items none = ap (λ (l : List (coded.Element × Next)). read_on rules words s (map placed_of (reverse l))) none
