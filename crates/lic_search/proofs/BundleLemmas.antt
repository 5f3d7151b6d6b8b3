-- With which tokens words begin at places of spans, and the bundles of a template.
use Rattle.std.proofs.Common.{◌≡◌, ◌↔◌, ℕ, ◌<◌, ◌≤◌, List, [], ◌∷◌, ◌++◌, length, map, refl, sym, ◌∙◌, subst, arith, get_or, ⊎_elim}
use Rattle.std.specs.Prelude.{All}
use Rattle.std.proofs.lemmas.List.{get_or-map, length-map}
use Rattle.std.proofs.lemmas.List.Elements.{All-contains, All-nil, All-push, Contains-get_or}
use Rattle.lic_phrases.proofs.WordClasses.{contains-map, contains-map_from}
use Rattle.lic_norm.specs.Tokens.{TokenValue}
use Rattle.lic_spans.specs.Spans.{AreApartOfLast, Holds}
use Rattle.lic_spans.specs.declared.span.SpanKind.{SpanKind}
use Rattle.lic_spans.specs.declared.span.SpanKind.TheVariants.{Letters}
use Rattle.lic_spans.specs.declared.span.PlaceSpan.{PlaceSpan}
use Rattle.lic_spans.proofs.Members.{HasPlace-single, Holds-append_cases, Holds-left, Holds-member, Holds-right, Holds-single}
use Rattle.lic_set.specs.declared.triple.Triple.{Triple}
use Rattle.lic_bundles.specs.declared.bundle.Bundle.{Bundle}
use Rattle.lic_bundles.specs.Bundles.{AreApart, IsOf}
use Rattle.lic_search.specs.AllMatches.{BundlesHold, IsOrdered}
use Rattle.lic_search.specs.Beginnings.{AreFirsts, BeginsIn}
use Rattle.lic_search.proofs.MatchLists.{BeginsIn-push}

-- ---- the tokens with which words begin

-- spans of tokens that are those with which words begin at places of the spans
pub record AreFirstsOf (tokens : List TokenValue) (spans firsts : List PlaceSpan) : Type 0 where
  pub exact : (first last : ℕ) → Holds firsts Letters first last ↔ BeginsIn tokens spans first last
  pub ordered : All (λ s. s.low ≤ s.high) firsts
  pub kinds : All (λ s. s.kind ≡ Letters) firsts

pub firsts-none : (tokens : List TokenValue) (firsts : List PlaceSpan) → firsts ≡ [] → AreFirstsOf tokens [] firsts
firsts-none tokens firsts none = subst (AreFirstsOf tokens []) (sym none) (record {
  exact = λ first last. (λ holds. absurd (omega (arith, holds.among.1)), λ begins. absurd (omega (arith, begins.reached.holds.among.1)));
  ordered = All-nil (λ (s : PlaceSpan). s.low ≤ s.high);
  kinds = All-nil (λ (s : PlaceSpan). s.kind ≡ Letters);
})

module _ (tokens : List TokenValue) (taken firsts : List PlaceSpan) (span : PlaceSpan) (are : AreFirstsOf tokens taken firsts) where
  -- of a span more, those of the spans before are known
  earlier : (first last : ℕ) → BeginsIn tokens taken first last → BeginsIn tokens (taken ++ span ∷ []) first last
  earlier first last begins =
      let reached = begins.reached in
      record {
        order = begins.order;
        place = begins.place;
        reached = record { kind = reached.kind; number = reached.number; holds = Holds-left taken (span ∷ []) reached.kind reached.number last reached.holds; place = reached.place };
        begins = begins.begins;
      }

  here : (first last : ℕ) → BeginsIn tokens (span ∷ []) first last → BeginsIn tokens (taken ++ span ∷ []) first last
  here first last begins =
      let reached = begins.reached in
      record {
        order = begins.order;
        place = begins.place;
        reached = record { kind = reached.kind; number = reached.number; holds = Holds-right taken (span ∷ []) reached.kind reached.number last reached.holds; place = reached.place };
        begins = begins.begins;
      }

  -- where words begin
  pub firsts-more : (more : PlaceSpan) → AreFirsts tokens span more → AreFirstsOf tokens (taken ++ span ∷ []) (firsts ++ more ∷ [])
  firsts-more more has = record {
    exact = λ first last. (
      λ holds. ⊎_elim (λ old. earlier first last ((are.exact first last).0 old))
          (λ new. let place = HasPlace-single more Letters first last new in
          here first last (subst (BeginsIn tokens (span ∷ []) first) (sym has.last ∙ place.last) ((has.exact first).1 (place.from, place.to))))
          (Holds-append_cases firsts (more ∷ []) Letters first last holds),
      λ begins. ⊎_elim (λ old. Holds-left firsts (more ∷ []) Letters first last ((are.exact first last).1 old))
          (λ new. let within = (has.exact first).0 (subst (BeginsIn tokens (span ∷ []) first) (sym new.1) new.0) in
          Holds-right firsts (more ∷ []) Letters first last
          (Holds-single more Letters first last (record { kind = has.kind; from = within.0; to = within.1; last = has.last ∙ new.1 })))
          (BeginsIn-push tokens taken span first last begins),
    );
    ordered = All-push (λ (s : PlaceSpan). s.low ≤ s.high) firsts more are.ordered has.order;
    kinds = All-push (λ (s : PlaceSpan). s.kind ≡ Letters) firsts more are.kinds has.kind;
  }

  -- where none begins
  pub firsts-skip : ((first : ℕ) → ¬ (BeginsIn tokens (span ∷ []) first span.last)) → AreFirstsOf tokens (taken ++ span ∷ []) firsts
  firsts-skip none = record {
    exact = λ first last. (
      λ holds. earlier first last ((are.exact first last).0 holds),
      λ begins. ⊎_elim (λ old. (are.exact first last).1 old)
          (λ new. absurd (none first (subst (BeginsIn tokens (span ∷ []) first) (sym new.1) new.0)))
          (BeginsIn-push tokens taken span first last begins),
    );
    ordered = are.ordered;
    kinds = are.kinds;
  }

-- the same joined
pub firsts-joined : (tokens : List TokenValue) (spans firsts joined : List PlaceSpan) → AreFirstsOf tokens spans firsts →
    ((kind : SpanKind) (place last : ℕ) → Holds joined kind place last ↔ Holds firsts kind place last) → All (λ s. s.low ≤ s.high) joined → AreFirstsOf tokens spans joined
firsts-joined tokens spans firsts joined are same ordered = record {
  exact = λ first last. (λ holds. (are.exact first last).0 ((same Letters first last).0 holds), λ begins. (same Letters first last).1 ((are.exact first last).1 begins));
  ordered = ordered;
  kinds = λ k d low.
      let s = get_or joined k d in
      let order : s.low ≤ s.high = ordered k d low in
      let held = (same s.kind s.low s.last).0 (Holds-member joined s (Contains-get_or joined k d low) s.low (omega arith) order) in
      sym held.kind_is ∙ All-contains (λ (t : PlaceSpan). t.kind ≡ Letters) firsts held.span are.kinds held.among;
}

-- ---- bundles

-- the tokens of a span as those with which matches begin
abbrev pub bundle_from : ℕ → PlaceSpan → Bundle
bundle_from template s = record { from = s.low; to = s.high; last = s.last; template = template }

module _ (tokens : List TokenValue) (spans firsts : List PlaceSpan) (template : ℕ) (are : AreFirstsOf tokens spans firsts) where
  pub bundles-exact : (t : Triple) → BundlesHold (map (bundle_from template) firsts) t ↔ (BeginsIn tokens spans t.first t.last × (t.template ≡ template))
  bundles-exact t = (
    λ holds.
        let (s, among, e) = contains-map_from (bundle_from template) firsts holds.bundle holds.among in
        let is : IsOf (bundle_from template s) t = subst (λ bundle. IsOf bundle t) (sym e) holds.is in
        let kind : s.kind ≡ Letters = All-contains (λ (x : PlaceSpan). x.kind ≡ Letters) firsts s are.kinds among in
        ((are.exact t.first t.last).0 (record { span = s; among = among; kind_is = kind; from = is.from; to = is.to; last_is = sym is.last }), is.template),
    λ begins.
        let held = (are.exact t.first t.last).1 begins.0 in
        record {
          bundle = bundle_from template held.span;
          among = contains-map (bundle_from template) firsts held.span held.among;
          is = record { from = held.from; to = held.to; last = sym held.last_is; template = begins.1 };
        },
  )

  pub bundles-ordered : All IsOrdered (map (bundle_from template) firsts)
  bundles-ordered = λ k d low.
      let bundle = get_or (map (bundle_from template) firsts) k d in
      let (s, among, e) = contains-map_from (bundle_from template) firsts bundle (Contains-get_or (map (bundle_from template) firsts) k d low) in
      let order : s.low ≤ s.high = All-contains (λ (x : PlaceSpan). x.low ≤ x.high) firsts s are.ordered among in
      let kind : s.kind ≡ Letters = All-contains (λ (x : PlaceSpan). x.kind ≡ Letters) firsts s are.kinds among in
      let begins = (are.exact s.high s.last).0 (record { span = s; among = among; kind_is = kind; from = order; to = omega arith; last_is = refl }) in
      subst IsOrdered e (record { order = order; ends = begins.order })

  pub bundles-once : AreApartOfLast firsts → AreApart (map (bundle_from template) firsts)
  bundles-once apart = λ i j d before low t one other.
      let span : PlaceSpan = record { low = 0; high = 0; last = 0; kind = Letters } in
      let long : length (map (bundle_from template) firsts) ≡ length firsts = length-map firsts (bundle_from template) in
      let a : PlaceSpan = get_or firsts i span in
      let b : PlaceSpan = get_or firsts j span in
      let first : IsOf (bundle_from template a) t = subst (λ bundle. IsOf bundle t) (get_or-map (bundle_from template) firsts i span d (omega arith)) one in
      let second : IsOf (bundle_from template b) t = subst (λ bundle. IsOf bundle t) (get_or-map (bundle_from template) firsts j span d (omega arith)) other in
      let pair = apart i j span before (omega arith) in
      let kind_a : a.kind ≡ Letters = are.kinds i span (omega arith) in
      let kind_b : b.kind ≡ Letters = are.kinds j span (omega arith) in
      let ends : a.high < b.low = pair.places (kind_a ∙ sym kind_b) (sym first.last ∙ second.last) in
      omega (arith, first.to, second.from)
