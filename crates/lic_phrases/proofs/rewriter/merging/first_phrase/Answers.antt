-- One more token.
use Rattle.std.proofs.Common.{◌≡◌, ◌+◌, ◌<◌, ◌≤◌, ◌++◌, ◌∷◌, ℕ, [], Option, Some, None, length, take, sym, ap, ap₂, subst, ◌∙◌, add-one, arith}
use Rattle.std.specs.Prelude.{option_map, IfSome, slice_index_or}
use Rattle.std.proofs.lemmas.List.{length-map}
use Rattle.lic_lines.specs.Tokens.{tokens_in, token_in}
use Rattle.lic_phrases.specs.Rewriting.{Phrase}
use Rattle.lic_phrases.specs.PhraseLists.{key_of, phrase_with}
use Rattle.lic_phrases.specs.Waiting.{texts_of, phrase_found}
use Rattle.lic_phrases.specs.declared.rewriter.merging.Found.{Found}
use Rattle.lic_phrases.proofs.PhraseKeyLemmas.{key_of-more}
use Rattle.lic_phrases.proofs.MergingLemmas.{waiting_text, class-front, first_phrase-some, first_phrase-none, none_from}
use Rattle.lic_phrases.proofs.rewriter.merging.first_phrase.Goals as goal
use Rattle.lic_phrases.proofs.rewriter.merging.first_phrase.Goals.{in-Some, in_default}

more : (o : Option Found) (n : ℕ) → IfSome o (λ f. (0 < f.count) × (f.count ≤ n)) → IfSome o (λ f. (0 < f.count) × (f.count ≤ n + 1))
more None n h = tt
more (Some f) n h = (h.0, omega (arith, h.1))

pub loop-n-preserved : goal.loop-n-preserved
loop-n-preserved c =
    let items = c.args.waiting.now.items in
    let tokens = tokens_in items in
    let texts = texts_of tokens in
    let words = c.args.phrases.now.phrases in
    let spellings = c.args.phrases.now.spellings in
    let n : ℕ = c.loop-n.n in
    let inside : n < length items = omega arith in
    let many : n < length texts = omega (arith, length-map tokens (λ t. t.text), length-map items token_in, inside) in
    let keyed : c.push.new.self.items ≡ key_of (take (n + 1) texts) =
    c.in_ok-push.ensures.items
    ∙ ap (λ l. l ++ 0xFF ∷ []) (c.in_ok-extend_from_slice.ensures.items
    ∙ ap₂ (λ a b. a ++ b) c.loop-n.invariant.keyed
    (c.as_bytes.ensures.value ∙ c.as_str.ensures
    ∙ sym (waiting_text items n c.index.result.now [] inside c.index.ensures)))
    ∙ sym (key_of-more texts n [] many)
    ∙ ap (λ k. key_of (take k texts)) (sym (add-one n)) in
    let found_as : ℕ → Phrase = λ class. record { texts = take (n + 1) texts; spelling = slice_index_or spellings class [] } in
    let class : option_map found_as c.class_of.result ≡ phrase_with words (take (n + 1) texts) =
    class-front words spellings items (n + 1) c.as_slice.result.now c.class_of.result (c.as_slice.ensures.value ∙ keyed) c.class_of.ensures.class in
    elim c.match-class_of.branch [
      | in-Some w ↦ record {
        keyed = keyed;
        found = ap (option_map (phrase_found spellings tokens)) w.found-is
            ∙ first_phrase-some words texts n (n + 1) (found_as w.in-Some.class) (add-one n)
            (sym (ap (option_map found_as) w.in-Some.is) ∙ class);
        within = subst (λ f. IfSome f (λ g. (0 < g.count) × (g.count ≤ n + 1))) (sym w.found-is) (omega arith, omega arith);
        known = subst (λ f. IfSome f (λ g. g.class < length spellings)) (sym w.found-is)
            (subst (λ o. IfSome o (λ class. class < length spellings)) w.in-Some.is c.class_of.ensures.known);
      }
      | in_default w ↦ let none : c.class_of.result ≡ None = none_from c.class_of.result w.in_default.not-Some in record {
        keyed = keyed;
        found = ap (option_map (phrase_found spellings tokens)) w.found-is ∙ c.loop-n.invariant.found
            ∙ first_phrase-none words texts n (n + 1) (add-one n) (sym (ap (option_map found_as) none) ∙ class);
        within = subst (λ f. IfSome f (λ g. (0 < g.count) × (g.count ≤ n + 1))) (sym w.found-is) (more c.loop-n.found n c.loop-n.invariant.within);
        known = subst (λ f. IfSome f (λ g. g.class < length spellings)) (sym w.found-is) c.loop-n.invariant.known;
      }
    ]
