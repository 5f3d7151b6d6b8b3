-- The first of the waiting tokens is given.
use Rattle.std.proofs.Common.{◌≡◌, ◌≤◌, ◌<◌, ◌⊎◌, ◌∙◌, ℕ, true, length, min, inl, inr, refl, ap, subst, arith}
use Rattle.std.specs.Prelude.{option_map, IfSome}
use Rattle.lic_lines.specs.Tokens.{small_bytes, tokens_in}
use Rattle.lic_phrases.specs.PhraseLists.{longest_from}
use Rattle.lic_phrases.specs.Waiting.{texts_of, first_phrase, phrase_found}
use Rattle.lic_phrases.proofs.MergingLemmas.{GivesMore-first}
use Rattle.lic_phrases.proofs.rewriter.merging.give_known.Goals as goal
use Rattle.lic_phrases.proofs.rewriter.merging.give_known.Goals.{else-not-at_end-via-then-not-at_end+else-len-most, else-not-at_end-via-else-not-at_end}

pub loop-first-preserved : goal.loop-first-preserved
loop-first-preserved c =
    let list = c.args.phrases.now in
    let items = c.loop-first.waiting.items in
    let tokens = tokens_in items in
    let first = c.in-Some.first.now in
    let most : ℕ = c.most_from-most.result in
    let bound : longest_from list.phrases (small_bytes first.text) ≤ most =
    subst (λ text. longest_from list.phrases text ≤ most) (c.as_bytes.ensures.value ∙ c.as_str.ensures) c.most_from-most.ensures.bound in
    let known : (c.args.at_end ≡ true) ⊎ (most ≤ length items) =
    elim c.else-not-at_end.branch [
      | else-not-at_end-via-then-not-at_end+else-len-most w ↦ inr
          (omega (
            arith,
            w.len.ensures,
            w.if-len-most.false,
          ))
      | else-not-at_end-via-else-not-at_end w ↦ inl w.if-not-at_end.false
    ] in
    let at_most : c.min.result ≡ min most (length items) = omega arith in
    let found : option_map (phrase_found list.spellings tokens) c.in_ok-found.found ≡ first_phrase list.phrases (texts_of tokens) (min most (length items)) =
    c.in_ok-found.ensures.found ∙ ap (first_phrase list.phrases (texts_of tokens)) at_most in
    let within : IfSome c.in_ok-found.found (λ f. (0 < f.count) × (f.count ≤ min most (length items))) =
    subst (λ n. IfSome c.in_ok-found.found (λ f. (0 < f.count) × (f.count ≤ n))) at_most c.in_ok-found.ensures.within in
    let step = GivesMore-first list c.args.at_end c.loop-first.output.items items first most c.in_ok-found.found c.give_first.new.output.items c.give_first.new.waiting.items
    (omega (arith, c.in-Some.ensures.variant.0 refl)) c.in-Some.ensures.lookup c.most_from-most.ensures.some bound known found within c.in_ok-give_first.ensures.left (c.in_ok-give_first.ensures.given list.spellings) in
    record {
      whole = λ rest ends. c.loop-first.invariant.whole rest ends ∙ step rest ends;
      known = λ before. c.in_ok-give_first.ensures.known (length list.spellings) c.in_ok-found.ensures.known (c.loop-first.invariant.known before);
    }
