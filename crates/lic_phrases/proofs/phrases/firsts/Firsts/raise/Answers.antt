-- The bound at one text.
use Rattle.std.proofs.Common.{◌≡◌, ◌∙◌, ℕ, List, max, sym, ap, subst}
use Rattle.std.specs.Prelude.{bytes_eq, unwrap_or}
use Rattle.indexmap.specs.IndexMap.{get_by}
use Rattle.lic_phrases.specs.Firsts.{bound_from}
use Rattle.lic_phrases.specs.PhraseLists.{IsRaised}
use Rattle.lic_phrases.proofs.ByteKeys.{found_in, updated}
use Rattle.lic_phrases.proofs.FirstsLemmas.{HasAll-raised, HasAllByPair-raised, HasOthers-grown, HasSigns-grown}
use Rattle.lic_phrases.proofs.PhraseListLemmas.{IsRaised-update}
use Rattle.lic_phrases.proofs.phrases.firsts.Firsts.raise.Goals as goal

pub invariant_of-self-2 : goal.invariant_of-self-2
invariant_of-self-2 c =
    let old = bound_from c.args.self.now in
    let new : List ℕ → ℕ = λ t. unwrap_or (get_by (λ k. bytes_eq t k.items) c.insert.new.self) 0 in
    let first = c.in_ok-first.first.items in
    let same : first ≡ c.args.text.now = c.in_ok-first.ensures.items in
    let after = updated (λ k. k.items) first c.args.self.now.most c.insert.new.self _ c.in_ok-insert.ensures.updates in
    let value = c.max-most.ensures ∙ ap (λ n. max n c.args.count) (c.listed.ensures ∙ ap old (sym same)) in
    let raised : IsRaised c.args.text.now c.args.count old new =
    subst (λ text. IsRaised text c.args.count old new) same
    (IsRaised-update first c.args.count _ (found_in (λ k. k.items) c.args.self.now.most) (found_in (λ k. k.items) c.insert.new.self) value c.requires after) in
    record {
      all = HasAll-raised c.args.self.now.lengths c.add.new.lengths c.args.text.now c.args.count old new c.args.self.now.all raised
          c.add.ensures.added c.add.ensures.grows;
      others = HasOthers-grown c.args.self.now.lengths c.add.new.lengths c.add.ensures.grows c.args.self.now.others;
      all_pairs = HasAllByPair-raised c.args.self.now.pairs c.add_pair.new.pairs c.args.text.now c.args.count old new c.args.self.now.all_pairs raised
          c.add_pair.ensures.added c.add_pair.ensures.grows;
      signs = HasSigns-grown c.args.self.now.pairs c.add_pair.new.pairs c.add_pair.ensures.grows c.args.self.now.signs;
    }

pub returns-clause-raised : goal.returns-clause-raised
returns-clause-raised c =
    let old = bound_from c.args.self.now in
    let new : List ℕ → ℕ = λ t. unwrap_or (get_by (λ k. bytes_eq t k.items) c.insert.new.self) 0 in
    let first = c.in_ok-first.first.items in
    let same : first ≡ c.args.text.now = c.in_ok-first.ensures.items in
    let after = updated (λ k. k.items) first c.args.self.now.most c.insert.new.self _ c.in_ok-insert.ensures.updates in
    let value = c.max-most.ensures ∙ ap (λ n. max n c.args.count) (c.listed.ensures ∙ ap old (sym same)) in
    let raised : IsRaised c.args.text.now c.args.count old new =
    subst (λ text. IsRaised text c.args.count old new) same
    (IsRaised-update first c.args.count _ (found_in (λ k. k.items) c.args.self.now.most) (found_in (λ k. k.items) c.insert.new.self) value c.requires after) in
    raised
