use Rattle.std.proofs.Common.{◌≡◌, ◌↔◌, ◌∷◌, length, take, sym, ap, ◌∙◌, subst, arith}
use Rattle.std.specs.List.{Contains}
use Rattle.std.specs.Str.{chars}
use Rattle.std.specs.Vec.{with_items}
use Rattle.std.proofs.lemmas.List.{with_items_is}
use Rattle.lic_words.specs.Reversal.{reversed_tokens}
use Rattle.lic_set.specs.Rising.{IsRising}
use Rattle.lic_auto.specs.Backs.{IsLive}
use Rattle.lic_auto.specs.TemplateBacks.{AreReversed, HaveTakenBackward, IsFoundBefore, TakesReversed, back_numbers}
use Rattle.lic_auto.proofs.Ends.{reversed_tokens-cons}
use Rattle.lic_auto.proofs.Sought.{AreReversed-changed, HaveTakenBackward-taken, found-live, live-found, taken-numbers}
use Rattle.lic_auto.proofs.TokenLetters.{has_letters}
use Rattle.lic_auto.proofs.back.Back.push_front.Goals as goal

pub take_reversed-requires : goal.take_reversed-requires
take_reversed-requires c = has_letters c.args.text.now c.utf8.text c.requires

pub returns-clause-numbers : goal.returns-clause-numbers
returns-clause-numbers c =
    let self = c.args.self.now in
    ap back_numbers (with_items_is self.backs c.take_reversed.new.backs (omega (arith, c.take_reversed.auto, c.deref_mut.ensures.len)))
    ∙ taken-numbers (chars c.args.text.now) c.deref_mut.result.now c.take_reversed.new.backs c.take_reversed.ensures
    ∙ ap back_numbers c.deref_mut.ensures.value

pub invariant_of-self : goal.invariant_of-self
invariant_of-self c =
    let self = c.args.self.now in
    let set = self.set.now in
    let token = chars c.args.text.now in
    let old = c.deref_mut.result.now in
    let new = c.take_reversed.new.backs in
    let items = with_items_is self.backs new (omega (arith, c.take_reversed.auto, c.deref_mut.ensures.len)) in
    let live = with_items_is self.live c.gather_live-self.new.live (omega (arith, c.gather_live-self.auto, c.deref_mut-2.ensures.len)) in
    let rising : IsRising (back_numbers new) (length set) = subst (λ xs. IsRising xs (length set))
    (sym (taken-numbers token old new c.take_reversed.ensures ∙ ap back_numbers c.deref_mut.ensures.value)) self.rising in
    record {
      rising = subst (λ xs. IsRising (back_numbers xs) (length set)) (sym items) rising;
      mirrors = subst (AreReversed set) (sym items)
          (AreReversed-changed set old new (TakesReversed token) (λ a b change. change.tree) (λ a b change. change.number)
          c.take_reversed.ensures (subst (AreReversed set) (sym c.deref_mut.ensures.value) self.mirrors));
      live_size = self.live_size;
      live_within = omega (arith, c.gather_live-self.ensures.count, c.gather_live-self.auto, c.deref_mut-2.ensures.len);
      live_rising = subst (λ xs. IsRising (take c.gather_live-self.result xs) (length set)) (sym live)
          (c.gather_live-self.ensures.rising (length set)
          (subst (λ xs. IsRising (back_numbers xs) (length set)) (sym (c.deref.ensures.value ∙ items)) rising));
    }

pub returns-clause-taken : goal.returns-clause-taken
returns-clause-taken c = λ ts s.
    let self = c.args.self.now in
    let set = self.set.now in
    let token = chars c.args.text.now in
    let old = c.deref_mut.result.now in
    let new = c.take_reversed.new.backs in
    let items = with_items_is self.backs new (omega (arith, c.take_reversed.auto, c.deref_mut.ensures.len)) in
    let live = with_items_is self.live c.gather_live-self.new.live (omega (arith, c.gather_live-self.auto, c.deref_mut-2.ensures.len)) in
    let seen : c.deref.result.now ≡ new = c.deref.ensures.value ∙ items in
    let rising : IsRising (back_numbers new) (length set) = subst (λ xs. IsRising xs (length set))
    (sym (taken-numbers token old new c.take_reversed.ensures ∙ ap back_numbers c.deref_mut.ensures.value)) self.rising in
    let before : HaveTakenBackward set old (reversed_tokens ts) = subst (λ xs. HaveTakenBackward set xs (reversed_tokens ts)) (sym c.deref_mut.ensures.value) s.backs in
    let after : HaveTakenBackward set new (reversed_tokens (token ∷ ts)) =
    subst (HaveTakenBackward set new) (sym (reversed_tokens-cons token ts)) (HaveTakenBackward-taken set old new token (reversed_tokens ts) c.take_reversed.ensures before) in
    let found : (k : _) → Contains (take c.gather_live-self.result c.gather_live-self.new.live) k ↔ IsFoundBefore set new (length new) (reversed_tokens (token ∷ ts)) k =
    λ k. subst (λ xs. Contains (take c.gather_live-self.result c.gather_live-self.new.live) k ↔ IsFoundBefore set xs (length xs) (reversed_tokens (token ∷ ts)) k) seen
    (c.gather_live-self.ensures.exactly set (reversed_tokens (token ∷ ts)) (subst (λ xs. IsRising (back_numbers xs) (length set)) (sym seen) rising)
    (subst (λ xs. HaveTakenBackward set xs (reversed_tokens (token ∷ ts))) (sym seen) after) k) in
    record {
      backs = subst (λ xs. HaveTakenBackward set xs (reversed_tokens (token ∷ ts))) (sym items) after;
      live = λ k.
          subst (λ xs. Contains (take c.gather_live-self.result xs) k
          ↔ (Contains (back_numbers (with_items self.backs new).items) k × IsLive set (token ∷ ts) k)) (sym live)
          (subst (λ xs. Contains (take c.gather_live-self.result c.gather_live-self.new.live) k ↔ (Contains (back_numbers xs) k × IsLive set (token ∷ ts) k))
          (sym items) (
            λ h. live-found set new (token ∷ ts) k ((found k).0 h),
            λ h. (found k).1 (found-live set new (token ∷ ts) k h),
          ));
    }
